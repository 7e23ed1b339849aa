-- The fields of an object, read a token at a time.
use Rattle.std.proofs.Common.{◌≡◌, ℕ, suc, ◌-◌, ◌≤◌, List, [], ◌∷◌, length, Option, Some, None, option_map, option_and_then, refl, ap, ◌∙◌, arith}
use Rattle.json.specs.Token.{Token}
use Rattle.json.specs.Json as json
use Rattle.json.specs.Json.{parse_map, members, value, if_last}
use Rattle.json.specs.Lex.{tokens}
use Rattle.json.proofs.Grammar.{members_end, members_more, value_is, skip_value-shorter, left}
use Rattle.serde_json.specs.Data.{Data, Num, number, string, object, Members, no_members, put}
use Rattle.serde_json.specs.Read.{converted, number_of, of_json, of_members, read}
use Rattle.pd_events.specs.Plain.{GivesFields, GoesOn}

-- ---- under the conversion to data

abbrev pick : {A : Type 0} → A → Option A → A
pick d None = d
pick d (Some a) = a

found : {A B : Type 0} (a : A) (r s : List Token) (x : Option B) (b : B)
    → option_map {U = B × List Token} (λ y. (y, r)) x ≡ Some (b, s) → (r ≡ s) × (x ≡ Some b)
found a r s None b e = absurd (cc)
found a r s (Some y) b e = let same = ap (pick (y, r)) e in (ap (λ p. p.1) same, ap (λ p. Some p.0) same)

converted_some : {A B : Type 0} (f : A → Option B) (o : Option (A × List Token)) (b : B) (r : List Token)
    → converted f o ≡ Some (b, r) → (a : A) × (o ≡ Some (a, r)) × (f a ≡ Some b)
converted_some f None b r e = absurd (cc)
converted_some f (Some p) b r e =
    let both = found p.0 p.1 r (f p.0) b e in
    (p.0, ap (λ s. Some (p.0, s)) both.0, both.1)

with_member : (k : List ℕ) (j : json.Json) (d : Data) (fields : Members) → of_json j ≡ Some d
    → (o : Option (json.Members × List Token))
    → converted (λ ms. of_members ms fields) (parse_map (json.member k j) o)
    ≡ converted (λ ms. of_members ms (put k d fields)) o
with_member k j d fields e None = refl
with_member k j d fields e (Some p) = rw e

-- ---- the tokens

-- a member whose value is read goes in
goes_in : (depth : ℕ) (fields : Members) (k : List ℕ) (ts r : List Token) (j : json.Json) (d : Data)
    → value depth ts ≡ Some (j, r) → of_json j ≡ Some d → length r ≤ length ts
    → GoesOn depth fields (Token.key k ∷ ts) (put k d fields) r
goes_in depth fields k ts r j d e f shorter = record {
  gives = λ all rest gives. record {
    given = λ n enough.
        ap (converted (λ ms. of_members ms fields))
        (members_more (value depth) n k (Token.key k ∷ ts) ts r j (omega arith) refl e)
        ∙ with_member k j d fields f (members (value depth) (n - 1) r) ∙ gives.given (n - 1) (omega arith);
  };
}

pub ends : (depth : ℕ) (fields : Members) (rest : List Token)
    → GivesFields depth fields (Token.end_object ∷ rest) fields rest
ends depth fields rest = record {
  given = λ n enough.
      ap (converted (λ ms. of_members ms fields))
      (members_end (value depth) n (Token.end_object ∷ rest) rest enough refl);
}

pub goes_on_from_here : (depth : ℕ) (fields : Members) (tokens : List Token) → GoesOn depth fields tokens fields tokens
goes_on_from_here depth fields tokens = record { gives = λ all rest gives. gives }

pub goes_on_and_on : (depth : ℕ) (f g h : Members) (x y z : List Token) → GoesOn depth f x g y → GoesOn depth g y h z
    → GoesOn depth f x h z
goes_on_and_on depth f g h x y z first second =
    record { gives = λ all rest gives. first.gives all rest (second.gives all rest gives) }

pub number_goes_in : (depth : ℕ) (fields : Members) (k s : List ℕ) (x : Num) (r : List Token) → number_of s ≡ Some x
    → GoesOn depth fields (Token.key k ∷ Token.number s ∷ r) (put k (number x) fields) r
number_goes_in depth fields k s x r e =
    goes_in depth fields k (Token.number s ∷ r) r (json.number s) (number x) (value_is depth (Token.number s ∷ r))
    (ap (option_map number) e) (omega arith)

pub text_goes_in : (depth : ℕ) (fields : Members) (k s : List ℕ) (r : List Token)
    → GoesOn depth fields (Token.key k ∷ Token.string s ∷ r) (put k (string s) fields) r
text_goes_in depth fields k s r =
    goes_in depth fields k (Token.string s ∷ r) r (json.string s) (string s) (value_is depth (Token.string s ∷ r)) refl
    (omega arith)

-- an object as a value, at the depth of its own
object_is : (depth : ℕ) (ts r : List Token) (ms : json.Members) → members (value depth) (length ts) ts ≡ Some (ms, r)
    → value (suc depth) (Token.begin_object ∷ ts) ≡ Some (json.object ms, r)
unfolding value
object_is depth ts r ms e = ap (parse_map json.object) e

pub object_goes_in : (depth : ℕ) (fields settings : Members) (k : List ℕ) (ts r : List Token)
    → GivesFields depth no_members ts settings r
    → GoesOn (suc depth) fields (Token.key k ∷ Token.begin_object ∷ ts) (put k (object settings) fields) r
object_goes_in depth fields settings k ts r gives =
    let ms = converted_some (λ ms. of_members ms no_members) (members (value depth) (length ts) ts) settings r
    (gives.given (length ts) (omega arith)) in
    let whole = object_is depth ts r ms.0 ms.1 in
    goes_in (suc depth) fields k (Token.begin_object ∷ ts) r (json.object ms.0) (object settings) whole
    (ap (option_map object) ms.2)
    (omega (arith, skip_value-shorter (suc depth) (Token.begin_object ∷ ts) r (ap left whole)))

-- a text that is an object with nothing after it
pub whole_object : (text : List ℕ) (ts : List Token) (all : Members) → tokens text ≡ Token.begin_object ∷ ts
    → GivesFields 126 no_members ts all [] → read text ≡ Some (object all)
whole_object text ts all e gives =
    let ms = converted_some (λ ms. of_members ms no_members) (members (value 126) (length ts) ts) all []
    (gives.given (length ts) (omega arith)) in
    ap (λ x. option_and_then of_json (option_and_then (λ p. if_last p.0 p.1) (value 127 x))) e
    ∙ ap (λ o. option_and_then of_json (option_and_then (λ p. if_last p.0 p.1) o)) (object_is 126 ts [] ms.0 ms.1)
    ∙ ap (option_map object) ms.2
