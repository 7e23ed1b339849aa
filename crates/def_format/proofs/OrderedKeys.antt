-- The keys of each object of a JSON value ascend, so no two of them are one.
use Rattle.std.proofs.Common.{◌≡◌, ◌≢◌, ℕ, ◌+◌, List, [], ◌∷◌, Bool, true, false, Option, Some, None, Ordering, Less, Equal, Greater, nat_cmp, refl, ◌∙◌, ap, All, arith}
use Rattle.std.specs.Prelude.{⊤, AllPairs, option_map, option_and_then, if◌then◌else◌}
use Rattle.std.specs.Ordering.{match_ordering, ordering_reverse}
use Rattle.std.specs.Str.{is_utf8}
use Rattle.std.specs.Cmp.Lexicographic.{slice_cmp}
use Rattle.std.proofs.lemmas.Cmp.{nat_list_cmp_total, tied_itself}
use Rattle.std.proofs.lemmas.List.Elements.{All-cons, All-nil}
use Rattle.std.proofs.lemmas.List.Kept.{AllPairs-cons}
use Rattle.json.specs.Json as json
use Rattle.json.specs.Lex.{tokens}
use Rattle.serde_json.specs.Data.{Data, null, boolean, number, string, array, object, Items, no_items, item, Members, no_members, member, put}
use Rattle.serde_json.specs.Read.{number_of, of_json, of_items, of_members, max_depth, read}
use Rattle.def_format.specs.Documents.{Inquiry, Options, inquiry_json, with_options, with_predicates, with_width, asked_predicates}
use Rattle.def_format.specs.Records.{keys, json_value}

-- ---- what an option holds

abbrev pub Holds : {A : Type 0} → (A → Type 0) → Option A → Type 0
Holds P None = ⊤
Holds P (Some x) = P x

pub holds_map : {A B : Type 0} (P : A → Type 0) (Q : B → Type 0) (f : A → B) → ((x : A) → P x → Q (f x))
    → (o : Option A) → Holds P o → Holds Q (option_map f o)
holds_map P Q f each None h = tt
holds_map P Q f each (Some x) h = each x h

pub holds_then : {A B : Type 0} (P : A → Type 0) (Q : B → Type 0) (f : A → Option B) → ((x : A) → P x → Holds Q (f x))
    → (o : Option A) → Holds P o → Holds Q (option_and_then f o)
holds_then P Q f each None h = tt
holds_then P Q f each (Some x) h = each x h

pub holds_if : {A : Type 0} (P : A → Type 0) (b : Bool) (o : Option A) → Holds P o → Holds P (if b then o else None)
holds_if P true o h = h
holds_if P false o h = tt

abbrev Anything : {A : Type 0} → A → Type 0
Anything x = ⊤

anything : {A : Type 0} (o : Option A) → Holds Anything o
anything None = tt
anything (Some x) = tt

-- ---- keys that ascend

-- the key is below each of these members' keys
abbrev IsBelowKeys : List ℕ → Members → Type 0
IsBelowKeys key no_members = ⊤
IsBelowKeys key (member other value others) = (slice_cmp nat_cmp key other ≡ Less) × IsBelowKeys key others

-- the keys of each object in the value ascend
abbrev mutual
  pub IsOrdered : Data → Type 0
  IsOrdered null = ⊤
  IsOrdered (boolean b) = ⊤
  IsOrdered (number n) = ⊤
  IsOrdered (string s) = ⊤
  IsOrdered (array items) = AreOrdered items
  IsOrdered (object members) = HasOrderedKeys members

  pub AreOrdered : Items → Type 0
  AreOrdered no_items = ⊤
  AreOrdered (item value others) = IsOrdered value × AreOrdered others

  pub HasOrderedKeys : Members → Type 0
  HasOrderedKeys no_members = ⊤
  HasOrderedKeys (member key value others) = IsOrdered value × IsBelowKeys key others × HasOrderedKeys others

below_fewer : (key other : List ℕ) (members : Members) → slice_cmp nat_cmp key other ≡ Less → IsBelowKeys other members
    → IsBelowKeys key members
below_fewer key other no_members less below = tt
below_fewer key other (member third value others) less below =
    (nat_list_cmp_total.trans key other third less below.0, below_fewer key other others less below.1)

below_choice : (key : List ℕ) (o : Ordering) (a b c : Members) → IsBelowKeys key a → IsBelowKeys key b
    → IsBelowKeys key c → IsBelowKeys key (match_ordering o a b c)
below_choice key Less a b c p q r = p
below_choice key Equal a b c p q r = q
below_choice key Greater a b c p q r = r

below_put : (key other : List ℕ) (value : Data) (members : Members) → slice_cmp nat_cmp key other ≡ Less
    → IsBelowKeys key members → IsBelowKeys key (put other value members)
below_put key other value no_members less below = (less, tt)
below_put key other value (member third old others) less below =
    below_choice key (slice_cmp nat_cmp other third) (member other value (member third old others))
    (member third value others) (member third old (put other value others))
    (less, below) below (below.0, below_put key other value others less below.1)

ordered_put : (key : List ℕ) (value : Data) (members : Members) → IsOrdered value → HasOrderedKeys members
    → HasOrderedKeys (put key value members)
ordered_put key value no_members o h = (o, tt, tt)
ordered_put key value (member other old others) o h =
    go (slice_cmp nat_cmp key other) refl (ordered_put key value others o h.2)
  where
    go : (order : Ordering) → slice_cmp nat_cmp key other ≡ order → HasOrderedKeys (put key value others)
        → HasOrderedKeys (match_ordering order (member key value (member other old others)) (member other value others)
        (member other old (put key value others)))
    go Less e rest = (o, (e, below_fewer key other others e h.1), h)
    go Equal e rest = (o, h.1, h.2)
    go Greater e rest = (
      h.0,
      below_put other key value others (nat_list_cmp_total.antisymm other key ∙ ap ordering_reverse e) h.1,
      rest,
    )

mutual
  ordered_of_json : (j : json.Json) → Holds IsOrdered (of_json j)
  ordered_of_json json.null = tt
  ordered_of_json (json.boolean b) = tt
  ordered_of_json (json.number s) =
      holds_map Anything IsOrdered number (λ n h. tt) (number_of s) (anything (number_of s))
  ordered_of_json (json.string s) = tt
  ordered_of_json (json.array js) =
      holds_map AreOrdered IsOrdered array (λ items h. h) (of_items js) (ordered_of_items js)
  ordered_of_json (json.object ms) =
      holds_map HasOrderedKeys IsOrdered object (λ members h. h) (of_members ms no_members)
      (ordered_of_members ms no_members tt)

  ordered_of_items : (js : json.Items) → Holds AreOrdered (of_items js)
  ordered_of_items json.no_items = tt
  ordered_of_items (json.item j js) =
      holds_then IsOrdered AreOrdered _ (λ value h. holds_map AreOrdered AreOrdered (item value) (λ items k. (h, k))
      (of_items js) (ordered_of_items js)) (of_json j) (ordered_of_json j)

  ordered_of_members : (ms : json.Members) (found : Members) → HasOrderedKeys found
      → Holds HasOrderedKeys (of_members ms found)
  ordered_of_members json.no_members found h = h
  ordered_of_members (json.member key j ms) found h =
      holds_then IsOrdered HasOrderedKeys _ (λ value o.
      ordered_of_members ms (put key value found) (ordered_put key value found o h)) (of_json j) (ordered_of_json j)

ordered_read : (text : List ℕ) → Holds IsOrdered (read text)
ordered_read text = go (option_and_then (λ p. json.if_last p.0 p.1) (json.value max_depth (tokens text)))
  where
    go : (o : Option json.Json) → Holds IsOrdered (option_and_then of_json o)
    go o = holds_then Anything IsOrdered of_json (λ j h. ordered_of_json j) o (anything o)

ordered_json : (bytes : List ℕ) → Holds IsOrdered (json_value bytes)
ordered_json bytes = holds_if IsOrdered (is_utf8 bytes) (read bytes) (ordered_read bytes)

-- ---- a document that options change

ordered_predicates : (n : ℕ) (texts : List (List ℕ)) → AreOrdered (asked_predicates n texts)
ordered_predicates n [] = tt
ordered_predicates n (text ∷ texts) = ((tt, (refl, tt), (tt, tt, tt)), ordered_predicates (n + 1) texts)

ordered_with_width : (width : Option ℕ) (fields : Members) → HasOrderedKeys fields
    → HasOrderedKeys (with_width width fields)
ordered_with_width None fields h = h
ordered_with_width (Some n) fields h = ordered_put _ _ fields tt h

ordered_with_predicates : (texts : List (List ℕ)) (fields : Members) → HasOrderedKeys fields
    → HasOrderedKeys (with_predicates texts fields)
ordered_with_predicates [] fields h = h
ordered_with_predicates (text ∷ texts) fields h = ordered_put _ _ fields (ordered_predicates 1 (text ∷ texts)) h

ordered_with_options : (options : Options) (value : Data) → IsOrdered value → IsOrdered (with_options options value)
ordered_with_options options null h = tt
ordered_with_options options (boolean b) h = tt
ordered_with_options options (number n) h = tt
ordered_with_options options (string text) h = tt
ordered_with_options options (array items) h = h
ordered_with_options options (object fields) h =
    ordered_with_predicates options.predicates (with_width options.width fields)
    (ordered_with_width options.width fields h)

pub ordered_inquiry : (inquiry : Inquiry) → Holds IsOrdered (inquiry_json inquiry)
ordered_inquiry inquiry =
    holds_map IsOrdered IsOrdered (with_options inquiry.options) (ordered_with_options inquiry.options)
    (json_value inquiry.bytes) (ordered_json inquiry.bytes)

-- ---- keys that differ

below_differs : (key other : List ℕ) → slice_cmp nat_cmp key other ≡ Less → key ≢ other
below_differs key other less same = let tied : slice_cmp nat_cmp key other ≡ Equal =
    rw same (tied_itself nat_list_cmp_total other) in cc

below_all : (key : List ℕ) (members : Members) → IsBelowKeys key members
    → All (λ (other : List ℕ). key ≢ other) (keys members)
below_all key no_members below = All-nil (λ (other : List ℕ). key ≢ other)
below_all key (member other value others) below =
    All-cons (λ (other : List ℕ). key ≢ other) other (keys others) (below_differs key other below.0)
    (below_all key others below.1)

pub keys_differ : (members : Members) → HasOrderedKeys members → AllPairs (λ (x y : List ℕ). x ≢ y) (keys members)
keys_differ no_members h = λ i j d before within. absurd (omega arith)
keys_differ (member key value others) h =
    AllPairs-cons (λ (x y : List ℕ). x ≢ y) key (keys others) (below_all key others h.1) (keys_differ others h.2)
