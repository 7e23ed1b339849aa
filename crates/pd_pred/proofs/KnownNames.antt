-- If no token is misplaced, each reference is known.
use Rattle.std.proofs.Common.{◌≡◌, ℕ, true, List, [], ◌∷◌, ◌++◌, refl, sym, ◌∙◌, ap, append_assoc, inl, inr}
use Rattle.std.specs.Prelude.{Option, Some, None, is_some, option_and_then}
use Rattle.def_format.specs.Names.{ProcessNames, process_named, var_named}
use Rattle.def_format.specs.Tokens.{Token, Placed, Word, Dot}
use Rattle.def_format.specs.PredicateTexts.{IsUnknownName, UnknownName, tokens_of}
use Rattle.def_format.specs.Grammar.{CanGoOn}
use Rattle.def_format.specs.PrefixWalk.{State, AtEnd, walk, start}
use Rattle.def_format.proofs.Prefixes.{walk-append}
use Rattle.def_format.proofs.Completions.{can_of_begins}
use Rattle.pd_pred.specs.Building.{IsKnown}
use Rattle.pd_pred.specs.Placement.{IsWellPlaced}

-- a walk that comes to the end comes over each prefix
prefix_walks : (prefix back : List Token) → walk start (prefix ++ back) ≡ Some AtEnd
    → is_some (walk start prefix) ≡ true
prefix_walks prefix back h = go (walk start prefix) (sym (walk-append start prefix back) ∙ h)
  where
    go : (o : Option State) → option_and_then (λ later. walk later back) o ≡ Some AtEnd → is_some o ≡ true
    go None e = absurd (cc)
    go (Some s) e = refl

prefix_goes_on : (prefix back : List Token) → walk start (prefix ++ back) ≡ Some AtEnd → CanGoOn prefix
prefix_goes_on prefix back h = can_of_begins prefix (prefix_walks prefix back h)

-- ---- a split of what tokens are seen as is a split of the tokens

record Split (tokens : List Placed) (before : List Token) (t : Token) (after : List Token) : Type 0 where
  left : List Placed
  here : Placed
  right : List Placed
  parts : tokens ≡ left ++ here ∷ right
  left_is : tokens_of left ≡ before
  here_is : here.token ≡ t
  right_is : tokens_of right ≡ after

split_later : (x : Placed) (tokens : List Placed) (b : Token) (before : List Token) (t : Token) (after : List Token)
    → x.token ≡ b → Split tokens before t after → Split (x ∷ tokens) (b ∷ before) t after
split_later x tokens b before t after first rest = record {
  left = x ∷ rest.left;
  here = rest.here;
  right = rest.right;
  parts = cc;
  left_is = rw (first, rest.left_is) refl;
  here_is = rest.here_is;
  right_is = rest.right_is;
}

split : (tokens : List Placed) (before : List Token) (t : Token) (after : List Token)
    → tokens_of tokens ≡ before ++ t ∷ after → Split tokens before t after
split [] [] t after e = absurd (cc)
split [] (b ∷ before) t after e = absurd (cc)
split (x ∷ tokens) [] t after e = record {
  left = [];
  here = x;
  right = tokens;
  parts = refl;
  left_is = refl;
  here_is =
      cc;
  right_is = cc;
}
split (x ∷ tokens) (b ∷ before) t after e =
    split_later x tokens b before t after (cc) (split tokens before t after (cc))

-- ---- the names

is_there : {A : Type 0} (o : Option A) → ¬ (o ≡ None) → (x : A) × (o ≡ Some x)
is_there None n = absurd (n refl)
is_there (Some x) n = (x, refl)

no_unknown_name : (names : List ProcessNames) (tokens : List Placed) (before after : List Token) (t : Token)
    → IsWellPlaced names tokens → tokens_of tokens ≡ before ++ t ∷ after → ¬ (IsUnknownName names before t)
no_unknown_name names tokens before after t placed e =
    let s = split tokens before t after e in
    λ unknown. placed s.left s.here s.right s.parts (UnknownName, rw (s.left_is, s.here_is) unknown)

process_is_there : (names : List ProcessNames) (tokens : List Placed) (before after : List Token) (process var : List ℕ)
    → walk start (tokens_of tokens) ≡ Some AtEnd → IsWellPlaced names tokens
    → tokens_of tokens ≡ before ++ Word process ∷ Dot ∷ Word var ∷ after
    → (p : ℕ) × (process_named names process ≡ Some p)
process_is_there names tokens before after process var h placed e =
    let whole : tokens_of tokens ≡ (before ++ Word process ∷ Dot ∷ []) ++ Word var ∷ after =
    e ∙ sym (append_assoc before (Word process ∷ Dot ∷ []) (Word var ∷ after)) in
    let fits = prefix_goes_on (before ++ Word process ∷ Dot ∷ []) (Word var ∷ after) (sym (ap (walk start) whole) ∙ h)
    in
    is_there (process_named names process) (λ none. no_unknown_name names tokens before (Dot ∷ Word var ∷ after)
    (Word process) placed e (inl (fits, none)))

var_is_there : (names : List ProcessNames) (tokens : List Placed) (before after : List Token) (process var : List ℕ)
    (p : ℕ) → walk start (tokens_of tokens) ≡ Some AtEnd → IsWellPlaced names tokens
    → tokens_of tokens ≡ before ++ Word process ∷ Dot ∷ Word var ∷ after → process_named names process ≡ Some p
    → (v : ℕ) × (var_named names p var ≡ Some v)
var_is_there names tokens before after process var p h placed e found =
    let prefix : List Token = before ++ Word process ∷ Dot ∷ [] in
    let whole : tokens_of tokens ≡ prefix ++ Word var ∷ after =
    e ∙ sym (append_assoc before (Word process ∷ Dot ∷ []) (Word var ∷ after)) in
    let longer : tokens_of tokens ≡ (prefix ++ Word var ∷ []) ++ after =
    whole ∙ sym (append_assoc prefix (Word var ∷ []) after) in
    let fits = prefix_goes_on (prefix ++ Word var ∷ []) after (sym (ap (walk start) longer) ∙ h) in
    is_there (var_named names p var) (λ none. no_unknown_name names tokens prefix after (Word var) placed whole
    (inr (record {
      prefix = before;
      name = process;
      process = p;
      after_dot = refl;
      fits = fits;
      is_process =
          found;
      is_no_var = none;
    })))

pub names_are_known : (names : List ProcessNames) (tokens : List Placed) → walk start (tokens_of tokens) ≡ Some AtEnd
    → IsWellPlaced names tokens → (before after : List Token) (process var : List ℕ)
    → tokens_of tokens ≡ before ++ Word process ∷ Dot ∷ Word var ∷ after → IsKnown names process var
names_are_known names tokens h placed before after process var e =
    let first = process_is_there names tokens before after process var h placed e in
    let second = var_is_there names tokens before after process var first.0 h placed e first.1 in
    (first.0, second.0, first.1, second.1)
