-- The variables that a line sets, one after another.
use Rattle.std.proofs.Common.{◌≡◌, ℕ, suc, ◌+◌, ◌<◌, Bool, true, false, List, ◌∷◌, Bor, length, drop, get_or, refl, ap, sym, subst, add-one, drop-cons}
use Rattle.std.specs.Prelude.{Option, Result, Ok, Err, Some, None, IsUtf8, codes, option_and_then}
use Rattle.std.specs.Str.{is_utf8}
use Rattle.std.proofs.lemmas.Str.{IsUtf8-from_is_utf8, is_utf8-from_IsUtf8}
use Rattle.json.specs.Find.{as_object, get}
use Rattle.json.specs.Json.{Json, document}
use Rattle.json.specs.Value.{members_view}
use Rattle.json.specs.declared.value.Value.{Value}
use Rattle.judge_infer.specs.Inferred.{Wrong, names_or_none, ordered_value, set_names, with_var, with_vars}
use Rattle.judge_infer.specs.Streams.{member_names}
use Rattle.judge_infer.specs.Views.{IsVars}
use Rattle.judge_infer.specs.declared.fault.AddFault.{AddFault}

-- ---- the value in the order of its text

pub ordered_some : (bytes : List ℕ) (value : Json) → IsUtf8 bytes → document bytes ≡ Some value
    → ordered_value bytes ≡ Some value
ordered_some bytes value utf8 e = rw (is_utf8-from_IsUtf8 bytes utf8) e

pub ordered_none : (bytes : List ℕ) → (IsUtf8 bytes → document bytes ≡ None) → ordered_value bytes ≡ None
ordered_none bytes none = go (is_utf8 bytes) refl
  where
    go : (b : Bool) → is_utf8 bytes ≡ b → ordered_value bytes ≡ None
    go true e = rw e (none (IsUtf8-from_is_utf8 bytes e))
    go false e = rw e refl

module _ {R : Type 0} (vars : List (List ℕ)) (n : ℕ) (bytes : List ℕ) where
  pub vars_some : (value : Json) (given : List (List ℕ)) (answer : Result R AddFault)
      → IsUtf8 bytes × (document bytes ≡ Some value)
      → IsVars n (with_vars vars (names_or_none (option_and_then as_object (get (codes "set") value)))) given answer
      → IsVars n (with_vars vars (set_names bytes)) given answer
  vars_some value given answer is due =
      subst (λ (tree : Option Json). IsVars n (with_vars vars (names_or_none (option_and_then as_object
      (option_and_then (get (codes "set")) tree)))) given answer) (sym (ordered_some bytes value is.0 is.1)) due

pub vars_none : (vars : List (List ℕ)) (bytes : List ℕ) → (IsUtf8 bytes → document bytes ≡ None)
    → with_vars vars (set_names bytes) ≡ Ok vars
vars_none vars bytes none =
    ap (λ (tree : Option Json). with_vars vars (names_or_none (option_and_then as_object
    (option_and_then (get (codes "set")) tree)))) (ordered_none bytes none)

-- ---- one variable more

names_left : {A : Type 0} (members : List (Bor (List ℕ) × Value A)) (i : ℕ) (d : Bor (List ℕ) × Value A)
    → i < length members
    → member_names (members_view (drop i members))
    ≡ (get_or members i d).0.now ∷ member_names (members_view (drop (suc i) members))
names_left members i d lt = ap (λ left. member_names (members_view left)) (drop-cons members i d lt)

pub set_on : {A : Type 0} (vars more : List (List ℕ)) (members : List (Bor (List ℕ) × Value A)) (i : ℕ)
    (d : Bor (List ℕ) × Value A) → i < length members → with_var vars (get_or members i d).0.now ≡ Ok more
    → with_vars vars (member_names (members_view (drop i members)))
    ≡ with_vars more (member_names (members_view (drop (i + 1) members)))
set_on vars more members i d lt due = rw (names_left members i d lt, due, add-one i) refl

pub set_wrong : {A : Type 0} (vars : List (List ℕ)) (wrong : Wrong) (members : List (Bor (List ℕ) × Value A)) (i : ℕ)
    (d : Bor (List ℕ) × Value A) → i < length members → with_var vars (get_or members i d).0.now ≡ Err wrong
    → with_vars vars (member_names (members_view (drop i members))) ≡ Err wrong
set_wrong vars wrong members i d lt due = rw (names_left members i d lt, due) refl
