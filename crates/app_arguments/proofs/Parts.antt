-- The text of a condition is cut at its colon, and in no other way.
use Rattle.std.proofs.Common.{◌≡◌, ◌≢◌, ◌<◌, ℕ, suc, zero, List, [], ◌∷◌, ◌++◌, true, None, Some, Option, get_or, length, refl, sym, ap, ◌∙◌, subst, arith}
use Rattle.std.specs.Prelude.{not, ◌==◌, IfSome}
use Rattle.std.specs.List.{list_all}
use Rattle.std.proofs.lemmas.Bool.{and_parts}
use Rattle.std.proofs.lemmas.Bool.Decides.{nat_tests}
use Rattle.def_format.specs.Reports.{IsName}
use Rattle.def_format.proofs.OneReport.{Lacks, in_word_lacks, name_in_word}
use Rattle.pd_report.specs.Reading.{IsFoundAs}
use Rattle.app_arguments.specs.Conditions.{IsLawful, colon, condition_text, kind_text, text_for}
use Rattle.judge_runs.specs.Wishes.{Kind, PossiblyYes, PossiblyNo, DefinitelyYes, DefinitelyNo, SomeUnknown}
use Rattle.app_arguments.specs.ConditionViews.{IsNamed, IsOnName, condition_view}
use Rattle.app_arguments.specs.declared.condition.Condition.{Condition}

-- ---- bytes that lack one

differs : (c x : ℕ) → x ≢ c → not (x == c) ≡ true
differs c x other = grind (arith, nat_tests)

pub lacks_each : (c : ℕ) (w : List ℕ) → ((i : ℕ) → i < length w → get_or w i 0 ≢ c) → Lacks c w
lacks_each c [] each = refl
lacks_each c (x ∷ w) each =
    let rest = lacks_each c w (λ i below. each (suc i) (omega (arith, below))) in
    rw (differs c x (each zero (omega arith)), rest) refl

is_other : (c x : ℕ) → not (x == c) ≡ true → x ≢ c
is_other c x other same = grind (arith, nat_tests)

pub lacks_not : (c : ℕ) (w rest : List ℕ) → ¬ Lacks c (w ++ c ∷ rest)
lacks_not c [] rest h = is_other c c (and_parts (not (c == c)) (list_all (λ b. not (b == c)) rest) h).0 refl
lacks_not c (x ∷ w) rest h =
    lacks_not c w rest (and_parts (not (x == c)) (list_all (λ b. not (b == c)) (w ++ c ∷ rest)) h).1

-- two cuts at the first such byte are one
pub one_cut : (c : ℕ) (a b x y : List ℕ) → Lacks c a → Lacks c x → a ++ c ∷ b ≡ x ++ c ∷ y → (a ≡ x) × (b ≡ y)
one_cut c [] b [] y la lx e = (refl, cc)
one_cut c [] b (z ∷ x) y la lx e =
    absurd (is_other c z (and_parts (not (z == c)) (list_all (λ b. not (b == c)) x) lx).0
    (let same : z ≡ c = cc in same))
one_cut c (z ∷ a) b [] y la lx e =
    absurd (is_other c z (and_parts (not (z == c)) (list_all (λ b. not (b == c)) a) la).0
    (let same : z ≡ c = cc in same))
one_cut c (z ∷ a) b (v ∷ x) y la lx e =
    let head : z ≡ v = cc in
    let tail : a ++ c ∷ b ≡ x ++ c ∷ y = cc in
    let both = one_cut c a b x y (and_parts (not (z == c)) (list_all (λ b. not (b == c)) a) la).1
    (and_parts (not (v == c)) (list_all (λ b. not (b == c)) x) lx).1 tail in
    (cc (head, both.0), both.1)

-- ---- kinds and names

pub kind_lacks_colon : (kind : Kind) → Lacks colon (kind_text kind)
kind_lacks_colon PossiblyYes = refl
kind_lacks_colon PossiblyNo = refl
kind_lacks_colon DefinitelyYes = refl
kind_lacks_colon DefinitelyNo = refl
kind_lacks_colon SomeUnknown = refl

pub kind_lacks_comma : (kind : Kind) → Lacks 44 (kind_text kind)
kind_lacks_comma PossiblyYes = refl
kind_lacks_comma PossiblyNo = refl
kind_lacks_comma DefinitelyYes = refl
kind_lacks_comma DefinitelyNo = refl
kind_lacks_comma SomeUnknown = refl

pub name_lacks_colon : (name : List ℕ) → IsName name → Lacks colon name
name_lacks_colon name is = in_word_lacks colon refl name (name_in_word name is)

pub name_lacks_comma : (name : List ℕ) → IsName name → Lacks 44 name
name_lacks_comma name is = in_word_lacks 44 refl name (name_in_word name is)

-- ---- a condition

-- a text with no colon is a kind's
no_text_without : (text : List ℕ) → Lacks colon text → ((kind : Kind) → ¬ (text ≡ kind_text kind))
    → (name : Option (List ℕ)) (kind : Kind) → ¬ (text ≡ text_for name kind)
no_text_without text lacks none None kind is = none kind is
no_text_without text lacks none (Some name) kind is =
    lacks_not colon name (kind_text kind) (subst (Lacks colon) is lacks)

pub without_colon : (text : List ℕ) → Lacks colon text → (found : Option Condition) → IsOnName None text found
    → IsFoundAs condition_view condition_text IsLawful text found
without_colon text lacks None none =
    λ condition lawful is. no_text_without text lacks none condition.name condition.kind is
without_colon text lacks (Some condition) on =
    subst (λ (name : Option (List ℕ)). IfSome name IsName
    × (text ≡ text_for name (condition_view condition).kind)) (sym on.0) (tt, on.1)

-- of a condition with a colon in its text, the name is before it and the kind after it
with_colon_of : (text name word : List ℕ) → text ≡ name ++ colon ∷ word → Lacks colon name
    → (other : Option (List ℕ)) (kind : Kind) → IfSome other IsName → text ≡ text_for other kind
    → IsName name × (word ≡ kind_text kind)
with_colon_of text name word parts lacks None kind lawful is =
    absurd (lacks_not colon name word (subst (Lacks colon) (sym is ∙ parts) (kind_lacks_colon kind)))
with_colon_of text name word parts lacks (Some other) kind lawful is =
    let same = one_cut colon name word other (kind_text kind) lacks (name_lacks_colon other lawful) (sym parts ∙ is) in
    (subst IsName (sym same.0) lawful, same.1)

pub with_colon : (text name word : List ℕ) → text ≡ name ++ colon ∷ word → Lacks colon name
    → (found : Option Condition) → IsNamed name word found
    → IsFoundAs condition_view condition_text IsLawful text found
with_colon text name word parts lacks None none = λ condition lawful is.
    let of = with_colon_of text name word parts lacks condition.name condition.kind lawful is in
    none of.0 condition.kind of.1
with_colon text name word parts lacks (Some condition) named =
    subst (λ (other : Option (List ℕ)). IfSome other IsName
    × (text ≡ text_for other (condition_view condition).kind)) (sym named.1)
    (named.0, parts ∙ ap (λ (kind : List ℕ). name ++ colon ∷ kind) named.2)

-- a part on a name
pub as_named : (name word : List ℕ) → IsName name → (found : Option Condition) → IsOnName (Some name) word found
    → IsNamed name word found
as_named name word is None none = λ _. none
as_named name word is (Some condition) on = (is, on.0, on.1)
