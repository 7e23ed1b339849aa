-- A predicate of one term holds exactly where no process is at a count that is good for a comparison of its opposite.
use Rattle.std.proofs.Common.{◌≡◌, ◌≤◌, ◌+◌, ◌*◌, ◌-◌, ℕ, List, [], length, get_or, refl, ◌∙◌, arith}
use Rattle.std.proofs.Math.Arith.{mul_pred}
use Rattle.std.proofs.Math.Nat.{mul_comm, one-le-mul}
use Rattle.std.proofs.lemmas.Bool.{false≢true}
use Rattle.std.specs.Prelude.{Bool, true, false, not, min, Result, Ok, Err, IfOk}
use Rattle.wide_conjunctions.specs.Boxes.{IsConjunction}
use Rattle.wide_conjunctions.specs.Passages.{IsPassage}
use Rattle.wide_conjunctions.specs.declared.passage.Passage.{Passage}
use Rattle.wide_conjunctions.specs.declared.passage.Passage.TheVariants as passages
use Rattle.wide_conjunctions.specs.Clauses.{IsClause}
use Rattle.def_model.specs.Events.{Computation}
use Rattle.def_model.specs.Observations.{Possibly}
use Rattle.def_model.specs.Predicates.{Predicate, Recorded, Always, Never, Compare, Not, And, Or, test_of}
use Rattle.wide_terms.specs.Conjunctions.{none_good}
use Rattle.def_model.specs.Decided.{IsOr, term_count}
use Rattle.wide_terms.specs.Ors.{MakesRows, clause_good}
use Rattle.wide_terms.specs.Passages.{IsPassageOf}
use Rattle.wide_terms.specs.declared.row.TruthRow.{TruthRow}
use Rattle.wide_terms.proofs.Oring.{is_clause_of}

-- ---- one term

-- there is one at least
pub one_at_least : (negated : Bool) (predicate : Predicate) → 1 ≤ term_count negated predicate
one_at_least negated Always = omega arith
one_at_least negated Never = omega arith
one_at_least negated (Compare left comparison right) = omega arith
one_at_least negated (Not inner) = one_at_least (not negated) inner
one_at_least true (And left right) =
    let first : 1 ≤ term_count true left = one_at_least true left in omega (arith, first)
one_at_least false (And left right) = one-le-mul (one_at_least false left) (one_at_least false right)
one_at_least true (Or left right) = one-le-mul (one_at_least true left) (one_at_least true right)
one_at_least false (Or left right) =
    let first : 1 ≤ term_count false left = one_at_least false left in omega (arith, first)

-- two numbers whose product is one
right_one : (a b : ℕ) → 1 ≤ a → 1 ≤ b → a * b ≡ 1 → b ≡ 1
right_one a b some_a some_b one =
    let less : a * b - 1 ≡ (a - 1) * b + (b - 1) = mul_pred some_a some_b in omega (arith, less, one, some_b)

left_one : (a b : ℕ) → 1 ≤ a → 1 ≤ b → a * b ≡ 1 → a ≡ 1
left_one a b some_a some_b one = right_one b a some_b some_a (mul_comm b a ∙ one)

-- a sum of two numbers isn't one
not_one : (a b : ℕ) → 1 ≤ a → 1 ≤ b → ¬ (a + b ≡ 1)
not_one a b some_a some_b one = omega (arith, some_a, some_b, one)

-- the opposite of a predicate of one term is an `or` of comparisons
pub opposite_or : (negated : Bool) (predicate : Predicate) → term_count negated predicate ≡ 1
    → IsOr (not negated) predicate
opposite_or negated Always one = tt
opposite_or negated Never one = tt
opposite_or negated (Compare left comparison right) one = tt
opposite_or negated (Not inner) one = opposite_or (not negated) inner one
opposite_or true (And left right) one =
    absurd (not_one (term_count true left) (term_count true right) (one_at_least true left) (one_at_least true right)
    one)
opposite_or false (And left right) one = (
  refl,
  opposite_or false left (left_one (term_count false left) (term_count false right) (one_at_least false left)
      (one_at_least false right) one),
  opposite_or false right (right_one (term_count false left) (term_count false right) (one_at_least false left)
      (one_at_least false right) one),
)
opposite_or true (Or left right) one = (
  refl,
  opposite_or true left (left_one (term_count true left) (term_count true right) (one_at_least true left)
      (one_at_least true right) one),
  opposite_or true right (right_one (term_count true left) (term_count true right) (one_at_least true left)
      (one_at_least true right) one),
)
opposite_or false (Or left right) one =
    absurd (not_one (term_count false left) (term_count false right) (one_at_least false left)
    (one_at_least false right) one)

-- ---- what its rows mean

not_both : (a : Bool) → not a ≡ true → a ≡ true → ⊥
not_both true opposite same = false≢true opposite
not_both false opposite same = false≢true same

from_not : (a : Bool) → ¬ (a ≡ true) → not a ≡ true
from_not true fails = absurd (fails refl)
from_not false fails = refl

to_true : (a : Bool) → ¬ (not a ≡ true) → a ≡ true
to_true true fails = refl
to_true false fails = absurd (fails refl)

-- where a cut satisfies the opposite exactly if some process is at a good count, it satisfies exactly if none is
pub none_of_clause : (c : Computation) (test : List ℕ → Bool) (rows : List TruthRow)
    → IsClause c (λ cut. not (test cut)) (clause_good rows) → IsConjunction c test (none_good rows)
none_of_clause c test rows clause cut ok = (
  λ satisfies p lt. from_not (clause_good rows p (get_or cut p 0))
      (λ good. not_both (test cut) ((clause cut ok).1 (p, lt, good)) satisfies),
  λ none. to_true (test cut) (λ fails. let w = (clause cut ok).0 fails in
      not_both (clause_good rows w.0 (get_or cut w.0 0)) (none w.0 w.1) w.2),
)

pub is_conjunction : (r : Recorded) (predicate : Predicate) (rows : List TruthRow)
    → MakesRows r true predicate [] rows → IsConjunction r.events (test_of r predicate) (none_good rows)
is_conjunction r predicate rows made =
    none_of_clause r.events (test_of r predicate) rows (is_clause_of r true predicate rows made)

-- ---- where no cut satisfies

-- it is as if no count were good
pub never_good : (c : Computation) (test : List ℕ → Bool) → 1 ≤ length c → ¬ Possibly c test
    → IsConjunction c test (λ p n. false)
never_good c test some none cut ok = (
  λ satisfies. absurd (none (cut, ok, satisfies)),
  λ good. absurd (false≢true (good 0 (rw ok.fits.one_each some))),
)

-- ---- answers

-- the answer for good counts is that of each test that is a conjunction of them
pub passage_for : (c : Computation) (good : ℕ → ℕ → Bool) (test : List ℕ → Bool) (passage : Passage)
    → IsConjunction c test good → IsPassage c good passage → IsPassageOf c test passage
passage_for c good test (passages.Passed level) conjunction is = is test conjunction
passage_for c good test (passages.Avoided path) conjunction is = is test conjunction

-- what follows from what is true of a result
pub ok_weaker : {A E : Type 0} (P Q : A → Type 0) (result : Result A E) → ((a : A) → P a → Q a) → IfOk result P
    → IfOk result Q
ok_weaker P Q (Ok a) to is = to a is
ok_weaker P Q (Err e) to is = tt

-- a count of terms that is one at most, as far as numbers go
pub single : (count many : ℕ) → 1 ≤ count → many ≡ min count 18446744073709551615 → many ≤ 1 → count ≡ 1
single count many some is few = omega (arith, some, is, few)
