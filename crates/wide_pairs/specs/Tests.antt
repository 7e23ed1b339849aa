-- A predicate of two processes by rows of numbers.
use Rattle.std.specs.Prelude.{◌≡◌, ℕ, Bool, ◌&&◌, ◌||◌, not, List, pos, ◌+ℤ◌, slice_index}
use Rattle.def_model.specs.Cuts.{FitsProcesses}
use Rattle.def_model.specs.Predicates.{Predicate, Recorded, compares, test_of}
use Rattle.pd_pred.specs.Trees.{comparison_view}
use Rattle.wide_pairs.specs.Parts.{number_at}
use Rattle.wide_pairs.specs.declared.rows.Rows.{Rows}
use Rattle.wide_pairs.specs.declared.test.PairTest.{PairTest, Constant, Compare, Not', And', Or'}

-- what both processes add at their counts is compared with 0
abbrev pub rows_hold : Rows → ℕ → ℕ → Bool
rows_hold rows i j =
    compares (comparison_view rows.comparison) (number_at rows.first.items i +ℤ number_at rows.second.items j) (pos 0)

-- whether the predicate holds at counts i and j of the two
abbrev pub pair_holds : PairTest → ℕ → ℕ → Bool
pair_holds (Constant truth) i j = truth
pair_holds (Compare rows) i j = rows_hold rows i j
pair_holds (Not' p inner) i j = not (pair_holds inner i j)
pair_holds (And' p left q right) i j = pair_holds left i j && pair_holds right i j
pair_holds (Or' p left q right) i j = pair_holds left i j || pair_holds right i j

-- a cut satisfies the predicate exactly if this holds at its counts of p and q
abbrev pub IsByCounts : Recorded → ℕ → ℕ → Predicate → (ℕ → ℕ → Bool) → Type 0
IsByCounts r p q predicate holds =
    (cut : List ℕ) → FitsProcesses r.events cut
    → holds (slice_index cut p) (slice_index cut q) ≡ test_of r predicate cut
