-- What the terms of a predicate decide.
use Rattle.std.specs.Prelude.{ℕ, ◌<◌, Bool, List, [], slice_index_or, Option, Some, None}
use Rattle.wide_conjunctions.specs.CutOrder.{IsFirstLeast}
use Rattle.wide_conjunctions.specs.LeastCuts.{HasNoGood}
use Rattle.def_model.specs.Events.{Computation}
use Rattle.wide_terms.specs.Rows.{term_allows}
use Rattle.wide_terms.specs.declared.row.TruthRow.{TruthRow}

-- the counts that are good for the term with this number
abbrev pub goods_of : List TruthRow → List (List ℕ) → ℕ → ℕ → ℕ → Bool
goods_of rows terms i = term_allows rows (slice_index_or terms i [])

-- the first of the least good cuts of the numbers below n, or none if none of them has one
abbrev pub IsFirstSoFar : Computation → (ℕ → ℕ → ℕ → Bool) → ℕ → Option (List ℕ) → Type 0
IsFirstSoFar c goods n None = (i : ℕ) → i < n → HasNoGood c (goods i)
IsFirstSoFar c goods n (Some cut) = IsFirstLeast c goods n cut
