-- The good counts of one process from one on. `good p n` says whether count n of process p is good.
use Rattle.std.specs.Prelude.{ℕ, Bool, true, ◌&&◌, cond, nat_eq, nat_le, List}
use Rattle.def_model.specs.Cuts.{IsConsistent}
use Rattle.def_model.specs.Events.{Computation}
use Rattle.wide_conjunctions.specs.LeastCuts.{IsGood}

-- the good counts of process p from this one on, and all good counts of the others
abbrev pub good_from : (ℕ → ℕ → Bool) → ℕ → ℕ → ℕ → ℕ → Bool
good_from good p from q n = good q n && cond (nat_eq q p) (nat_le from n) true

-- the cut is one of the slice
abbrev pub IsInside : Computation → (ℕ → ℕ → Bool) → List ℕ → Type 0
IsInside c good cut = IsConsistent c cut × IsGood good cut
