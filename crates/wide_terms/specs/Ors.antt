-- Predicates that are an `or` of comparisons, and what decides Definitely of them.
use Rattle.std.specs.Prelude.{◌≡◌, ℕ, ◌<◌, All, Bool, false, ◌&&◌, ◌||◌, nat_eq, List, [], ◌∷◌, ◌++◌, length, Some}
use Rattle.def_model.specs.Answers.{IsLeastFree}
use Rattle.def_model.specs.Cuts.{FitsProcesses}
use Rattle.def_model.specs.Observations.{Definitely, Possibly}
use Rattle.def_model.specs.Predicates.{Predicate, Recorded, test_of}
use Rattle.def_model.specs.Decided.{IsLocal, IsOr}
use Rattle.wide_terms.specs.Rows.{row_holds, turned}
use Rattle.wide_terms.specs.Truths.{truth_at}
use Rattle.wide_terms.specs.declared.clause.ByClause.{ByClause}
use Rattle.wide_terms.specs.declared.clause.ByClause.TheVariants.{Passed, Unsatisfied, Undecided}
use Rattle.wide_terms.specs.declared.row.TruthRow.{TruthRow}

-- an `or` of comparisons, each of which names one process at most
abbrev pub IsLocalOr : Predicate → Type 0
IsLocalOr predicate = IsLocal predicate × IsOr false predicate

-- some comparison holds at a cut
abbrev pub rows_hold : List TruthRow → List ℕ → Bool
rows_hold [] cut = false
rows_hold (row ∷ rows) cut = row_holds (Some row) cut || rows_hold rows cut

-- the comparison speaks of process p, and holds at this count of it
abbrev pub row_good : TruthRow → ℕ → ℕ → Bool
row_good row p count = nat_eq row.process p && truth_at row.words.items count

-- the count of a process is good for some comparison
abbrev pub clause_good : List TruthRow → ℕ → ℕ → Bool
clause_good [] p count = false
clause_good (row ∷ rows) p count = row_good row p count || clause_good rows p count

-- Rows of processes that are there were put after others: one of them holds where the predicate does, or where it
-- doesn't.
pub record MakesRows (r : Recorded) (negated : Bool) (predicate : Predicate) (old new : List TruthRow) : Type 0 where
  pub more : List TruthRow
  pub is : new ≡ old ++ more
  pub within : All (λ row. row.process < length r.events) more
  pub hold : (cut : List ℕ) → FitsProcesses r.events cut
      → rows_hold more cut ≡ turned negated (test_of r predicate cut)

-- Every observation passes through a satisfying cut, and this is the least level with no avoiding cut; or no cut
-- satisfies; or the predicate isn't one that is decided so.
abbrev pub IsRightByClause : Recorded → Predicate → ByClause → Type 0
IsRightByClause r predicate (Passed level) =
    IsLocalOr predicate × IsLeastFree r.events (test_of r predicate) level
    × Definitely r.events (test_of r predicate)
IsRightByClause r predicate Unsatisfied = IsLocalOr predicate × (¬ Possibly r.events (test_of r predicate))
IsRightByClause r predicate Undecided = ¬ IsLocalOr predicate
