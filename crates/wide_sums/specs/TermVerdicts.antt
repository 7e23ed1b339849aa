-- What a term of a predicate comes to, and the predicate.
use Rattle.std.specs.Prelude.{⊤, ◌≡◌, ℕ, ◌<◌, ◌↔◌, Bool, true, false, Contains, List, [], ◌∷◌, slice_index_or}
use Rattle.def_model.specs.Cuts.{IsConsistent}
use Rattle.def_model.specs.Observations.{Possibly}
use Rattle.def_model.specs.Predicates.{Equals, Predicate, Recorded, test_of}
use Rattle.def_wide.specs.Sums.{IsDecidedBySums, IsDecidedTerm, IsExcluded, IsExcludedAs, IsInSlice, NameBelow}
use Rattle.def_wide.specs.Terms.{Literal, some_term_holds, term_holds}
use Rattle.wide_slice.specs.Steps.{IsInside}
use Rattle.wide_sums.specs.Verdicts.{IsNotExcludedAs, IsNotSolvedEqual, IsSolvedEqual}
use Rattle.wide_sums.specs.declared.verdict.Verdict.{Verdict}
use Rattle.wide_sums.specs.declared.verdict.Verdict.TheVariants.{Undecided, Unsatisfied, Satisfied}

-- what the only sum of a term comes to over its slice, which has this least cut
abbrev pub IsVerdictOfOne : (List ℕ → Type 0) → Recorded → Literal → List ℕ → Bool → Verdict → Type 0
IsVerdictOfOne InSlice r l least alone Undecided =
    IsNotExcludedAs l.comparison InSlice r l
    × (l.comparison ≡ Equals) × IsNotSolvedEqual InSlice r l least alone
IsVerdictOfOne InSlice r l least alone Unsatisfied = IsExcludedAs l.comparison InSlice r l
IsVerdictOfOne InSlice r l least alone Satisfied =
    IsNotExcludedAs l.comparison InSlice r l × (l.comparison ≡ Equals → IsSolvedEqual InSlice r l least alone)

-- none of these comparisons names a process that isn't there
abbrev pub AreNamedBelow : ℕ → List Literal → Type 0
AreNamedBelow n [] = ⊤
AreNamedBelow n (l ∷ rest) = NameBelow n l.left × NameBelow n l.right × AreNamedBelow n rest

-- one of them is excluded over the slice
abbrev pub HasExcluded : (List ℕ → Type 0) → Recorded → List Literal → Type 0
HasExcluded InSlice r sums = (l : Literal) × Contains sums l × IsExcludedAs l.comparison InSlice r l

-- none is
abbrev pub HasNoExcluded : (List ℕ → Type 0) → Recorded → List Literal → Type 0
HasNoExcluded InSlice r sums = (l : Literal) → Contains sums l → IsNotExcludedAs l.comparison InSlice r l

-- the good counts are those of the term's slice
abbrev pub IsSliceFor : Recorded → List Literal → (ℕ → ℕ → Bool) → Type 0
IsSliceFor r term good = (cut : List ℕ) → IsInside r.events good cut ↔ IsInSlice r term cut

-- Some consistent cut satisfies the term, none does, or it isn't decided.
abbrev pub IsVerdictOf : Recorded → List Literal → Verdict → Type 0
IsVerdictOf r term Undecided = ¬ IsDecidedTerm r term
IsVerdictOf r term Unsatisfied = IsExcluded r term
IsVerdictOf r term Satisfied =
    IsDecidedTerm r term × ((cut : List ℕ) × IsConsistent r.events cut × (term_holds r term cut ≡ true))

-- the same of a predicate
abbrev pub IsVerdict : Recorded → Predicate → Verdict → Type 0
IsVerdict r predicate Undecided = ¬ IsDecidedBySums r predicate
IsVerdict r predicate Unsatisfied = IsDecidedBySums r predicate × (¬ Possibly r.events (test_of r predicate))
IsVerdict r predicate Satisfied = IsDecidedBySums r predicate × Possibly r.events (test_of r predicate)

-- The first terms, this many, are decided; and if it says so, some consistent cut satisfies one of all, and else each
-- of the first is excluded.
pub record HaveVerdict (r : Recorded) (terms : List (List Literal)) (many : ℕ) (satisfied : Bool) : Type 0 where
  pub decided : (k : ℕ) → k < many → IsDecidedTerm r (slice_index_or terms k [])
  pub some : satisfied ≡ true → (cut : List ℕ) × IsConsistent r.events cut × (some_term_holds r terms cut ≡ true)
  pub none : satisfied ≡ false → (k : ℕ) → k < many → IsExcluded r (slice_index_or terms k [])
