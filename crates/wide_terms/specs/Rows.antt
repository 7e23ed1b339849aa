-- Terms by the counts of processes.
use Rattle.std.specs.Prelude.{◌≡◌, ℕ, ◌<◌, All, Bool, true, false, ◌&&◌, ◌||◌, cond, nat_eq, not, List, [], ◌∷◌, ◌++◌, flat_map, length, map, Option, Some, None, Vec, slice_get, slice_index}
use Rattle.def_model.specs.Cuts.{FitsProcesses}
use Rattle.def_model.specs.Predicates.{Predicate, Recorded, test_of}
use Rattle.std.specs.Global.{Global}
use Rattle.wide_terms.specs.Truths.{truth_at}
use Rattle.wide_terms.specs.declared.row.TruthRow.{TruthRow}

-- the truth, or its opposite
abbrev pub turned : Bool → Bool → Bool
turned negated truth = cond negated (not truth) truth

-- whether a comparison holds at a cut, by the count of one process; no comparison holds nowhere
abbrev pub row_holds : Option TruthRow → List ℕ → Bool
row_holds None cut = false
row_holds (Some row) cut = truth_at row.words.items (slice_index cut row.process)

-- all comparisons of a term, given by the numbers of their rows, hold at a cut
abbrev pub term_holds : List TruthRow → List ℕ → List ℕ → Bool
term_holds rows [] cut = true
term_holds rows (i ∷ term) cut = row_holds (slice_get rows i) cut && term_holds rows term cut

-- some term holds at a cut
abbrev pub terms_hold : List TruthRow → List (List ℕ) → List ℕ → Bool
terms_hold rows [] cut = false
terms_hold rows (term ∷ terms) cut = term_holds rows term cut || terms_hold rows terms cut

-- the count of a process is good for a comparison: it speaks of another one, or holds there
abbrev pub row_allows : Option TruthRow → ℕ → ℕ → Bool
row_allows None p count = false
row_allows (Some row) p count = cond (nat_eq row.process p) (truth_at row.words.items count) true

-- the count of a process is good for all comparisons of a term
abbrev pub term_allows : List TruthRow → List ℕ → ℕ → ℕ → Bool
term_allows rows [] p count = true
term_allows rows (i ∷ term) p count = row_allows (slice_get rows i) p count && term_allows rows term p count

abbrev pub numbers_view : List (Vec ℕ Global) → List (List ℕ)
numbers_view terms = map (λ (term : Vec ℕ Global). term.items) terms

-- whether the predicate holds depends on the count of process p alone
abbrev pub DependsOn : Recorded → Predicate → ℕ → Type 0
DependsOn r predicate p =
    (first second : List ℕ) → slice_index first p ≡ slice_index second p
    → FitsProcesses r.events first → FitsProcesses r.events second
    → test_of r predicate first ≡ test_of r predicate second

-- the row has where the predicate holds, or where it doesn't, by the count of one process
pub record IsRowOf (r : Recorded) (negated : Bool) (predicate : Predicate) (row : TruthRow) : Type 0 where
  pub within : row.process < length r.events
  pub holds : (cut : List ℕ) → FitsProcesses r.events cut
      → row_holds (Some row) cut ≡ turned negated (test_of r predicate cut)

-- The row of the predicate, or of its opposite if it is negated, was put after the others.
pub record AddsRow (r : Recorded) (negated : Bool) (predicate : Predicate) (old new : List TruthRow) : Type 0 where
  pub row : TruthRow
  pub row_of : IsRowOf r negated predicate row
  pub is : new ≡ old ++ row ∷ []

-- each of the first terms with each of the second
abbrev pub products : List (List ℕ) → List (List ℕ) → List (List ℕ)
products first second = flat_map (λ term. map (λ other. term ++ other) second) first

-- each row is of a process that is there
abbrev pub AreWithin : Recorded → List TruthRow → Type 0
AreWithin r rows = All (λ row. row.process < length r.events) rows

-- each term is of rows that are there
abbrev pub AreOf : List TruthRow → List (List ℕ) → Type 0
AreOf rows terms = All (All (λ i. i < length rows)) terms

-- The terms hold where the predicate does, or where it doesn't.
pub record AreTermsOf (r : Recorded) (negated : Bool) (predicate : Predicate) (rows : List TruthRow)
    (terms : List (List ℕ)) : Type 0 where
  pub speak : AreOf rows terms
  pub hold : (cut : List ℕ) → FitsProcesses r.events cut
      → terms_hold rows terms cut ≡ turned negated (test_of r predicate cut)

-- Rows were put after others, and these are the terms by them. If the rows were of processes that are there, they are.
pub record MakesTerms (r : Recorded) (negated : Bool) (predicate : Predicate) (old new : List TruthRow)
    (terms : List (List ℕ)) : Type 0 where
  pub more : List TruthRow
  pub is : new ≡ old ++ more
  pub within : AreWithin r old → AreWithin r new
  pub terms_of : AreTermsOf r negated predicate new terms
