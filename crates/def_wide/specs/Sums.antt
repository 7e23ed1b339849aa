-- Which predicates are decided by sums over several processes: each of their terms is.
use Rattle.std.specs.Prelude.{⊤, ◌≡◌, ℕ, ◌<◌, ◌≤◌, ◌⊎◌, All, true, false, Contains, List, [], ◌∷◌, ◌++◌, length, ℤ, pos, ◌+ℤ◌, ◌-ℤ◌, ◌<ℤ◌, ◌≤ℤ◌}
use Rattle.def_model.specs.Cuts.{FitsProcesses, IsConsistent, empty_cut, one_more}
use Rattle.def_model.specs.Decided.{NameOne, term_count, term_limit}
use Rattle.def_model.specs.Lattice.{IsWithin}
use Rattle.def_model.specs.Predicates.{Sign, Term, Number, Variable, Times, Comparison, Equals, Differs, IsLess, IsAtMost, IsGreater, IsAtLeast, Predicate, Always, Never, Compare, Not, And, Or, Recorded, state_at, sum_value}
use Rattle.def_wide.specs.Terms.{Literal, literal_holds, terms_of}

-- ---- processes that are there

-- the term names no process but the first n
abbrev pub NamesBelow : ℕ → Term → Type 0
NamesBelow n (Number k) = ⊤
NamesBelow n (Variable p v) = p < n
NamesBelow n (Times k p v) = p < n

-- no term of a sum names another
abbrev pub NameBelow : ℕ → List (Sign × Term) → Type 0
NameBelow n [] = ⊤
NameBelow n ((sign, term) ∷ rest) = NamesBelow n term × NameBelow n rest

-- no comparison of a predicate does
abbrev pub NamesNoOther : ℕ → Predicate → Type 0
NamesNoOther n Always = ⊤
NamesNoOther n Never = ⊤
NamesNoOther n (Compare left comparison right) = NameBelow n left × NameBelow n right
NamesNoOther n (Not inner) = NamesNoOther n inner
NamesNoOther n (And left right) = NamesNoOther n left × NamesNoOther n right
NamesNoOther n (Or left right) = NamesNoOther n left × NamesNoOther n right

-- ---- the slice of a term

-- the comparison names one process at most
abbrev pub IsLocalLiteral : Literal → Type 0
IsLocalLiteral l = NameOne l.left l.right

-- A cut of the slice: a consistent one at which each comparison of the term holds that names one process at most.
pub record IsInSlice (r : Recorded) (term : List Literal) (cut : List ℕ) : Type 0 where
  pub consistent : IsConsistent r.events cut
  pub local : (l : Literal) → Contains term l → IsLocalLiteral l → literal_holds r l cut ≡ true

-- the least of these cuts
abbrev pub IsLeastOf : (List ℕ → Type 0) → List ℕ → Type 0
IsLeastOf InSlice cut = InSlice cut × ((other : List ℕ) → InSlice other → IsWithin cut other)

-- by how much one sum is more than another at a cut
abbrev pub excess_of : Recorded → List (Sign × Term) → List (Sign × Term) → List ℕ → ℤ
excess_of r left right cut =
    sum_value (state_at r.initial r.events cut) left -ℤ sum_value (state_at r.initial r.events cut) right

-- by how much the left sum of a comparison is more than the right one
abbrev pub excess : Recorded → Literal → List ℕ → ℤ
excess r l cut = excess_of r l.left l.right cut

-- this is so of the excess at each of these cuts
abbrev pub AtEach : (List ℕ → Type 0) → Recorded → Literal → (ℤ → Type 0) → Type 0
AtEach InSlice r l P = (cut : List ℕ) → InSlice cut → P (excess r l cut)

-- ---- which terms are decided

-- No cut of the slice satisfies the comparison; and if it is `==`, its left sum is less than the right one at each of
-- them, or greater.
abbrev pub IsExcludedAs : Comparison → (List ℕ → Type 0) → Recorded → Literal → Type 0
IsExcludedAs Equals InSlice r l =
    AtEach InSlice r l (λ x. x <ℤ pos 0) ⊎ AtEach InSlice r l (λ x. pos 0 <ℤ x)
IsExcludedAs Differs InSlice r l = AtEach InSlice r l (λ x. x ≡ pos 0)
IsExcludedAs IsLess InSlice r l = AtEach InSlice r l (λ x. pos 0 ≤ℤ x)
IsExcludedAs IsAtMost InSlice r l = AtEach InSlice r l (λ x. pos 0 <ℤ x)
IsExcludedAs IsGreater InSlice r l = AtEach InSlice r l (λ x. x ≤ℤ pos 0)
IsExcludedAs IsAtLeast InSlice r l = AtEach InSlice r l (λ x. x <ℤ pos 0)

-- The slice is empty, or a comparison of the term that names several processes is excluded in it: so no consistent cut
-- satisfies the term.
abbrev pub IsExcluded : Recorded → List Literal → Type 0
IsExcluded r term =
    ((cut : List ℕ) → ¬ IsInSlice r term cut)
    ⊎ ((l : Literal) × Contains term l × (¬ IsLocalLiteral l) × IsExcludedAs l.comparison (IsInSlice r term) r l)

-- all comparisons of the term name one process at most
abbrev pub IsLocalTerm : List Literal → Type 0
IsLocalTerm term = All IsLocalLiteral term

-- all but this one do
abbrev pub IsOnlySum : List Literal → Literal → Type 0
IsOnlySum term l =
    (before : List Literal) × (after : List Literal) × (term ≡ before ++ l ∷ after) × All IsLocalLiteral before
    × (¬ IsLocalLiteral l) × All IsLocalLiteral after

-- no event adds more than 1 to the excess
abbrev pub RisesByOne : Recorded → List (Sign × Term) → List (Sign × Term) → Type 0
RisesByOne r left right =
    (counts : List ℕ) (p : ℕ) → p < length counts → FitsProcesses r.events (one_more counts p)
    → excess_of r left right (one_more counts p) ≤ℤ (excess_of r left right counts +ℤ pos 1)

-- From the empty cut on, the excess can't go past 0 by one event: it is below 0 and no event adds more than 1, or above
-- 0 and none takes more than 1 from it.
abbrev pub IsBySmallSteps : Recorded → Literal → Type 0
IsBySmallSteps r l =
    ((excess r l (empty_cut r.events) <ℤ pos 0) × RisesByOne r l.left l.right)
    ⊎ ((pos 0 <ℤ excess r l (empty_cut r.events)) × RisesByOne r l.right l.left)

-- The only comparison of several processes is decided over the slice: each one but `==` is, and `==` is if its excess
-- is never above 0 there, or never below it, if it is 0 at the least cut, or if the term is this comparison alone and
-- no event can take the excess past 0.
abbrev pub IsSolvedAs : Comparison → (List ℕ → Type 0) → Recorded → List Literal → Literal → Type 0
IsSolvedAs Equals InSlice r term l =
    AtEach InSlice r l (λ x. x ≤ℤ pos 0)
    ⊎ (AtEach InSlice r l (λ x. pos 0 ≤ℤ x)
    ⊎ (((cut : List ℕ) × IsLeastOf InSlice cut × (excess r l cut ≡ pos 0))
    ⊎ ((term ≡ l ∷ []) × IsBySmallSteps r l)))
IsSolvedAs Differs InSlice r term l = ⊤
IsSolvedAs IsLess InSlice r term l = ⊤
IsSolvedAs IsAtMost InSlice r term l = ⊤
IsSolvedAs IsGreater InSlice r term l = ⊤
IsSolvedAs IsAtLeast InSlice r term l = ⊤

-- Whether some consistent cut satisfies the term is decided by its slice and one sum.
abbrev pub IsDecidedTerm : Recorded → List Literal → Type 0
IsDecidedTerm r term =
    IsExcluded r term
    ⊎ (IsLocalTerm term
    ⊎ ((l : Literal) × IsOnlySum term l × IsSolvedAs l.comparison (IsInSlice r term) r term l))

-- ---- which predicates are

-- The predicate has no more terms than may be, it names no process that isn't there, and each term is decided.
pub record IsDecidedBySums (r : Recorded) (predicate : Predicate) : Type 0 where
  pub few : term_count false predicate ≤ term_limit
  pub there : NamesNoOther (length r.events) predicate
  pub terms : (term : List Literal) → Contains (terms_of false predicate) term → IsDecidedTerm r term
