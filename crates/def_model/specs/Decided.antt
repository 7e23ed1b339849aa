-- Which predicates are decided at any width, without the levels of the lattice: those of two processes, and those of
-- which each comparison names one process, by their terms.
use Rattle.std.specs.Prelude.{⊤, ◌≡◌, ℕ, ◌+◌, ◌*◌, ◌<◌, ◌≤◌, ◌⊎◌, Bool, true, false, cond, not, List, [], ◌∷◌, length}
use Rattle.def_model.specs.Events.{Computation}
use Rattle.def_model.specs.Observations.{Possibly}
use Rattle.def_model.specs.Predicates.{Sign, Term, Number, Variable, Times, Predicate, Always, Never, Compare, Not, And, Or, Recorded, test_of}

-- ---- of two processes

-- the term names no process but p and q
abbrev pub NamesPair : ℕ → ℕ → Term → Type 0
NamesPair p q (Number n) = ⊤
NamesPair p q (Variable r v) = (r ≡ p) ⊎ (r ≡ q)
NamesPair p q (Times n r v) = (r ≡ p) ⊎ (r ≡ q)

-- no term of a sum names another
abbrev pub NamePair : ℕ → ℕ → List (Sign × Term) → Type 0
NamePair p q [] = ⊤
NamePair p q ((sign, term) ∷ rest) = NamesPair p q term × NamePair p q rest

-- no comparison of a predicate does
abbrev pub NamesOnly : ℕ → ℕ → Predicate → Type 0
NamesOnly p q Always = ⊤
NamesOnly p q Never = ⊤
NamesOnly p q (Compare left comparison right) = NamePair p q left × NamePair p q right
NamesOnly p q (Not inner) = NamesOnly p q inner
NamesOnly p q (And left right) = NamesOnly p q left × NamesOnly p q right
NamesOnly p q (Or left right) = NamesOnly p q left × NamesOnly p q right

-- The predicate is of two: there are two processes, and it names no other. It may name one of them, or none.
abbrev pub IsOfTwo : Computation → Predicate → Type 0
IsOfTwo c predicate = (p : ℕ) × (q : ℕ) × (p < q) × (q < length c) × NamesOnly p q predicate

-- ---- of terms

-- the term names no process but p
abbrev pub NamesAlone : ℕ → Term → Type 0
NamesAlone p (Number n) = ⊤
NamesAlone p (Variable q v) = q ≡ p
NamesAlone p (Times n q v) = q ≡ p

-- no term of a sum names another
abbrev pub NameAlone : ℕ → List (Sign × Term) → Type 0
NameAlone p [] = ⊤
NameAlone p ((sign, term) ∷ rest) = NamesAlone p term × NameAlone p rest

-- the two sums of a comparison name one process at most
abbrev pub NameOne : List (Sign × Term) → List (Sign × Term) → Type 0
NameOne left right = (p : ℕ) × NameAlone p left × NameAlone p right

-- each comparison names one process at most
abbrev pub IsLocal : Predicate → Type 0
IsLocal Always = ⊤
IsLocal Never = ⊤
IsLocal (Compare left comparison right) = NameOne left right
IsLocal (Not inner) = IsLocal inner
IsLocal (And left right) = IsLocal left × IsLocal right
IsLocal (Or left right) = IsLocal left × IsLocal right

-- How many terms a predicate, or its opposite where it is negated, has as an `or` of terms, each of which is an `and`
-- of comparisons: one for a comparison or a constant, the sum of both at an `or`, the product of both at an `and`.
abbrev pub term_count : (negated : Bool) → Predicate → ℕ
term_count negated Always = 1
term_count negated Never = 1
term_count negated (Compare left comparison right) = 1
term_count negated (Not inner) = term_count (not negated) inner
term_count negated (And left right) =
    cond negated (term_count negated left + term_count negated right)
    (term_count negated left * term_count negated right)
term_count negated (Or left right) =
    cond negated (term_count negated left * term_count negated right)
    (term_count negated left + term_count negated right)

-- how many terms a predicate may have that is answered by its terms
abbrev pub term_limit : ℕ
term_limit = 4096

-- each comparison names one process at most, and there are no more terms than may be
abbrev pub HasFewTerms : Predicate → Type 0
HasFewTerms predicate = IsLocal predicate × (term_count false predicate ≤ term_limit)

-- the predicate, or its opposite where it is negated, is an `or` of comparisons and constants
abbrev pub IsOr : (negated : Bool) → Predicate → Type 0
IsOr negated Always = ⊤
IsOr negated Never = ⊤
IsOr negated (Compare left comparison right) = ⊤
IsOr negated (Not inner) = IsOr (not negated) inner
IsOr negated (And left right) = (negated ≡ true) × IsOr negated left × IsOr negated right
IsOr negated (Or left right) = (negated ≡ false) × IsOr negated left × IsOr negated right

-- Terms decide Definitely of a predicate that has few of them: if no consistent cut satisfies any, if there is a single
-- one, or if each is a comparison, as those of an `or` of comparisons are.
abbrev pub IsDecidedByTerms : Recorded → Predicate → Type 0
IsDecidedByTerms r predicate =
    HasFewTerms predicate
    × ((¬ Possibly r.events (test_of r predicate)) ⊎ ((term_count false predicate ≡ 1) ⊎ IsOr false predicate))

-- ---- decided

-- Possibly of the predicate is decided at any width
abbrev pub DecidesPossibly : Recorded → Predicate → Type 0
DecidesPossibly r predicate = IsOfTwo r.events predicate ⊎ HasFewTerms predicate

-- Definitely of the predicate is decided at any width
abbrev pub DecidesDefinitely : Recorded → Predicate → Type 0
DecidesDefinitely r predicate = IsOfTwo r.events predicate ⊎ IsDecidedByTerms r predicate
