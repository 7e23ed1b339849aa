-- Comparisons of the terms name no process that the predicate doesn't name.
use Rattle.std.proofs.Common.{◌<◌, ℕ, List, [], ◌∷◌, All, length, get_or}
use Rattle.std.specs.Prelude.{Bool, true, false, not}
use Rattle.std.proofs.lemmas.List.Elements.{All-append, All-cons, All-contains, All-get_or, All-nil}
use Rattle.std.proofs.lemmas.List.{get_or_default}
use Rattle.def_model.specs.Predicates.{Predicate, Always, Never, Compare, Not, And, Or}
use Rattle.def_wide.specs.Sums.{NameBelow, NamesNoOther}
use Rattle.def_wide.specs.Terms.{Literal, literal_of, terms_of}
use Rattle.wide_sums.specs.Splits.{AreSums}
use Rattle.wide_sums.proofs.Making.{of_products}
use Rattle.wide_sums.proofs.Splitting.{sums_in}

-- the sums of a comparison name no process but the first n
abbrev pub IsBelow : ℕ → Literal → Type 0
IsBelow n l = NameBelow n l.left × NameBelow n l.right

empty_below : (n : ℕ) → All (All (IsBelow n)) ([] ∷ [])
empty_below n = All-cons (All (IsBelow n)) [] [] (All-nil (IsBelow n)) (All-nil (All (IsBelow n)))

pub terms_below : (n : ℕ) (negated : Bool) (predicate : Predicate) → NamesNoOther n predicate
    → All (All (IsBelow n)) (terms_of negated predicate)
terms_below n true Always names = All-nil (All (IsBelow n))
terms_below n false Always names = empty_below n
terms_below n true Never names = empty_below n
terms_below n false Never names = All-nil (All (IsBelow n))
terms_below n negated (Compare left comparison right) names =
    All-cons (All (IsBelow n)) (literal_of negated left comparison right ∷ []) []
    (All-cons (IsBelow n) (literal_of negated left comparison right) [] names (All-nil (IsBelow n)))
    (All-nil (All (IsBelow n)))
terms_below n negated (Not inner) names = terms_below n (not negated) inner names
terms_below n true (And left right) names =
    All-append (All (IsBelow n)) (terms_of true left) (terms_of true right) (terms_below n true left names.0)
    (terms_below n true right names.1)
terms_below n false (And left right) names =
    of_products (IsBelow n) (terms_of false left) (terms_of false right) (terms_below n false left names.0)
    (terms_below n false right names.1)
terms_below n true (Or left right) names =
    of_products (IsBelow n) (terms_of true left) (terms_of true right) (terms_below n true left names.0)
    (terms_below n true right names.1)
terms_below n false (Or left right) names =
    All-append (All (IsBelow n)) (terms_of false left) (terms_of false right) (terms_below n false left names.0)
    (terms_below n false right names.1)

-- so neither do the sums of a term
pub sums_below : (n : ℕ) (predicate : Predicate) (i : ℕ) (sums : List Literal) → NamesNoOther n predicate
    → i < length (terms_of false predicate) → AreSums (get_or (terms_of false predicate) i []) sums
    → All (IsBelow n) sums
sums_below n predicate i sums names lt are =
    let term : List Literal = get_or (terms_of false predicate) i [] in
    let all : All (IsBelow n) term =
    All-get_or (All (IsBelow n)) (terms_of false predicate) i [] lt (terms_below n false predicate names) in
    λ k d within.
    let l : Literal = get_or sums k d in
    All-contains (IsBelow n) term l all (sums_in term sums are l (k, within, get_or_default sums k l d within)).0
