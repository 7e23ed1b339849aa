-- What terms hold, and what excluded ones don't.
use Rattle.std.proofs.Common.{◌≡◌, ◌≢◌, ◌⊎◌, inl, inr, ℕ, zero, suc, ◌+◌, ◌<◌, ◌≤◌, List, [], ◌∷◌, ◌++◌, All, length, get_or, sum, refl, sym, ap, ◌∙◌, subst, ℤ, pos, ◌<ℤ◌, ◌≤ℤ◌, negsuc, arith}
use Rattle.std.proofs.lemmas.Bool.{false≢true}
use Rattle.std.proofs.lemmas.Int.{ints}
use Rattle.std.specs.Prelude.{Bool, true, false, ◌&&◌, ◌||◌, Contains}
use Rattle.def_model.specs.Cuts.{FitsProcesses, IsConsistent, empty_cut, one_less, one_more}
use Rattle.def_model.specs.Lattice.{IsWithin}
use Rattle.def_model.specs.Order.{HasNoCycle}
use Rattle.def_model.specs.Predicates.{Sign, Term, Recorded}
use Rattle.def_model.proofs.Counts.{empty_at, length_less, more_less, sum_less}
use Rattle.def_model.proofs.Steps.{empty_consistent}
use Rattle.def_model.proofs.Undoing.{step_down}
use Rattle.def_wide.specs.Sums.{IsExcluded, IsInSlice, IsLocalLiteral, IsOnlySum, RisesByOne, excess_of}
use Rattle.def_wide.specs.Terms.{Literal, literal_holds, some_term_holds, term_holds}
use Rattle.wide_sums.proofs.ByExcess.{excluded_holds}

-- ---- lists

pub first_contained : {A : Type 0} (x : A) (xs : List A) → Contains (x ∷ xs) x
first_contained x xs = (0, omega arith, refl)

pub later_contained : {A : Type 0} (x y : A) (xs : List A) → Contains xs y → Contains (x ∷ xs) y
later_contained x y xs (k, lt, is) = (suc k, omega arith, is)

pub contained : {A : Type 0} (x y : A) (xs : List A) → Contains (x ∷ xs) y → (y ≡ x) ⊎ Contains xs y
contained x y xs (zero, lt, is) = inl (sym is)
contained x y xs (suc k, lt, is) = inr (k, omega arith, is)

-- ---- terms

both_left : (a b : Bool) → (a && b) ≡ true → a ≡ true
both_left true b all = refl
both_left false b all = absurd (false≢true all)

both_right : (a b : Bool) → (a && b) ≡ true → b ≡ true
both_right true b all = all
both_right false b all = absurd (false≢true all)

-- a term holds exactly if each of its comparisons does
pub each_holds : (r : Recorded) (term : List Literal) (cut : List ℕ) → term_holds r term cut ≡ true → (l : Literal)
    → Contains term l → literal_holds r l cut ≡ true
each_holds r [] cut holds l (k, lt, is) = absurd (omega arith)
each_holds r (m ∷ term) cut holds l at =
    elim (contained m l term at) [
      | inl same ↦
          subst (λ (x : Literal). literal_holds r x cut ≡ true) (sym same)
          (both_left (literal_holds r m cut) (term_holds r term cut) holds)
      | inr later ↦
          each_holds r term cut (both_right (literal_holds r m cut) (term_holds r term cut) holds) l later
    ]

pub holds_if_each : (r : Recorded) (term : List Literal) (cut : List ℕ)
    → ((l : Literal) → Contains term l → literal_holds r l cut ≡ true) → term_holds r term cut ≡ true
holds_if_each r [] cut each = refl
holds_if_each r (m ∷ term) cut each =
    ap (λ (b : Bool). b && term_holds r term cut) (each m (first_contained m term))
    ∙ holds_if_each r term cut (λ l at. each l (later_contained m l term at))

-- a cut at which a term holds is one of its slice
pub in_slice : (r : Recorded) (term : List Literal) (cut : List ℕ) → IsConsistent r.events cut
    → term_holds r term cut ≡ true → IsInSlice r term cut
in_slice r term cut ok holds = record {
  consistent = ok;
  local = λ l at local. each_holds r term cut holds l at;
}

-- no consistent cut satisfies a term that is excluded
pub none_holds : (r : Recorded) (term : List Literal) → IsExcluded r term → (cut : List ℕ) → IsConsistent r.events cut
    → ¬ (term_holds r term cut ≡ true)
none_holds r term (inl empty) cut ok holds = empty cut (in_slice r term cut ok holds)
none_holds r term (inr (l, at, several, excluded)) cut ok holds =
    excluded_holds (IsInSlice r term) r l excluded cut (in_slice r term cut ok holds)
    (each_holds r term cut holds l at)

-- ---- several terms

either_true : (a b : Bool) → (a || b) ≡ true → (a ≡ true) ⊎ (b ≡ true)
either_true true b h = inl refl
either_true false b h = inr h

true_right : (a b : Bool) → b ≡ true → (a || b) ≡ true
true_right true b h = refl
true_right false b h = h

-- some of them holds exactly if one does
pub some_holding : (r : Recorded) (terms : List (List Literal)) (cut : List ℕ) → some_term_holds r terms cut ≡ true
    → (term : List Literal) × Contains terms term × (term_holds r term cut ≡ true)
some_holding r [] cut holds = absurd (false≢true holds)
some_holding r (term ∷ terms) cut holds =
    elim (either_true (term_holds r term cut) (some_term_holds r terms cut) holds) [
      | inl here ↦ (term, first_contained term terms, here)
      | inr later ↦
          let found = some_holding r terms cut later in
          (found.0, later_contained term found.0 terms found.1, found.2)
    ]

pub some_holds : (r : Recorded) (terms : List (List Literal)) (cut : List ℕ) (term : List Literal)
    → Contains terms term → term_holds r term cut ≡ true → some_term_holds r terms cut ≡ true
some_holds r [] cut term (k, lt, is) holds = absurd (omega arith)
some_holds r (first ∷ terms) cut term at holds =
    elim (contained first term terms at) [
      | inl same ↦
          ap (λ (b : Bool). b || some_term_holds r terms cut)
          (subst (λ (t : List Literal). term_holds r t cut ≡ true) same holds)
      | inr later ↦
          true_right (term_holds r first cut) (some_term_holds r terms cut) (some_holds r terms cut term later holds)
    ]

-- ---- the only sum

-- each comparison of a term is one of a process, or the only one that isn't
pub local_or_only : (term : List Literal) (l : Literal) → IsOnlySum term l → (m : Literal) → Contains term m
    → IsLocalLiteral m ⊎ (m ≡ l)
local_or_only term l (before, after, is, first, several, last) m at =
    go before first (subst (λ (t : List Literal). Contains t m) is at)
  where
    in_list : (xs : List Literal) → All IsLocalLiteral xs → Contains xs m → IsLocalLiteral m
    in_list xs all (k, lt, same) = subst IsLocalLiteral same (all k m lt)

    tail : (x : Literal) (xs : List Literal) → All IsLocalLiteral (x ∷ xs) → All IsLocalLiteral xs
    tail x xs all k d lt = all (suc k) d (omega arith)

    go : (xs : List Literal) → All IsLocalLiteral xs → Contains (xs ++ l ∷ after) m → IsLocalLiteral m ⊎ (m ≡ l)
    go [] all there =
        elim (contained l m after there) [ inl same ↦ inr same | inr later ↦ inl (in_list after last later) ]
    go (x ∷ xs) all there =
        elim (contained x m (xs ++ l ∷ after) there) [
          | inl same ↦ inl (subst IsLocalLiteral (sym same) (all 0 x (omega arith)))
          | inr later ↦ go xs (tail x xs all) later
        ]

-- ---- small steps

pub zero_or_more : (x : ℤ) → pos 0 ≤ℤ x → (x ≡ pos 0) ⊎ (pos 1 ≤ℤ x)
zero_or_more (pos zero) le = inl refl
zero_or_more (pos (suc k)) le = inr (omega (arith, ints))
zero_or_more (negsuc k) le = absurd (omega (arith, ints, le))

-- With an excess that is below 0 at the empty cut, and that no event raises by more than 1, an event of a cut can be
-- undone at which it is more than 0, and it is 0 or more then.
pub one_back : (r : Recorded) (left right : List (Sign × Term)) → HasNoCycle r.events → RisesByOne r left right
    → excess_of r left right (empty_cut r.events) <ℤ pos 0 → (cut : List ℕ) → IsConsistent r.events cut
    → pos 1 ≤ℤ excess_of r left right cut
    → (p : ℕ) × (0 < get_or cut p 0) × IsConsistent r.events (one_less cut p)
    × (pos 0 ≤ℤ excess_of r left right (one_less cut p))
one_back r left right acyclic rises below cut ok more =
    let within : IsWithin (empty_cut r.events) cut =
    λ p. (let none : get_or (empty_cut r.events) p 0 ≡ 0 = empty_at r.events p in omega arith) in
    let apart : empty_cut r.events ≢ cut =
    λ same. omega (arith, ints, subst (λ (c : List ℕ). excess_of r left right c <ℤ pos 0) same below, more) in
    let step = step_down r.events acyclic (empty_cut r.events) cut (empty_consistent r.events) ok within apart in
    let p : ℕ = step.0 in
    let some : 0 < get_or cut p 0 = omega (arith, step.2) in
    let back : one_more (one_less cut p) p ≡ cut = more_less cut p some in
    let there : p < length (one_less cut p) = omega (arith, length_less cut p, step.1) in
    let rise = rises (one_less cut p) p there
    (subst (λ (c : List ℕ). FitsProcesses r.events c) (sym back) ok.fits) in
    let same : excess_of r left right (one_more (one_less cut p) p) ≡ excess_of r left right cut =
    ap (λ (c : List ℕ). excess_of r left right c) back in
    (p, some, step.3, omega (arith, ints, rise, same, more))

-- so it is 0 at some cut if it is 0 or more at one
pub comes_to_zero : (r : Recorded) (left right : List (Sign × Term)) → HasNoCycle r.events → RisesByOne r left right
    → excess_of r left right (empty_cut r.events) <ℤ pos 0 → (n : ℕ) (cut : List ℕ) → sum cut ≤ n
    → IsConsistent r.events cut → pos 0 ≤ℤ excess_of r left right cut
    → (found : List ℕ) × IsConsistent r.events found × (excess_of r left right found ≡ pos 0)
comes_to_zero r left right acyclic rises below zero cut few ok above =
    elim (zero_or_more (excess_of r left right cut) above) [
      | inl is ↦ (cut, ok, is)
      | inr more ↦
          let back = one_back r left right acyclic rises below cut ok more in
          let less : sum (one_less cut back.0) + 1 ≡ sum cut = sum_less cut back.0 back.1 in
          absurd (omega arith)
    ]
comes_to_zero r left right acyclic rises below (suc n) cut few ok above =
    elim (zero_or_more (excess_of r left right cut) above) [
      | inl is ↦ (cut, ok, is)
      | inr more ↦
          let back = one_back r left right acyclic rises below cut ok more in
          let less : sum (one_less cut back.0) + 1 ≡ sum cut = sum_less cut back.0 back.1 in
          comes_to_zero r left right acyclic rises below n (one_less cut back.0) (omega arith) back.2 back.3
    ]
