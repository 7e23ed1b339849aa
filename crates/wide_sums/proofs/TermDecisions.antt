-- What a term comes to by its slice and its sums.
use Rattle.std.proofs.Common.{◌≡◌, inl, inr, ℕ, ◌≤◌, List, [], ◌∷◌, length, get_or, sum, refl, sym, ap, subst, ℤ, pos, ◌≤ℤ◌, ◌↔◌, arith}
use Rattle.std.proofs.lemmas.Int.{ints}
use Rattle.std.specs.Prelude.{Bool, true, Contains, IsTrue}
use Rattle.def_model.specs.Cuts.{IsConsistent}
use Rattle.def_model.specs.Order.{HasNoCycle}
use Rattle.def_model.specs.Predicates.{Comparison, Equals, Differs, IsLess, IsAtMost, IsGreater, IsAtLeast, Recorded}
use Rattle.def_wide.specs.Sums.{IsBySmallSteps, IsDecidedTerm, IsExcluded, IsInSlice, IsLeastOf, IsLocalLiteral, IsSolvedAs, excess}
use Rattle.def_wide.specs.Terms.{Literal, literal_holds, term_holds}
use Rattle.wide_conjunctions.specs.LeastCuts.{IsLeastGood}
use Rattle.wide_conjunctions.proofs.CutsInOrder.{one_least_good}
use Rattle.wide_slice.specs.Steps.{IsInside}
use Rattle.wide_sums.specs.Splits.{AreSums}
use Rattle.wide_sums.specs.TermVerdicts.{HasExcluded, HasNoExcluded, IsSliceFor, IsVerdictOf, IsVerdictOfOne}
use Rattle.wide_sums.specs.Verdicts.{AtSome, IsNotExcludedAs, IsNotSolvedEqual, IsSolvedEqual, never_above, never_below, at_least, by_steps, Relates}
use Rattle.wide_sums.specs.declared.verdict.Verdict.{Verdict}
use Rattle.wide_sums.specs.declared.verdict.Verdict.TheVariants.{Undecided, Unsatisfied, Satisfied}
use Rattle.wide_sums.proofs.ByExcess.{excluded_within, not_excluded, relates_holds}
use Rattle.wide_sums.proofs.Splitting.{in_sums, no_sums, one_sum, only_sum, some_sums, sums_in}
use Rattle.wide_sums.proofs.TermLaws.{comes_to_zero, contained, first_contained, holds_if_each, local_or_only}

-- a term of one comparison is that comparison
alone_is : (term : List Literal) (l : Literal) → Contains term l → length term ≡ 1 → term ≡ l ∷ []
alone_is [] l (k, lt, is) one = absurd (omega arith)
alone_is (m ∷ []) l at one =
    elim (contained m l [] at) [
      | inl same ↦ ap (λ (x : Literal). x ∷ []) (sym same)
      | inr (k, lt, is) ↦ absurd (omega arith)
    ]
alone_is (m ∷ n ∷ rest) l at one = absurd (omega (arith, one))

pub both_sides : (x : ℤ) → pos 0 ≤ℤ x → x ≤ℤ pos 0 → x ≡ pos 0
both_sides x low high = omega (arith, ints, low, high)

module _ (r : Recorded) (term : List Literal) (good : ℕ → ℕ → Bool) (least : List ℕ)
    (same : IsSliceFor r term good) (is_least : IsLeastGood r.events good least) where
  -- the least cut is one of the slice
  pub least_inside : IsInSlice r term least
  least_inside = (same least).0 (is_least.consistent, is_least.good_there)

  -- ---- no sum

  pub verdict_of_none : AreSums term [] → IsVerdictOf r term Satisfied
  verdict_of_none are = (
    inr (inl (no_sums term are)),
    (
      least,
      is_least.consistent,
      holds_if_each r term least (λ l at. least_inside.local l at (local_at l at)),
    ),
  )
    where
      local_at : (l : Literal) → Contains term l → IsLocalLiteral l
      local_at l (k, lt, is) = subst IsLocalLiteral is (no_sums term are k l lt)

  -- ---- several sums

  pub excluded_term : (sums : List Literal) → AreSums term sums → HasExcluded (IsInside r.events good) r sums
      → IsExcluded r term
  excluded_term sums are (l, at, excluded) =
      let w = sums_in term sums are l at in
      inr (
        l,
        w.0,
        w.1,
        excluded_within (IsInside r.events good) (IsInSlice r term) r l l.comparison (λ cut inside. (same cut).1 inside)
            excluded,
      )

  -- a term none of whose sums is excluded isn't
  not_excluded_term : (sums : List Literal) → AreSums term sums → HasNoExcluded (IsInside r.events good) r sums
      → ¬ IsExcluded r term
  not_excluded_term sums are none (inl empty) = empty least least_inside
  not_excluded_term sums are none (inr (l, at, several, excluded)) =
      not_excluded (IsInside r.events good) r l l.comparison (none l (in_sums term sums are l at several))
      (excluded_within (IsInSlice r term) (IsInside r.events good) r l l.comparison
      (λ cut inside. (same cut).0 inside) excluded)

  pub verdict_of_several : (l m : Literal) (rest : List Literal) → AreSums term (l ∷ m ∷ rest)
      → HasNoExcluded (IsInside r.events good) r (l ∷ m ∷ rest) → ¬ IsDecidedTerm r term
  verdict_of_several l m rest are none (inl excluded) = not_excluded_term (l ∷ m ∷ rest) are none excluded
  verdict_of_several l m rest are none (inr (inl local)) = some_sums term l (m ∷ rest) are local
  verdict_of_several l m rest are none (inr (inr (n, only, solved))) =
      let one : l ∷ m ∷ rest ≡ n ∷ [] = only_sum term (l ∷ m ∷ rest) n are only in
      absurd (cc)

  -- ---- one sum

  module _ (l : Literal) (are : AreSums term (l ∷ [])) (alone : Bool) (tells : IsTrue alone ↔ (length term ≡ 1))
      (acyclic : HasNoCycle r.events) where
    in_term : Contains term l × (¬ IsLocalLiteral l)
    in_term = sums_in term (l ∷ []) are l (first_contained l [])

    -- it is decided
    solved_as : (comparison : Comparison)
        → (comparison ≡ Equals → IsSolvedEqual (IsInside r.events good) r l least alone)
        → IsSolvedAs comparison (IsInSlice r term) r term l
    solved_as Equals solved = go (solved refl)
      where
        go : IsSolvedEqual (IsInside r.events good) r l least alone → IsSolvedAs Equals (IsInSlice r term) r term l
        go (never_above each) = inl (λ cut inside. each cut ((same cut).1 inside))
        go (never_below each) = inr (inl (λ cut inside. each cut ((same cut).1 inside)))
        go (at_least is) =
            inr (inr (inl (
              least,
              (least_inside, λ other inside. is_least.least other ((same other).1 inside).0 ((same other).1 inside).1),
              is,
            )))
        go (by_steps is steps) = inr (inr (inr (alone_is term l in_term.0 (tells.0 is), steps)))
    solved_as Differs solved = tt
    solved_as IsLess solved = tt
    solved_as IsAtMost solved = tt
    solved_as IsGreater solved = tt
    solved_as IsAtLeast solved = tt

    -- alone, each consistent cut is one of its slice
    pub alone_inside : alone ≡ true → (cut : List ℕ) → IsConsistent r.events cut → IsInside r.events good cut
    alone_inside is cut ok =
        (same cut).1 (record {
          consistent = ok;
          local = λ m at local. absurd (in_term.1 (subst IsLocalLiteral (only m at) local));
        })
      where
        only : (m : Literal) → Contains term m → m ≡ l
        only m at =
            let t : term ≡ l ∷ [] = alone_is term l in_term.0 (tells.0 is) in
            elim (contained l m [] (subst (λ (xs : List Literal). Contains xs m) t at)) [
              | inl e ↦ e
              | inr (k, lt, e) ↦ absurd (omega arith)
            ]

    -- some cut of the slice satisfies it
    steps_satisfy : alone ≡ true → IsBySmallSteps r l → IsNotExcludedAs Equals (IsInside r.events good) r l
        → AtSome (IsInside r.events good) r l (Relates Equals)
    steps_satisfy is (inl (below, rises)) (some, other) =
        let found = comes_to_zero r l.left l.right acyclic rises below (sum some.0) some.0 (omega arith) some.1.0
        some.2 in
        (found.0, alone_inside is found.0 found.1, found.2)
    steps_satisfy is (inr (above, falls)) (some, other) =
        let found = comes_to_zero r l.right l.left acyclic falls (omega (arith, ints, above)) (sum other.0) other.0
        (omega arith) other.1.0 (omega (arith, ints, other.2)) in
        (found.0, alone_inside is found.0 found.1, omega (arith, ints, found.2))

    some_relates : (comparison : Comparison) → IsNotExcludedAs comparison (IsInside r.events good) r l
        → (comparison ≡ Equals → IsSolvedEqual (IsInside r.events good) r l least alone)
        → AtSome (IsInside r.events good) r l (Relates comparison)
    some_relates Equals some solved = go (solved refl)
      where
        go : IsSolvedEqual (IsInside r.events good) r l least alone
            → AtSome (IsInside r.events good) r l (Relates Equals)
        go (never_above each) =
            (some.0.0, some.0.1, both_sides (excess r l some.0.0) some.0.2 (each some.0.0 some.0.1))
        go (never_below each) =
            (some.1.0, some.1.1, both_sides (excess r l some.1.0) (each some.1.0 some.1.1) some.1.2)
        go (at_least is) = (least, (is_least.consistent, is_least.good_there), is)
        go (by_steps is steps) = steps_satisfy is steps some
    some_relates Differs some solved = some
    some_relates IsLess some solved = some
    some_relates IsAtMost some solved = some
    some_relates IsGreater some solved = some
    some_relates IsAtLeast some solved = some

    -- where it holds in the slice the term holds
    pub term_holds_at : (cut : List ℕ) → IsInside r.events good cut → Relates l.comparison (excess r l cut)
        → term_holds r term cut ≡ true
    term_holds_at cut inside relates = holds_if_each r term cut each
      where
        each : (m : Literal) → Contains term m → literal_holds r m cut ≡ true
        each m at =
            elim (local_or_only term l (one_sum term l are) m at) [
              | inl local ↦ ((same cut).0 inside).local m at local
              | inr is ↦ subst (λ (x : Literal). literal_holds r x cut ≡ true) (sym is) (relates_holds r l cut relates)
            ]

    -- it isn't decided
    not_solved : l.comparison ≡ Equals → IsNotSolvedEqual (IsInside r.events good) r l least alone
        → ¬ IsSolvedAs l.comparison (IsInSlice r term) r term l
    not_solved equals not_so solved =
        go (subst (λ (v : Comparison). IsSolvedAs v (IsInSlice r term) r term l) equals solved)
      where
        go : ¬ IsSolvedAs Equals (IsInSlice r term) r term l
        go (inl each) =
            omega (arith, ints, not_so.above.2, each not_so.above.0 ((same not_so.above.0).0 not_so.above.1))
        go (inr (inl each)) =
            omega (arith, ints, not_so.below.2, each not_so.below.0 ((same not_so.below.0).0 not_so.below.1))
        go (inr (inr (inl (cut, of, is)))) =
            not_so.not_at_least (subst (λ (x : List ℕ). excess r l x ≡ pos 0) (one cut of) is)
          where
            one : (cut : List ℕ) → IsLeastOf (IsInSlice r term) cut → cut ≡ least
            one cut of =
                one_least_good r.events good cut least (record {
                  consistent = ((same cut).1 of.0).0;
                  good_there = ((same cut).1 of.0).1;
                  least = λ other ok goods. of.1 other ((same other).0 (ok, goods));
                }) is_least
        go (inr (inr (inr (is, steps)))) = not_so.not_by_steps (tells.1 (ap length is)) steps

    pub verdict_of_only : (verdict : Verdict)
        → IsVerdictOfOne (IsInside r.events good) r l least alone verdict → IsVerdictOf r term verdict
    verdict_of_only Undecided (some, equals, not_so) = go
      where
        none : HasNoExcluded (IsInside r.events good) r (l ∷ [])
        none m at =
            elim (contained l m [] at) [
              | inl is ↦
                  subst (λ (x : Literal). IsNotExcludedAs x.comparison (IsInside r.events good) r x) (sym is) some
              | inr (k, lt, e) ↦ absurd (omega arith)
            ]

        go : ¬ IsDecidedTerm r term
        go (inl excluded) = not_excluded_term (l ∷ []) are none excluded
        go (inr (inl local)) = some_sums term l [] are local
        go (inr (inr (m, only, solved))) =
            let one : l ∷ [] ≡ m ∷ [] = only_sum term (l ∷ []) m are only in
            let is : m ≡ l = cc in
            not_solved equals not_so
            (subst (λ (x : Literal). IsSolvedAs x.comparison (IsInSlice r term) r term x) is solved)
    verdict_of_only Unsatisfied excluded = excluded_term (l ∷ []) are (l, first_contained l [], excluded)
    verdict_of_only Satisfied (some, solved) =
        let found = some_relates l.comparison some solved in (
          inr (inr (l, one_sum term l are, solved_as l.comparison solved)),
          (found.0, found.1.0, term_holds_at found.0 found.1 found.2),
        )

-- ---- by how many sums there are

pub none_of : (xs : List Literal) → length xs ≡ 0 → xs ≡ []
none_of [] none = refl
none_of (x ∷ xs) none = absurd (omega (arith, none))

pub one_of : (xs : List Literal) (l : Literal) → length xs ≡ 1 → get_or xs 0 l ≡ l → xs ≡ l ∷ []
one_of [] l one is = absurd (omega (arith, one))
one_of (x ∷ []) l one is = ap (λ (y : Literal). y ∷ []) is
one_of (x ∷ y ∷ xs) l one is = absurd (omega (arith, one))

pub several_of : (r : Recorded) (term : List Literal) (good : ℕ → ℕ → Bool) (least : List ℕ) (xs : List Literal)
    → 2 ≤ length xs → IsSliceFor r term good → IsLeastGood r.events good least → AreSums term xs
    → HasNoExcluded (IsInside r.events good) r xs → ¬ IsDecidedTerm r term
several_of r term good least [] two same is_least are none = absurd (omega (arith, two))
several_of r term good least (l ∷ []) two same is_least are none = absurd (omega (arith, two))
several_of r term good least (l ∷ m ∷ rest) two same is_least are none =
    verdict_of_several r term good least same is_least l m rest are none
