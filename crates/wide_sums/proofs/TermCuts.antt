-- The lowest cut that satisfies a term, by its slice and its only sum.
use Rattle.std.proofs.Common.{◌≡◌, ◌≢◌, ◌⊎◌, inl, inr, ℕ, zero, suc, ◌+◌, ◌≤◌, List, [], ◌∷◌, length, get_or, sum, Option, Some, None, refl, sym, ap, ◌∙◌, subst, ℤ, pos, negsuc, ◌-ℤ◌, ◌<ℤ◌, ◌≤ℤ◌, ◌↔◌, arith}
use Rattle.std.proofs.lemmas.Bool.{eq-eqb, eqb-true}
use Rattle.std.proofs.lemmas.Int.{ints}
use Rattle.std.specs.Global.{Global}
use Rattle.std.specs.Prelude.{Bool, Contains, IsTrue, MatchOption, Vec, nat_eq}
use Rattle.def_model.specs.Cuts.{IsConsistent, empty_cut, one_less}
use Rattle.def_model.specs.Order.{HasNoCycle}
use Rattle.def_model.specs.Predicates.{Sign, Term, Comparison, Equals, Differs, IsLess, IsAtMost, IsGreater, IsAtLeast, Recorded}
use Rattle.def_model.proofs.Counts.{empty_at, less_le, sum_less}
use Rattle.def_model.proofs.Steps.{empty_consistent}
use Rattle.def_wide.specs.Heights.{IsLowerThan}
use Rattle.def_wide.specs.Sums.{IsDecidedTerm, IsExcluded, IsExcludedAs, IsInSlice, IsLocalLiteral, IsSolvedAs, RisesByOne, excess, excess_of}
use Rattle.def_wide.specs.Terms.{Literal}
use Rattle.wide_conjunctions.specs.LeastCuts.{HasNoGood, IsLeastGood}
use Rattle.wide_conjunctions.proofs.CutsInOrder.{one_least_good}
use Rattle.wide_reach.proofs.CountKeys.{not_lower, within_lower}
use Rattle.wide_reach.specs.Reaches.{HasNoneWith, HasTotal, IsLowestWith}
use Rattle.wide_slice.specs.Steps.{IsInside}
use Rattle.wide_sums.specs.FirstCuts.{HasExcess, IsLowestAs, IsLowestEqual, IsLowestIfAny, IsLowestOf, Satisfies, at_zero, up_to_zero, down_to_zero}
use Rattle.wide_sums.specs.Splits.{AreSums, IsSplit}
use Rattle.wide_sums.specs.TermVerdicts.{IsSliceFor}
use Rattle.wide_sums.specs.Values.{IsDifference}
use Rattle.wide_sums.specs.Verdicts.{IsSolvedEqual, never_above, never_below, at_least, by_steps, Relates}
use Rattle.wide_terms.specs.Rows.{term_allows}
use Rattle.wide_terms.specs.declared.row.TruthRow.{TruthRow}
use Rattle.wide_sums.proofs.ByExcess.{holds_relates}
use Rattle.wide_sums.proofs.LowestOf.{IsEitherOf, lowest_same}
use Rattle.wide_sums.proofs.Splitting.{no_sums, one_sum, only_sum, some_sums, sums_in}
use Rattle.wide_sums.proofs.TermDecisions.{alone_inside, both_sides, least_inside, term_holds_at}
use Rattle.wide_sums.proofs.TermLaws.{each_holds, first_contained, holds_if_each, in_slice, local_or_only, none_holds, one_back, zero_or_more}

-- ---- comparisons

apart_from_zero : (x : ℤ) → x ≢ pos 0 → (pos 1 ≤ℤ x) ⊎ (x ≤ℤ (pos 0 -ℤ pos 1))
apart_from_zero (pos zero) apart = absurd (apart refl)
apart_from_zero (pos (suc k)) apart = inl (omega (arith, ints))
apart_from_zero (negsuc k) apart = inr (omega (arith, ints))

-- sums differ where one is more than the other or less
pub differ_either : (r : Recorded) (good : ℕ → ℕ → Bool) (l : Literal)
    → IsEitherOf (length r.events) (HasExcess (IsInside r.events good) r l (λ x. pos 1 ≤ℤ x))
    (HasExcess (IsInside r.events good) r l (λ x. x ≤ℤ (pos 0 -ℤ pos 1)))
    (HasExcess (IsInside r.events good) r l (Relates Differs))
differ_either r good l = record {
  first = λ cut (inside, more). (inside, λ is. omega (arith, ints, more, is));
  second = λ cut (inside, less). (inside, λ is. omega (arith, ints, less, is));
  either = λ cut (inside, apart).
      elim (apart_from_zero (excess r l cut) apart) [ inl more ↦ inl (inside, more) | inr less ↦ inr (inside, less) ];
  long = λ cut (inside, apart). inside.0.fits.one_each;
}

-- the lowest cut at which the right sum less the left one reaches a total has an excess that is as far below 0
pub lowest_low : (r : Recorded) (good : ℕ → ℕ → Bool) (l : Literal) (values : List (Vec ℤ Global)) (total least : ℤ)
    → IsDifference r l.right l.left values → total ≡ least → (found : Option (List ℕ))
    → MatchOption found (HasNoneWith r.events good values total) (IsLowestWith r.events good values total)
    → IsLowestIfAny (HasExcess (IsInside r.events good) r l (λ x. x ≤ℤ (pos 0 -ℤ least))) found
lowest_low r good l values total least difference is found lowest =
    lowest_same (HasTotal r.events good values total)
    (HasExcess (IsInside r.events good) r l (λ x. x ≤ℤ (pos 0 -ℤ least)))
    (λ cut (within, more). (within, omega (arith, ints, more, is, difference cut within.0.fits)))
    (λ cut (within, less). (within, omega (arith, ints, less, is, difference cut within.0.fits))) found
    (go found lowest)
  where
    go : (found : Option (List ℕ))
        → MatchOption found (HasNoneWith r.events good values total) (IsLowestWith r.events good values total)
        → IsLowestIfAny (HasTotal r.events good values total) found
    go None none = none
    go (Some cut) first = record { wanted = first.has; lowest = first.lowest }

-- ---- small steps

-- Of the cuts with an excess of 0 or more the lowest one has 0, if the excess is below 0 at the empty cut and no event
-- adds more than 1: it would be 0 or more with an event less, too.
lowest_is_zero : (InSlice : List ℕ → Type 0) (r : Recorded) (left right : List (Sign × Term)) → HasNoCycle r.events
    → RisesByOne r left right → excess_of r left right (empty_cut r.events) <ℤ pos 0
    → ((cut : List ℕ) → IsConsistent r.events cut → InSlice cut) → (cut : List ℕ) → IsConsistent r.events cut
    → pos 0 ≤ℤ excess_of r left right cut
    → ((other : List ℕ) → InSlice other → pos 0 ≤ℤ excess_of r left right other → ¬ (other ≡ cut)
    → IsLowerThan cut other)
    → excess_of r left right cut ≡ pos 0
lowest_is_zero InSlice r left right acyclic rises below all cut ok above lowest =
    elim (zero_or_more (excess_of r left right cut) above) [
      | inl is ↦ is
      | inr more ↦
          let back = one_back r left right acyclic rises below cut ok more in
          let less : sum (one_less cut back.0) + 1 ≡ sum cut = sum_less cut back.0 back.1 in
          absurd (not_lower (one_less cut back.0) cut (λ q. less_le cut back.0 q back.1)
          (lowest (one_less cut back.0) (all (one_less cut back.0) back.2) back.3
          (λ same. let s : sum (one_less cut back.0) ≡ sum cut = ap sum same in omega arith)))
    ]

-- ---- the slice

-- the counts that the rows allow are those of the term's slice
pub slice_for : (r : Recorded) (rows rows' : List TruthRow) (term : List Literal) (numbers numbers' : List ℕ)
    (sums : List Literal) → IsSplit r rows term numbers sums → rows' ≡ rows → numbers' ≡ numbers
    → IsSliceFor r term (term_allows rows' numbers')
slice_for r rows rows' term numbers numbers' sums split same_rows same_numbers =
    subst (λ (t : List TruthRow × List ℕ). IsSliceFor r term (term_allows t.0 t.1))
    (λ i. (sym same_rows i, sym same_numbers i)) split.good

module _ (r : Recorded) (term : List Literal) (good : ℕ → ℕ → Bool) (same : IsSliceFor r term good) where
  -- a cut that satisfies the term is one of its slice
  inside : (cut : List ℕ) → Satisfies r term cut → IsInside r.events good cut
  inside cut (ok, holds) = (same cut).1 (in_slice r term cut ok holds)

  -- the slice has no cut
  pub none_inside : HasNoGood r.events good → (cut : List ℕ) → ¬ Satisfies r term cut
  none_inside none cut there = let w = inside cut there in none cut w.0 w.1

  -- several sums are decided only if no cut satisfies
  pub none_of_several : (sums : List Literal) → 2 ≤ length sums → AreSums term sums → IsDecidedTerm r term
      → (cut : List ℕ) → ¬ Satisfies r term cut
  none_of_several sums two are (inl excluded) cut (ok, holds) = none_holds r term excluded cut ok holds
  none_of_several [] two are (inr (inl local)) cut there = omega (arith, two)
  none_of_several (l ∷ sums) two are (inr (inl local)) cut there = some_sums term l sums are local
  none_of_several sums two are (inr (inr (l, only, solved))) cut there =
      let one : length sums ≡ length (l ∷ []) = ap length (only_sum term sums l are only) in omega (arith, two, one)

  module _ (least : List ℕ) (is_least : IsLeastGood r.events good least) where
    -- the least cut of the slice is lower than each other one
    least_lower : (other : List ℕ) → IsInside r.events good other → ¬ (other ≡ least) → IsLowerThan least other
    least_lower other (ok, goods) apart =
        within_lower least other (is_least.consistent.fits.one_each ∙ sym ok.fits.one_each)
        (is_least.least other ok goods) apart

    -- ---- no sum

    pub lowest_of_none : AreSums term [] → IsLowestOf (Satisfies r term) least
    lowest_of_none are = record {
      wanted = (
        is_least.consistent,
        holds_if_each r term least (λ l at.
            (least_inside r term good least same is_least).local l at (local_at l at)),
      );
      lowest = λ other there apart. least_lower other (inside other there) apart;
    }
      where
        local_at : (l : Literal) → Contains term l → IsLocalLiteral l
        local_at l (k, lt, is) = subst IsLocalLiteral is (no_sums term are k l lt)

    -- ---- one sum

    module _ (l : Literal) (are : AreSums term (l ∷ [])) (acyclic : HasNoCycle r.events) where
      -- whether it is the whole term
      abbrev alone : Bool
      alone = nat_eq (length term) 1

      tells : IsTrue alone ↔ (length term ≡ 1)
      tells = (eqb-true (length term) 1, eq-eqb (length term) 1)

      -- a cut satisfies the term exactly if it is one of the slice and satisfies the comparison
      holds_to : (cut : List ℕ) → HasExcess (IsInside r.events good) r l (Relates l.comparison) cut
          → Satisfies r term cut
      holds_to cut (within, relates) = (
        within.0,
        term_holds_at r term good least same is_least l are alone tells acyclic cut within relates,
      )

      holds_from : (cut : List ℕ) → Satisfies r term cut
          → HasExcess (IsInside r.events good) r l (Relates l.comparison) cut
      holds_from cut there = (
        inside cut there,
        holds_relates r l cut
            (each_holds r term cut there.1 l (sums_in term (l ∷ []) are l (first_contained l [])).0),
      )

      -- ---- `==`

      module _ (equals : l.comparison ≡ Equals) where
        -- if it is excluded, it is less at each cut of the slice or greater
        solved_excluded : IsExcluded r term → IsSolvedEqual (IsInside r.events good) r l least alone
        solved_excluded (inl empty) = never_above (λ cut within. absurd (empty cut ((same cut).0 within)))
        solved_excluded (inr (m, at, several, excluded)) =
            elim (local_or_only term l (one_sum term l are) m at) [
              | inl local ↦ absurd (several local)
              | inr is ↦
                  go (subst (λ (v : Comparison). IsExcludedAs v (IsInSlice r term) r l) equals
                  (subst (λ (x : Literal). IsExcludedAs x.comparison (IsInSlice r term) r x) is excluded))
            ]
          where
            go : IsExcludedAs Equals (IsInSlice r term) r l → IsSolvedEqual (IsInside r.events good) r l least alone
            go (inl below) = never_above (λ cut within. omega (arith, ints, below cut ((same cut).0 within)))
            go (inr above) = never_below (λ cut within. omega (arith, ints, above cut ((same cut).0 within)))

        solved_as : IsSolvedAs Equals (IsInSlice r term) r term l
            → IsSolvedEqual (IsInside r.events good) r l least alone
        solved_as (inl each) = never_above (λ cut within. each cut ((same cut).0 within))
        solved_as (inr (inl each)) = never_below (λ cut within. each cut ((same cut).0 within))
        solved_as (inr (inr (inl (cut, of, is)))) =
            at_least (subst (λ (x : List ℕ). excess r l x ≡ pos 0)
            (one_least_good r.events good cut least (record {
              consistent = ((same cut).1 of.0).0;
              good_there = ((same cut).1 of.0).1;
              least = λ other ok goods. of.1 other ((same other).0 (ok, goods));
            }) is_least) is)
        solved_as (inr (inr (inr (is, steps)))) = by_steps (tells.1 (ap length is)) steps

        -- it is decided in one of four ways
        solved : IsDecidedTerm r term → IsSolvedEqual (IsInside r.events good) r l least alone
        solved (inl excluded) = solved_excluded excluded
        solved (inr (inl local)) = absurd (some_sums term l [] are local)
        solved (inr (inr (m, only, decided))) =
            let one : l ∷ [] ≡ m ∷ [] = only_sum term (l ∷ []) m are only in
            let is : m ≡ l = cc in
            solved_as (subst (λ (v : Comparison). IsSolvedAs v (IsInSlice r term) r term l) equals
            (subst (λ (x : Literal). IsSolvedAs x.comparison (IsInSlice r term) r term x) is decided))

        -- if the term is this comparison, the least cut of its slice is the empty one
        least_empty : alone ≡ Bool.true → least ≡ empty_cut r.events
        least_empty is =
            let none = empty_consistent r.events in
            one_least_good r.events good least (empty_cut r.events) is_least (record {
              consistent = none;
              good_there = (alone_inside r term good least same is_least l are alone tells acyclic is
                  (empty_cut r.events) none).1;
              least = λ other ok goods p.
                  let e : get_or (empty_cut r.events) p 0 ≡ 0 = empty_at r.events p in omega arith;
            })

        -- the lowest cut at which the excess has come up to 0 has 0
        zero_above : IsSolvedEqual (IsInside r.events good) r l least alone → excess r l least <ℤ pos 0
            → (cut : List ℕ) → IsLowestOf (HasExcess (IsInside r.events good) r l (λ x. pos 0 ≤ℤ x)) cut
            → excess r l cut ≡ pos 0
        zero_above (never_above each) low cut is =
            both_sides (excess r l cut) is.wanted.1 (each cut is.wanted.0)
        zero_above (never_below each) low cut is =
            absurd (omega (arith, ints, low, each least (is_least.consistent, is_least.good_there)))
        zero_above (at_least here) low cut is = absurd (omega (arith, ints, low, here))
        zero_above (by_steps all (inl (below, rises))) low cut is =
            lowest_is_zero (IsInside r.events good) r l.left l.right acyclic rises below
            (alone_inside r term good least same is_least l are alone tells acyclic all) cut is.wanted.0.0 is.wanted.1
            (λ other within above. is.lowest other (within, above))
        zero_above (by_steps all (inr (above, falls))) low cut is =
            absurd (omega (
              arith,
              ints,
              above,
              subst (λ (x : List ℕ). excess r l x <ℤ pos 0) (least_empty all) low,
            ))

        -- and so has the lowest one at which it has come down to 0
        zero_below : IsSolvedEqual (IsInside r.events good) r l least alone → pos 0 <ℤ excess r l least
            → (cut : List ℕ) → IsLowestOf (HasExcess (IsInside r.events good) r l (λ x. x ≤ℤ pos 0)) cut
            → excess r l cut ≡ pos 0
        zero_below (never_above each) high cut is =
            absurd (omega (arith, ints, high, each least (is_least.consistent, is_least.good_there)))
        zero_below (never_below each) high cut is =
            both_sides (excess r l cut) (each cut is.wanted.0) is.wanted.1
        zero_below (at_least here) high cut is = absurd (omega (arith, ints, high, here))
        zero_below (by_steps all (inl (below, rises))) high cut is =
            absurd (omega (
              arith,
              ints,
              below,
              subst (λ (x : List ℕ). pos 0 <ℤ excess r l x) (least_empty all) high,
            ))
        zero_below (by_steps all (inr (above, falls))) high cut is =
            let none = lowest_is_zero (IsInside r.events good) r l.right l.left acyclic falls
            (omega (arith, ints, above))
            (alone_inside r term good least same is_least l are alone tells acyclic all) cut is.wanted.0.0
            (omega (arith, ints, is.wanted.1))
            (λ other within low. is.lowest other (within, omega (arith, ints, low))) in
            omega (arith, ints, none)

        -- so what is found is the lowest cut at which the sums are equal
        lowest_equal : IsSolvedEqual (IsInside r.events good) r l least alone → (found : Option (List ℕ))
            → IsLowestEqual (IsInside r.events good) r l least found
            → IsLowestIfAny (HasExcess (IsInside r.events good) r l (Relates Equals)) found
        lowest_equal decided found (at_zero here is) =
            subst (λ (o : Option (List ℕ)). IsLowestIfAny (HasExcess (IsInside r.events good) r l (Relates Equals)) o)
            (sym is) (record {
              wanted = ((is_least.consistent, is_least.good_there), here);
              lowest = λ other there apart. least_lower other there.0 apart;
            })
        lowest_equal decided None (up_to_zero low none) = λ cut there. none cut (there.0, omega (arith, ints, there.1))
        lowest_equal decided (Some cut) (up_to_zero low is) = record {
          wanted = (is.wanted.0, zero_above decided low cut is);
          lowest = λ other there apart. is.lowest other (there.0, omega (arith, ints, there.1)) apart;
        }
        lowest_equal decided None (down_to_zero high none) =
            λ cut there. none cut (there.0, omega (arith, ints, there.1))
        lowest_equal decided (Some cut) (down_to_zero high is) = record {
          wanted = (is.wanted.0, zero_below decided high cut is);
          lowest = λ other there apart. is.lowest other (there.0, omega (arith, ints, there.1)) apart;
        }

      lowest_relating : IsDecidedTerm r term → (found : Option (List ℕ)) (comparison : Comparison)
          → l.comparison ≡ comparison → IsLowestAs comparison (IsInside r.events good) r l least found
          → IsLowestIfAny (HasExcess (IsInside r.events good) r l (Relates comparison)) found
      lowest_relating decided found Equals is lowest = lowest_equal is (solved is decided) found lowest
      lowest_relating decided found Differs is lowest = lowest
      lowest_relating decided found IsLess is lowest = lowest
      lowest_relating decided found IsAtMost is lowest = lowest
      lowest_relating decided found IsGreater is lowest = lowest
      lowest_relating decided found IsAtLeast is lowest = lowest

      -- what is found of the only sum is the lowest cut that satisfies the term
      pub lowest_of_only : IsDecidedTerm r term → (found : Option (List ℕ))
          → IsLowestAs l.comparison (IsInside r.events good) r l least found
          → IsLowestIfAny (Satisfies r term) found
      lowest_of_only decided found lowest =
          lowest_same (HasExcess (IsInside r.events good) r l (Relates l.comparison)) (Satisfies r term) holds_to
          holds_from found (lowest_relating decided found l.comparison refl lowest)
