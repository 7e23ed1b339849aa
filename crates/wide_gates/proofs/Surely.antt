-- Where predicates surely hold, by the greatest excess of their comparisons.
use Rattle.std.proofs.Common.{cond, not, ◌≡◌, ◌↔◌, inl, inr, ◌⊎◌, ℕ, ◌<◌, Bool, true, false, ◌&&◌, ◌||◌, IsTrue, List, length, get_or, ℤ, pos, ◌-ℤ◌, ◌≤ℤ◌, sym, ◌∙◌, subst, arith}
use Rattle.std.proofs.lemmas.Bool.{and_from, and_parts, or_cases, or_left, or_right}
use Rattle.std.proofs.lemmas.Int.{ints}
use Rattle.std.specs.Prelude.{Vec}
use Rattle.std.specs.Global.{Global}
use Rattle.def_model.specs.Cuts.{FitsProcesses}
use Rattle.def_model.specs.Predicates.{Sign, Term, Comparison, Equals, Differs, IsLess, IsAtMost, IsGreater, IsAtLeast, Predicate, Compare, Not, And, Or, Recorded}
use Rattle.def_wide.specs.Gates.{IsSurely}
use Rattle.def_wide.specs.Sums.{IsExcludedAs, excess, excess_of}
use Rattle.def_wide.specs.Terms.{Literal, opposite}
use Rattle.wide_gates.proofs.Beside.{around}
use Rattle.wide_gates.specs.Excluded.{AreMostExcess, ExcludedBy, IsMostExcess, IsOfAbove, IsOfBelow}
use Rattle.wide_gates.specs.Greatest.{AreMost, IsMost}
use Rattle.wide_gates.specs.Spots.{IsAt, event_of}
use Rattle.wide_sums.specs.Values.{IsDifference}
use Rattle.wide_gates.specs.Sure.{AreExcluded, AreExcludedAs, AreJoined, AreWhere}
use Rattle.wide_gates.specs.declared.spot.Spot.{Spot}

-- ---- comparisons

-- the greatest sum of what the processes add is the greatest excess
pub most_excess : (r : Recorded) (spots : List Spot) (left right : List (Sign × Term)) (values : List (Vec ℤ Global))
    (sums : List ℤ) → IsDifference r left right values → AreMost r.events spots values sums
    → AreMostExcess r spots left right sums
most_excess r spots left right values sums is most = record {
  one_each = most.one_each;
  each = λ k d lt. at (get_or spots k d) (get_or sums k (pos 0)) (most.each k d lt);
}
  where
    at : (spot : Spot) (x : ℤ) → IsMost (IsAt r.events spot) values x
        → IsMostExcess (IsAt r.events spot) r left right x
    at spot x of = record {
      counts = of.counts;
      inside = of.inside;
      is = sym (is of.counts (fits of.counts of.inside)) ∙ of.is;
      most = λ other inside. subst (λ (z : ℤ). z ≤ℤ x) (is other (fits other inside)) (of.most other inside);
    }
      where
        fits : (counts : List ℕ) → IsAt r.events spot counts → FitsProcesses r.events counts
        fits counts inside = (around r.events spot.after (event_of spot) counts inside).fits

turned : (r : Recorded) (left right : List (Sign × Term)) (counts : List ℕ)
    → excess_of r right left counts ≡ pos 0 -ℤ excess_of r left right counts
turned r left right counts = omega (arith, ints)

module _ (InSet : List ℕ → Type 0) (r : Recorded) (l : Literal) (above below : ℤ)
    (up : IsMostExcess InSet r l.left l.right above) (down : IsMostExcess InSet r l.right l.left below) where
  at_most : (cut : List ℕ) → InSet cut → excess r l cut ≤ℤ above
  at_most cut inside = up.most cut inside

  at_least : (cut : List ℕ) → InSet cut → (pos 0 -ℤ below) ≤ℤ excess r l cut
  at_least cut inside =
      let e : excess_of r l.right l.left cut ≤ℤ below = down.most cut inside in
      let t : excess_of r l.right l.left cut ≡ pos 0 -ℤ excess r l cut = turned r l.left l.right cut in
      omega (arith, ints, e, t)

  above_is : excess r l up.counts ≡ above
  above_is = up.is

  below_is : pos 0 -ℤ excess r l down.counts ≡ below
  below_is = sym (turned r l.left l.right down.counts) ∙ down.is

  by_excess : (comparison : Comparison) → ExcludedBy comparison above below → IsExcludedAs comparison InSet r l
  by_excess Equals (inl less) = inl (λ cut inside. omega (arith, ints, at_most cut inside, less))
  by_excess Equals (inr less) = inr (λ cut inside. omega (arith, ints, at_least cut inside, less))
  by_excess Differs (no_more, no_less) =
      λ cut inside. omega (arith, ints, at_most cut inside, at_least cut inside, no_more, no_less)
  by_excess IsLess no_less = λ cut inside. omega (arith, ints, at_least cut inside, no_less)
  by_excess IsAtMost less = λ cut inside. omega (arith, ints, at_least cut inside, less)
  by_excess IsGreater no_more = λ cut inside. omega (arith, ints, at_most cut inside, no_more)
  by_excess IsAtLeast less = λ cut inside. omega (arith, ints, at_most cut inside, less)

  excess_by : (comparison : Comparison) → IsExcludedAs comparison InSet r l → ExcludedBy comparison above below
  excess_by Equals (inl each) = inl (omega (arith, ints, each up.counts up.inside, above_is))
  excess_by Equals (inr each) = inr (omega (arith, ints, each down.counts down.inside, below_is))
  excess_by Differs each = (
    omega (arith, ints, each up.counts up.inside, above_is),
    omega (arith, ints, each down.counts down.inside, below_is),
  )
  excess_by IsLess each = omega (arith, ints, each down.counts down.inside, below_is)
  excess_by IsAtMost each = omega (arith, ints, each down.counts down.inside, below_is)
  excess_by IsGreater each = omega (arith, ints, each up.counts up.inside, above_is)
  excess_by IsAtLeast each = omega (arith, ints, each up.counts up.inside, above_is)

-- by one of the two excesses alone
module _ (InSet : List ℕ → Type 0) (r : Recorded) (l : Literal) (x : ℤ) where
  of_above : IsMostExcess InSet r l.left l.right x → (by : Comparison) → IsOfAbove by
      → ExcludedBy by x x ↔ IsExcludedAs by InSet r l
  of_above up IsGreater is = (
    λ no_more. λ cut inside. (let e : excess r l cut ≤ℤ x = up.most cut inside in omega (arith, ints, e, no_more)),
    λ each. (let e : excess r l up.counts ≡ x = up.is in omega (arith, ints, each up.counts up.inside, e)),
  )
  of_above up IsAtLeast is = (
    λ less. λ cut inside. (let e : excess r l cut ≤ℤ x = up.most cut inside in omega (arith, ints, e, less)),
    λ each. (let e : excess r l up.counts ≡ x = up.is in omega (arith, ints, each up.counts up.inside, e)),
  )
  of_above up Equals is = absurd is
  of_above up Differs is = absurd is
  of_above up IsLess is = absurd is
  of_above up IsAtMost is = absurd is

  low : IsMostExcess InSet r l.right l.left x → (cut : List ℕ) → InSet cut → (pos 0 -ℤ x) ≤ℤ excess r l cut
  low down cut inside =
      let e : excess_of r l.right l.left cut ≤ℤ x = down.most cut inside in
      let t : excess_of r l.right l.left cut ≡ pos 0 -ℤ excess r l cut = turned r l.left l.right cut in
      omega (arith, ints, e, t)

  lowest : (down : IsMostExcess InSet r l.right l.left x) → pos 0 -ℤ excess r l down.counts ≡ x
  lowest down = sym (turned r l.left l.right down.counts) ∙ down.is

  of_below : IsMostExcess InSet r l.right l.left x → (by : Comparison) → IsOfBelow by
      → ExcludedBy by x x ↔ IsExcludedAs by InSet r l
  of_below down IsLess is = (
    λ no_less. λ cut inside. omega (arith, ints, low down cut inside, no_less),
    λ each. omega (arith, ints, each down.counts down.inside, lowest down),
  )
  of_below down IsAtMost is = (
    λ less. λ cut inside. omega (arith, ints, low down cut inside, less),
    λ each. omega (arith, ints, each down.counts down.inside, lowest down),
  )
  of_below down Equals is = absurd is
  of_below down Differs is = absurd is
  of_below down IsGreater is = absurd is
  of_below down IsAtLeast is = absurd is

module _ (r : Recorded) (spots : List Spot) (left right : List (Sign × Term)) (by : Comparison) (flags : List Bool)
  where
    -- by what the numbers say at each spot
    excluded_by : (above below : List ℤ) → length above ≡ length spots → AreExcluded by above below flags
        → ((k : ℕ) (d : Spot) → k < length spots → ExcludedBy by (get_or above k (pos 0)) (get_or below k (pos 0))
        ↔ IsExcludedAs by (IsAt r.events (get_or spots k d)) r
        (record { left = left; comparison = by; right = right }))
        → AreExcludedAs r spots by left right flags
    excluded_by above below many are at = record {
      one_each = are.one_each ∙ many;
      each = λ k d lt. (
        λ is. (at k d lt).0 ((are.each k (omega (arith, lt, many))).0 is),
        λ is. (are.each k (omega (arith, lt, many))).1 ((at k d lt).1 is),
      );
    }

    pub excluded_above : (above : List ℤ) → AreMostExcess r spots left right above → AreExcluded by above above flags
        → IsOfAbove by → AreExcludedAs r spots by left right flags
    excluded_above above up are is =
        excluded_by above above up.one_each are
        (λ k d lt. of_above (IsAt r.events (get_or spots k d)) r
        (record { left = left; comparison = by; right = right }) (get_or above k (pos 0)) (up.each k d lt) by is)

    pub excluded_below : (below : List ℤ) → AreMostExcess r spots right left below → AreExcluded by below below flags
        → IsOfBelow by → AreExcludedAs r spots by left right flags
    excluded_below below down are is =
        excluded_by below below down.one_each are
        (λ k d lt. of_below (IsAt r.events (get_or spots k d)) r
        (record { left = left; comparison = by; right = right }) (get_or below k (pos 0)) (down.each k d lt) by is)

    pub excluded_both : (above below : List ℤ) → AreMostExcess r spots left right above
        → AreMostExcess r spots right left below → AreExcluded by above below flags
        → AreExcludedAs r spots by left right flags
    excluded_both above below up down are =
        excluded_by above below up.one_each are
        (λ k d lt. (
          by_excess (IsAt r.events (get_or spots k d)) r (record { left = left; comparison = by; right = right })
              (get_or above k (pos 0)) (get_or below k (pos 0)) (up.each k d lt) (down.each k d lt) by,
          excess_by (IsAt r.events (get_or spots k d)) r (record { left = left; comparison = by; right = right })
              (get_or above k (pos 0)) (get_or below k (pos 0)) (up.each k d lt) (down.each k d lt) by,
        ))

-- whether a comparison is excluded doesn't depend on the one in the record
as_other : (by one other : Comparison) (InSet : List ℕ → Type 0) (r : Recorded) (left right : List (Sign × Term))
    → IsExcludedAs by InSet r (record { left = left; comparison = one; right = right })
    → IsExcludedAs by InSet r (record { left = left; comparison = other; right = right })
as_other Equals one other InSet r left right is = is
as_other Differs one other InSet r left right is = is
as_other IsLess one other InSet r left right is = is
as_other IsAtMost one other InSet r left right is = is
as_other IsGreater one other InSet r left right is = is
as_other IsAtLeast one other InSet r left right is = is

-- a comparison surely has a value where the one for that value is excluded
pub where_compare : (value : Bool) (r : Recorded) (spots : List Spot) (left : List (Sign × Term))
    (comparison by : Comparison) (right : List (Sign × Term)) (flags : List Bool)
    → by ≡ cond value (opposite comparison) comparison → AreExcludedAs r spots by left right flags
    → AreWhere value r spots (Compare left comparison right) flags
where_compare value r spots left comparison by right flags is are = record {
  one_each = are.one_each;
  each = λ k d lt.
      subst
      (λ (other : Comparison). IsTrue (get_or flags k false)
      ↔ IsExcludedAs other (IsAt r.events (get_or spots k d)) r
      (record { left = left; comparison = comparison; right = right })) is (
        λ on. as_other by by comparison (IsAt r.events (get_or spots k d)) r left right ((are.each k d lt).0 on),
        λ on. (are.each k d lt).1 (as_other by comparison by (IsAt r.events (get_or spots k d)) r left right on),
      );
}

-- ---- their combinations

pub where_not : (value : Bool) (r : Recorded) (spots : List Spot) (inner : Predicate) (flags : List Bool)
    → AreWhere (not value) r spots inner flags → AreWhere value r spots (Not inner) flags
where_not value r spots inner flags are =
    record { one_each = are.one_each; each = λ k d lt. are.each k d lt }

both_of : (a b f : Bool) (P Q : Type 0) → f ≡ (a && b) → (IsTrue a ↔ P) → (IsTrue b ↔ Q) → IsTrue f ↔ (P × Q)
both_of a b f P Q is first second = (
  λ on. let w = and_parts a b (sym is ∙ on) in (first.0 w.0, second.0 w.1),
  λ on. is ∙ and_from a b (first.1 on.0) (second.1 on.1),
)

either_of : (a b f : Bool) (P Q : Type 0) → f ≡ (a || b) → (IsTrue a ↔ P) → (IsTrue b ↔ Q) → IsTrue f ↔ (P ⊎ Q)
either_of a b f P Q is first second = (λ on. to (or_cases a b (sym is ∙ on)), from)
  where
    to : (a ≡ true) ⊎ (b ≡ true) → P ⊎ Q
    to (inl on) = inl (first.0 on)
    to (inr on) = inr (second.0 on)

    from : P ⊎ Q → f ≡ true
    from (inl p) = is ∙ or_left a b (first.1 p)
    from (inr q) = is ∙ or_right a b (second.1 q)

module _ (r : Recorded) (spots : List Spot) (left right : Predicate) (first second made : List Bool) where
  pub where_and : (value : Bool) → AreWhere value r spots left first → AreWhere value r spots right second
      → AreJoined value first second made → AreWhere value r spots (And left right) made
  where_and true one two is = record {
    one_each = is.one_each ∙ one.one_each;
    each = λ k d lt.
        both_of (get_or first k false) (get_or second k false) (get_or made k false)
        (IsSurely true (IsAt r.events (get_or spots k d)) r left)
        (IsSurely true (IsAt r.events (get_or spots k d)) r right) (is.each k (omega (arith, lt, one.one_each)))
        (one.each k d lt) (two.each k d lt);
  }
  where_and false one two is = record {
    one_each = is.one_each ∙ one.one_each;
    each = λ k d lt.
        either_of (get_or first k false) (get_or second k false) (get_or made k false)
        (IsSurely false (IsAt r.events (get_or spots k d)) r left)
        (IsSurely false (IsAt r.events (get_or spots k d)) r right) (is.each k (omega (arith, lt, one.one_each)))
        (one.each k d lt) (two.each k d lt);
  }

  pub where_or : (value : Bool) → AreWhere value r spots left first → AreWhere value r spots right second
      → AreJoined (not value) first second made → AreWhere value r spots (Or left right) made
  where_or true one two is = record {
    one_each = is.one_each ∙ one.one_each;
    each = λ k d lt.
        either_of (get_or first k false) (get_or second k false) (get_or made k false)
        (IsSurely true (IsAt r.events (get_or spots k d)) r left)
        (IsSurely true (IsAt r.events (get_or spots k d)) r right) (is.each k (omega (arith, lt, one.one_each)))
        (one.each k d lt) (two.each k d lt);
  }
  where_or false one two is = record {
    one_each = is.one_each ∙ one.one_each;
    each = λ k d lt.
        both_of (get_or first k false) (get_or second k false) (get_or made k false)
        (IsSurely false (IsAt r.events (get_or spots k d)) r left)
        (IsSurely false (IsAt r.events (get_or spots k d)) r right) (is.each k (omega (arith, lt, one.one_each)))
        (one.each k d lt) (two.each k d lt);
  }
