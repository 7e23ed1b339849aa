-- The sum at one spot more.
use Rattle.std.proofs.Common.{◌≡◌, ◌+◌, ◌*◌, ◌<◌, ◌≤◌, ◌∷◌, [], ◌++◌, ℕ, List, ℤ, pos, ◌+ℤ◌, ◌-ℤ◌, false, get_or, length, sym, ap, ◌∙◌, subst, arith, to_z, of_z}
use Rattle.std.specs.Int.{w128}
use Rattle.std.specs.Prelude.{Vec, unsigned_abs}
use Rattle.std.specs.Global.{Global}
use Rattle.std.proofs.lemmas.Int.{to_z-of_z}
use Rattle.std.proofs.lemmas.List.{get_or_default, length_push}
use Rattle.wide_slice.specs.Values.{number_at, value_limit}
use Rattle.wide_gates.specs.Greatest.{AreBoxSums, IsMost}
use Rattle.wide_gates.specs.Spots.{IsAt, event_of, own_count}
use Rattle.wide_gates.specs.declared.range.Range.{Range}
use Rattle.wide_gates.specs.declared.spot.Spot.{Spot}
use Rattle.wide_gates.proofs.Beside.{place_inside}
use Rattle.wide_gates.proofs.Products.{most_at_spot, row_small, small_at_spot}
use Rattle.wide_gates.proofs.Pushes.{each_push}
use Rattle.wide_gates.proofs.greatest.greatest_sums.Goals as goal
use Rattle.wide_gates.proofs.greatest.greatest_sums.Goals.{After-as_slice-row}

abbrev no_spot : Spot
no_spot = record { place = record { process = 0; number = 0 }; after = false }

of_boxes : (c : After-as_slice-row) → AreBoxSums c.args.boxes.now.boxes.items c.args.values.now
    (length c.args.values.now) c.in_ok-of_boxes.of_boxes.items
of_boxes c =
    subst
    (λ (boxes : List (Vec Range Global)). AreBoxSums boxes c.args.values.now (length c.args.values.now)
    c.in_ok-of_boxes.of_boxes.items)
    c.deref.ensures.value c.in_ok-of_boxes.ensures

-- the sum of the box of the spot
sum_is : (c : After-as_slice-row) → c.index-sum.result.now
    ≡ get_or c.in_ok-of_boxes.of_boxes.items (get_or c.args.boxes.now.numbers.items c.loop-k.k 0) (pos 0)
sum_is c =
    let numbers = c.args.boxes.now.numbers.items in
    let sums = c.in_ok-of_boxes.of_boxes.items in
    let number : c.index.result.now ≡ get_or numbers c.loop-k.k 0 =
    c.index.ensures
    ∙ get_or_default numbers c.loop-k.k c.index.result.now 0
    (omega (arith, c.requires.boxes.one_each, c.loop-k-test.true)) in
    let there : get_or numbers c.loop-k.k 0 < length c.args.boxes.now.boxes.items =
    c.requires.boxes.there c.loop-k.k c.loop-k-test.true in
    c.index-sum.ensures
    ∙ ap (λ (i : ℕ). get_or sums i c.index-sum.result.now) number
    ∙ get_or_default sums (get_or numbers c.loop-k.k 0) c.index-sum.result.now (pos 0)
    (omega (arith, there, (of_boxes c).one_each))

inside : (c : After-as_slice-row) → (get_or c.args.spots.now c.loop-k.k no_spot).place.process
    < length c.args.values.now
inside c =
    let lt : (get_or c.args.spots.now c.loop-k.k no_spot).place.process < length c.args.computation.now.events =
    place_inside c.args.computation.now.events (event_of (get_or c.args.spots.now c.loop-k.k no_spot))
    (c.requires.spots c.loop-k.k no_spot c.loop-k-test.true) in
    omega (arith, lt, c.requires.values.one_each)

low : (c : After-as_slice-row) → unsigned_abs c.index-sum.result.now ≤ 16 * value_limit
low c =
    let few : unsigned_abs c.index-sum.result.now ≤ length c.args.values.now * value_limit =
    small_at_spot c.args.computation.now.events c.limits.ensures.acyclic c.args.spots.now c.requires.spots
    c.args.boxes.now.boxes.items c.args.boxes.now.numbers.items c.requires.boxes c.args.values.now c.requires.values
    c.in_ok-of_boxes.of_boxes.items (of_boxes c) c.loop-k.k no_spot c.loop-k-test.true c.index-sum.result.now
    (sum_is c) in
    omega (arith, few, c.requires.values.one_each, c.limits.ensures.few)

plain : (c : After-as_slice-row) → to_z w128 (of_z w128 c.index-sum.result.now) ≡ c.index-sum.result.now
plain c = to_z-of_z w128 c.index-sum.result.now (record { sfits = omega (arith, low c) })

row_at : (c : After-as_slice-row) (count : ℕ)
    → unsigned_abs (number_at c.as_slice-row.result.now count) ≤ value_limit
row_at c count =
    subst (λ (row : List ℤ). unsigned_abs (number_at row count) ≤ value_limit) (sym c.as_slice-row.ensures.value)
    (row_small c.args.computation.now.events c.args.values.now
    (get_or c.args.spots.now c.loop-k.k no_spot).place.process count c.index-values-spot.result c.requires.values
    (inside c) c.index-values-spot.is)

pub sum_with_own-requires-clause-small : goal.sum_with_own-requires-clause-small
sum_with_own-requires-clause-small c =
    let at = (goal.at.sum_with_own-requires-clause-small c).After-as_slice-row in
    subst (λ (z : ℤ). unsigned_abs z ≤ 16 * value_limit) (sym (plain at)) (low at)

pub sum_with_own-requires-clause-none : goal.sum_with_own-requires-clause-none
sum_with_own-requires-clause-none c =
    row_at (goal.at.sum_with_own-requires-clause-none c).After-as_slice-row 0

pub sum_with_own-requires-clause-own : goal.sum_with_own-requires-clause-own
sum_with_own-requires-clause-own c =
    row_at (goal.at.sum_with_own-requires-clause-own c).After-as_slice-row
    (own_count (get_or c.args.spots.now c.loop-k.k no_spot))

pub loop-k-preserved : goal.loop-k-preserved
loop-k-preserved c =
    let at = (goal.at.loop-k-preserved c).After-as_slice-row in
    let events = c.args.computation.now.events in
    let spots = c.args.spots.now in
    let spot = get_or c.args.spots.now c.loop-k.k no_spot in
    let old = c.loop-k.sums.items in
    let row = c.index-values-spot.result in
    let sum : ℤ = c.index-sum.result.now in
    let number : ℤ = sum -ℤ number_at row.items 0 +ℤ number_at row.items (own_count spot) in
    let is : c.sum_with_own.result ≡ number =
    c.sum_with_own.ensures
    ∙ ap (λ (t : ℤ × List ℤ). t.0 -ℤ number_at t.1 0 +ℤ number_at t.1 (own_count spot))
    (λ i. (plain at i, c.as_slice-row.ensures.value i)) in
    let pushed : c.push.new.self.items ≡ old ++ number ∷ [] =
    c.in_ok-push.ensures.items
    ∙ ap (λ (z : ℤ). old ++ z ∷ [])
    (to_z-of_z w128 c.sum_with_own.result (record { sfits = c.sum_with_own.type_inv }) ∙ is) in
    record {
      many = ap length pushed ∙ length_push old number ∙ ap (λ (n : ℕ). n + 1) c.loop-k.invariant.many;
      each = λ j d lt.
          each_push (λ i (z : ℤ). IsMost (IsAt events (get_or spots i d)) c.args.values.now z) old
          c.push.new.self.items number (pos 0) c.loop-k.k c.loop-k.invariant.many pushed
          (λ i less. c.loop-k.invariant.each i d less)
          (subst (λ (s : Spot). IsMost (IsAt events s) c.args.values.now number)
          (get_or_default spots c.loop-k.k no_spot d c.loop-k-test.true)
          (most_at_spot events c.limits.ensures.acyclic spots c.requires.spots c.args.boxes.now.boxes.items
          c.args.boxes.now.numbers.items c.requires.boxes c.args.values.now c.requires.values
          c.in_ok-of_boxes.of_boxes.items (of_boxes at) c.loop-k.k no_spot c.loop-k-test.true sum (sum_is at) row
          c.index-values-spot.is)) j lt;
    }
