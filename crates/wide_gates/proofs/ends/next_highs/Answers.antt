-- One process more.
use Rattle.std.proofs.Common.{false, ◌≡◌, ℕ, ◌+◌, ◌-◌, ◌<◌, ◌≤◌, inl, inr, ◌⊎◌, get_or, set, length, ◌∙◌, subst, sym, arith}
use Rattle.std.proofs.lemmas.Bool.{cases_lt}
use Rattle.std.proofs.lemmas.List.{get_or-set_other, get_or-set_same, length-set}
use Rattle.wide_gates.specs.Highs.{HasNoneAfter, IsHigh}
use Rattle.wide_gates.specs.Spots.{event_of}
use Rattle.wide_gates.specs.declared.spot.Spot.{Spot}
use Rattle.wide_gates.proofs.ends.next_highs.Goals as goal

no_spot : Spot
no_spot = record { place = record { process = 0; number = 0 }; after = false }

pub loop-q-init : goal.loop-q-init
loop-q-init c = record {
  one_each = (c.requires.none no_spot).one_each;
  known = λ d p lt. absurd (omega (arith, lt));
  rest = λ d p up lt. (c.requires.none d).each p lt;
}

pub next_high-requires-clause-none : goal.next_high-requires-clause-none
next_high-requires-clause-none c = λ d.
    c.loop-q.invariant.rest d c.loop-q.q (omega arith) (omega (arith, c.loop-q-test.true, c.processes-q-end.ensures))

pub loop-q-preserved : goal.loop-q-preserved
loop-q-preserved c =
    let events = c.args.computation.now.events in
    let highs = c.loop-q.highs in
    let q : ℕ = c.loop-q.q in
    let there : q < length highs =
    omega (arith, c.loop-q-test.true, c.processes-q-end.ensures, c.loop-q.invariant.one_each) in
    record {
      one_each = length-set highs q c.next_high.result ∙ c.loop-q.invariant.one_each;
      known = λ d p lt. known d p lt (cases_lt p q) there;
      rest = λ d p up lt.
          let e : get_or (set highs q c.next_high.result) p 0 ≡ get_or highs p 0 =
          get_or-set_other highs q p c.next_high.result 0 (λ same. omega (arith, same, up)) in
          subst (HasNoneAfter events (event_of (get_or c.args.spots.now (c.args.k - 1) d)) p) (sym e)
          (c.loop-q.invariant.rest d p (omega (arith, up)) lt);
    }
  where
    known : (d : Spot) (p : ℕ) → p < c.loop-q.q + 1 → (p < c.loop-q.q) ⊎ (c.loop-q.q ≤ p)
        → c.loop-q.q < length c.loop-q.highs
        → IsHigh c.args.computation.now.events (event_of (get_or c.args.spots.now c.args.k d)) p
        (get_or (set c.loop-q.highs c.loop-q.q c.next_high.result) p 0)
    known d p lt (inl less) there =
        let e : get_or (set c.loop-q.highs c.loop-q.q c.next_high.result) p 0 ≡ get_or c.loop-q.highs p 0 =
        get_or-set_other c.loop-q.highs c.loop-q.q p c.next_high.result 0 (λ same. omega (arith, same, less)) in
        subst (IsHigh c.args.computation.now.events (event_of (get_or c.args.spots.now c.args.k d)) p) (sym e)
        (c.loop-q.invariant.known d p less)
    known d p lt (inr le) there =
        let same : p ≡ c.loop-q.q = omega arith in
        let e : get_or (set c.loop-q.highs c.loop-q.q c.next_high.result) c.loop-q.q 0 ≡ c.next_high.result =
        get_or-set_same c.loop-q.highs c.loop-q.q c.next_high.result 0 there in
        subst (λ (n : ℕ). IsHigh c.args.computation.now.events (event_of (get_or c.args.spots.now c.args.k d)) n
        (get_or (set c.loop-q.highs c.loop-q.q c.next_high.result) n 0)) (sym same)
        (subst (IsHigh c.args.computation.now.events (event_of (get_or c.args.spots.now c.args.k d)) c.loop-q.q) (sym e)
        (c.next_high.ensures d))
