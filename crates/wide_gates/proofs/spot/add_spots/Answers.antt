-- Two spots more.
use Rattle.std.proofs.Common.{true, ◌+◌, ap, arith, ◌∙◌, List, ℕ, ◌++◌, ◌∷◌, []}
use Rattle.wide_gates.specs.declared.spot.Spot.{Spot}
use Rattle.wide_gates.proofs.Beside.{have_more, have_next}
use Rattle.wide_gates.proofs.spot.add_spots.Goals as goal

after_it : ℕ → ℕ → Spot
after_it p n = record { place = record { process = p; number = n + 1 }; after = true }

pub loop-index-preserved : goal.loop-index-preserved
unfolding after_it
loop-index-preserved c =
    have_more c.args.computation.now.events c.args.process c.loop-index.index c.loop-index.spots.items
    c.push-in-loop-index.new.self.items c.loop-index.invariant
    (omega (arith, c.loop-index-test.true, c.events-index-end.ensures))
    (c.in_ok-push-2.ensures.items
    ∙ ap (λ (xs : List Spot). xs ++ after_it c.args.process c.loop-index.index ∷ []) c.in_ok-push.ensures.items)

pub returns : goal.returns
returns c =
    have_next c.args.computation.now.events c.args.process c.loop-index.index c.loop-index.spots.items
    c.loop-index.invariant (omega (arith, c.loop-index-test.false, c.events-index-end.ensures))
