-- The steps of one process more, and of all.
use Rattle.std.proofs.Common.{◌≡◌, ℕ, length, sym, subst, arith, add-one}
use Rattle.wide_slice.proofs.Closed.{steps_are}
use Rattle.wide_slice.proofs.Made.{AreMade}
use Rattle.wide_slice.proofs.slice.steps_of.Goals as goal

pub loop-process-preserved : goal.loop-process-preserved
loop-process-preserved g c =
    let slice = c.args.slice.now in
    subst
    (λ (n : ℕ).
    AreMade slice.rows.items slice.asked.items c.args.values.now slice.least.items n c.add_steps_of.new.steps.items)
    (sym (add-one c.loop-process.process))
    (c.loop-process.steps.items, c.loop-process.invariant, c.in_ok-add_steps_of.ensures)

pub returns : goal.returns
returns g c =
    let slice = c.args.slice.now in
    let events = c.args.computation.now.events in
    let end : c.loop-process.process ≡ length events =
    omega (arith, c.loop-process-test.false, c.loop-process.auto.process-end, c.processes-process-end.ensures) in
    steps_are events (g.G.GoodCounts.good c.args._wanted.now) slice c.args.values.now c.requires.slice
    c.requires.values c.loop-process.steps.items
    (subst
    (λ (n : ℕ).
    AreMade slice.rows.items slice.asked.items c.args.values.now slice.least.items n c.loop-process.steps.items) end
    c.loop-process.invariant) c.limits.ensures.few
