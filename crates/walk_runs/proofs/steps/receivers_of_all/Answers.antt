-- Who of the prefix receives each event.
use Rattle.std.proofs.Common.{◌≡◌, ◌+◌, ◌-◌, ◌<◌, ℕ, length, sym, subst, arith}
use Rattle.std.specs.Prelude.{Vec}
use Rattle.std.specs.Global.{Global}
use Rattle.def_model.specs.Events.{event_count}
use Rattle.walk_runs.specs.Needs.{HasNeeds, HaveReceivers, table_view}
use Rattle.walk_runs.specs.declared.need.Need.{Need}
use Rattle.walk_runs.proofs.Receivers.{receivers_more}
use Rattle.walk_runs.proofs.steps.receivers_of_all.Goals as goal

pub loop-p-preserved : goal.loop-p-preserved
loop-p-preserved c =
    let within : c.loop-p.p < length c.args.computation.now.events = omega (arith, c.processes-p-end.ensures) in
    let row : HasNeeds c.args.computation.now.events c.loop-p.p
    (event_count c.args.computation.now.events c.loop-p.p + 1) c.index-needs-p.result.items =
    subst (λ (r : Vec Need Global). HasNeeds c.args.computation.now.events c.loop-p.p
    (event_count c.args.computation.now.events c.loop-p.p + 1) r.items) (sym c.index-needs-p.is)
    (c.requires.needs.each c.loop-p.p c.index-needs-p.result within) in
    receivers_more c.args.computation.now.events c.loop-p.p c.index-needs-p.result.items
    (table_view c.loop-p.receivers.items) (table_view c.add_receivers.new.receivers.items) within row
    c.loop-p.invariant (rw (c.deref.ensures.value) at c.add_receivers.ensures)

pub returns : goal.returns
returns c =
    let end : c.loop-p.p ≡ length c.args.computation.now.events - 2 =
    omega (arith, c.loop-p-test.false, c.loop-p.auto.p-end, c.processes-p-end.ensures) in
    subst (λ (n : ℕ). HaveReceivers c.args.computation.now.events n (length c.args.computation.now.events)
    (table_view c.loop-p.receivers.items)) end c.loop-p.invariant
