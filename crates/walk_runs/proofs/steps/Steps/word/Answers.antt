-- The word that stands there.
use Rattle.std.proofs.Common.{◌-◌, ◌<◌, ◌≤◌, ℕ, length, sym, subst}
use Rattle.def_model.specs.Events.{Computation, event_count, place}
use Rattle.walk_runs.specs.Needs.{AreReceivers}
use Rattle.walk_runs.proofs.Receivers.{read_receivers}
use Rattle.walk_runs.proofs.steps.Steps.word.Goals as goal

pub returns : goal.returns
returns c =
    let events = c.self.inside.computation.now.events in
    let word = c.index-2.result.now in
    subst (λ (w : ℕ). AreReceivers c.args.self.now (length c.args.self.now - 2) (place c.args.q c.args.number) w)
    (sym c.from.ensures)
    (subst (λ (e : Computation). AreReceivers e (length e - 2) (place c.args.q c.args.number) word) c.self.view_is
    (read_receivers events (length events - 2) c.args.q c.args.number word c.self.inside.receivers.items
    c.index.result.now c.self.invariant.have
    (subst (λ (e : Computation). c.args.q < length e) (sym c.self.view_is) c.requires.within)
    (subst (λ (e : Computation). c.args.number ≤ event_count e c.args.q) (sym c.self.view_is) c.requires.counted)
    c.index.ensures c.index-2.ensures))
