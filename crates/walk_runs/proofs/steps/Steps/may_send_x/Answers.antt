-- Who receives it has a bit, so the word isn't 0.
use Rattle.std.proofs.Common.{◌-◌, ℕ, length, subst}
use Rattle.def_model.specs.Events.{place}
use Rattle.walk_runs.specs.Needs.{AreReceivers}
use Rattle.walk_runs.proofs.Receivers.{some_receiver}
use Rattle.walk_runs.proofs.steps.Steps.may_send_x.Goals as goal

pub returns : goal.returns
returns c =
    some_receiver c.args.self.now (length c.args.self.now - 2) (place (length c.args.self.now - 2) c.args.number)
    c.word-receivers.result
    (subst (λ (q : ℕ). AreReceivers c.args.self.now (length c.args.self.now - 2) (place q c.args.number)
    c.word-receivers.result) c.prefix.ensures c.word-receivers.ensures) c.words.ensures.beyond c.words.ensures.none
