-- Who receives it has a bit, so the word isn't 0.
use Rattle.std.proofs.Common.{◌≡◌, ◌+◌, ◌-◌, ℕ, length, subst, arith}
use Rattle.def_model.specs.Events.{place}
use Rattle.walk_runs.specs.Needs.{AreReceivers}
use Rattle.walk_runs.proofs.Receivers.{some_receiver}
use Rattle.walk_runs.proofs.steps.Steps.may_send_y.Goals as goal

pub returns : goal.returns
returns c =
    let last : c.prefix.result + 1 ≡ length c.args.self.now - 1 =
    omega (arith, c.prefix.ensures, c.limits.ensures.two) in
    some_receiver c.args.self.now (length c.args.self.now - 2) (place (length c.args.self.now - 1) c.args.number)
    c.word-receivers.result
    (subst (λ (q : ℕ). AreReceivers c.args.self.now (length c.args.self.now - 2) (place q c.args.number)
    c.word-receivers.result) last c.word-receivers.ensures) c.words.ensures.beyond c.words.ensures.none
