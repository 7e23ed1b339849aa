-- The clock of the last event decides.
use Rattle.std.proofs.Common.{arith}
use Rattle.std.proofs.lemmas.Bool.{lt-ltb, ltb-true}
use Rattle.judge_facts.proofs.Causes.{cause_from_clock, clock_from_cause, no_cause}
use Rattle.judge_facts.proofs.links.leads_to.Goals as goal

pub returns-then-number-gt0 : goal.returns-then-number-gt0
returns-then-number-gt0 c =
    let events = c.args.computation.now.events in (
      λ passes. cause_from_clock events c.args.p c.args.q c.clock.result c.events-number.result c.requires.differ
          c.clock.ensures (ltb-true 0 c.clock.result passes),
      λ leads. lt-ltb 0 c.clock.result (clock_from_cause events c.args.p c.args.q c.clock.result
          c.events-number.result c.events-number.ensures c.clock.ensures leads),
    )

pub returns-else-number-gt0 : goal.returns-else-number-gt0
returns-else-number-gt0 c =
    let none = no_cause c.args.computation.now.events c.args.p c.args.q
    (omega (arith, c.events-number.ensures, c.if-number-gt0.false)) in (
      λ passes. absurd (omega (arith, ltb-true 0 c.events-number.result passes, c.if-number-gt0.false)),
      λ leads. absurd (none leads),
    )
