-- The processes rise by no more than 1 exactly if the difference does.
use Rattle.std.proofs.Common.{sym, ◌∙◌, arith}
use Rattle.std.proofs.lemmas.Bool.{false≢true}
use Rattle.std.specs.Prelude.{false, true}
use Rattle.wide_sums.proofs.SmallSteps.{rising}
use Rattle.wide_sums.proofs.steps.rises_by_one.Goals as goal

pub returns-then-not-process_rises_by_one : goal.returns-then-not-process_rises_by_one
returns-then-not-process_rises_by_one c left right difference =
    rising c.args.computation.now left right c.args.values.now difference c.requires.one_each false
    (λ found. absurd (false≢true found))
    (λ not_found. (
      c.loop-p.p,
      c.loop-p-test.true,
      λ rises. false≢true (sym c.if-not-process_rises_by_one.true ∙ c.process_rises_by_one.ensures.1 rises),
    ))

pub returns : goal.returns
returns c left right difference =
    rising c.args.computation.now left right c.args.values.now difference c.requires.one_each true
    (λ found q lt. c.loop-p.invariant q (omega (arith, lt, c.loop-p-test.false)))
    (λ not_found. absurd (false≢true (sym not_found)))
