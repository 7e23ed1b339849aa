-- The level after a greatest cut.
use Rattle.std.proofs.Common.{◌≤◌, sum, ap, ◌∙◌, arith}
use Rattle.def_model.specs.Cuts.{total}
use Rattle.def_model.proofs.Steps.{sum_within}
use Rattle.wide_conjunctions.proofs.LevelAfter.{raised_by}
use Rattle.wide_conjunctions.proofs.box_level.raised_level.Goals as goal

pub events-count-requires : goal.events-count-requires
events-count-requires c =
    let within : sum c.in_ok-cut.cut ≤ total c.args.computation.now.events =
    sum_within c.args.computation.now.events c.in_ok-cut.cut c.in_ok-cut.ensures.consistent in
    omega (arith, within, ap sum c.counts.ensures, c.total-total.ensures.sum, c.total-total.ensures.small)

pub overflow_add-count : goal.overflow_add-count
overflow_add-count c =
    let within : sum c.in_ok-cut.cut ≤ total c.args.computation.now.events =
    sum_within c.args.computation.now.events c.in_ok-cut.cut c.in_ok-cut.ensures.consistent in
    omega (
      arith,
      within,
      ap sum c.counts.ensures,
      c.events-count.ensures,
      c.total-total.ensures.sum,
      c.total-total.ensures.small,
    )

pub returns : goal.returns
returns c =
    raised_by c.args.computation.now.events c.args.process c.args.number c.args.level c.events-count.result
    c.max.result c.in_ok-cut.cut (omega (arith, c.if-number-eq0.false)) c.in_ok-cut.ensures
    (c.events-count.ensures ∙ ap sum c.counts.ensures) c.max.ensures
