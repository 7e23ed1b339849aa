-- What is drawn is good, by what is found.
use Rattle.std.proofs.Common.{map}
use Rattle.pd_gather.specs.Views.{traces_view}
use Rattle.pd_report.specs.Views as views
use Rattle.pd_spec.specs.Views.{document_view}
use Rattle.judge_check.specs.Views.{finding_view}
use Rattle.out_picture.specs.Scopes.{scope_view}
use Rattle.judge_draw.proofs.GoodEvidence.{good_choice}
use Rattle.judge_draw.proofs.drawn.draw_found.Goals as goal

pub draw_choice-requires-clause-good : goal.draw_choice-requires-clause-good
draw_choice-requires-clause-good c =
    let of = c.requires.found in
    good_choice (document_view c.args.run.now.spec.now) (traces_view c.args.run.now.traces.now) of.messages
    c.args.run.now.computation.now of.claimed of.judged.processes of.judged.events of.judged.matched
    (map views.answer_view c.args.answers.now) (scope_view c.args.scope.now) (finding_view c.args.finding)
    c.in-Some.chosen c.requires.read.recorded of.judged.is of.found
    (rw c.in-Some.is at c.let_by.ensures)
