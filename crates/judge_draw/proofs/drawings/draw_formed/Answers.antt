-- What is drawn of a well-formed session.
use Rattle.out_picture.specs.Scopes.{scope_view}
use Rattle.pd_gather.specs.Views.{traces_view}
use Rattle.pd_match.specs.Views.{pairs_view}
use Rattle.pd_report.specs.Views.{report_view}
use Rattle.pd_spec.specs.Views.{document_view}
use Rattle.judge_draw.proofs.SessionDrawings.{events_recorded, pairs_recorded, traces_drawn}
use Rattle.judge_draw.proofs.SessionFindings.{messages_counted}
use Rattle.judge_draw.proofs.drawings.draw_formed.Goals as goal

pub draw-requires-clause-counted : goal.draw-requires-clause-counted
draw-requires-clause-counted c =
    messages_counted (document_view c.args.run.now.spec.now) (traces_view c.args.run.now.traces.now)
    c.args.run.now.computation.now c.args.messages c.requires.formed

pub draw-requires-clause-read : goal.draw-requires-clause-read
draw-requires-clause-read c =
    let document = document_view c.args.run.now.spec.now in
    record {
      recorded = c.requires.formed.same;
      is_recorded = events_recorded document c.args.run.now.traces.now c.args.run.now.computation.now c.args.messages
          c.requires.formed;
      are_messages = pairs_recorded document c.args.run.now.traces.now c.args.run.now.computation.now c.args.messages
          (pairs_view c.args.run.now.pairs.now) c.requires.formed c.requires.pairs;
      one_each = c.requires.formed.one_each;
    }

pub returns : goal.returns
returns c =
    traces_drawn (document_view c.args.run.now.spec.now) c.args.run.now.traces.now c.args.run.now.computation.now
    c.args.messages (pairs_view c.args.run.now.pairs.now) (report_view c.args.claimed.now) (scope_view c.args.scope.now)
    c.in_ok-drawn.drawn c.requires.formed c.requires.pairs c.in_ok-drawn.ensures
