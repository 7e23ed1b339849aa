-- Each text is that of the runs, if it is wanted.
use Rattle.std.proofs.Common.{ap, ◌∙◌}
use Rattle.judge_results.specs.Results.{junit_by, junit_head}
use Rattle.judge_results.proofs.RunsAdded.{all_texts}
use Rattle.judge_results.proofs.results.Results.texts.Goals as goal

pub returns : goal.returns
returns c = λ wanted wishes all reports are count.
    all_texts wanted wishes all reports c.args.self _ c.args.counts c.args.orders
    (λ is asked runs datas are_counts values texts. c.in_ok-json.ensures is asked runs datas are_counts values
    (c.deref.ensures.value ∙ texts))
    (λ is. c.in_ok-junit.ensures is
    ∙ ap (junit_by (junit_head c.args.counts.all c.args.counts.fail c.args.counts.not_judged)) c.deref-2.ensures.value)
    are count
