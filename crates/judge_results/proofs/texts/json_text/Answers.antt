-- The parts are the text.
use Rattle.std.proofs.Common.{map, ◌∙◌}
use Rattle.serde_json.specs.View.{view}
use Rattle.judge_results.proofs.RunsAdded.{json_is}
use Rattle.judge_results.proofs.texts.json_text.Goals as goal

pub returns : goal.returns
returns c = λ is wishes all datas are same texts.
    json_is wishes all c.args.counts c.args.orders datas (map view c.args.runs.items) _ _ c.args.reports.now _ _ are
    same texts (c.in_ok-value.ensures wishes all are)
    (λ whole. c.deref.ensures.value ∙ c.in_ok-head.ensures.text whole)
    (λ whole. c.deref-2.ensures.value ∙ c.in_ok-values.ensures whole) c.in_ok-text.ensures
