-- The number of the text, or none.
use Rattle.std.proofs.Common.{◌∙◌, ap}
use Rattle.std.specs.Prelude.{unwrap_or}
use Rattle.serde_json.specs.View.{view}
use Rattle.judge_summary.proofs.Members.{got, got_none}
use Rattle.judge_summary.proofs.counts.Counts.get.Goals as goal

pub returns-in-Some : goal.returns-in-Some
returns-in-Some c =
    rw (← c.self.view_is) (c.unwrap_or.ensures ∙ ap (λ n. unwrap_or n 0) c.as_u64.ensures
    ∙ got c.args.text.now _ (view c.in-Some.value.now) c.in-Some.ensures)

pub returns-in-None : goal.returns-in-None
returns-in-None c = rw (← c.self.view_is) (got_none c.args.text.now _ c.in-None.ensures)
