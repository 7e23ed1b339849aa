-- The text is that of the summary's JSON value, which reads back.
use Rattle.std.proofs.Common.{◌∙◌, ◌++◌, ◌∷◌, [], ap}
use Rattle.serde_json.specs.View.{view}
use Rattle.def_format.specs.Lines.{all_lines}
use Rattle.judge_summary.proofs.OneLine.{text_is_one_line}
use Rattle.judge_summary.proofs.Lines.{is_line, text_merges}
use Rattle.judge_summary.proofs.summary.Summary.text.Goals as goal

pub returns-clause-text : goal.returns-clause-text
returns-clause-text c =
    c.in_ok-push.ensures.items ∙ ap (λ line. line ++ 10 ∷ [])
    (is_line c.args.self.now (view c.in_ok-value.value) c.in_ok-text.text.items c.in_ok-value.ensures.data
    c.in_ok-text.ensures.text)

pub returns-clause-merges : goal.returns-clause-merges
returns-clause-merges c =
    text_merges c.args.self.now (view c.in_ok-value.value) c.in_ok-text.text.items c.in_ok-value.ensures.data
    c.in_ok-text.ensures.text c.in_ok-text.ensures.utf8 c.in_ok-text.ensures.reads_back

pub returns-clause-one_line : goal.returns-clause-one_line
returns-clause-one_line c =
    ap all_lines (c.in_ok-push.ensures.items ∙ ap (λ line. line ++ 10 ∷ [])
    (is_line c.args.self.now (view c.in_ok-value.value) c.in_ok-text.text.items c.in_ok-value.ensures.data
    c.in_ok-text.ensures.text))
    ∙ text_is_one_line c.args.self.now c.in_ok-value.ensures.fits.0 c.in_ok-value.ensures.fits.1
