-- No answer is unknown, and the copies are those of the answers.
use Rattle.std.proofs.Common.{sym, ◌∙◌}
use Rattle.judge_shared.specs.Sharing.{answers_view}
use Rattle.judge_shared.proofs.SharedAnswers.{bare_copies, known_views}
use Rattle.judge_shared.proofs.bare.known_answers.Goals as goal

pub returns-then-are_known : goal.returns-then-are_known
returns-then-are_known c = (
  known_views c.args.answers.now ∙ sym c.are_known.ensures ∙ c.if-are_known.true,
  bare_copies (answers_view c.in_ok-bare_answers.field-0.items) c.args.answers.now c.in_ok-bare_answers.ensures,
)
