-- What the answers that are made, and the lines that were read, stand for.
use Rattle.app_batch.specs.Answers as answers
use Rattle.app_batch.specs.declared.answer.Answer.{Answer}

abbrev pub answer_view : Answer → answers.Answer
answer_view answer = record { status = answer.status; line = answer.line.items }
