-- The marks of the special bytes of a word.
use Rattle.read_tokens.proofs.Words.{marks_are}
use Rattle.read_tokens.proofs.bytes.special_marks.Goals as goal

pub returns : goal.returns
returns c byte small is = marks_are c.args.word byte small is
