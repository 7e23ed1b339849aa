-- The join or the end that the fields say, if there is one alone.
use Rattle.std.proofs.Common.{sym}
use Rattle.judge_infer.proofs.StatementFacts.{none_alone}
use Rattle.judge_infer.proofs.statement.only_statement.Goals as goal

pub returns-in_err-name : goal.returns-in_err-name
returns-in_err-name c = rw c.from_residual.ensures (sym (none_alone c.args.fields.now.entries c.in_err-name.ensures))
