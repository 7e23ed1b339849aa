-- The flag is read of the text that the parser's rows have.
use Rattle.std.proofs.Common.{Bool, sym, subst}
use Rattle.clap.proofs.WalkLemmas.{one_text-rows}
use Rattle.clap.specs.Matches.{found_of, one_text}
use Rattle.clap.specs.Walk.{rows_of}
use Rattle.app_arguments.specs.Arguments.{SaysFlag}
use Rattle.app_arguments.proofs.Flags.{flag_said}
use Rattle.app_arguments.proofs.arguments.flag_of.Goals as goal

pub returns : goal.returns
returns c =
    let found = found_of c.args.matches.now in
    subst (λ (given : Bool). SaysFlag (rows_of found) c.args.id.now given) (sym c.unwrap_or.ensures)
    (flag_said _ (rows_of found) c.args.id.now c.get_one.result (one_text found c.args.id.now)
    (sym (one_text-rows found c.args.id.now)) c.get_one.ensures.none c.get_one.ensures.value)
