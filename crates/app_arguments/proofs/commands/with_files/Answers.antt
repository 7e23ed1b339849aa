-- The commands are added one after another.
use Rattle.std.proofs.Common.{codes, refl}
use Rattle.clap.specs.Simple.{app_of}
use Rattle.app_arguments.specs.Table.{check_arguments, draw_arguments, judge_arguments}
use Rattle.app_arguments.proofs.Builders.{added, last_added}
use Rattle.app_arguments.proofs.commands.with_files.Goals as goal

pub returns : goal.returns
returns c =
    let with_judge =
    added (app_of c.args.program) (app_of c.args.program) _ (codes "judge") _ judge_arguments c.in_ok-program.ensures
    refl c.judge_arguments.ensures in
    let with_check =
    added _ _ _ (codes "check") _ check_arguments c.in_ok-program-2.ensures
    with_judge c.check_arguments.ensures in
    last_added _ _ _ (codes "draw") _ draw_arguments c.with_command-3.ensures with_check
    c.draw_arguments.ensures
