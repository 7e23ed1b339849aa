-- The commands are added one after another.
use Rattle.std.proofs.Common.{codes, refl}
use Rattle.clap.specs.Simple.{app_of}
use Rattle.app_arguments.specs.Table.{infer_arguments, reduce_arguments}
use Rattle.app_arguments.proofs.Builders.{added, last_added}
use Rattle.app_arguments.proofs.commands.with_makers.Goals as goal

pub returns : goal.returns
returns c =
    let with_infer =
    added (app_of c.args.program) (app_of c.args.program) _ (codes "infer") _ infer_arguments c.in_ok-program.ensures
    refl c.infer_arguments.ensures in
    last_added _ _ _ (codes "reduce") _ reduce_arguments c.with_command-2.ensures with_infer
    c.reduce_arguments.ensures
