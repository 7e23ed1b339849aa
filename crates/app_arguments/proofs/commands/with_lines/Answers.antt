-- The commands are added one after another.
use Rattle.std.proofs.Common.{codes, refl}
use Rattle.clap.specs.Simple.{app_of}
use Rattle.app_arguments.specs.Table.{batch_arguments, bundle_arguments, merge_arguments}
use Rattle.app_arguments.proofs.Builders.{added, last_added}
use Rattle.app_arguments.proofs.commands.with_lines.Goals as goal

pub returns : goal.returns
returns c =
    let with_batch =
    added (app_of c.args.program) (app_of c.args.program) _ (codes "batch") _ batch_arguments c.in_ok-program.ensures
    refl c.batch_arguments.ensures in
    let with_bundle =
    added _ _ _ (codes "bundle") _ bundle_arguments c.in_ok-program-2.ensures
    with_batch c.bundle_arguments.ensures in
    last_added _ _ _ (codes "merge") _ merge_arguments c.with_command-3.ensures with_bundle
    c.merge_arguments.ensures
