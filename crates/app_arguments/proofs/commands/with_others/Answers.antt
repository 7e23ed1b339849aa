-- The commands are added one after another.
use Rattle.std.proofs.Common.{codes, refl}
use Rattle.clap.specs.Simple.{app_of}
use Rattle.app_arguments.specs.Table.{explore_arguments, serve_arguments, test_arguments}
use Rattle.app_arguments.proofs.Builders.{added, last_added}
use Rattle.app_arguments.proofs.commands.with_others.Goals as goal

pub returns : goal.returns
returns c =
    let with_serve =
    added (app_of c.args.program) (app_of c.args.program) _ (codes "serve") _ serve_arguments c.in_ok-program.ensures
    refl c.serve_arguments.ensures in
    let with_explore =
    added _ _ _ (codes "explore") _ explore_arguments c.in_ok-program-2.ensures
    with_serve c.explore_arguments.ensures in
    last_added _ _ _ (codes "test") _ test_arguments c.with_command-3.ensures with_explore
    c.test_arguments.ensures
