-- What is asked for is what the rows of the command name that the parser found.
use Rattle.std.proofs.Common.{◌∙◌, sym}
use Rattle.std.proofs.lemmas.Result.{IfOk-weaker}
use Rattle.app_arguments.specs.Arguments.{of_input}
use Rattle.app_arguments.specs.Views.{rows_in}
use Rattle.app_arguments.proofs.Parsed.{asked_by, command_found, no_command_found}
use Rattle.app_arguments.proofs.arguments.request_of.Goals as goal

pub returns-in-Some : goal.returns-in-Some
returns-in-Some c =
    IfOk-weaker c.request_by_command.result _ _ (λ request found arguments taken same.
    asked_by arguments c.in-Some.name.now (rows_in c.in-Some.found.now) request taken
    (command_found arguments c.args.matches.now c.subcommand.result c.in-Some.name c.in-Some.found same
    c.subcommand.ensures.name c.subcommand.ensures.rows c.in-Some.is) found) c.request_by_command.ensures

pub returns-in-None : goal.returns-in-None
returns-in-None c arguments taken same =
    of_input taken (sym same
    ∙ no_command_found c.args.matches.now c.subcommand.result c.subcommand.ensures.rows c.in-None.is)
