-- What a command's line adds to the program's.
use Rattle.std.proofs.Common.{◌≡◌, ◌∷◌, [], List, Err, Ok, Result, ◌∙◌, ap₂}
use Rattle.std.specs.Prelude.{IfOk}
use Rattle.clap.specs.Words.{App, Text, app_of}
use Rattle.clap.specs.declared.builder.command.Command.{Command}
use Rattle.app_arguments.specs.Table.{Argument, with_commands}

-- a command that is added to a program's line, with these arguments
pub added : (old before new : App) (name : Text) (rows arguments : List Argument)
    → new ≡ with_commands old ((name, rows) ∷ []) → old ≡ before → rows ≡ arguments
    → new ≡ with_commands before ((name, arguments) ∷ [])
added old before new name rows arguments is same rows_are =
    is ∙ ap₂ (λ (app : App) (given : List Argument). with_commands app ((name, given) ∷ [])) same rows_are

-- the same of a result
pub last_added : {E : Type 0} (old before : App) (new : Result Command E) (name : Text) (rows arguments : List Argument)
    → IfOk new (λ whole. app_of whole ≡ with_commands old ((name, rows) ∷ [])) → old ≡ before → rows ≡ arguments
    → IfOk new (λ whole. app_of whole ≡ with_commands before ((name, arguments) ∷ []))
last_added old before (Err error) name rows arguments is same rows_are = tt
last_added old before (Ok whole) name rows arguments is same rows_are =
    added old before (app_of whole) name rows arguments is same rows_are
