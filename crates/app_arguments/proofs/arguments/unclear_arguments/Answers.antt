-- The error is of no kind whose text is asked for.
use Rattle.std.proofs.Common.{◌≡◌, inl, inr}
use Rattle.clap.specs.declared.error.kind.ErrorKind.{ErrorKind}
use Rattle.clap.specs.declared.error.kind.ErrorKind.TheVariants.{MissingRequiredArgument, ValueValidation}
use Rattle.app_arguments.specs.Arguments.{IsShownKind}
use Rattle.app_arguments.proofs.arguments.unclear_arguments.Goals as goal

missing_not_shown : (kind : ErrorKind) → kind ≡ MissingRequiredArgument → ¬ IsShownKind kind
missing_not_shown kind e (inl help) = cc
missing_not_shown kind e (inr version) = cc

invalid_not_shown : (kind : ErrorKind) → kind ≡ ValueValidation → ¬ IsShownKind kind
invalid_not_shown kind e (inl help) = cc
invalid_not_shown kind e (inr version) = cc

pub returns-in-Some : goal.returns-in-Some
returns-in-Some c other = invalid_not_shown _ (c.error_of.ensures other)

pub returns-in-None : goal.returns-in-None
returns-in-None c other = missing_not_shown _ (c.error_of-in-None.ensures other)
