-- A run that the parser's error ends does what its arguments ask for.
use Rattle.std.proofs.Common.{◌≡◌, ◌≢◌, ℕ, Bool, List, Option, refl, inl, inr}
use Rattle.std.specs.Io.KnownBytes.{Keeps}
use Rattle.clap.specs.Walk.{Text}
use Rattle.clap.specs.declared.error.kind.ErrorKind.{ErrorKind}
use Rattle.clap.specs.declared.error.kind.ErrorKind.TheVariants as kind
use Rattle.app_arguments.specs.Statuses.{Failed, MemoryFailure, Ends, HelpLeaves, MisuseLeaves, File, ShowHelp, ShowVersion, Unclear, VersionLeaves}
use Rattle.app_arguments.specs.Places.{Place}
use Rattle.def_judgement.specs.Writes.{Source}
use Rattle.app_arguments.specs.Arguments.{IsShownKind}
use Rattle.app_arguments.specs.Views.{IsErrorOf}
use Rattle.pd_cli.specs.RunCases.{RunsAsAsked}

data KindCase (k : ErrorKind) : Type 0 where
  memory : k ≡ kind.OutOfMemory → KindCase k
  help : k ≡ kind.DisplayHelp → KindCase k
  version : k ≡ kind.DisplayVersion → KindCase k
  other : k ≢ kind.OutOfMemory → ¬ IsShownKind k → KindCase k

case_of : (k : ErrorKind) → KindCase k
case_of kind.InvalidValue = other (λ e. cc) (λ h. elim h [ inl e ↦ cc | inr e ↦ cc ])
case_of kind.UnknownArgument = other (λ e. cc) (λ h. elim h [ inl e ↦ cc | inr e ↦ cc ])
case_of kind.InvalidSubcommand = other (λ e. cc) (λ h. elim h [ inl e ↦ cc | inr e ↦ cc ])
case_of kind.NoEquals = other (λ e. cc) (λ h. elim h [ inl e ↦ cc | inr e ↦ cc ])
case_of kind.ValueValidation = other (λ e. cc) (λ h. elim h [ inl e ↦ cc | inr e ↦ cc ])
case_of kind.TooManyValues = other (λ e. cc) (λ h. elim h [ inl e ↦ cc | inr e ↦ cc ])
case_of kind.TooFewValues = other (λ e. cc) (λ h. elim h [ inl e ↦ cc | inr e ↦ cc ])
case_of kind.WrongNumberOfValues = other (λ e. cc) (λ h. elim h [ inl e ↦ cc | inr e ↦ cc ])
case_of kind.ArgumentConflict = other (λ e. cc) (λ h. elim h [ inl e ↦ cc | inr e ↦ cc ])
case_of kind.MissingRequiredArgument = other (λ e. cc) (λ h. elim h [ inl e ↦ cc | inr e ↦ cc ])
case_of kind.MissingSubcommand = other (λ e. cc) (λ h. elim h [ inl e ↦ cc | inr e ↦ cc ])
case_of kind.DisplayHelp = help refl
case_of kind.DisplayHelpOnMissingArgumentOrSubcommand = other (λ e. cc) (λ h. elim h [ inl e ↦ cc | inr e ↦ cc ])
case_of kind.DisplayVersion = version refl
case_of kind.Io = other (λ e. cc) (λ h. elim h [ inl e ↦ cc | inr e ↦ cc ])
case_of kind.Format = other (λ e. cc) (λ h. elim h [ inl e ↦ cc | inr e ↦ cc ])
case_of kind.OutOfMemory = memory refl

-- how a run ends that the parser's error ends, by the kind of the error
pub record EndsByKind (k : ErrorKind) (status : ℕ) (old new errors_old errors_new : Option (List ℕ)) : Type 0 where
  pub memory : k ≡ kind.OutOfMemory
      → Ends (λ ending. (ending ≡ Failed MemoryFailure) × Keeps old new) status errors_old errors_new
  pub help : k ≡ kind.DisplayHelp → Ends (λ ending. HelpLeaves ending old new) status errors_old errors_new
  pub version : k ≡ kind.DisplayVersion → Ends (λ ending. VersionLeaves ending old new) status errors_old errors_new
  pub misused : k ≢ kind.OutOfMemory → ¬ IsShownKind k
      → Ends (λ ending. MisuseLeaves ending old new) status errors_old errors_new

-- from an end by the kind of the error, one by what is asked for
as_asked : (arguments : List Text) (input : Source) (files : List ℕ → File)
    (connections : Place → Source → Type 0) (network_serves : Bool) (status : ℕ)
    (old new errors_old errors_new : Option (List ℕ)) (k : ErrorKind) → KindCase k → IsErrorOf arguments k
    → EndsByKind k status old new errors_old errors_new
    → RunsAsAsked arguments input files connections network_serves status old new errors_old errors_new
as_asked arguments input files connections network_serves status old new errors_old errors_new k
    (memory is) is_error ends =
    inl (ends.memory is)
as_asked arguments input files connections network_serves status old new errors_old errors_new k
    (help is) is_error ends =
    inr (ShowHelp, is_error.help is, ends.help is)
as_asked arguments input files connections network_serves status old new errors_old errors_new k
    (version is) is_error ends =
    inr (ShowVersion, is_error.version is, ends.version is)
as_asked arguments input files connections network_serves status old new errors_old errors_new k
    (other is_not un) is_error ends =
    inr (Unclear, is_error.unclear is_not un, ends.misused is_not un)

pub error_as_asked : (arguments : List Text) (input : Source) (files : List ℕ → File)
    (connections : Place → Source → Type 0) (network_serves : Bool) (status : ℕ)
    (old new errors_old errors_new : Option (List ℕ)) (k : ErrorKind) → IsErrorOf arguments k
    → EndsByKind k status old new errors_old errors_new
    → RunsAsAsked arguments input files connections network_serves status old new errors_old errors_new
error_as_asked arguments input files connections network_serves status old new errors_old errors_new k =
    as_asked arguments input files connections network_serves status old new errors_old errors_new k (case_of k)
