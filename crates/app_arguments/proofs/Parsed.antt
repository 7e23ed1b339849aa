-- What a parse finds is what the arguments ask for.
use Rattle.std.proofs.Common.{Bor, ◌≡◌, true, List, [], refl, sym, ap, ◌∙◌, subst, Some, None, Option, option_map, inl, inr}
use Rattle.clap.specs.Faults.{fault_of, is_simple_and_free}
use Rattle.clap.specs.Kinds.{HasKind}
use Rattle.clap.specs.Matches.{found_of, subcommand_name_of}
use Rattle.clap.specs.Simple.{App, HasMatchesOf, is_simple, subcommand_of, subcommand_rows, subcommand_rows_of}
use Rattle.clap.specs.Values.{kind_of}
use Rattle.clap.specs.Walk.{Row, Text, rows_of}
use Rattle.clap.specs.declared.error.Error.{Error}
use Rattle.clap.specs.declared.parser.matches.ArgMatches.{ArgMatches}
use Rattle.clap.specs.declared.builder.range.ValueRange.{ValueRange}
use Rattle.clap.specs.declared.parser.matches.ArgMatches.TheViews.{out-ArgMatches, out-SubCommand}
use Rattle.std.specs.Box.{box_value}
use Rattle.std.specs.Prelude.{Box}
use Rattle.clap.specs.declared.parser.matches.SubCommand.{SubCommand}
use Rattle.std.specs.Prelude.{IsSomeAnd, ◌≢◌}
use Rattle.clap.proofs.OnLiterals.{clap_on_literals}
use Rattle.app_arguments.specs.Statuses.{Unclear}
use Rattle.app_arguments.specs.Arguments.{AreOf, AreTaken, AsksFor, HasFault, IsShownKind, of_command, of_fault, of_help, of_nothing, of_version}
use Rattle.app_arguments.specs.Table.{monitor_app}
use Rattle.app_arguments.specs.Views.{FindsRequest, IsAskedIf, IsErrorOf, request_view}
use Rattle.app_arguments.specs.declared.request.Request.{Request}
use Rattle.clap.specs.declared.error.kind.ErrorKind.{ErrorKind}
use Rattle.clap.specs.declared.error.kind.ErrorKind.TheVariants.{OutOfMemory}

pub monitor_is_simple : is_simple monitor_app ≡ true
unfolding clap_on_literals
monitor_is_simple = refl

pub monitor_is_free : is_simple_and_free monitor_app ≡ true
unfolding clap_on_literals
monitor_is_free = refl

-- no argument asks for anything else than to judge the input
pub nothing_is_taken : fault_of monitor_app [] ≡ []
unfolding clap_on_literals
nothing_is_taken = refl

pub nothing_is_no_command : subcommand_of monitor_app [] ≡ None
unfolding clap_on_literals
nothing_is_no_command = refl

-- ---- a range

pub some_range : (range : Option ValueRange) (wanted : ValueRange) → IsSomeAnd range (λ r. r ≡ wanted)
    → range ≡ Some wanted
some_range None wanted h = absurd h
some_range (Some range) wanted h = ap (λ (r : ValueRange). Some r) h

-- ---- an error

-- what a parse of this command line gives, of the program's
pub program_matches : (app : App) (arguments : List Text) (m : ArgMatches) → app ≡ monitor_app
    → HasMatchesOf app arguments m → subcommand_rows_of m ≡ subcommand_of monitor_app arguments
program_matches app arguments m is has =
    (has (ap is_simple is ∙ monitor_is_simple)).1 ∙ ap (λ (a : App). subcommand_of a arguments) is

pub program_taken : (app : App) (arguments : List Text) → app ≡ monitor_app
    → (is_simple_and_free app ≡ true → fault_of app arguments ≡ []) → fault_of monitor_app arguments ≡ []
program_taken app arguments is taken =
    sym (ap (λ (a : App). fault_of a arguments) is) ∙ taken (ap is_simple_and_free is ∙ monitor_is_free)

pub program_fault : (app : App) (arguments : List Text) (error : Error) → app ≡ monitor_app
    → (is_simple_and_free app ≡ true → HasKind (fault_of app arguments) error)
    → HasKind (fault_of monitor_app arguments) error
program_fault app arguments error is fails =
    subst (λ (a : App). HasKind (fault_of a arguments) error) is (fails (ap is_simple_and_free is ∙ monitor_is_free))

not_memory : (kind : ErrorKind) → IsShownKind kind → ¬ (kind ≡ OutOfMemory)
not_memory kind (inl help) memory = let both = sym help ∙ memory in cc
not_memory kind (inr version) memory = let both = sym version ∙ memory in cc

pub error_found : (arguments : List Text) (error : Error) → HasKind (fault_of monitor_app arguments) error
    → IsErrorOf arguments (kind_of error)
error_found arguments error (inl memory) = record {
  help = λ is. absurd (not_memory (kind_of error) (inl is) memory);
  version = λ is. absurd (not_memory (kind_of error) (inr is) memory);
  unclear = λ other _. absurd (other memory);
}
error_found arguments error (inr among) = record {
  help = λ is. of_help (subst (HasFault arguments) is among);
  version = λ is. of_version (subst (HasFault arguments) is among);
  unclear = λ _ not_shown. of_fault (kind_of error) not_shown among;
}

-- ---- a subcommand, by its name and its rows

both_of : {A B : Type 0} (found : Option (A × B)) (a : A) (b : B) → option_map (λ p. p.0) found ≡ Some a
    → option_map (λ p. p.1) found ≡ Some b → found ≡ Some (a, b)
both_of None a b first second = cc
both_of (Some (x, y)) a b first second = cc

name_in_box : {Z : Type 0} (found : Option (Box SubCommand Z))
    → option_map (λ b. (out-SubCommand (box_value b)).name.now) found ≡ option_map (λ p. p.0) (subcommand_rows found)
name_in_box None = refl
name_in_box (Some found) = refl

name_in_rows : (m : ArgMatches) → subcommand_name_of m ≡ option_map (λ p. p.0) (subcommand_rows_of m)
name_in_rows m = name_in_box (out-ArgMatches m).subcommand

pub not_none : {A B : Type 0} (f : A → B) (found : Option A) (b : B) → option_map f found ≡ Some b → ¬ (found ≡ None)
not_none f None b some none = cc
not_none f (Some a) b some none = cc

-- the command of this name was found, and these rows
pub command_found : (arguments : List Text) (m : ArgMatches) (found : Option (Bor Text × Bor ArgMatches))
    (name : Bor Text) (matches : Bor ArgMatches) → subcommand_rows_of m ≡ subcommand_of monitor_app arguments
    → option_map (λ (p : Bor Text × Bor ArgMatches). p.0.now) found ≡ subcommand_name_of m
    → option_map (λ (p : Bor Text × Bor ArgMatches). rows_of (found_of p.1.now)) found
    ≡ option_map (λ p. p.1) (subcommand_rows_of m)
    → found ≡ Some (name, matches) → AreOf name.now arguments (rows_of (found_of matches.now))
command_found arguments m found name matches same named rows is =
    sym same ∙ both_of (subcommand_rows_of m) name.now (rows_of (found_of matches.now))
    (sym (name_in_rows m) ∙ sym named
    ∙ ap (λ (o : Option (Bor Text × Bor ArgMatches)). option_map (λ (p : Bor Text × Bor ArgMatches). p.0.now) o) is)
    (sym rows ∙ ap (λ (o : Option (Bor Text × Bor ArgMatches)).
    option_map (λ (p : Bor Text × Bor ArgMatches). rows_of (found_of p.1.now)) o) is)

none_of_map : {A B : Type 0} (f : A → B) (found : Option A) → option_map f found ≡ None → found ≡ None
none_of_map f None none = refl
none_of_map f (Some a) none = cc

-- no command was found
pub no_command_found : (m : ArgMatches) (found : Option (Bor Text × Bor ArgMatches))
    → option_map (λ (p : Bor Text × Bor ArgMatches). rows_of (found_of p.1.now)) found
    ≡ option_map (λ p. p.1) (subcommand_rows_of m)
    → found ≡ None → subcommand_rows_of m ≡ None
no_command_found m found rows is =
    none_of_map (λ p. p.1) (subcommand_rows_of m) (sym rows ∙ ap (λ (o : Option (Bor Text × Bor ArgMatches)).
    option_map (λ (p : Bor Text × Bor ArgMatches). rows_of (found_of p.1.now)) o) is)

-- what the rows of a command name is asked for, or nothing that can be done
pub asked_by : (arguments : List Text) (command : Text) (rows : List Row) (found : Option Request)
    → AreTaken arguments → AreOf command arguments rows → FindsRequest command rows found
    → IsAskedIf arguments found
asked_by arguments command rows None taken are none = of_nothing command rows are none
asked_by arguments command rows (Some request) taken are names =
    of_command command rows (request_view request) taken are names

-- arguments that ask for nothing that can be done
pub unclear_found : (arguments : List Text) (error : Error) → AsksFor arguments Unclear
    → (kind_of error ≢ OutOfMemory → ¬ IsShownKind (kind_of error)) → IsErrorOf arguments (kind_of error)
unclear_found arguments error unclear is = record {
  help = λ help. absurd (is (λ memory. not_memory (kind_of error) (inl help) memory) (inl help));
  version = λ version. absurd (is (λ memory. not_memory (kind_of error) (inr version) memory) (inr version));
  unclear = λ _ _. unclear;
}
