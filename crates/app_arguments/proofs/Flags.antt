-- A flag is given exactly if the parser's row for it has the text "true".
use Rattle.std.proofs.Common.{◌≡◌, ◌∷◌, Bool, true, false, List, [], Option, ap, None, Some, codes, option_map, refl, sym, ◌∙◌}
use Rattle.std.specs.Prelude.{◌↔◌, IsTrue, unwrap_or}
use Rattle.std.specs.Str.Parse.{ParsesBool}
use Rattle.clap.proofs.OnLiterals.{clap_on_literals}
use Rattle.clap.specs.Faults.{fault_of}
use Rattle.clap.specs.Matches.{ReadsOne}
use Rattle.clap.specs.Simple.{subcommand_of}
use Rattle.clap.specs.Walk.{Row, Text, first_of, one_of}
use Rattle.clap.specs.declared.error.kind.ErrorKind.TheVariants.{DisplayHelp, DisplayVersion, InvalidSubcommand, UnknownArgument}
use Rattle.app_arguments.specs.Arguments.{SaysFlag}
use Rattle.app_arguments.specs.Table.{monitor_app}
use Rattle.app_arguments.proofs.Numbers.{some_same}

true_of_text : (E : Type 0) (text : Text) (read : Option Bool) → ReadsOne {E = E} ParsesBool text read
    → IsTrue (unwrap_or read false) ↔ (text ≡ codes "true")
true_of_text E text (Some true) is = (λ _. is, λ _. refl)
true_of_text E text (Some false) is = (λ given. cc, λ other. cc)
true_of_text E text None (error, others) = (λ given. cc, λ is. absurd (others.0 is))

pub flag_said : (E : Type 0) (rows : List Row) (id : Text) (read : Option Bool) (found : Option Text)
    → one_of id rows ≡ found → (found ≡ None → read ≡ None)
    → ((text : Text) → found ≡ Some text → ReadsOne {E = E} ParsesBool text read)
    → SaysFlag rows id (unwrap_or read false)
flag_said E rows id (Some given) None is none reads = let bad = none refl in cc
flag_said E rows id None None is none reads = (λ given. cc, λ other. cc)
flag_said E rows id read (Some text) is none reads =
    let as_text = true_of_text E text read (reads text refl) in (
      λ given. is ∙ ap (λ (t : Text). Some t) (as_text.0 given),
      λ given. as_text.1 (some_same text (codes "true") (sym is ∙ given)),
    )

-- ---- what stands in the rows, with the flag and without it

-- the text of the flag that the rows of the command have on these arguments
abbrev flag_text : List Text → Option (Option Text)
flag_text arguments = option_map (λ found. one_of (codes "BEYOND_WIDTH") found.1) (subcommand_of monitor_app arguments)

judged_beyond_width :
    flag_text (codes "judge" ∷ codes "spec" ∷ codes "--beyond-width" ∷ codes "stream" ∷ []) ≡ Some (Some (codes "true"))
unfolding clap_on_literals
judged_beyond_width = refl

judged_within_width : flag_text (codes "judge" ∷ codes "spec" ∷ codes "stream" ∷ []) ≡ Some (Some (codes "false"))
unfolding clap_on_literals
judged_within_width = refl

served_beyond_width :
    flag_text (codes "serve" ∷ codes "spec" ∷ codes "--beyond-width" ∷ codes "--port=1" ∷ [])
    ≡ Some (Some (codes "true"))
unfolding clap_on_literals
served_beyond_width = refl

served_within_width :
    flag_text (codes "serve" ∷ codes "spec" ∷ codes "--port=1" ∷ []) ≡ Some (Some (codes "false"))
unfolding clap_on_literals
served_within_width = refl

-- `check` and the plain program don't take it
check_has_no_flag :
    fault_of monitor_app (codes "check" ∷ codes "spec" ∷ codes "report" ∷ codes "stream" ∷ codes "--beyond-width" ∷ [])
    ≡ UnknownArgument ∷ []
unfolding clap_on_literals
check_has_no_flag = refl

-- the option's text stands in the rows of `judge` and `serve`, and in no other command's
abbrev list_given : List Text → Option (Option Text)
list_given arguments = option_map (λ found. first_of (codes "LIST") found.1) (subcommand_of monitor_app arguments)

judged_with_list :
    list_given (codes "judge" ∷ codes "spec" ∷ codes "--fail-on" ∷ codes "a:possibly" ∷ codes "stream" ∷ [])
    ≡ Some (Some (codes "a:possibly"))
unfolding clap_on_literals
judged_with_list = refl

judged_without_list : list_given (codes "judge" ∷ codes "spec" ∷ codes "stream" ∷ []) ≡ Some None
unfolding clap_on_literals
judged_without_list = refl

served_with_list :
    list_given (codes "serve" ∷ codes "spec" ∷ codes "--port=1" ∷ codes "--fail-on=unknown" ∷ [])
    ≡ Some (Some (codes "unknown"))
unfolding clap_on_literals
served_with_list = refl

check_has_no_list :
    fault_of monitor_app (codes "check" ∷ codes "spec" ∷ codes "report" ∷ codes "stream" ∷ codes "--fail-on=unknown"
    ∷ [])
    ≡ UnknownArgument ∷ []
unfolding clap_on_literals
check_has_no_list = refl

-- The version and the help are asked for by these. By the parser's clauses, what stands after `help` may also be found
-- to be no command.
version_is_shown : fault_of monitor_app (codes "--version" ∷ []) ≡ DisplayVersion ∷ []
unfolding clap_on_literals
version_is_shown = refl

help_is_shown : fault_of monitor_app (codes "help" ∷ []) ≡ DisplayHelp ∷ InvalidSubcommand ∷ []
unfolding clap_on_literals
help_is_shown = refl

help_of_judge_is_shown :
    fault_of monitor_app (codes "help" ∷ codes "judge" ∷ []) ≡ DisplayHelp ∷ InvalidSubcommand ∷ []
unfolding clap_on_literals
help_of_judge_is_shown = refl

program_has_no_flag : fault_of monitor_app (codes "--beyond-width" ∷ []) ≡ UnknownArgument ∷ []
unfolding clap_on_literals
program_has_no_flag = refl
