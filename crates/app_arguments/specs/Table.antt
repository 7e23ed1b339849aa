-- The table of commands, with the arguments and options of each, and the command line that the parser makes of it.
use Rattle.std.specs.Prelude.{ℕ, true, List, [], ◌∷◌, ◌++◌, codes, Option, Some, None}
use Rattle.clap.specs.Lexer.{usize_max}
use Rattle.clap.specs.Words.{App, Rule, Shape, Text, new_app, new_rule, with_rule, with_subcommand}
use Rattle.clap.specs.declared.builder.action.ArgAction.TheVariants.{Append, SetTrue}
use Rattle.clap.specs.declared.builder.value_parser.ValueParser.TheVariants.{Unsigned}
use Rattle.def_format.specs.Limits.{width_limit, worker_limit}
use Rattle.app_arguments.specs.declared.table.ArgumentKind.{ArgumentKind}
use Rattle.app_arguments.specs.declared.table.ArgumentKind.TheVariants as kinds

-- ---- limits

-- the greatest port next to which there is one more
abbrev pub port_limit : ℕ
port_limit = 65534

-- how many watchers there are at most
abbrev pub watcher_limit : ℕ
watcher_limit = 64

-- how many seconds are waited for streams at most: a day
abbrev pub wait_limit : ℕ
wait_limit = 86400

-- how many bytes a token has at most
abbrev pub token_limit : ℕ
token_limit = 1024

-- the greatest number of a column that can be asked for
abbrev pub column_number_limit : ℕ
column_number_limit = 4294967295

-- ---- the table

-- an argument of a command: its id, its name if it is an option, its text if it isn't given, and how it is given
pub record Argument : Type 0 where
  pub id : Text
  pub long : Option Text
  pub default : Option Text
  pub kind : ArgumentKind

-- one that has its place among the arguments
abbrev pub placed : (id : Text) → ArgumentKind → Argument
placed id kind = record { id = id; long = None; default = None; kind = kind }

-- one that is given by its name
abbrev pub option : (id name : Text) → ArgumentKind → Argument
option id name kind = record { id = id; long = Some name; default = None; kind = kind }

-- The flag that asks for explanations is taken out of the arguments before they are parsed. It stands here for the
-- help, and for the word that is meant where one is nearly it.
abbrev pub explain : Argument
explain = option (codes "EXPLAIN") (codes "explain") kinds.Flag

-- of each command that judges: explanations, a width in place of the document's, and predicates in place of its
abbrev pub asking : List Argument
asking =
    explain ∷ option (codes "WIDTH") (codes "width") (kinds.Number 1 width_limit)
    ∷ option (codes "TEXT") (codes "ask") kinds.Texts ∷ []

-- of each command on a session document
abbrev pub on_document : List Argument
on_document = placed (codes "SPEC") kinds.Name ∷ asking

abbrev pub streams : Argument
streams = placed (codes "STREAM") kinds.Names

-- the folders of recorded runs
abbrev pub runs : Argument
runs = placed (codes "RUN") kinds.Names

abbrev pub workers : Argument
workers =
    record (option (codes "WORKERS") (codes "workers") (kinds.Number 1 worker_limit)) { default = Some (codes "1") }

-- how many runs or sessions are judged side by side
abbrev pub jobs : Argument
jobs = record (option (codes "JOBS") (codes "jobs") (kinds.Number 1 worker_limit)) { default = Some (codes "1") }

-- what is decided whatever the width is asked for too
abbrev pub beyond_width : Argument
beyond_width = option (codes "BEYOND_WIDTH") (codes "beyond-width") kinds.Flag

-- of each command that may fail by its answers
abbrev pub judging : List Argument
judging = workers ∷ beyond_width ∷ option (codes "LIST") (codes "fail-on") kinds.Text ∷ []

-- the format of what is written
abbrev pub format : Argument
format = option (codes "FORMAT") (codes "format") kinds.Text

-- the names of predicates that are never to hold, are to hold in every observation, or in some
abbrev pub wishing : List Argument
wishing =
    option (codes "NEVER") (codes "never") kinds.Texts ∷ option (codes "ALWAYS") (codes "always") kinds.Texts
    ∷ option (codes "SOMETIMES") (codes "sometimes") kinds.Texts ∷ []

-- where connections are accepted
abbrev pub placing : List Argument
placing =
    option (codes "PORT") (codes "port") (kinds.Number 0 port_limit)
    ∷ option (codes "ADDRESS") (codes "bind") kinds.Text ∷ option (codes "PATH") (codes "socket") kinds.Text
    ∷ option (codes "PORT_FILE") (codes "port-file") kinds.Text ∷ []

-- which connections are streams, and after how many seconds one ends that says nothing
abbrev pub admitting : List Argument
admitting =
    option (codes "JOIN_FIRST") (codes "join-first") kinds.Flag ∷ option (codes "TOKEN") (codes "token") kinds.Text
    ∷ option (codes "TOKEN_FILE") (codes "token-file") kinds.Text
    ∷ option (codes "IDLE") (codes "idle") (kinds.Number 1 wait_limit) ∷ []

-- files of notes
abbrev pub notes : Argument
notes = option (codes "NOTES") (codes "notes") kinds.Texts

-- what each command takes
abbrev pub judge_arguments : List Argument
judge_arguments =
    on_document ++ (streams ∷ judging) ++ (format ∷ notes ∷ [])

abbrev pub check_arguments : List Argument
check_arguments = on_document ++ (placed (codes "REPORT") kinds.Name ∷ streams ∷ notes ∷ format ∷ [])

abbrev pub draw_arguments : List Argument
draw_arguments =
    on_document ++ (placed (codes "FILE") kinds.Names ∷ beyond_width
    ∷ option (codes "PREDICATE") (codes "predicate") kinds.Text ∷ option (codes "KIND") (codes "evidence") kinds.Text
    ∷ option (codes "COLUMN") (codes "from") (kinds.Number 1 column_number_limit)
    ∷ option (codes "ALL") (codes "all") kinds.Flag ∷ notes ∷ [])

abbrev pub serve_arguments : List Argument
serve_arguments =
    on_document ++ placing
    ++ (record (option (codes "WATCHERS") (codes "watchers") (kinds.Number 0 watcher_limit)) {
      default = Some (codes "0");
    }
    ∷ option (codes "SECONDS") (codes "wait") (kinds.Number 1 wait_limit) ∷ [])
    ++ admitting ++ (option (codes "FOLDER") (codes "keep") kinds.Text ∷ judging) ++ (format ∷ [])

abbrev pub explore_arguments : List Argument
explore_arguments =
    on_document ++ (streams ∷ judging) ++ wishing
    ++ (notes ∷ option (codes "PATTERN") (codes "link") kinds.Text ∷ [])

abbrev pub test_arguments : List Argument
test_arguments =
    runs ∷ asking ++ (workers ∷ wishing)
    ++ (jobs ∷ option (codes "FOLDER") (codes "pages") kinds.Text ∷ format
    ∷ option (codes "JSON") (codes "json") kinds.Text ∷ option (codes "JUNIT") (codes "junit") kinds.Text ∷ [])

abbrev pub infer_arguments : List Argument
infer_arguments = streams ∷ explain ∷ []

abbrev pub reduce_arguments : List Argument
reduce_arguments = on_document ++ (streams ∷ option (codes "FOLDER") (codes "to") kinds.Name ∷ [])

abbrev pub batch_arguments : List Argument
batch_arguments = asking ++ judging ++ (jobs ∷ option (codes "BUNDLES") (codes "bundles") kinds.Flag ∷ [])

abbrev pub bundle_arguments : List Argument
bundle_arguments = runs ∷ explain ∷ []

abbrev pub merge_arguments : List Argument
merge_arguments = explain ∷ []

-- the commands, by their names
abbrev pub commands : List (Text × List Argument)
commands =
    (codes "judge", judge_arguments) ∷ (codes "check", check_arguments) ∷ (codes "draw", draw_arguments)
    ∷ (codes "serve", serve_arguments) ∷ (codes "explore", explore_arguments) ∷ (codes "test", test_arguments)
    ∷ (codes "infer", infer_arguments) ∷ (codes "reduce", reduce_arguments) ∷ (codes "batch", batch_arguments)
    ∷ (codes "bundle", bundle_arguments) ∷ (codes "merge", merge_arguments) ∷ []

-- ---- the command line

-- a rule by how its argument is given
abbrev pub rule_by : ArgumentKind → Rule → Rule
rule_by kinds.Name rule = record rule { required = true }
rule_by kinds.Names rule =
    record rule { required = true; range = Some (record { start_inclusive = 1; end_inclusive = usize_max }) }
rule_by kinds.Text rule = rule
rule_by kinds.Texts rule = record rule { action = Some Append }
rule_by kinds.Flag rule = record rule { action = Some SetTrue }
rule_by (kinds.Number least most) rule = record rule { parser = Some (Unsigned least most) }

abbrev pub texts_in_option : Option Text → List Text
texts_in_option None = []
texts_in_option (Some text) = text ∷ []

-- the rule that the parser goes by
abbrev pub rule_for : Argument → Rule
rule_for argument =
    rule_by argument.kind
    (record (new_rule argument.id) { long = argument.long; defaults = texts_in_option argument.default })

abbrev pub with_arguments : App → List Argument → App
with_arguments app [] = app
with_arguments app (argument ∷ others) = with_arguments (with_rule app (rule_for argument)) others

-- the command line of a command
abbrev pub command_app : Text × List Argument → App
command_app command = with_arguments (new_app command.0) command.1

abbrev pub with_commands : App → List (Text × List Argument) → App
with_commands app [] = app
with_commands app (command ∷ others) = with_commands (with_subcommand app (command_app command).top) others

-- the program alone, with a version; its name isn't among the arguments that are parsed
abbrev pub plain_shape : Shape
plain_shape = record (new_app (codes "monitor")).top { no_binary_name = true; has_version = true }

abbrev pub plain_app : App
plain_app = with_arguments (record { top = plain_shape; subs = [] }) (explain ∷ [])

-- with its commands
abbrev pub monitor_app : App
monitor_app = with_commands plain_app commands
