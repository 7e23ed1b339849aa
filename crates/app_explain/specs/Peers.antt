-- Which processes of the document the streams of a server are missing.
use Rattle.std.specs.Prelude.{ℕ, Bool, true, false, not, ◌&&◌, nat_lt, List, [], ◌∷◌, ◌++◌, map, Option, Some, None, codes}
use Rattle.std.specs.Option.{option_copied}
use Rattle.std.specs.List.{filter, flat_map, list_any}
use Rattle.std.specs.Str.{bytes_eq}
use Rattle.def_format.specs.Names.{ProcessNames}
use Rattle.app_text.specs.Shown.{shown_name}
use Rattle.app_explain.specs.declared.peers.Sender.{Sender}

abbrev pub process_names : List ProcessNames → List (List ℕ)
process_names names = map (λ process. process.name) names

-- the name is that of the process, if there is one
abbrev pub is_that_name : List ℕ → Option (List ℕ) → Bool
is_that_name name None = false
is_that_name name (Some process) = bytes_eq process name

-- two streams are of one process, or neither has said whose it is
abbrev pub is_same_process : Option (List ℕ) → Option (List ℕ) → Bool
is_same_process None None = true
is_same_process None (Some process) = false
is_same_process (Some process) other = is_that_name process other

abbrev pub is_earlier : Sender → Sender → Bool
is_earlier other sender =
    nat_lt other.stream sender.stream && is_same_process (option_copied sender.process) (option_copied other.process)

-- one of the streams is that of the process of this name
abbrev pub is_sent : List Sender → List ℕ → Bool
is_sent senders name = list_any (λ sender. is_that_name name (option_copied sender.process)) senders

-- the names of which no stream is sent, in their order
abbrev pub missing : List Sender → List (List ℕ) → List (List ℕ)
missing senders names = filter (λ name. not (is_sent senders name)) names

-- what stands before the next name, after these
abbrev pub before_next : List (List ℕ) → List ℕ
before_next [] = codes "Missing: "
before_next (name ∷ others) = codes ", "

-- the names, with a comma between each two
abbrev pub missing_names : List (List ℕ) → List ℕ
missing_names [] = []
missing_names (name ∷ others) =
    codes "Missing: " ++ shown_name name ++ flat_map (λ other. codes ", " ++ shown_name other) others

abbrev pub missing_text : List (List ℕ) → List ℕ
missing_text names = missing_names names ++ codes ".\n"
