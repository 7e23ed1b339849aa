-- Lines of JSON, one for each session: the session itself, what it comes to, or why there is none. The fields of each
-- object stand in byte order of their names.
use Rattle.std.specs.Prelude.{ℕ, List, [], ◌∷◌, ◌++◌, map, Option, None, Some}
use Rattle.serde_json.specs.Data.{Data, string, array, object, Members, no_members}
use Rattle.serde_json.specs.View.{items_of}
use Rattle.serde_json.specs.Written.{compact_text}
use Rattle.def_format.specs.Lines.{line_feed}
use Rattle.def_format.specs.Names.{ProcessNames}
use Rattle.def_format.specs.Reports.{Report}
use Rattle.out_json.specs.JsonReports.{field, json_of, number_data}

-- a value without spaces, in one line
abbrev pub line_text : Data → List ℕ
line_text value = compact_text value ++ line_feed ∷ []

-- the field `id` with a session's name, if it has one, before more fields
abbrev pub named : (id : Option (List ℕ)) → Members → Members
named None more = more
named (Some id) more = field "id" (string id) more

-- a session of this name
abbrev pub session_data : (id document : List ℕ) (streams : List (List ℕ)) → Data
session_data id document streams =
    object (field "document" (string document) (field "id" (string id)
    (field "streams" (array (items_of (map (λ stream. string stream) streams))) no_members)))

-- why there is no session of this name
abbrev pub unread_data : (id error : List ℕ) → Data
unread_data id error = object (field "error" (string error) (field "id" (string id) no_members))

-- the same of a session that stood in the line of this number, counted from 1, and that may have a name
abbrev pub error_data : (id : Option (List ℕ)) (error : List ℕ) (number : ℕ) → Data
error_data id error number =
    object (field "error" (string error) (named id (field "line" (number_data number) no_members)))

-- what a session comes to: its report, with the names of its processes, and the status that `judge` would end with
abbrev pub answer_data : (id : Option (List ℕ)) (names : List ProcessNames) → Report → (status : ℕ) → Data
answer_data id names report status =
    object (named id (field "report" (json_of names report) (field "status" (number_data status) no_members)))
