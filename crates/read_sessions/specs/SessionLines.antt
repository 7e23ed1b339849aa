-- Sessions in lines and in bundles: what a line says, and what a bundle does.
use Rattle.std.specs.Prelude.{ℕ, nat_lt, if◌then◌else◌, List, [], length, codes, decimal, drop, get_or, Option, Some, None, option_and_then, option_map}
use Rattle.serde_json.specs.Data.{Data}
use Rattle.serde_json.specs.Find.{as_array, as_object, as_str, get_member}
use Rattle.serde_json.specs.Data.{Members}
use Rattle.def_format.specs.Bundles.{parts_of}
use Rattle.def_format.specs.Documents.{each, field}
use Rattle.def_format.specs.Limits.{bundle_byte_limit}
use Rattle.def_format.specs.Records.{json_value}
use Rattle.read_parts.specs.Texts.{texts_of_parts}

-- how many bytes a line may have, without its LF: 128 MiB
abbrev pub session_line_limit : ℕ
session_line_limit = 134217728

-- a session: its name, if it has one, the bytes of its document, and those of its streams
pub record Session : Type 0 where
  pub id : Option (List ℕ)
  pub document : List ℕ
  pub streams : List (List ℕ)

pub data Line : Type 0 where
  -- a session
  Holds : Session → Line
  -- why there is none of this name, by whoever wrote the line
  Tells : (id : Option (List ℕ)) (error : List ℕ) → Line
  -- something else in JSON
  NoSession : Line
  -- no JSON value
  NoJson : Line
  -- over `session_line_limit` bytes
  TooLong : Line

-- the texts of an array of texts
abbrev pub texts_of : Data → Option (List (List ℕ))
texts_of value = option_and_then (each as_str) (as_array value)

-- the name, if there is one; a field that isn't a text is none
abbrev pub id_by : (id : Option Data) → Option (Option (List ℕ))
id_by None = Some None
id_by (Some value) = option_map (λ text. Some text) (as_str value)

-- by a name, a document and streams
abbrev pub session_by : (id : Option (List ℕ)) (document : Option (List ℕ)) (streams : Option (List (List ℕ))) → Line
session_by id None streams = NoSession
session_by id (Some document) None = NoSession
session_by id (Some document) (Some streams) = Holds (record { id = id; document = document; streams = streams })

-- by a name and an error
abbrev pub line_by : (id : Option (Option (List ℕ))) (error : Option (List ℕ)) → Members → Line
line_by None error fields = NoSession
line_by (Some id) (Some text) fields = Tells id text
line_by (Some id) None fields =
    session_by id (field (codes "document") as_str fields) (field (codes "streams") texts_of fields)

abbrev pub line_of_fields : Members → Line
line_of_fields fields = line_by (id_by (get_member (codes "id") fields)) (field (codes "error") as_str fields) fields

abbrev pub line_of_object : Option Members → Line
line_of_object None = NoSession
line_of_object (Some fields) = line_of_fields fields

abbrev pub line_of_json : Option Data → Line
line_of_json None = NoJson
line_of_json (Some value) = line_of_object (as_object value)

-- what a line says, by its bytes without an LF
abbrev pub session_line : List ℕ → Line
session_line bytes = if nat_lt session_line_limit (length bytes) then TooLong else line_of_json (json_value bytes)

-- ---- bundles

-- by the parts of a bundle, of which the first is the document: each has to be a text
abbrev pub session_of_parts : (id : List ℕ) → Option (List (List ℕ)) → Line
session_of_parts id None = Tells (Some id) (codes "no UTF-8")
session_of_parts id (Some parts) =
    Holds (record { id = Some id; document = get_or parts 0 []; streams = drop 1 parts })

-- what the bundle of this number says, by its bytes; its name is the number
abbrev pub session_bundle : (number : ℕ) → List ℕ → Line
session_bundle number bytes =
    if nat_lt bundle_byte_limit (length bytes) then Tells (Some (decimal number)) (codes "over 67108864 bytes")
    else session_of_parts (decimal number) (texts_of_parts (parts_of bytes))
