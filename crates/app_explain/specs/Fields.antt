-- What the fields of records say.
use Rattle.std.specs.Prelude.{ℕ, Bool, false, List, Option, Some, None, codes, slice_get, option_and_then}
use Rattle.std.specs.Str.{bytes_eq}
use Rattle.serde_json.specs.Find.{get, as_str}
use Rattle.def_format.specs.Lists.{first_some}
use Rattle.def_format.specs.Records.{json_value}
use Rattle.app_text.specs.Lines.{records}

-- the text at this field of a line that is a JSON object, if it has such a field
abbrev pub text_in : List ℕ → List ℕ → Option (List ℕ)
text_in field line = option_and_then as_str (option_and_then (get field) (json_value line))

-- the same of the record of a stream before which this many others stand
abbrev pub text_in_record : List ℕ → ℕ → List ℕ → Option (List ℕ)
text_in_record field passed bytes =
    option_and_then (λ found. text_in field found.bytes) (slice_get (records bytes) passed)

-- the process of the stream, as its first record says it
abbrev pub joined_name : List ℕ → Option (List ℕ)
joined_name bytes = text_in_record (codes "process") 0 bytes

-- the id of the message that the event with this number sends, or else receives; the first record is no event
abbrev pub message_of : ℕ → List ℕ → Option (List ℕ)
message_of number bytes =
    first_some (text_in_record (codes "send") number bytes) (text_in_record (codes "recv") number bytes)

-- there is a text, and it is this one
abbrev pub is_text : List ℕ → Option (List ℕ) → Bool
is_text text None = false
is_text text (Some found) = bytes_eq found text
