-- The greatest sizes and numbers that are accepted; over any of them the input is refused. `src/limits.rt` has the same
-- numbers as constants, each with a contract that says so.
use Rattle.std.specs.Prelude.{ℕ}

-- ---- session documents

-- bytes of a document
abbrev pub document_byte_limit : ℕ
document_byte_limit = 262144

-- processes of a document
abbrev pub process_limit : ℕ
process_limit = 16

-- variables of a process
abbrev pub var_limit : ℕ
var_limit = 16

-- predicates of a document
abbrev pub predicate_limit : ℕ
predicate_limit = 16

-- bytes of a name
abbrev pub name_byte_limit : ℕ
name_byte_limit = 32

-- the greatest width: the most cuts of a level that are kept
abbrev pub width_limit : ℕ
width_limit = 65536

-- the width of a document that gives none
abbrev pub default_width : ℕ
default_width = 4096

-- ---- predicates

-- bytes of a predicate's text
abbrev pub predicate_byte_limit : ℕ
predicate_byte_limit = 4096

-- how deep parentheses and `not`s may be nested
abbrev pub depth_limit : ℕ
depth_limit = 64

-- ---- streams

-- streams of a session
abbrev pub stream_count_limit : ℕ
stream_count_limit = 32

-- bytes of a line, its LF aside
abbrev pub line_byte_limit : ℕ
line_byte_limit = 65536

-- bytes of a stream
abbrev pub stream_byte_limit : ℕ
stream_byte_limit = 16777216

-- events of a process
abbrev pub event_limit : ℕ
event_limit = 10000

-- bytes of a message's id
abbrev pub id_byte_limit : ℕ
id_byte_limit = 64

-- ---- bundles and reports

-- bytes of a bundle
abbrev pub bundle_byte_limit : ℕ
bundle_byte_limit = 67108864

-- bytes of a report
abbrev pub report_byte_limit : ℕ
report_byte_limit = 268435456

-- ---- the work on a session

-- workers that share it
abbrev pub worker_limit : ℕ
worker_limit = 16
