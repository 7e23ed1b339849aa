-- What a line that was read stands for.
use Rattle.std.specs.Prelude.{ℕ, List, map, Option, option_map, string_bytes}
use Rattle.std.specs.Global.{Global}
use Rattle.std.specs.Prelude.{String}
use Rattle.read_sessions.specs.SessionLines as lines
use Rattle.read_sessions.specs.declared.session.Session.{Session}
use Rattle.read_sessions.specs.declared.session.SessionLine.{SessionLine}
use Rattle.read_sessions.specs.declared.session.SessionLine.TheVariants.{Holds, Tells, NoSession, NoJson}

-- a name, if there is one
abbrev pub name_view : Option (String Global) → Option (List ℕ)
name_view name = option_map string_bytes name

abbrev pub session_view : Session → lines.Session
session_view session = record {
  id = name_view session.id;
  document = string_bytes session.document;
  streams = map string_bytes session.streams.items;
}

abbrev pub line_view : SessionLine → lines.Line
line_view (Holds session) = lines.Holds (session_view session)
line_view (Tells id error) = lines.Tells (name_view id) (string_bytes error)
line_view NoSession = lines.NoSession
line_view NoJson = lines.NoJson
