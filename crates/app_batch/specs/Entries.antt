-- The entries of an input, of which each is a session or says why there is none: its lines, or its bundles.
use Rattle.std.specs.Prelude.{ℕ, Bool, true, false, List, Option}
use Rattle.def_format.specs.Lines.{all_lines}
use Rattle.def_judgement.specs.Writes.{Source}
use Rattle.read_items.specs.GivenItems as items
use Rattle.read_items.specs.Items.{all_items}
use Rattle.read_lines.specs.GivenLines as lines
use Rattle.read_lines.specs.GivenLines.{State}
use Rattle.read_lines.specs.declared.line.Line as given
use Rattle.read_sessions.specs.SessionLines.{Line, session_bundle, session_line}

-- the entries of bytes after which nothing comes
abbrev pub entries_in : (in_bundles : Bool) → List ℕ → List (List ℕ)
entries_in false bytes = all_lines bytes
entries_in true bytes = all_items bytes

-- what the entry of this number says
abbrev pub entry_said : (in_bundles : Bool) (number : ℕ) → List ℕ → Line
entry_said false number entry = session_line entry
entry_said true number entry = session_bundle number entry

-- ---- while they are read

-- the entry with these bytes: they are given, or they are too many
abbrev pub IsEntry : (in_bundles : Bool) → given.Line → List ℕ → Type 0
IsEntry false = lines.IsLine
IsEntry true = items.IsItem

-- the entries that a source gave so far
abbrev pub HasEntries : (in_bundles : Bool) → (input : Source) → List (List ℕ) → State → Type 0
HasEntries false = lines.HasLines
HasEntries true = items.HasItems

-- a source gives the next entry, or they were all
abbrev pub GivesEntry : (in_bundles : Bool) → Option given.Line → (old new : State) → Type 0
GivesEntry false = lines.Gives
GivesEntry true = items.Gives

-- a read failed of a source that gave these entries
abbrev pub EntriesBreakOff : (in_bundles : Bool) → (input : Source) → List (List ℕ) → Type 0
EntriesBreakOff false = lines.BreaksOff
EntriesBreakOff true = items.BreaksOff
