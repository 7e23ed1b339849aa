-- What a server writes of a session, by the format.
use Rattle.std.specs.Prelude.{ℕ, List, [], Option}
use Rattle.def_format.specs.Documents.{Inquiry}
use Rattle.def_format.specs.Reports.{Report}
use Rattle.def_judgement.specs.Writes.{IsTextOfStreams, Source}
use Rattle.judge_explore.specs.Explored.{IsOwed, Object}
use Rattle.judge_runs.specs.Wishes.{Condition}
use Rattle.app_arguments.specs.Formats.{Format, Plain, Json}
use Rattle.app_arguments.specs.Statuses.{Ending, OfReport}

-- What a server writes of a session, by the format: the text of its report; or its object, which says of each cut what
-- the variables are worth there, and of no event where it was recorded, since a connection has no file. Of the report
-- this is said.
abbrev pub IsServed : Format → Inquiry → (inputs : List Source) (IsSaid : Report → Type 0) (text : List ℕ) → Type 0
IsServed Plain inquiry inputs = IsTextOfStreams inquiry inputs
IsServed Json inquiry inputs = IsOwed inquiry Object [] inputs

-- it is left as a judgement's report is
abbrev pub OfServed : Format → (inputs : List Source) (fail_on : List Condition) → Inquiry → Ending
    → (old new : Option (List ℕ)) → Type 0
OfServed format inputs fail_on inquiry ending old new =
    OfReport (IsServed format inquiry inputs) fail_on ending old new
