-- Answers whose names are UTF-8.
use Rattle.std.specs.Prelude.{List}
use Rattle.std.specs.List.{AllByRecursion}
use Rattle.std.specs.Str.{IsUtf8}
use Rattle.def_format.specs.Reports.{Definitely, Answer}

-- the names of the path are, if there is one
abbrev pub PathIsUtf8 : Definitely → Type 0
PathIsUtf8 (Definitely.Yes level) = Unit {0}
PathIsUtf8 (Definitely.No path) = AllByRecursion IsUtf8 path
PathIsUtf8 (Definitely.Unknown level) = Unit {0}

abbrev pub PathsAreUtf8 : List Answer → Type 0
PathsAreUtf8 answers = AllByRecursion (λ (answer : Answer). PathIsUtf8 answer.definitely) answers
