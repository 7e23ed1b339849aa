-- What stands in a page for the files in which events were recorded.
use Rattle.std.specs.Prelude.{ℕ, List, ◌++◌, codes, decimal}
use Rattle.out_page.specs.JsonTexts.{listed, quoted}

-- Where the events of a process were recorded: in the file of this name, and each event, of as many as is known, in the
-- line of this number.
pub record Source : Type 0 where
  pub name : List ℕ
  pub lines : List ℕ

unfoldable pub source_text : Source → List ℕ
source_text source = codes "[" ++ quoted source.name ++ codes ",[" ++ listed decimal source.lines ++ codes "]]"
