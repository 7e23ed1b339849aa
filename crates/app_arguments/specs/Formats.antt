-- The formats in which a report is written, or what a check finds, or what came of recorded runs.
use Rattle.std.specs.Prelude.{ℕ, List, codes}

pub data Format : Type 0 where
  -- lines of text
  Plain : Format
  -- one JSON object
  Json : Format

-- the word for a format
abbrev pub format_text : Format → List ℕ
format_text Plain = codes "text"
format_text Json = codes "json"
