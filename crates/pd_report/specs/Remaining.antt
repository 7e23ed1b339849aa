-- The words that remain.
use Rattle.std.specs.Prelude.{ℕ, List}
use Rattle.pd_report.specs.Reading.{pieces_if}
use Rattle.pd_report.specs.declared.remaining.Words.{Words}

-- the words that remain of bytes
abbrev pub words_left : Words → List (List ℕ)
words_left words = pieces_if words.between words.rest
