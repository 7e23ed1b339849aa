-- A session in one input: the document and the streams, with separator lines between them.
use Rattle.std.specs.Prelude.{ℕ, Bool, ◌==◌, if◌then◌else◌, List, [], ◌∷◌, ◌++◌, codes}
use Rattle.def_format.specs.Lists.{is_one_of}
use Rattle.def_format.specs.Lines.{line_feed}

-- the byte at the front of the first piece
abbrev pub before_first : ℕ → List (List ℕ) → List (List ℕ)
before_first byte [] = (byte ∷ []) ∷ []
before_first byte (first ∷ others) = (byte ∷ first) ∷ others

-- the lines, each with the LF that ends it; the last one may have none
abbrev pub whole_lines : List ℕ → List (List ℕ)
whole_lines [] = []
whole_lines (byte ∷ rest) = if byte == line_feed then (byte ∷ []) ∷ whole_lines rest else
    before_first byte (whole_lines rest)

-- three dashes, with a CR after them or none, and with its LF or, at the end, none
abbrev pub is_separator : List ℕ → Bool
is_separator line = is_one_of (codes "---" ∷ codes "---\r" ∷ codes "---\n" ∷ codes "---\r\n" ∷ []) line

-- a line at the front of the first part
abbrev pub onto_part : List ℕ → List (List ℕ) → List (List ℕ)
onto_part line [] = line ∷ []
onto_part line (first ∷ others) = (line ++ first) ∷ others

-- the bytes between two separators; with no separator the lines are one part
abbrev pub parts_of_lines : List (List ℕ) → List (List ℕ)
parts_of_lines [] = [] ∷ []
parts_of_lines (line ∷ others) = if is_separator line then [] ∷ parts_of_lines others else
    onto_part line (parts_of_lines others)

-- the parts of a bundle: the document, and then the streams
abbrev pub parts_of : List ℕ → List (List ℕ)
parts_of bytes = parts_of_lines (whole_lines bytes)
