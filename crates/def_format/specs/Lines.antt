-- The lines of a stream's bytes, and where a line or the stream is too long.
use Rattle.std.specs.Prelude.{◌≡◌, ℕ, suc, ◌+◌, Bool, not, ◌&&◌, ◌||◌, ◌==◌, nat_le, if◌then◌else◌, List, [], ◌∷◌, ◌++◌, length, count_by, Option, Some, None, is_some}
use Rattle.std.specs.List.{list_any, list_all}
use Rattle.def_format.specs.Limits.{line_byte_limit, stream_byte_limit}

abbrev pub line_feed : ℕ
line_feed = 10

-- a line with its number, counted from 1
pub record Line : Type 0 where
  pub number : ℕ
  pub bytes : List ℕ

abbrev pub line : ℕ → List ℕ → Line
line n bytes = record { number = n; bytes = bytes }

-- the byte before the first line, if there is one
abbrev pub onto_first : ℕ → List (List ℕ) → List (List ℕ)
onto_first byte [] = []
onto_first byte (first ∷ others) = (byte ∷ first) ∷ others

-- the lines that an LF ends, each without it
abbrev pub ended_lines : List ℕ → List (List ℕ)
ended_lines [] = []
ended_lines (byte ∷ rest) = if byte == line_feed then [] ∷ ended_lines rest else onto_first byte (ended_lines rest)

abbrev pub has_line_feed : List ℕ → Bool
has_line_feed bytes = list_any (λ byte. byte == line_feed) bytes

-- the bytes after the last LF
abbrev pub unended_line : List ℕ → List ℕ
unended_line [] = []
unended_line (byte ∷ rest) = if has_line_feed (byte ∷ rest) then unended_line rest else byte ∷ rest

-- a rest is a line if it isn't empty
abbrev pub as_line : List ℕ → List (List ℕ)
as_line [] = []
as_line (byte ∷ rest) = (byte ∷ rest) ∷ []

-- the lines of bytes after which nothing comes
abbrev pub all_lines : List ℕ → List (List ℕ)
all_lines bytes = ended_lines bytes ++ as_line (unended_line bytes)

-- nothing but space, tab and CR
abbrev pub is_blank : List ℕ → Bool
is_blank bytes = list_all (λ byte. byte == 32 || byte == 9 || byte == 13) bytes

-- the lines with their numbers, from this one on, the blank ones left out
abbrev pub numbered_from : ℕ → List (List ℕ) → List Line
numbered_from n [] = []
numbered_from n (bytes ∷ others) =
    if is_blank bytes then numbered_from (suc n) others else line n bytes ∷ numbered_from (suc n) others

-- ---- faults

pub data FrameFault : Type 0 where
  LineTooLong : ℕ → FrameFault
  StreamTooLong : ℕ → FrameFault

-- the number of the line in which a byte after these stands; an LF stands in the line that it ends
abbrev pub line_number : List ℕ → ℕ
line_number before = count_by (λ byte. byte == line_feed) before + 1

-- The fault of a byte after these: its line has as many bytes as it may, and this one isn't its LF, or else the stream
-- has as many as it may.
abbrev pub fault_of_byte : List ℕ → ℕ → Option FrameFault
fault_of_byte before byte =
    if not (byte == line_feed) && nat_le line_byte_limit (length (unended_line before)) then
    Some (LineTooLong (line_number before))
    else (if nat_le stream_byte_limit (length before) then Some (StreamTooLong (line_number before)) else None)

abbrev pub first_fault_of : Option FrameFault → Option FrameFault → Option FrameFault
first_fault_of None later = later
first_fault_of (Some fault) later = Some fault

-- the fault of the first byte that has one, of bytes that stand after others
abbrev pub fault_after : List ℕ → List ℕ → Option FrameFault
fault_after before [] = None
fault_after before (byte ∷ rest) = first_fault_of (fault_of_byte before byte) (fault_after (before ++ byte ∷ []) rest)

-- the bytes before that byte, or all if none has a fault
abbrev pub sound_after : List ℕ → List ℕ → List ℕ
sound_after before [] = []
sound_after before (byte ∷ rest) =
    if is_some (fault_of_byte before byte) then [] else byte ∷ sound_after (before ++ byte ∷ []) rest

abbrev pub frame_fault : List ℕ → Option FrameFault
frame_fault bytes = fault_after [] bytes

abbrev pub sound_part : List ℕ → List ℕ
sound_part bytes = sound_after [] bytes

-- ---- what the bytes give

-- the lines while more bytes may come: those whose LF is there, before the first faulty byte
abbrev pub open_lines : List ℕ → List Line
open_lines bytes = numbered_from 1 (ended_lines (sound_part bytes))

-- the lines if no more bytes come
abbrev pub finished_lines : List ℕ → List Line
finished_lines bytes = if is_some (frame_fault bytes) then open_lines bytes else numbered_from 1 (all_lines bytes)

-- how many lines there are if no more bytes come, the blank ones counted
abbrev pub line_count : List ℕ → ℕ
line_count bytes = length (all_lines bytes)

-- what a piece after these bytes gives: the lines that are new, and the fault that stands then
pub record IsBatch (before piece : List ℕ) (lines : List Line) (fault : Option FrameFault) : Type 0 where
  pub new_lines : open_lines (before ++ piece) ≡ open_lines before ++ lines
  pub same_fault : frame_fault (before ++ piece) ≡ fault
