-- A tool of proofs: nothing that a reader has to believe. What a part of a line, an LF and the end add to bytes that
-- have no fault. Each is proved at a function of the crate.
use Rattle.std.specs.Prelude.{◌≡◌, ℕ, ◌+◌, ◌≤◌, ◌<◌, false, List, [], ◌∷◌, ◌++◌, length, Some, None}
use Rattle.def_format.specs.Lines.{line_feed, has_line_feed, unended_line, as_line, numbered_from, LineTooLong, StreamTooLong, FrameFault, line_number, fault_of_byte, fault_after, frame_fault, open_lines, finished_lines, line_count, IsBatch}
use Rattle.def_format.specs.Limits.{line_byte_limit, stream_byte_limit}

-- ---- the first fault of bytes without an LF that stand after others

abbrev pub ShortPartIsSound : Type 0
ShortPartIsSound = (bytes part : List ℕ) → has_line_feed part ≡ false → length (unended_line bytes) + length part
    ≤ line_byte_limit → length bytes + length part ≤ stream_byte_limit → fault_after bytes part ≡ None

abbrev pub LongLineIsFaulty : Type 0
LongLineIsFaulty = (bytes part : List ℕ) → has_line_feed part ≡ false → length (unended_line bytes) ≤ line_byte_limit
    → line_byte_limit < length (unended_line bytes) + length part
    → length bytes + line_byte_limit ≤ length (unended_line bytes) + stream_byte_limit
    → fault_after bytes part ≡ Some (LineTooLong (line_number bytes))

abbrev pub LongStreamIsFaulty : Type 0
LongStreamIsFaulty = (bytes part : List ℕ) → has_line_feed part ≡ false → length bytes ≤ stream_byte_limit
    → stream_byte_limit < length bytes + length part → length (unended_line bytes) + stream_byte_limit < length bytes
    + line_byte_limit → fault_after bytes part ≡ Some (StreamTooLong (line_number bytes))

-- ---- what more bytes add

-- bytes without an LF lengthen the rest
pub record LengthensRest (bytes part : List ℕ) : Type 0 where
  pub sound : frame_fault (bytes ++ part) ≡ None
  pub rest : unended_line (bytes ++ part) ≡ unended_line bytes ++ part
  pub number : line_number (bytes ++ part) ≡ line_number bytes
  pub lines : open_lines (bytes ++ part) ≡ open_lines bytes

abbrev pub PartGoesOn : Type 0
PartGoesOn = (bytes part : List ℕ) → frame_fault bytes ≡ None → has_line_feed part ≡ false
    → fault_after bytes part ≡ None → LengthensRest bytes part

-- an LF ends the line that the rest is
pub record EndsLine (bytes : List ℕ) : Type 0 where
  pub sound : frame_fault (bytes ++ line_feed ∷ []) ≡ None
  pub rest : unended_line (bytes ++ line_feed ∷ []) ≡ []
  pub number : line_number (bytes ++ line_feed ∷ []) ≡ line_number bytes + 1
  pub lines : open_lines (bytes ++ line_feed ∷ []) ≡ open_lines bytes
      ++ numbered_from (line_number bytes) (unended_line bytes ∷ [])

abbrev pub FeedEndsLine : Type 0
FeedEndsLine = (bytes : List ℕ) → frame_fault bytes ≡ None → fault_of_byte bytes line_feed ≡ None → EndsLine bytes

-- a fault ends the lines, whatever comes after it
abbrev pub PartIsFaulty : Type 0
PartIsFaulty = (bytes part more : List ℕ) (fault : FrameFault) → frame_fault bytes ≡ None → has_line_feed part ≡ false
    → fault_after bytes part ≡ Some fault → IsBatch bytes (part ++ more) [] (Some fault)

abbrev pub FeedIsFaulty : Type 0
FeedIsFaulty = (bytes more : List ℕ) (fault : FrameFault) → frame_fault bytes ≡ None
    → fault_of_byte bytes line_feed ≡ Some fault → IsBatch bytes (line_feed ∷ more) [] (Some fault)

-- ---- the end

-- if no more bytes come, the rest is a line if it isn't empty
pub record Finishes (bytes : List ℕ) : Type 0 where
  pub lines : finished_lines bytes ≡ open_lines bytes
      ++ numbered_from (line_number bytes) (as_line (unended_line bytes))
  pub count : line_count bytes + 1 ≡ line_number bytes + length (as_line (unended_line bytes))

abbrev pub SoundFinishes : Type 0
SoundFinishes = (bytes : List ℕ) → frame_fault bytes ≡ None → Finishes bytes
