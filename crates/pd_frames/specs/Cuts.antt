-- What is known of a stream's bytes from the line that hasn't ended and two numbers.
use Rattle.std.specs.Prelude.{◌≡◌, ℕ, ◌+◌, ◌≤◌, List, [], ◌∷◌, ◌++◌, length, Option, None}
use Rattle.std.specs.Prelude.{false}
use Rattle.def_format.specs.Limits.{line_byte_limit, stream_byte_limit}
use Rattle.def_format.specs.Lines.{Line, FrameFault, line_feed, has_line_feed, unended_line, line_number, frame_fault, open_lines, IsBatch}

-- the bytes have no fault; this is their rest, the number of its line, and how many they are
pub record IsOpen (rest : List ℕ) (line total : ℕ) (bytes : List ℕ) : Type 0 where
  pub sound : frame_fault bytes ≡ None
  pub rest_is : rest ≡ unended_line bytes
  pub line_is : line ≡ line_number bytes
  pub total_is : total ≡ length bytes

-- within the limits
pub record Fits (rest line total : ℕ) : Type 0 where
  pub rest_fits : rest ≤ line_byte_limit
  pub total_fits : total ≤ stream_byte_limit
  pub line_fits : line + rest ≤ total + 1

-- a part of the line after such bytes has this fault, whatever comes after it
abbrev pub Faces : List ℕ → ℕ → ℕ → List ℕ → Option FrameFault → Type 0
Faces rest line total part fault =
    (bytes more : List ℕ) → IsOpen rest line total bytes → has_line_feed part ≡ false
    → IsBatch bytes (part ++ more) [] fault

-- the same of a part that an LF ends
abbrev pub FacesEnd : List ℕ → ℕ → ℕ → List ℕ → Option FrameFault → Type 0
FacesEnd rest line total part fault =
    (bytes more : List ℕ) → IsOpen rest line total bytes → has_line_feed part ≡ false
    → IsBatch bytes (part ++ line_feed ∷ more) [] fault

-- the piece after the bytes gives these lines, up to the tail after which the numbers stand
pub record Cuts (bytes piece rest : List ℕ) (line total : ℕ) (tail : List ℕ) (lines : List Line) : Type 0 where
  pub done : List ℕ
  pub whole : piece ≡ done ++ tail
  pub now_open : IsOpen rest line total (bytes ++ done)
  pub new_lines : open_lines (bytes ++ done) ≡ open_lines bytes ++ lines
