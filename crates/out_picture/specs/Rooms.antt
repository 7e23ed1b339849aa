-- How much room texts are given, so that each is whole in the type of any browser. No text is measured.
use Rattle.std.specs.Prelude.{ℕ, ◌+◌, ◌*◌, ◌/◌, min, max, Bool, ◌&&◌, ◌||◌, ◌==◌, nat_le, if◌then◌else◌, List, [], ◌∷◌}

-- the four widest letters: M, W, m and w
abbrev pub is_wide : ℕ → Bool
is_wide byte = byte == 77 || byte == 87 || byte == 109 || byte == 119

abbrev pub is_capital : ℕ → Bool
is_capital byte = nat_le 65 byte && nat_le byte 90

-- the room of a byte of a text, in twentieths of the height of its type
abbrev pub byte_room : ℕ → ℕ
byte_room byte = if is_wide byte then 23 else (if is_capital byte then 18 else 15)

-- the room of a text that follows one with this room, 65,535 at most
abbrev pub room_after : ℕ → List ℕ → ℕ
room_after room [] = room
room_after room (byte ∷ rest) = room_after (min (room + byte_room byte) 65535) rest

-- the room of a text, in twentieths of the height of its type
abbrev pub text_room : List ℕ → ℕ
text_room text = room_after 0 text

-- the greatest of this room and those of the texts
abbrev pub widest_after : ℕ → List (List ℕ) → ℕ
widest_after room [] = room
widest_after room (text ∷ rest) = widest_after (max room (text_room text)) rest

abbrev pub widest_room : List (List ℕ) → ℕ
widest_room texts = widest_after 0 texts

-- the room of the names of processes, in type of height 15
abbrev pub names_room : List (List ℕ) → ℕ
names_room names = (widest_room names * 3) / 4

-- the room of a title, in type of height 18
abbrev pub title_room : List ℕ → ℕ
title_room title = (text_room title * 9) / 10

-- the room of the values at a cut and of the words above them, in type of height 13
abbrev pub values_room : (shown : List (List ℕ)) → ℕ
values_room shown = max 80 ((widest_room shown * 13) / 20)
