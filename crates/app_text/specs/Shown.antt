-- How bytes and names of files and sessions are shown, and how wide that is.
use Rattle.std.specs.Prelude.{ℕ, ◌+◌, ◌/◌, ◌%◌, Bool, ◌&&◌, nat_le, nat_lt, if◌then◌else◌, List, [], ◌∷◌, ◌++◌, length, take, codes}
use Rattle.std.specs.List.{flat_map}

-- a letter, a digit, a sign or a space of ASCII is shown as it is
abbrev pub is_plain : ℕ → Bool
is_plain byte = nat_le 32 byte && nat_le byte 126

abbrev pub hex_digit : ℕ → ℕ
hex_digit number = if nat_lt number 10 then 48 + number else 87 + number

-- each other byte is shown as a backslash, an x and two digits of base 16
abbrev pub shown_byte : ℕ → List ℕ
shown_byte byte =
    if is_plain byte then byte ∷ [] else 92 ∷ 120 ∷ hex_digit (byte / 16) ∷ hex_digit (byte % 16) ∷ []

abbrev pub shown : List ℕ → List ℕ
shown bytes = flat_map shown_byte bytes

abbrev pub columns : List ℕ → ℕ
columns bytes = length (shown bytes)

-- what stands for bytes that aren't shown
abbrev pub dots : Bool → List ℕ
dots is_cut = if is_cut then codes "..." else []

-- no more than 100 bytes of a name are shown
abbrev pub shown_text : List ℕ → List ℕ
shown_text bytes = shown (take 100 bytes) ++ dots (nat_lt 100 (length bytes))

-- a name stands between two backquotes
abbrev pub shown_name : List ℕ → List ℕ
shown_name name = codes "`" ++ shown_text name ++ codes "`"
