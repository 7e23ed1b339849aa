-- Texts that can stand in an element or between quotes: no byte of them is read as mark-up.
use Rattle.std.specs.Prelude.{ℕ, Bool, not, ◌&&◌, ◌||◌, ◌==◌, nat_le, if◌then◌else◌, IsTrue, List, [], ◌∷◌, ◌++◌, codes}

-- ---- what is written

-- the bytes below 32, and 127
abbrev pub is_control : ℕ → Bool
is_control byte = nat_le byte 31 || byte == 127

-- A byte of a text, which stands after these two bytes of it. A control character becomes U+FFFD, and so do U+FFFE and
-- U+FFFF, which XML doesn't hold: their bytes are 239, 191, and 190 or 191.
abbrev pub escaped_byte : (earlier last byte : ℕ) → List ℕ
escaped_byte earlier last byte =
    if byte == 38 then codes "&amp;" else (
    if byte == 60 then codes "&lt;" else (
    if byte == 62 then codes "&gt;" else (
    if byte == 34 then codes "&quot;" else (
    if byte == 39 then codes "&#39;" else (
    if is_control byte then 239 ∷ 191 ∷ 189 ∷ [] else (
    if earlier == 239 && last == 191 && nat_le 190 byte && nat_le byte 191 then 189 ∷ [] else byte ∷ []))))))

abbrev pub escaped_after : ℕ → ℕ → List ℕ → List ℕ
escaped_after earlier last [] = []
escaped_after earlier last (byte ∷ rest) = escaped_byte earlier last byte ++ escaped_after last byte rest

-- a text as it is written
abbrev pub escape : List ℕ → List ℕ
escape text = escaped_after 0 0 text

-- ---- what that means

-- a byte that stands for itself wherever it stands: no control character, and none of the five that mark up
abbrev pub is_plain : ℕ → Bool
is_plain byte =
    not (is_control byte) && not (byte == 38) && not (byte == 60) && not (byte == 62) && not (byte == 34)
    && not (byte == 39)

-- plain bytes, and references to the five characters that mark up
pub data IsEscaped : List ℕ → Type 0 where
  none : IsEscaped []
  plain : (byte : ℕ) (rest : List ℕ) → IsTrue (is_plain byte) → IsEscaped rest → IsEscaped (byte ∷ rest)
  ampersand : (rest : List ℕ) → IsEscaped rest → IsEscaped (codes "&amp;" ++ rest)
  less : (rest : List ℕ) → IsEscaped rest → IsEscaped (codes "&lt;" ++ rest)
  greater : (rest : List ℕ) → IsEscaped rest → IsEscaped (codes "&gt;" ++ rest)
  quote : (rest : List ℕ) → IsEscaped rest → IsEscaped (codes "&quot;" ++ rest)
  apostrophe : (rest : List ℕ) → IsEscaped rest → IsEscaped (codes "&#39;" ++ rest)
