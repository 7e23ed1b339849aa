-- Texts and lists of JSON in which no byte is `<`.
use Rattle.std.specs.Prelude.{ℕ, ◌+◌, ◌/◌, ◌%◌, Bool, not, ◌||◌, ◌==◌, nat_le, nat_lt, if◌then◌else◌, List, [], ◌∷◌, ◌++◌, codes, flat_map}
use Rattle.std.specs.List.{list_all}

-- ---- texts

-- A byte that a text doesn't hold as it is: a control character, or one of `"`, `&`, `<`, `>` and `\`.
abbrev pub is_escaped : ℕ → Bool
is_escaped byte =
    nat_le byte 31 || byte == 34 || byte == 38 || byte == 60 || byte == 62 || byte == 92 || byte == 127

abbrev pub hex_digit : ℕ → ℕ
hex_digit digit = if nat_lt digit 10 then 48 + digit else 87 + digit

-- a byte of a text, as itself or by its number
abbrev pub escaped_byte : ℕ → List ℕ
escaped_byte byte =
    if is_escaped byte then codes "\\u00" ++ hex_digit (byte / 16) ∷ hex_digit (byte % 16) ∷ [] else byte ∷ []

-- a text of JSON
abbrev pub quoted : List ℕ → List ℕ
quoted text = codes "\"" ++ flat_map escaped_byte text ++ codes "\""

-- ---- lists

-- the texts of things, with a comma between each two
abbrev pub listed : {A : Type 0} → (A → List ℕ) → List A → List ℕ
listed text [] = []
listed text (x ∷ others) = text x ++ flat_map (λ y. codes "," ++ text y) others

-- an array of JSON
abbrev pub array : {A : Type 0} → (A → List ℕ) → List A → List ℕ
array text things = codes "[" ++ listed text things ++ codes "]"

-- what stands between this many things and the next one
abbrev pub comma_after : ℕ → List ℕ
comma_after before = if before == 0 then [] else codes ","

-- ---- what that means

-- no byte of the text is `<`
abbrev pub lacks_less : List ℕ → Bool
lacks_less text = list_all (λ byte. not (byte == 60)) text
