-- What is written of a text is escaped.
use Rattle.std.proofs.Common.{◌≡◌, ℕ, Bool, true, false, List, [], ◌∷◌, ◌++◌, refl}
use Rattle.std.specs.Prelude.{◌==◌, ◌&&◌, not, if◌then◌else◌, codes, nat_le}
use Rattle.out_svg.specs.Escapes.{IsEscaped, none, plain, ampersand, less, greater, quote, apostrophe, is_control, is_plain, escape, escaped_after}

-- what is written of a byte, by its tests
abbrev chosen : (a b c d e f g : Bool) → ℕ → List ℕ
chosen a b c d e f g byte =
    if a then codes "&amp;" else (
    if b then codes "&lt;" else (
    if c then codes "&gt;" else (
    if d then codes "&quot;" else (
    if e then codes "&#39;" else (
    if f then 239 ∷ 191 ∷ 189 ∷ [] else (
    if g then 189 ∷ [] else byte ∷ []))))))

chosen_is : (a b c d e f g : Bool) (byte : ℕ) (rest : List ℕ)
    → is_plain byte ≡ (not f && not a && not b && not c && not d && not e) → IsEscaped rest
    → IsEscaped (chosen a b c d e f g byte ++ rest)
chosen_is true b c d e f g byte rest is h = ampersand rest h
chosen_is false true c d e f g byte rest is h = less rest h
chosen_is false false true d e f g byte rest is h = greater rest h
chosen_is false false false true e f g byte rest is h = quote rest h
chosen_is false false false false true f g byte rest is h = apostrophe rest h
chosen_is false false false false false true g byte rest is h =
    plain 239 _ refl (plain 191 _ refl (plain 189 rest refl h))
chosen_is false false false false false false true byte rest is h = plain 189 rest refl h
chosen_is false false false false false false false byte rest is h = plain byte rest is h

escaped_from : (earlier last : ℕ) (text : List ℕ) → IsEscaped (escaped_after earlier last text)
escaped_from earlier last [] = none
escaped_from earlier last (byte ∷ rest) =
    chosen_is (byte == 38) (byte == 60) (byte == 62) (byte == 34) (byte == 39) (is_control byte)
    (earlier == 239 && last == 191 && nat_le 190 byte && nat_le byte 191) byte
    (escaped_after last byte rest) refl (escaped_from last byte rest)

-- whatever the text
pub is_escaped : (text : List ℕ) → IsEscaped (escape text)
is_escaped text = escaped_from 0 0 text
