-- Taking joined texts apart.
use Rattle.std.proofs.Common.{◌≡◌, ℕ, ◌<◌, ◌^◌, true, List, [], ◌∷◌, ◌++◌, refl, sym, ap, ◌∙◌, arith}
use Rattle.std.specs.Prelude.{not, ◌==◌, All, decimal}
use Rattle.std.specs.List.{onto_first, list_all, AllByRecursion, join_with_byte}
use Rattle.std.specs.Str.{IsUtf8}
use Rattle.std.proofs.lemmas.Bool.Decides.{nat_tests}
use Rattle.std.proofs.lemmas.Fmt.{IsAscii-decimal}
use Rattle.std.proofs.lemmas.List.Elements.{All-cons}
use Rattle.std.proofs.lemmas.List.Splits.{slice_split-cons_yes, slice_split-cons_no, join_with_byte-slice_split}
use Rattle.std.proofs.lemmas.Str.{IsUtf8-from_ascii}
use Rattle.std.proofs.lemmas.Str.Ascii.{IsAscii-from_all}
use Rattle.std.proofs.lemmas.Bool.{and_parts, not-true}
use Rattle.def_format.specs.Names.{is_in_word}
use Rattle.def_format.specs.Reports.{NamedPlace, PlaceIsLawful, place_text}
use Rattle.def_format.proofs.OneReport.{Lacks, InWord, same_byte, in_word_lacks, name_in_word, decimal_in_word}
use Rattle.pd_report.specs.Reading.{pieces}

word_first : (c : ℕ) (w rest : List ℕ) → Lacks c w → pieces c (w ++ c ∷ rest) ≡ w ∷ pieces c rest
word_first c [] rest h = slice_split-cons_yes (λ b. b == c) c rest (same_byte c)
word_first c (x ∷ w) rest h =
    let parts = and_parts (not (x == c)) (list_all (λ b. not (b == c)) w) h in
    slice_split-cons_no (λ b. b == c) x (w ++ c ∷ rest) (not-true (x == c) parts.0)
    ∙ ap (onto_first x) (word_first c w rest parts.1)

-- bytes that are cut have a word before the cut
pub cut_words : (c : ℕ) (bytes w rest : List ℕ) → Lacks c w → bytes ≡ w ++ c ∷ rest
    → pieces c bytes ≡ w ∷ pieces c rest
cut_words c bytes w rest h e = ap (pieces c) e ∙ word_first c w rest h

pub word_last : (c : ℕ) (w : List ℕ) → Lacks c w → pieces c w ≡ w ∷ []
word_last c [] h = refl
word_last c (x ∷ w) h =
    let parts = and_parts (not (x == c)) (list_all (λ b. not (b == c)) w) h in
    slice_split-cons_no (λ b. b == c) x w (not-true (x == c) parts.0) ∙ ap (onto_first x) (word_last c w parts.1)

pub pieces_join : (c : ℕ) (w : List ℕ) (ws : List (List ℕ)) → AllByRecursion (Lacks c) (w ∷ ws)
    → pieces c (join_with_byte c (w ∷ ws)) ≡ w ∷ ws
pieces_join c w [] h = word_last c w h.0
pieces_join c w (v ∷ ws) h = word_first c w (join_with_byte c (v ∷ ws)) h.0 ∙ ap (λ z. w ∷ z) (pieces_join c v ws h.1)

-- bytes that are joined words have these words for pieces
pub pieces_of_joined : (c : ℕ) (bytes w : List ℕ) (ws : List (List ℕ)) → AllByRecursion (Lacks c) (w ∷ ws)
    → bytes ≡ join_with_byte c (w ∷ ws) → pieces c bytes ≡ w ∷ ws
pieces_of_joined c bytes w ws h e = ap (pieces c) e ∙ pieces_join c w ws h

-- and the other way round
pub joined_of_pieces : (c : ℕ) (bytes : List ℕ) (ws : List (List ℕ)) → pieces c bytes ≡ ws → bytes ≡ join_with_byte c ws
joined_of_pieces c bytes ws e = sym (join_with_byte-slice_split c bytes) ∙ ap (join_with_byte c) e

byte_is_ascii : (b : ℕ) → is_in_word b ≡ true → b < 128
byte_is_ascii b h = grind (arith, nat_tests)

all_ascii : (w : List ℕ) → InWord w → All (λ b. b < 128) w
all_ascii [] h = λ k d below. absurd (omega arith)
all_ascii (x ∷ w) h =
    let parts = and_parts (is_in_word x) (list_all is_in_word w) h in
    All-cons (λ b. b < 128) x w (byte_is_ascii x parts.0) (all_ascii w parts.1)

pub word_is_text : (w : List ℕ) → InWord w → IsUtf8 w
word_is_text w h = IsUtf8-from_ascii w (IsAscii-from_all w (all_ascii w h))

pub number_is_text : (n : ℕ) (w : List ℕ) → n < 2 ^ 64 → w ≡ decimal n → IsUtf8 w
number_is_text n w h e = IsUtf8-from_ascii w (rw e (IsAscii-decimal n h))

-- an event's name and number
pub place_pieces : (word : List ℕ) (place : NamedPlace) → PlaceIsLawful place → word ≡ place_text place
    → pieces 35 word ≡ place.name ∷ decimal place.number ∷ []
place_pieces word place h e =
    pieces_of_joined 35 word place.name (decimal place.number ∷ []) (
      in_word_lacks 35 refl place.name (name_in_word place.name h.0),
      (in_word_lacks 35 refl (decimal place.number) (decimal_in_word place.number h.1), tt),
    ) e

pub head_is : (a b : List ℕ) (xs ys : List (List ℕ)) → a ∷ xs ≡ b ∷ ys → a ≡ b
head_is a b xs ys e = cc

pub tail_is : (a b : List ℕ) (xs ys : List (List ℕ)) → a ∷ xs ≡ b ∷ ys → xs ≡ ys
tail_is a b xs ys e = cc
