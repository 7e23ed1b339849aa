-- Places at which a name stands in bytes.
use Rattle.std.proofs.Common.{◌≡◌, ℕ, ◌+◌, ◌<◌, Bool, true, false, cond, List, [], ◌∷◌, ◌++◌, length, get_or, drop, refl, sym, ap, ◌∙◌, arith, add-one, nat_eq, Some, None}
use Rattle.std.specs.Prelude.{◌==◌, ◌&&◌}
use Rattle.std.specs.List.{starts_with}
use Rattle.std.proofs.lemmas.List.{drop_more}
use Rattle.app_text.specs.Lines.{begins_with, last_or, only_place, places_from, quoted}

quote_and : (text bytes : List ℕ) → begins_with (34 ∷ text) bytes
    ≡ (begins_with (34 ∷ []) bytes && begins_with text (drop 1 bytes))
quote_and text [] = refl
quote_and text (byte ∷ bytes) = go (34 == byte)
  where
    go : (b : Bool) → (b && begins_with text bytes) ≡ ((b && true) && begins_with text bytes)
    go true = refl
    go false = refl

text_and : (name text bytes : List ℕ) → begins_with (name ++ text) bytes
    ≡ (starts_with nat_eq bytes name && begins_with text (drop (length name) bytes))
text_and [] text bytes = refl
text_and (x ∷ name) text [] = refl
text_and (x ∷ name) text (byte ∷ bytes) = go (x == byte) (text_and name text bytes)
  where
    go : (b : Bool) → begins_with (name ++ text) bytes
        ≡ (starts_with nat_eq bytes name && begins_with text (drop (length name) bytes))
        → (b && begins_with (name ++ text) bytes)
        ≡ ((b && starts_with nat_eq bytes name) && begins_with text (drop (length name) bytes))
    go true ih = ih
    go false ih = refl

and_assoc : (a b c : Bool) → (a && (b && c)) ≡ ((a && b) && c)
and_assoc true b c = refl
and_assoc false b c = refl

pub quoted_and : (name bytes : List ℕ) → begins_with (quoted name) bytes
    ≡ ((begins_with (34 ∷ []) bytes && starts_with nat_eq (drop 1 bytes) name)
    && begins_with (34 ∷ []) (drop (length name) (drop 1 bytes)))
quoted_and name bytes =
    quote_and (name ++ 34 ∷ []) bytes
    ∙ ap (λ b. begins_with (34 ∷ []) bytes && b) (text_and name (34 ∷ []) (drop 1 bytes))
    ∙ and_assoc (begins_with (34 ∷ []) bytes) (starts_with nat_eq (drop 1 bytes) name)
    (begins_with (34 ∷ []) (drop (length name) (drop 1 bytes)))

pub no_quote : (name bytes : List ℕ) (a : Bool) → a ≡ begins_with (34 ∷ []) bytes → a ≡ false
    → false ≡ begins_with (quoted name) bytes
no_quote name bytes a ea fa = sym (quoted_and name bytes ∙ rw (sym ea ∙ fa) refl)

pub other_name : (name bytes rest : List ℕ) (a b : Bool) → a ≡ begins_with (34 ∷ []) bytes → a ≡ true
    → rest ≡ drop 1 bytes → b ≡ starts_with nat_eq rest name → b ≡ false → false ≡ begins_with (quoted name) bytes
other_name name bytes rest a b ea ta er eb fb =
    let there : starts_with nat_eq (drop 1 bytes) name ≡ false =
    ap (λ ys. starts_with nat_eq ys name) (sym er) ∙ sym eb ∙ fb in
    sym (quoted_and name bytes ∙ rw (sym ea ∙ ta, there) refl)

pub same_name : (name bytes rest after : List ℕ) (a b q : Bool) → a ≡ begins_with (34 ∷ []) bytes → a ≡ true
    → rest ≡ drop 1 bytes → b ≡ starts_with nat_eq rest name → b ≡ true → after ≡ drop (length name) rest
    → q ≡ begins_with (34 ∷ []) after → q ≡ begins_with (quoted name) bytes
same_name name bytes rest after a b q ea ta er eb tb eafter eq =
    let there : starts_with nat_eq (drop 1 bytes) name ≡ true =
    ap (λ ys. starts_with nat_eq ys name) (sym er) ∙ sym eb ∙ tb in
    let last : q ≡ begins_with (34 ∷ []) (drop (length name) (drop 1 bytes)) =
    eq ∙ ap (begins_with (34 ∷ [])) (eafter ∙ ap (drop (length name)) er) in
    sym (quoted_and name bytes ∙ rw (sym ea ∙ ta, there) (sym last))

-- ---- one place after another

place_here : (text bytes : List ℕ) (i : ℕ) → i < length bytes → (b : Bool) → begins_with text (drop i bytes) ≡ b
    → places_from i text (drop i bytes) ≡ cond b (i ∷ places_from (i + 1) text (drop (i + 1) bytes))
    (places_from (i + 1) text (drop (i + 1) bytes))
place_here text bytes i below b e =
    let more : drop i bytes ≡ get_or bytes i 0 ∷ drop (i + 1) bytes = drop_more bytes i 0 below in
    let here : begins_with text (get_or bytes i 0 ∷ drop (i + 1) bytes) ≡ b = ap (begins_with text) (sym more) ∙ e in
    ap (places_from i text) more ∙ rw (here, add-one i) refl

pub place_found : (text bytes : List ℕ) (i : ℕ) → i < length bytes → begins_with text (drop i bytes) ≡ true
    → places_from i text (drop i bytes) ≡ i ∷ places_from (i + 1) text (drop (i + 1) bytes)
place_found text bytes i below e = place_here text bytes i below true e

pub place_passed : (text bytes : List ℕ) (i : ℕ) → i < length bytes → begins_with text (drop i bytes) ≡ false
    → places_from i text (drop i bytes) ≡ places_from (i + 1) text (drop (i + 1) bytes)
place_passed text bytes i below e = place_here text bytes i below false e

pub one_place : (places : List ℕ) (count last : ℕ) → count ≡ length places → last ≡ last_or 0 places → count ≡ 1
    → Some last ≡ only_place places
one_place [] count last many is one = absurd (omega arith)
one_place (place ∷ []) count last many is one = ap Some is
one_place (place ∷ next ∷ others) count last many is one = absurd (omega arith)

pub not_one_place : (places : List ℕ) (count : ℕ) → count ≡ length places → (count ≡ 1 → ⊥)
    → None ≡ only_place places
not_one_place [] count many other = refl
not_one_place (place ∷ []) count many other = absurd (other many)
not_one_place (place ∷ next ∷ others) count many other = refl
