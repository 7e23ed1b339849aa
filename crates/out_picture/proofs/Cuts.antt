-- A text that is cut to a length.
use Rattle.std.proofs.Common.{◌≡◌, ℕ, zero, suc, ◌-◌, ◌<◌, ◌≤◌, List, ◌++◌, length, take, codes, get_or, true, false, cond, refl, sym, ap, ◌∙◌, subst, inl, inr, ◌⊎◌, arith}
use Rattle.std.proofs.lemmas.Bool.{cases_lt, lt-ltb, le-ltb, le-leb, lt-leb}
use Rattle.std.proofs.lemmas.List.{take_all}
use Rattle.std.specs.Fmt.{is_char_start}
use Rattle.std.specs.Fmt.Cut.{dots, floor_char_boundary, cut_to}
use Rattle.std.specs.Str.{IsCharBoundary}

-- the greatest place up to i where a character begins, or the text ends
abbrev pub IsLastBoundary : List ℕ → ℕ → ℕ → Type 0
IsLastBoundary bs i kept = (kept ≤ i) × IsCharBoundary bs kept × ((j : ℕ) → kept < j → j ≤ i → ¬ (IsCharBoundary bs j))

starts : (b : ℕ) → (128 ≤ b → 192 ≤ b) → is_char_start b ≡ true
starts b h = go (cases_lt b 128)
  where
    go : (b < 128) ⊎ (128 ≤ b) → is_char_start b ≡ true
    go (inl low) = rw (lt-ltb b 128 low) refl
    go (inr high) = rw (le-ltb b 128 high, le-leb 192 b (h high)) refl

continues : (b : ℕ) → ¬ (128 ≤ b → 192 ≤ b) → is_char_start b ≡ false
continues b h = go (cases_lt b 128) (cases_lt b 192)
  where
    go : (b < 128) ⊎ (128 ≤ b) → (b < 192) ⊎ (192 ≤ b) → is_char_start b ≡ false
    go (inl low) any = absurd (h (λ high. omega arith))
    go (inr high) (inl mid) = rw (le-ltb b 128 high, lt-leb 192 b mid) refl
    go (inr high) (inr top) = absurd (h (λ _. top))

boundary_is : (bs : List ℕ) (i kept : ℕ) → i < length bs → IsLastBoundary bs i kept → floor_char_boundary bs i ≡ kept
unfolding floor_char_boundary
boundary_is bs zero kept within last = omega arith
boundary_is bs (suc i) kept within last = go (boundary_is bs i kept) (cases_lt kept (suc i))
  where
    go : (i < length bs → IsLastBoundary bs i kept → floor_char_boundary bs i ≡ kept)
        → (kept < suc i) ⊎ (suc i ≤ kept) → floor_char_boundary bs (suc i) ≡ kept
    go rest (inl below) =
        ap (λ t. cond t (suc i) (floor_char_boundary bs i)) (continues (get_or bs (suc i) 0) (λ h.
        last.2 (suc i) below (omega arith) (omega arith, λ _. h)))
        ∙ rest (omega arith) (omega arith, last.1, λ j p q. last.2 j p (omega arith))
    go rest (inr above) =
        let same : kept ≡ suc i = omega arith in
        ap (λ t. cond t (suc i) (floor_char_boundary bs i)) (starts (get_or bs (suc i) 0)
        ((subst (IsCharBoundary bs) same last.1).1 within)) ∙ sym same

pub cut_fits : (room : ℕ) (text : List ℕ) → length text ≤ room → cut_to room text ≡ text
unfolding cut_to
cut_fits room text fits = rw (le-leb (length text) room fits) refl

pub cut_cuts : (room : ℕ) (text : List ℕ) (kept : ℕ) → room < length text → IsLastBoundary text (room - 3) kept
    → cut_to room text ≡ take kept text ++ dots room
unfolding cut_to
cut_cuts room text kept long last =
    rw (lt-leb (length text) room long, boundary_is text (room - 3) kept (omega arith) last) refl

pub dots_three : (room : ℕ) → 3 ≤ room → dots room ≡ codes "..."
dots_three room three = take_all room (codes "...") three
