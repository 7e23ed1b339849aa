-- Where the line feeds of bytes stand.
use Rattle.std.proofs.Common.{◌≡◌, ℕ, zero, suc, ◌<◌, Bool, true, false, List, [], ◌∷◌, length, get_or, take, refl, sym, ◌∙◌, ap, arith}
use Rattle.std.specs.Prelude.{◌==◌, ◌||◌}
use Rattle.std.proofs.Math.Seq.{take-length}
use Rattle.def_format.specs.Lines.{has_line_feed}

pub not_true : (b : Bool) → (b ≡ true → ⊥) → b ≡ false
not_true true h = absurd (h refl)
not_true false h = refl

pub both_false : (a b : Bool) → a ≡ false → b ≡ false → (a || b) ≡ false
both_false true b e f = absurd (cc)
both_false false b e f = f

pub no_feed_below : (xs : List ℕ) (k : ℕ) → ((j : ℕ) → j < k → (get_or xs j 0 == 10) ≡ true → ⊥)
    → has_line_feed (take k xs) ≡ false
no_feed_below xs zero h = refl
no_feed_below [] (suc k) h = refl
no_feed_below (x ∷ xs) (suc k) h =
    both_false (x == 10) (has_line_feed (take k xs)) (not_true (x == 10) (λ e. h 0 (omega arith) e))
    (no_feed_below xs k (λ j below e. h (suc j) (omega arith) e))

pub no_feed : (xs : List ℕ) → ((j : ℕ) → j < length xs → (get_or xs j 0 == 10) ≡ true → ⊥) → has_line_feed xs ≡ false
no_feed xs h = ap has_line_feed (sym (take-length xs)) ∙ no_feed_below xs (length xs) h
