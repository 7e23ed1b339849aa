-- Where the first LF stands.
use Rattle.std.proofs.Common.{◌≡◌, ℕ, zero, suc, ◌+◌, ◌-◌, ◌<◌, Bool, true, false, List, [], ◌∷◌, ◌++◌, length, get_or, take, drop, refl, sym, ◌∙◌, ap, add-one, drop-cons, length-drop, arith}
use Rattle.std.specs.Prelude.{◌==◌, ◌||◌}
use Rattle.std.proofs.lemmas.List.{take-append-drop, take_all}
use Rattle.std.proofs.lemmas.Bool.{eqb-true}
use Rattle.std.proofs.Math.Seq.{take-length}
use Rattle.std.specs.Prelude.{Option, Some, None, is_some}
use Rattle.std.proofs.lemmas.List.Folds.{list_any_at}
use Rattle.memchr.specs.Find.{IsFirstByte, is_byte}
use Rattle.def_format.specs.Lines.{has_line_feed}
use Rattle.def_format.proofs.FeedPlaces.{no_feed}

-- a list around its element at k
pub around_feed : (xs : List ℕ) (k : ℕ) → k < length xs → (get_or xs k 0 == 10) ≡ true
    → xs ≡ take k xs ++ 10 ∷ take (length xs - (k + 1)) (drop (k + 1) xs)
around_feed xs k below e =
    let feed : get_or xs k 0 ≡ 10 = eqb-true (get_or xs k 0) 10 e in
    let all : take (length xs - (k + 1)) (drop (k + 1) xs) ≡ drop (k + 1) xs =
    take_all (length xs - (k + 1)) (drop (k + 1) xs) (omega (arith, length-drop (k + 1) xs)) in
    sym (take-append-drop k xs) ∙ ap (λ ys. take k xs ++ ys) (drop-cons xs k 0 below ∙ rw (feed, all, add-one k) refl)

-- whether a first LF was found
pub found_feed : (xs : List ℕ) (r : Option ℕ) → IsFirstByte (is_byte 10) xs r → is_some r ≡ has_line_feed xs
found_feed xs None h = sym (no_feed xs (λ j below e. h j (omega arith) below e))
found_feed xs (Some k) h = sym (list_any_at (λ byte. byte == 10) xs k 0 h.0.high h.1)
