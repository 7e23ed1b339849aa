-- What is taken of the bytes between two places.
use Rattle.std.proofs.Common.{◌≡◌, ◌≤◌, ◌<◌, ◌+◌, ◌-◌, ℕ, true, false, List, ◌∷◌, ◌++◌, length, get_or, take, drop, drop-cons, add-one, length-take, take-append-drop, refl, sym, ap, ◌∙◌, subst, arith}
use Rattle.std.specs.Prelude.{◌==◌}
use Rattle.std.proofs.lemmas.Bool.{eqb-true}
use Rattle.std.proofs.lemmas.List.{drop-drop, drop-take, take-take}
use Rattle.def_format.proofs.FeedPlaces.{no_feed, no_feed_below}
use Rattle.read_lines.specs.Steps.{IsKept, TakesPart}

-- bytes around the one at a place
around : (xs : List ℕ) (k : ℕ) → k < length xs → (get_or xs k 0 == 10) ≡ true
    → xs ≡ take k xs ++ 10 ∷ drop (k + 1) xs
around xs k below e =
    let feed : get_or xs k 0 ≡ 10 = eqb-true (get_or xs k 0) 10 e in
    sym (take-append-drop k xs) ∙ ap (λ ys. take k xs ++ ys) (drop-cons xs k 0 below ∙ rw (feed, add-one k) refl)

slice_room : (piece : List ℕ) (start end n : ℕ) → start ≤ end → n < length (take (end - start) (drop start piece))
    → start + n + 1 ≤ end
slice_room piece start end n order within = omega (arith, order, within, length-take (end - start) (drop start piece))

slice_rest : (piece : List ℕ) (start end n : ℕ) → start + n ≤ end
    → take (end - (start + n)) (drop (start + n) piece) ≡ drop n (take (end - start) (drop start piece))
slice_rest piece start end n room =
    let sum : n + (end - (start + n)) ≡ end - start = omega (arith, room) in
    sym (ap (λ k. drop n (take k (drop start piece))) (sym sum)
    ∙ drop-take n (end - (start + n)) (drop start piece)
    ∙ ap (take (end - (start + n))) (drop-drop n start piece))

slice_run : (piece : List ℕ) (start end n : ℕ) → start + n ≤ end
    → take (start + n - start) (drop start piece) ≡ take n (take (end - start) (drop start piece))
slice_run piece start end n room =
    let size : start + n - start ≡ n = omega arith in
    ap (λ k. take k (drop start piece)) size ∙ sym (take-take n (end - start) (drop start piece) (omega (arith, room)))

-- the bytes before the LF at this place
pub part_before : (piece : List ℕ) (start end n : ℕ) (kept_old kept_new : List ℕ) → start ≤ end
    → n < length (take (end - start) (drop start piece))
    → (get_or (take (end - start) (drop start piece)) n 0 == 10) ≡ true
    → ((j : ℕ) → j < n → (get_or (take (end - start) (drop start piece)) j 0 == 10) ≡ true → ⊥)
    → ((part : List ℕ) → IsKept kept_old part
    → IsKept kept_new (part ++ take (start + n - start) (drop start piece)))
    → TakesPart true (take (end - start) (drop start piece))
    (take (end - (start + (n + 1))) (drop (start + (n + 1)) piece)) kept_old kept_new
part_before piece start end n kept_old kept_new order within feed before keeps =
    let xs = take (end - start) (drop start piece) in
    let room : start + n + 1 ≤ end = slice_room piece start end n order within in
    record {
      part = take n xs;
      is_cut = around xs n within feed
          ∙ ap (λ rest. take n xs ++ 10 ∷ rest) (sym (slice_rest piece start end (n + 1) (omega (arith, room))));
      no_feed = no_feed_below xs n before;
      keeps = λ part kept. subst (λ (run : List ℕ). IsKept kept_new (part ++ run))
          (slice_run piece start end n (omega (arith, room))) (keeps part kept);
    }

-- all bytes, of which none is an LF
pub all_part : (piece : List ℕ) (start end : ℕ) (kept_old kept_new : List ℕ)
    → ((j : ℕ) → j < length (take (end - start) (drop start piece))
    → (get_or (take (end - start) (drop start piece)) j 0 == 10) ≡ true → ⊥)
    → ((part : List ℕ) → IsKept kept_old part
    → IsKept kept_new (part ++ take (end - start) (drop start piece)))
    → TakesPart false (take (end - start) (drop start piece)) (take (end - end) (drop end piece)) kept_old kept_new
all_part piece start end kept_old kept_new none keeps =
    let no_more : end - end ≡ 0 = omega arith in
    record {
      part = take (end - start) (drop start piece);
      is_cut = (refl, ap (λ k. take k (drop end piece)) no_more);
      no_feed = no_feed (take (end - start) (drop start piece)) none;
      keeps = keeps;
    }
