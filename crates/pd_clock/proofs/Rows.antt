-- The rows of a history: how long they are, and what stands where.
use Rattle.std.proofs.Common.{◌≡◌, ℕ, zero, suc, ◌+◌, ◌*◌, ◌<◌, ◌≤◌, Bool, true, false, cond, List, [], ◌∷◌, ◌++◌, length, get_or, set, take, refl, sym, ap, ◌∙◌, arith, length-append, ℤ, pos}
use Rattle.std.specs.Prelude.{nat_eq}
use Rattle.std.proofs.lemmas.List.{length-set, get_or-set_same, get_or-set_other, get_or_append_left, get_or-append-add}
use Rattle.std.proofs.lemmas.Bool.Decides.{eqb_tells}
use Rattle.std.proofs.Common.{◌⊎◌, inl, inr, ◌≢◌}
use Rattle.def_model.specs.Events.{Event}
use Rattle.def_model.specs.Predicates.{after_sets, last_set}
use Rattle.pd_clock.specs.Histories.{row_after, rows_after}

pub length-row_after : (row : List ℤ) (sets : List (ℕ × ℤ)) → length (row_after row sets) ≡ length row
length-row_after row [] = refl
length-row_after row ((v, value) ∷ rest) = length-row_after (set row v value) rest ∙ length-set row v value

pub length-rows_after : (row : List ℤ) (events : List Event)
    → length (rows_after row events) ≡ length events * length row
length-rows_after row [] = omega arith
length-rows_after row (event ∷ later) =
    let one : length (row_after row event.sets) ≡ length row = length-row_after row event.sets in
    let rest : length (rows_after (row_after row event.sets) later) ≡ length later * length (row_after row event.sets) =
    length-rows_after (row_after row event.sets) later in
    length-append (row_after row event.sets) (rows_after (row_after row event.sets) later)
    ∙ (rw (rest, one) (omega arith))

-- what a place of the row has after one setting
at_set : (row : List ℤ) (w : ℕ) (value : ℤ) (v : ℕ) → v < length row → get_or (set row w value) v (pos 0)
    ≡ cond (nat_eq w v) value (get_or row v (pos 0))
at_set row w value v lt = go (nat_eq w v) (eqb_tells w v)
  where
    go : (b : Bool) → ((nat_eq w v ≡ true) × (w ≡ v)) ⊎ ((nat_eq w v ≡ false) × (w ≢ v))
        → get_or (set row w value) v (pos 0) ≡ cond (nat_eq w v) value (get_or row v (pos 0))
    go b (inl (test, same)) =
        let within : w < length row = omega arith in
        rw (test, sym same) (get_or-set_same row w value (pos 0) within)
    go b (inr (test, other)) = rw test (get_or-set_other row w v value (pos 0) (λ e. other (sym e)))

pub row_after-at : (row : List ℤ) (sets : List (ℕ × ℤ)) (v : ℕ) → v < length row → get_or (row_after row sets) v (pos 0)
    ≡ after_sets v (get_or row v (pos 0)) sets
row_after-at row [] v lt = refl
row_after-at row ((w, value) ∷ rest) v lt =
    row_after-at (set row w value) rest v (rw (length-set row w value) lt)
    ∙ ap (λ (old : ℤ). after_sets v old rest) (at_set row w value v lt)

-- the row after k events has what they last set
pub history-at : (row : List ℤ) (events : List Event) (k v : ℕ) → k ≤ length events → v < length row
    → get_or (row ++ rows_after row events) (k * length row + v) (pos 0)
    ≡ last_set v (get_or row v (pos 0)) (take k events)
history-at row events zero v le lt =
    let at : 0 * length row + v ≡ v = omega arith in
    rw at (get_or_append_left row (rows_after row events) (pos 0) v lt)
history-at row [] (suc k) v le lt = absurd (omega arith)
history-at row (event ∷ later) (suc k) v le lt =
    let same : length (row_after row event.sets) ≡ length row = length-row_after row event.sets in
    let at : suc k * length row + v ≡ length row + (k * length row + v) = omega arith in
    let within : v < length (row_after row event.sets) = rw same lt in
    let following : get_or (row_after row event.sets ++ rows_after (row_after row event.sets) later)
    (k * length (row_after row event.sets) + v) (pos 0)
    ≡ last_set v (get_or (row_after row event.sets) v (pos 0)) (take k later) =
    history-at (row_after row event.sets) later k v (omega arith) within in
    let here : get_or (row_after row event.sets ++ rows_after (row_after row event.sets) later) (k * length row + v)
    (pos 0) ≡ last_set v (get_or (row_after row event.sets) v (pos 0)) (take k later) = rw same at following in
    rw at (get_or-append-add row (row_after row event.sets ++ rows_after (row_after row event.sets) later)
    (k * length row + v) (pos 0)
    ∙ (here ∙ ap (λ (old : ℤ). last_set v old (take k later)) (row_after-at row event.sets v lt)))
