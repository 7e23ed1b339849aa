-- One setting and one event more.
use Rattle.std.proofs.Common.{◌≡◌, ℕ, ℤ, ◌+◌, ◌<◌, List, ◌∷◌, ◌++◌, Option, Some, None, All, drop, option_map, sym, subst, ap, ◌∙◌}
use Rattle.std.specs.Prelude.{slice_get, slice_set}
use Rattle.std.proofs.lemmas.List.{drop_more}
use Rattle.std.proofs.lemmas.Option.{get_or_from_slice_get, slice_get_within, same_Some}
use Rattle.def_model.specs.Events.{Event}
use Rattle.pd_clock.specs.Histories.{AreVars, row_after, rows_after}

-- the rest of a list from an element on
rest_from : {A : Type 0} (xs : List A) (k : ℕ) (x : A) → slice_get xs k ≡ Some x → drop k xs ≡ x ∷ drop (k + 1) xs
rest_from xs k x at =
    drop_more xs k x (slice_get_within xs k x at)
    ∙ ap (λ y. y ∷ drop (k + 1) xs) (get_or_from_slice_get xs k x x at)

-- what holds of each holds of this one
holds_at : {A : Type 0} (P : A → Type 0) (xs : List A) (k : ℕ) (x : A) → All P xs → slice_get xs k ≡ Some x → P x
holds_at P xs k x all at =
    subst P (get_or_from_slice_get xs k x x at) (all k x (slice_get_within xs k x at))

-- the variable of a setting is there
pub var_there : (vars : ℕ) (settings : List (ℕ × ℤ)) (i : ℕ) (setting : ℕ × ℤ) → AreVars vars settings
    → slice_get settings i ≡ Some setting → setting.0 < vars
var_there vars settings i setting all at =
    holds_at (λ (set : ℕ × ℤ). set.0 < vars) settings i setting all at

pub row_more : (row : List ℤ) (settings : List (ℕ × ℤ)) (i : ℕ) (setting : ℕ × ℤ)
    → slice_get settings i ≡ Some setting → row_after (slice_set row setting.0 setting.1) (drop (i + 1) settings)
    ≡ row_after row (drop i settings)
row_more row settings i setting at = ap (row_after row) (sym (rest_from settings i setting at))

-- the event whose settings these are
event_there : (found : Option Event) (sets : List (ℕ × ℤ)) → option_map (λ (event : Event). event.sets) found ≡ Some
    sets
    → (event : Event) × (found ≡ Some event) × (event.sets ≡ sets)
event_there None sets e = absurd (cc)
event_there (Some event) sets e = (event, (λ i. Some event), same_Some event.sets sets e)

pub vars_there : (vars : ℕ) (events : List Event) (k : ℕ) (sets : List (ℕ × ℤ))
    → All (λ (event : Event). AreVars vars event.sets) events
    → option_map (λ (event : Event). event.sets) (slice_get events k) ≡ Some sets → AreVars vars sets
vars_there vars events k sets all at =
    let w : (event : Event) × (slice_get events k ≡ Some event) × (event.sets ≡ sets) =
    event_there (slice_get events k) sets at in
    subst (AreVars vars) w.2 (holds_at (λ (event : Event). AreVars vars event.sets) events k w.0 all w.1)

pub rows_more : (row : List ℤ) (events : List Event) (k : ℕ) (sets : List (ℕ × ℤ))
    → option_map (λ (event : Event). event.sets) (slice_get events k) ≡ Some sets
    → rows_after row (drop k events) ≡ row_after row sets ++ rows_after (row_after row sets) (drop (k + 1) events)
rows_more row events k sets at =
    let w : (event : Event) × (slice_get events k ≡ Some event) × (event.sets ≡ sets) =
    event_there (slice_get events k) sets at in
    ap (rows_after row) (rest_from events k w.0 w.1)
    ∙ ap (λ (s : List (ℕ × ℤ)). row_after row s ++ rows_after (row_after row s) (drop (k + 1) events)) w.2
