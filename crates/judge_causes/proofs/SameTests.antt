-- Runs whose events set the same have the same states.
use Rattle.std.proofs.Common.{◌≡◌, ℕ, zero, suc, ◌≤◌, List, [], ◌∷◌, length, map, take, Option, Some, None, refl, ap, sym, ◌∙◌, subst, ℤ}
use Rattle.std.specs.Prelude.{slice_get, slice_index, slice_index_or}
use Rattle.std.proofs.lemmas.List.{length-map}
use Rattle.def_model.specs.Cuts.{FitsProcesses}
use Rattle.def_model.specs.Events.{Event, Computation, events_of, event_count}
use Rattle.def_model.specs.Predicates.{Initial, Predicate, Recorded, after_sets, holds_at, last_set, last_set_if_there, state_at, test_of}
use Rattle.judge_causes.specs.Enough.{HasSettingsOf}

sets_of : List Event → List (List (ℕ × ℤ))
sets_of events = map (λ (event : Event). event.sets) events

first_sets : Event → List (List (ℕ × ℤ)) → List (List (ℕ × ℤ))
first_sets event rest = event.sets ∷ rest

-- the last value that is set depends on what is set alone
same_last : (v n : ℕ) (old : ℤ) (xs ys : List Event)
    → map (λ (event : Event). event.sets) xs ≡ map (λ (event : Event). event.sets) ys
    → last_set v old (take n xs) ≡ last_set v old (take n ys)
same_last v zero old xs ys same = refl
same_last v (suc n) old [] [] same = refl
same_last v (suc n) old [] (y ∷ ys) same = absurd (cc)
same_last v (suc n) old (x ∷ xs) [] same = absurd (cc)
same_last v (suc n) old (x ∷ xs) (y ∷ ys) same =
    let first : x.sets ≡ y.sets = cc in
    let rest : map (λ (event : Event). event.sets) xs ≡ map (λ (event : Event). event.sets) ys = cc in
    same_last v n (after_sets v old x.sets) xs ys rest
    ∙ ap (λ (sets : List (ℕ × ℤ)). last_set v (after_sets v old sets) (take n ys)) first

same_if_there : (v n : ℕ) (old : Option ℤ) (xs ys : List Event)
    → map (λ (event : Event). event.sets) xs ≡ map (λ (event : Event). event.sets) ys
    → last_set_if_there v old (take n xs) ≡ last_set_if_there v old (take n ys)
same_if_there v n None xs ys same = refl
same_if_there v n (Some old) xs ys same = same_last v n old xs ys same

-- so the states are the same, and what is true of them
same_state : (initial : Initial) (c other : Computation) → HasSettingsOf c other → (counts : List ℕ)
    → state_at initial other counts ≡ state_at initial c counts
same_state initial c other same counts = λ i p v.
    same_if_there v (slice_index counts p) (slice_get (slice_index_or initial p []) v) (events_of other p)
    (events_of c p) (same.settings p) i

pub same_test : (r other : Recorded) (predicate : Predicate) → other.initial ≡ r.initial
    → HasSettingsOf r.events other.events → (counts : List ℕ)
    → test_of other predicate counts ≡ test_of r predicate counts
same_test r other predicate initial same counts =
    ap (λ (given : Initial). holds_at (state_at given other.events counts) predicate) initial
    ∙ ap (λ (state : ℕ → ℕ → ℤ). holds_at state predicate) (same_state r.initial r.events other.events same counts)

-- counts fit both
pub same_count : (c other : Computation) → HasSettingsOf c other → (p : ℕ) → event_count other p ≡ event_count c p
same_count c other same p =
    sym (length-map (events_of other p) (λ (event : Event). event.sets))
    ∙ ap (λ (sets : List (List (ℕ × ℤ))). length sets) (same.settings p)
    ∙ length-map (events_of c p) (λ (event : Event). event.sets)

pub fits_same : (c other : Computation) → HasSettingsOf c other → (counts : List ℕ) → FitsProcesses other counts
    → FitsProcesses c counts
fits_same c other same counts fits = record {
  one_each = fits.one_each ∙ same.one_each;
  within = λ p. subst (λ (n : ℕ). slice_index counts p ≤ n) (same_count c other same p) (fits.within p);
}

pub fits_other : (c other : Computation) → HasSettingsOf c other → (counts : List ℕ) → FitsProcesses c counts
    → FitsProcesses other counts
fits_other c other same counts fits = record {
  one_each = fits.one_each ∙ sym same.one_each;
  within = λ p. subst (λ (n : ℕ). slice_index counts p ≤ n) (sym (same_count c other same p)) (fits.within p);
}
