-- The values of variables in a run that is made of the kept events of another one.
use Rattle.std.proofs.Common.{◌≡◌, ℕ, zero, suc, ◌+◌, List, [], ◌∷◌, get_or, take, ℤ, pos, Option, None, Some, Contains, refl, sym, ap, ◌∙◌, subst, add-one}
use Rattle.std.specs.Prelude.{slice_get}
use Rattle.std.proofs.lemmas.List.{get_or-map}
use Rattle.def_model.specs.Events.{Event, events_of, numbered}
use Rattle.def_model.specs.Predicates.{Recorded, after_sets, last_set, last_set_if_there}
use Rattle.def_long.specs.Views.{value_after}
use Rattle.def_orders.specs.Orders.{values_after}

-- one event more
last_set_next : (v : ℕ) (old : ℤ) (xs : List Event) (n : ℕ) (event : Event) → slice_get xs n ≡ Some event
    → last_set v old (take (suc n) xs) ≡ after_sets v (last_set v old (take n xs)) event.sets
last_set_next v old [] n event at = absurd (cc)
last_set_next v old (x ∷ xs) zero event at =
    let same : x ≡ event = cc in ap (λ (e : Event). after_sets v old e.sets) same
last_set_next v old (x ∷ xs) (suc n) event at = last_set_next v (after_sets v old x.sets) xs n event at

-- the event leaves each variable as it was
stays_if_there : (v : ℕ) (initial : Option ℤ) (xs : List Event) (n : ℕ) (event : Event) → slice_get xs n ≡ Some event
    → event.sets ≡ [] → last_set_if_there v initial (take n xs) ≡ last_set_if_there v initial (take (suc n) xs)
stays_if_there v None xs n event at none = refl
stays_if_there v (Some old) xs n event at none =
    sym (last_set_next v old xs n event at
    ∙ ap (λ (sets : List (ℕ × ℤ)). after_sets v (last_set v old (take n xs)) sets) none)

pub value_stays : (r : Recorded) (p n v : ℕ) (event : Event) → numbered (events_of r.events p) (n + 1) ≡ Some event
    → event.sets ≡ [] → value_after r n p v ≡ value_after r (n + 1) p v
value_stays r p n v event at none =
    subst (λ (m : ℕ). value_after r n p v ≡ value_after r m p v) (sym (add-one n))
    (stays_if_there v (slice_get (get_or r.initial p []) v) (events_of r.events p) n event
    (subst (λ (m : ℕ). numbered (events_of r.events p) m ≡ Some event) (add-one n) at) none)

-- a variable has the value that the event sets, in both of two runs
set_if_there : (v : ℕ) (initial : Option ℤ) (xs ys : List Event) (n : ℕ) (event : Event) → numbered xs n ≡ Some event
    → ((old : ℤ) → after_sets v old event.sets ≡ last_set_if_there v initial ys)
    → last_set_if_there v initial ys ≡ last_set_if_there v initial (take n xs)
set_if_there v None xs ys n event at sets = refl
set_if_there v (Some old) xs ys zero event at sets = absurd (cc)
set_if_there v (Some old) xs ys (suc n) event at sets =
    sym (last_set_next v old xs n event at ∙ sets (last_set v old (take n xs)))

pub value_is_set : (r r' : Recorded) → r.initial ≡ r'.initial → (p m n v : ℕ) (event : Event)
    → numbered (events_of r'.events p) n ≡ Some event
    → ((old : ℤ) → after_sets v old event.sets ≡ value_after r m p v) → value_after r m p v ≡ value_after r' n p v
value_is_set r r' same p m n v event at sets =
    subst (λ (initial : List (List ℤ)). value_after r m p v
    ≡ last_set_if_there v (slice_get (get_or initial p []) v) (take n (events_of r'.events p))) same
    (set_if_there v (slice_get (get_or r.initial p []) v) (events_of r'.events p) (take m (events_of r.events p)) n
    event at sets)

-- the same at the beginning
pub first_value : (r r' : Recorded) → r.initial ≡ r'.initial → (p v : ℕ) → value_after r 0 p v ≡ value_after r' 0 p v
first_value r r' same p v =
    ap (λ (initial : List (List ℤ)). last_set_if_there v (slice_get (get_or initial p []) v) []) same

-- one of some values that stay
pub value_of_values : (r : Recorded) (p : ℕ) (vars : List ℕ) (m n v : ℕ) → Contains vars v
    → values_after r p vars m ≡ values_after r p vars n → value_after r m p v ≡ value_after r n p v
value_of_values r p vars m n v (k, within, at) same =
    subst (λ (w : ℕ). value_after r m p w ≡ value_after r n p w) at
    (sym (get_or-map (λ w. value_after r m p w) vars k v (pos 0) within)
    ∙ (ap (λ (values : List ℤ). get_or values k (pos 0)) same
    ∙ get_or-map (λ w. value_after r n p w) vars k v (pos 0) within))
