-- The first key of steps in order is the least key of their pasts.
use Rattle.std.proofs.Common.{◌≡◌, ℕ, ◌<◌, ◌≤◌, Bool, true, List, length, Option, Some, None, cond, ℤ, pos, ◌<ℤ◌, ◌≤ℤ◌, sym, ◌∙◌, subst, inl, inr, ◌⊎◌, arith}
use Rattle.std.specs.Prelude.{MatchOption}
use Rattle.std.proofs.lemmas.Bool.{cases_lt, le-ltb, lt-ltb}
use Rattle.std.proofs.lemmas.Int.{ints}
use Rattle.def_model.specs.Lattice.{IsWithin}
use Rattle.wide_flow.specs.Closed.{HasKeysBelow, HasKeysUpTo, HasNoKey, IsClosed, IsFirstKey, set_weight}
use Rattle.wide_flow.specs.Steps.{step_at}
use Rattle.wide_flow.specs.declared.step.Step.{Step}
use Rattle.wide_slice.specs.Steps.{HasStep, IsClosedSet, weight_of}
use Rattle.wide_reach.specs.declared.key.Key.{Key}
use Rattle.wide_reach.specs.Bounds.{AreUnordered, IsEnough, IsLeastKey, Reaches, ReachesBy}
use Rattle.wide_reach.specs.Keys.{AreInOrder, IsOrderKey, inside_of, key_of, outside}
use Rattle.wide_reach.proofs.InOrder.{StandsAt, alike, from_sorted, has_alike, has_back, own, past_alike, past_back, same_weight, to_sorted}
use Rattle.wide_reach.proofs.StepSets.{in_place, is_in, places_of, steps_in, weight_of_places, weight_of_steps}

-- a past within the bound has its key, below all that aren't
key_inside : (bound : List ℕ) (key : Key) (past : List ℕ) (k : ℕ) → IsOrderKey bound key past k → IsWithin past bound
    → (k ≡ key_of key past) × (k < outside)
key_inside bound key past k (inl (low, same, less)) within = (same, less)
key_inside bound key past k (inr (high, is)) within = absurd (high within)

-- and what is below these is the key of a past within the bound
inside_key : (bound : List ℕ) (key : Key) (past : List ℕ) (k : ℕ) → IsOrderKey bound key past k → k < outside
    → IsWithin past bound × (k ≡ key_of key past)
inside_key bound key past k (inl (low, same, less)) lt = (low, same)
inside_key bound key past k (inr (high, is)) lt = absurd (omega arith)

contrary : (n : ℕ) (w z : ℤ) → w ≡ z → pos n ≤ℤ z → w <ℤ pos n → ⊥
contrary n w z same ge less = omega (arith, ints)

module _ (processes : ℕ) (bound : List ℕ) (key : Key) (steps sorted : List Step) (all : AreUnordered processes steps)
    (are : AreInOrder bound key steps sorted) (target : ℕ) where
  -- ---- from a set of places

  has_at : (set : ℕ → Bool) → IsClosed sorted set → (i j : ℕ) → StandsAt bound key steps sorted i j
      → HasStep (steps_in set sorted) (step_at steps i) → set j ≡ true
  has_at set closed i j at has =
      in_place set sorted (own processes bound key steps sorted all are) closed j at.to
      (has_alike (steps_in set sorted) (step_at steps i) (step_at sorted j)
      (alike bound key (step_at steps i) (step_at sorted j) at.keyed) has)

  inside : (set : ℕ → Bool) (k : ℕ) → k < outside → IsClosed sorted set → HasKeysUpTo sorted k set → (e : ℕ)
      → e < length steps → HasStep (steps_in set sorted) (step_at steps e)
      → IsWithin (step_at steps e).past.now bound × (key_of key (step_at steps e).past.now ≤ k)
  inside set k less closed up_to e lt has =
      let (j, at) = to_sorted bound key steps sorted are e lt in
      let le : (step_at sorted j).key ≤ k = up_to j at.to (has_at set closed e j at has) in
      let (low, same) =
      inside_key bound key (step_at steps e).past.now (step_at sorted j).key at.keyed.ordered_by (omega arith) in
      (low, omega (arith, same, le))

  chosen_closed : (set : ℕ → Bool) → IsClosed sorted set → IsClosedSet steps (steps_in set sorted)
  chosen_closed set closed f e low high past has =
      let (g, first) = to_sorted bound key steps sorted are f low in
      let (h, second) = to_sorted bound key steps sorted are e high in
      let same = alike bound key (step_at steps f) (step_at sorted g) first.keyed in
      let same' = alike bound key (step_at steps e) (step_at sorted h) second.keyed in
      has_back (steps_in set sorted) (step_at steps f) (step_at sorted g) same
      (is_in set sorted g first.to
      (closed g h first.to second.to (past_alike steps sorted f e g h same same' past)
      (has_at set closed e h second has)))

  chosen_weight : (set : ℕ → Bool) → IsClosed sorted set
      → set_weight set sorted ≡ weight_of (steps_in set sorted) steps
  chosen_weight set closed =
      weight_of_steps set sorted (own processes bound key steps sorted all are) closed
      ∙ same_weight bound key steps sorted are (steps_in set sorted)

  reached : (k : ℕ) → k < outside → (set : ℕ → Bool) → IsClosed sorted set → HasKeysUpTo sorted k set
      → pos target ≤ℤ set_weight set sorted → ReachesBy steps target bound key k
  reached k less set closed up_to enough =
      let chosen : IsEnough steps target bound (steps_in set sorted) =
      record {
        closed = chosen_closed set closed;
        within = λ e lt has. (inside set k less closed up_to e lt has).0;
        enough = subst (λ (z : ℤ). pos target ≤ℤ z) (chosen_weight set closed) enough;
      } in
      (steps_in set sorted, chosen, λ e lt has. (inside set k less closed up_to e lt has).1)

  -- ---- to a set of places

  placed_closed : (set : ℕ → ℕ → Bool) → IsClosedSet steps set → IsClosed sorted (places_of set sorted)
  placed_closed set closed f e low high past has =
      let (g, first) = from_sorted bound key steps sorted are f low in
      let (h, second) = from_sorted bound key steps sorted are e high in
      let same = alike bound key (step_at steps g) (step_at sorted f) first.keyed in
      let same' = alike bound key (step_at steps h) (step_at sorted e) second.keyed in
      has_alike set (step_at steps g) (step_at sorted f) same
      (closed g h first.from second.from (past_back steps sorted g h f e same same' past)
      (has_back set (step_at steps h) (step_at sorted e) same' has))

  placed_weight : (set : ℕ → ℕ → Bool) → set_weight (places_of set sorted) sorted ≡ weight_of set steps
  placed_weight set = weight_of_places set sorted ∙ same_weight bound key steps sorted are set

  -- the keys of a set whose pasts are within the bound
  placed_keys : (set : ℕ → ℕ → Bool) → IsEnough steps target bound set → (e : ℕ) → e < length sorted
      → (places_of set sorted e) ≡ true
      → (i : ℕ) × (i < length steps) × HasStep set (step_at steps i)
      × ((step_at sorted e).key ≡ key_of key (step_at steps i).past.now) × ((step_at sorted e).key < outside)
  placed_keys set is e lt has =
      let (i, at) = from_sorted bound key steps sorted are e lt in
      let same = alike bound key (step_at steps i) (step_at sorted e) at.keyed in
      let member : HasStep set (step_at steps i) = has_back set (step_at steps i) (step_at sorted e) same has in
      let (is_key, less) =
      key_inside bound key (step_at steps i).past.now (step_at sorted e).key at.keyed.ordered_by
      (is.within i at.from member) in
      (i, at.from, member, is_key, less)

  none_below : (k : ℕ) → ((set : ℕ → Bool) → IsClosed sorted set → HasKeysBelow sorted k set
      → set_weight set sorted <ℤ pos target) → (set : ℕ → ℕ → Bool) → IsEnough steps target bound set
      → HasKeysBelow sorted k (places_of set sorted) → ⊥
  none_below k none set is below =
      contrary target (set_weight (places_of set sorted) sorted) (weight_of set steps) (placed_weight set) is.enough
      (none (places_of set sorted) (placed_closed set is.closed) below)

  not_before : (k : ℕ) → IsFirstKey sorted target k → (j : ℕ) → j < k → ¬ ReachesBy steps target bound key j
  not_before k first j less (set, is, up_to) =
      none_below k first.none_before set is (λ e lt has.
      let (i, low, member, same, small) = placed_keys set is e lt has in
      let le = up_to i low member in
      omega (arith, same, le, less))

  not_within : (k : ℕ) → IsFirstKey sorted target k → outside ≤ k → ¬ Reaches steps target bound
  not_within k first ge (set, is) =
      none_below k first.none_before set is (λ e lt has.
      let (i, low, member, same, small) = placed_keys set is e lt has in
      omega (arith, small, ge))

  not_at_all : HasNoKey sorted target → ¬ Reaches steps target bound
  not_at_all none (set, is) =
      contrary target (set_weight (places_of set sorted) sorted) (weight_of set steps) (placed_weight set) is.enough
      (none (places_of set sorted) (placed_closed set is.closed))

  least : (k : ℕ) → k < outside → IsFirstKey sorted target k → IsLeastKey steps target bound key k
  least k less first =
      let (set, closed, up_to, enough) = first.some in
      record { reached = reached k less set closed up_to enough; least = not_before k first }

  some_key : (k : ℕ) → IsFirstKey sorted target k → (k < outside) ⊎ (outside ≤ k)
      → MatchOption (inside_of (Some k)) (¬ Reaches steps target bound) (IsLeastKey steps target bound key)
  some_key k first (inl less) =
      subst
      (λ (b : Bool). MatchOption (cond b (Some k) None) (¬ Reaches steps target bound)
      (IsLeastKey steps target bound key))
      (sym (lt-ltb k outside less)) (least k less first)
  some_key k first (inr ge) =
      subst
      (λ (b : Bool). MatchOption (cond b (Some k) None) (¬ Reaches steps target bound)
      (IsLeastKey steps target bound key))
      (sym (le-ltb k outside ge)) (not_within k first ge)

  pub least_found : (found : Option ℕ) → MatchOption found (HasNoKey sorted target) (IsFirstKey sorted target)
      → MatchOption (inside_of found) (¬ Reaches steps target bound) (IsLeastKey steps target bound key)
  least_found None none = not_at_all none
  least_found (Some k) first = some_key k first (cases_lt k outside)
