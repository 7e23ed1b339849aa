-- The end points of a prefix's interval, one level on.
use Rattle.std.proofs.Common.{◌≡◌, ℕ, ◌+◌, ◌-◌, ◌<◌, ◌≤◌, Bool, true, false, cond, List, refl, inl, inr, ◌⊎◌, ◌↔◌, arith}
use Rattle.std.proofs.lemmas.Bool.{cases_eq, cases_lt}
use Rattle.def_model.specs.Events.{Computation}
use Rattle.def_model.specs.Order.{HasNoCycle}
use Rattle.def_model.specs.Cuts.{IsConsistent}
use Rattle.walk_keys.specs.Neighbors.{cut_at}
use Rattle.walk_runs.specs.Runs.{IsAliveAtSum, IsInterval}
use Rattle.walk_runs.proofs.Neighbors.{moved, inside, one_below}

module _ (c : Computation) (acyclic : HasNoCycle c) (prefix : List ℕ) (s lo hi : ℕ)
    (interval : IsInterval c prefix s lo hi) (some : lo ≤ hi) where
  pub alive : IsAliveAtSum c prefix s
  alive =
      let within : hi ≤ s = interval.within in
      (lo, s - lo, omega arith, (interval.just lo (s - lo) (omega arith)).1 (omega arith, some))

  -- no cut of the next level lies beyond the end points by more than one
  near : (x y : ℕ) → x + y ≡ s + 1 → IsConsistent c (cut_at prefix x y) → (lo ≤ x) × (x ≤ hi + 1)
  near x y e ok = go (one_below c acyclic prefix s x y alive e ok)
    where
      go : ((0 < x) × IsConsistent c (cut_at prefix (x - 1) y)) ⊎ ((0 < y) × IsConsistent c (cut_at prefix x (y - 1)))
          → (lo ≤ x) × (x ≤ hi + 1)
      go (inl (has, below)) =
          let w : (lo ≤ x - 1) × (x - 1 ≤ hi) = (interval.just (x - 1) y (omega arith)).0 below in
          (omega arith, omega arith)
      go (inr (has, below)) =
          let w : (lo ≤ x) × (x ≤ hi) = (interval.just x (y - 1) (omega arith)).0 below in (omega arith, omega arith)

  -- between the end points each cut of the next level is consistent
  between : (x y : ℕ) → x + y ≡ s + 1 → lo < x → x ≤ hi → IsConsistent c (cut_at prefix x y)
  between x y e above below =
      let within : hi ≤ s = interval.within in
      let up : IsConsistent c (cut_at prefix (x - 1) ((y - 1) + 1)) =
      (interval.just (x - 1) ((y - 1) + 1) (omega arith)).1 (omega arith, omega arith) in
      let right : IsConsistent c (cut_at prefix ((x - 1) + 1) (y - 1)) =
      (interval.just ((x - 1) + 1) (y - 1) (omega arith)).1 (omega arith, omega arith) in
      moved c prefix ((x - 1) + 1) ((y - 1) + 1) x y (omega arith) (omega arith)
      (inside c prefix (x - 1) (y - 1) up right).0

  -- a says that the last process, b that the last but one can go on, from the lower and the upper end
  pub end_points : (a b : Bool) → (a ≡ true) ↔ IsConsistent c (cut_at prefix lo (s - lo + 1))
      → (b ≡ true) ↔ IsConsistent c (cut_at prefix (hi + 1) (s - hi))
      → IsInterval c prefix (s + 1) (cond a lo (lo + 1)) (cond b (hi + 1) hi)
  end_points a b is_a is_b = record { within = high b; just = λ x y e. (to x y e, from x y e) }
    where
      high : (b : Bool) → cond b (hi + 1) hi ≤ s + 1
      high true = let within : hi ≤ s = interval.within in omega arith
      high false = let within : hi ≤ s = interval.within in omega arith

      to : (x y : ℕ) → x + y ≡ s + 1 → IsConsistent c (cut_at prefix x y) → (cond a lo (lo + 1) ≤ x)
          × (x ≤ cond b (hi + 1) hi)
      to x y e ok = let w : (lo ≤ x) × (x ≤ hi + 1) = near x y e ok in
          (lower a refl w.0 (cases_eq x lo), upper b refl w.1 (cases_eq x (hi + 1)))
        where
          within : hi ≤ s
          within = interval.within

          lower : (t : Bool) → a ≡ t → lo ≤ x → (x ≡ lo) ⊎ (x ≡ lo → ⊥) → cond t lo (lo + 1) ≤ x
          lower true is le d = le
          lower false is le (inr n) = omega arith
          lower false is le (inl at) =
              let i : hi ≤ s = within in
              let t : a ≡ true = is_a.1 (moved c prefix x y lo (s - lo + 1) at (omega arith) ok) in cc

          upper : (t : Bool) → b ≡ t → x ≤ hi + 1 → (x ≡ hi + 1) ⊎ (x ≡ hi + 1 → ⊥) → x ≤ cond t (hi + 1) hi
          upper true is le d = le
          upper false is le (inr n) = omega arith
          upper false is le (inl at) =
              let i : hi ≤ s = within in
              let t : b ≡ true = is_b.1 (moved c prefix x y (hi + 1) (s - hi) at (omega arith) ok) in cc

      from : (x y : ℕ) → x + y ≡ s + 1 → (cond a lo (lo + 1) ≤ x) × (x ≤ cond b (hi + 1) hi)
          → IsConsistent c (cut_at prefix x y)
      from x y e (low, top) = go (lower a refl low (cases_lt lo x)) (upper b refl top (cases_lt hi x))
        where
          within : hi ≤ s
          within = interval.within

          lower : (t : Bool) → a ≡ t → cond t lo (lo + 1) ≤ x → (lo < x) ⊎ (x ≤ lo)
              → (lo < x) ⊎ IsConsistent c (cut_at prefix x y)
          lower t is le (inl lt) = inl lt
          lower true is le (inr ge) =
              let i : hi ≤ s = within in inr (moved c prefix lo (s - lo + 1) x y (omega arith) (omega arith)
              (is_a.0 is))
          lower false is le (inr ge) = absurd (omega arith)

          upper : (t : Bool) → b ≡ t → x ≤ cond t (hi + 1) hi → (hi < x) ⊎ (x ≤ hi)
              → (x ≤ hi) ⊎ IsConsistent c (cut_at prefix x y)
          upper t is le (inr ge) = inl ge
          upper true is le (inl lt) =
              let i : hi ≤ s = within in inr (moved c prefix (hi + 1) (s - hi) x y (omega arith) (omega arith)
              (is_b.0 is))
          upper false is le (inl lt) = absurd (omega arith)

          go : (lo < x) ⊎ IsConsistent c (cut_at prefix x y) → (x ≤ hi) ⊎ IsConsistent c (cut_at prefix x y)
              → IsConsistent c (cut_at prefix x y)
          go (inr ok) r = ok
          go (inl above) (inr ok) = ok
          go (inl above) (inl below) = between x y e above below
