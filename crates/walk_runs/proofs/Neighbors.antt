-- Consistent cuts with one prefix: between two of them, and one event below another.
use Rattle.std.proofs.Common.{◌≡◌, ℕ, zero, suc, ◌+◌, ◌-◌, ◌<◌, ◌≤◌, min, max, List, length, get_or, sum, ap, ap₂, ◌∙◌, subst, inl, inr, ◌⊎◌, arith}
use Rattle.def_model.specs.Events.{Computation}
use Rattle.def_model.specs.Order.{HasNoCycle}
use Rattle.def_model.specs.Cuts.{IsConsistent, one_less}
use Rattle.walk_keys.specs.Neighbors.{cut_at}
use Rattle.walk_runs.specs.Runs.{IsAliveAtSum}
use Rattle.def_model.proofs.MeetAndJoin.{meet_consistent, join_consistent}
use Rattle.def_model.proofs.Undoing.{step_down_from_sum}
use Rattle.walk_runs.proofs.RunCuts.{prefix_at, x_at, y_at, which_process, within_cuts, sum_cut, meet_cuts, join_cuts, less_x, less_y}

pub meet_of_prefix : (c : Computation) (prefix : List ℕ) (x y u v : ℕ) → IsConsistent c (cut_at prefix x y)
    → IsConsistent c (cut_at prefix u v) → IsConsistent c (cut_at prefix (min x u) (min y v))
meet_of_prefix c prefix x y u v first second =
    subst (IsConsistent c) (meet_cuts prefix x y u v)
    (meet_consistent c (cut_at prefix x y) (cut_at prefix u v) first second)

pub join_of_prefix : (c : Computation) (prefix : List ℕ) (x y u v : ℕ) → IsConsistent c (cut_at prefix x y)
    → IsConsistent c (cut_at prefix u v) → IsConsistent c (cut_at prefix (max x u) (max y v))
join_of_prefix c prefix x y u v first second =
    subst (IsConsistent c) (join_cuts prefix x y u v)
    (join_consistent c (cut_at prefix x y) (cut_at prefix u v) first second)

-- the same cut by other numbers
pub moved : (c : Computation) (prefix : List ℕ) (x y u v : ℕ) → x ≡ u → y ≡ v → IsConsistent c (cut_at prefix x y)
    → IsConsistent c (cut_at prefix u v)
moved c prefix x y u v e f = subst (IsConsistent c) (ap₂ (cut_at prefix) e f)

-- The other two corners of a square are consistent where these two are.
pub inside : (c : Computation) (prefix : List ℕ) (x y : ℕ) → IsConsistent c (cut_at prefix x (y + 1))
    → IsConsistent c (cut_at prefix (x + 1) y) → IsConsistent c (cut_at prefix (x + 1) (y + 1))
    × IsConsistent c (cut_at prefix x y)
inside c prefix x y up right = (
  moved c prefix (max x (x + 1)) (max (y + 1) y) (x + 1) (y + 1) (omega arith) (omega arith)
      (join_of_prefix c prefix x (y + 1) (x + 1) y up right),
  moved c prefix (min x (x + 1)) (min (y + 1) y) x y (omega arith) (omega arith)
      (meet_of_prefix c prefix x (y + 1) (x + 1) y up right),
)

-- The step down between two cuts of one prefix is by one of the last two processes.
pub step_in_prefix : (c : Computation) → HasNoCycle c → (prefix : List ℕ) (u v x y : ℕ)
    → IsConsistent c (cut_at prefix u v) → IsConsistent c (cut_at prefix x y) → u ≤ x → v ≤ y → u + v < x + y
    → ((u < x) × IsConsistent c (cut_at prefix (x - 1) y)) ⊎ ((v < y) × IsConsistent c (cut_at prefix x (y - 1)))
step_in_prefix c acyclic prefix u v x y low high i j less =
    go (step_down_from_sum c acyclic (cut_at prefix u v) (cut_at prefix x y) low high (within_cuts prefix u v x y i j)
    fewer)
  where
    fewer : sum (cut_at prefix u v) < sum (cut_at prefix x y)
    fewer =
        let l : sum (cut_at prefix u v) ≡ sum prefix + (u + v) = sum_cut prefix u v in
        let h : sum (cut_at prefix x y) ≡ sum prefix + (x + y) = sum_cut prefix x y in
        omega arith

    go : (p : ℕ) × (p < length (cut_at prefix x y)) × (get_or (cut_at prefix u v) p 0 < get_or (cut_at prefix x y) p 0)
        × IsConsistent c (one_less (cut_at prefix x y) p) → ((u < x) × IsConsistent c (cut_at prefix (x - 1) y))
        ⊎ ((v < y) × IsConsistent c (cut_at prefix x (y - 1)))
    go (p, lt, outside, undone) = pick (which_process prefix x y p lt)
      where
        pick : (p < length prefix) ⊎ ((p ≡ length prefix) ⊎ (p ≡ suc (length prefix)))
            → ((u < x) × IsConsistent c (cut_at prefix (x - 1) y))
            ⊎ ((v < y) × IsConsistent c (cut_at prefix x (y - 1)))
        pick (inl early) =
            let l : get_or (cut_at prefix u v) p 0 ≡ get_or prefix p 0 = prefix_at prefix u v p early in
            let h : get_or (cut_at prefix x y) p 0 ≡ get_or prefix p 0 = prefix_at prefix x y p early in
            absurd (omega arith)
        pick (inr (inl is_x)) =
            let l : get_or (cut_at prefix u v) p 0 ≡ u = ap (λ (q : ℕ). get_or (cut_at prefix u v) q 0) is_x
            ∙ x_at prefix u v in
            let h : get_or (cut_at prefix x y) p 0 ≡ x = ap (λ (q : ℕ). get_or (cut_at prefix x y) q 0) is_x
            ∙ x_at prefix x y in
            inl (
              omega arith,
              subst (IsConsistent c) (ap (one_less (cut_at prefix x y)) is_x
                  ∙ less_x prefix x y) undone,
            )
        pick (inr (inr is_y)) =
            let l : get_or (cut_at prefix u v) p 0 ≡ v = ap (λ (q : ℕ). get_or (cut_at prefix u v) q 0) is_y
            ∙ y_at prefix u v in
            let h : get_or (cut_at prefix x y) p 0 ≡ y = ap (λ (q : ℕ). get_or (cut_at prefix x y) q 0) is_y
            ∙ y_at prefix x y in
            inr (
              omega arith,
              subst (IsConsistent c) (ap (one_less (cut_at prefix x y)) is_y
                  ∙ less_y prefix x y) undone,
            )

-- Where the prefix is alive one level below, one of the last two processes can be undone: the meet with a cut of that
-- level has the same prefix and fewer events.
pub one_below : (c : Computation) → HasNoCycle c → (prefix : List ℕ) (s x y : ℕ) → IsAliveAtSum c prefix s
    → x + y ≡ s + 1 → IsConsistent c (cut_at prefix x y) → ((0 < x) × IsConsistent c (cut_at prefix (x - 1) y))
    ⊎ ((0 < y) × IsConsistent c (cut_at prefix x (y - 1)))
one_below c acyclic prefix s x y (u, v, e, below) f ok =
    go (step_in_prefix c acyclic prefix (min u x) (min v y) x y (meet_of_prefix c prefix u v x y below ok) ok
    (omega arith) (omega arith) (omega arith))
  where
    go : ((min u x < x) × IsConsistent c (cut_at prefix (x - 1) y))
        ⊎ ((min v y < y) × IsConsistent c (cut_at prefix x (y - 1)))
        → ((0 < x) × IsConsistent c (cut_at prefix (x - 1) y)) ⊎ ((0 < y) × IsConsistent c (cut_at prefix x (y - 1)))
    go (inl (less, undone)) = inl (omega arith, undone)
    go (inr (less, undone)) = inr (omega arith, undone)

-- Between two cuts of one prefix each sum of the last two counts has a cut of this prefix.
pub between_in_prefix : (c : Computation) → HasNoCycle c → (prefix : List ℕ) (u v : ℕ)
    → IsConsistent c (cut_at prefix u v) → (n x y : ℕ) → IsConsistent c (cut_at prefix x y) → u ≤ x → v ≤ y
    → u + v + n ≤ x + y → (i : ℕ) × (j : ℕ) × (u ≤ i) × (i ≤ x) × (v ≤ j) × (j ≤ y) × (i + j + n ≡ x + y)
    × IsConsistent c (cut_at prefix i j)
between_in_prefix c acyclic prefix u v low zero x y high a b room =
    (x, y, a, omega arith, b, omega arith, omega arith, high)
between_in_prefix c acyclic prefix u v low (suc n) x y high a b room =
    go (step_in_prefix c acyclic prefix u v x y low high a b (omega arith))
    (between_in_prefix c acyclic prefix u v low n)
  where
    go : ((u < x) × IsConsistent c (cut_at prefix (x - 1) y)) ⊎ ((v < y) × IsConsistent c (cut_at prefix x (y - 1)))
        → ((x y : ℕ) → IsConsistent c (cut_at prefix x y) → u ≤ x → v ≤ y → u + v + n ≤ x + y
        → (i : ℕ) × (j : ℕ) × (u ≤ i) × (i ≤ x) × (v ≤ j) × (j ≤ y) × (i + j + n ≡ x + y)
        × IsConsistent c (cut_at prefix i j)) → (i : ℕ) × (j : ℕ) × (u ≤ i) × (i ≤ x) × (v ≤ j) × (j ≤ y)
        × (i + j + suc n ≡ x + y) × IsConsistent c (cut_at prefix i j)
    go (inl (less, undone)) rest = found (rest (x - 1) y undone (omega arith) b (omega arith))
      where
        found : (i : ℕ) × (j : ℕ) × (u ≤ i) × (i ≤ x - 1) × (v ≤ j) × (j ≤ y) × (i + j + n ≡ (x - 1) + y)
            × IsConsistent c (cut_at prefix i j) → (i : ℕ) × (j : ℕ) × (u ≤ i) × (i ≤ x) × (v ≤ j) × (j ≤ y)
            × (i + j + suc n ≡ x + y) × IsConsistent c (cut_at prefix i j)
        found (i, j, k, l, m, o, e, ok) = (i, j, k, omega arith, m, o, omega arith, ok)
    go (inr (less, undone)) rest = found (rest x (y - 1) undone a (omega arith) (omega arith))
      where
        found : (i : ℕ) × (j : ℕ) × (u ≤ i) × (i ≤ x) × (v ≤ j) × (j ≤ y - 1) × (i + j + n ≡ x + (y - 1))
            × IsConsistent c (cut_at prefix i j) → (i : ℕ) × (j : ℕ) × (u ≤ i) × (i ≤ x) × (v ≤ j) × (j ≤ y)
            × (i + j + suc n ≡ x + y) × IsConsistent c (cut_at prefix i j)
        found (i, j, k, l, m, o, e, ok) = (i, j, k, l, m, omega arith, omega arith, ok)

-- Where two opposite corners of a rectangle are consistent, the one with more x, the other with more y, so is all in
-- it.
pub rectangle : (c : Computation) → HasNoCycle c → (prefix : List ℕ) (u v x y : ℕ) → IsConsistent c (cut_at prefix u v)
    → IsConsistent c (cut_at prefix x y) → u ≤ x → y ≤ v → (i j : ℕ) → u ≤ i → i ≤ x → y ≤ j → j ≤ v
    → IsConsistent c (cut_at prefix i j)
rectangle c acyclic prefix u v x y up right a b i j i_low i_high j_low j_high =
    let corner : IsConsistent c (cut_at prefix u y) =
    moved c prefix (min u x) (min v y) u y (omega arith) (omega arith) (meet_of_prefix c prefix u v x y up right) in
    let bottom : (k : ℕ) × (l : ℕ) × (u ≤ k) × (k ≤ x) × (y ≤ l) × (l ≤ y) × (k + l + (x - i) ≡ x + y)
    × IsConsistent c (cut_at prefix k l) = between_in_prefix c acyclic prefix u y corner (x - i) x y right a
    (omega arith) (omega arith) in
    let left : (k : ℕ) × (l : ℕ) × (u ≤ k) × (k ≤ u) × (y ≤ l) × (l ≤ v) × (k + l + (v - j) ≡ u + v)
    × IsConsistent c (cut_at prefix k l) = between_in_prefix c acyclic prefix u y corner (v - j) u v up
    (omega arith) b (omega arith) in
    moved c prefix (max bottom.0 left.0) (max bottom.1 left.1) i j (omega arith) (omega arith)
    (join_of_prefix c prefix bottom.0 bottom.1 left.0 left.1 bottom.7 left.7)

-- so x with a given sum form an interval
pub no_gap : (c : Computation) → HasNoCycle c → (prefix : List ℕ) (s u v w x y z : ℕ) → u + v ≡ s → w + z ≡ s
    → x + y ≡ s → u ≤ x → x ≤ w → IsConsistent c (cut_at prefix u v) → IsConsistent c (cut_at prefix w z)
    → IsConsistent c (cut_at prefix x y)
no_gap c acyclic prefix s u v w x y z e f g a b left right =
    rectangle c acyclic prefix u v w z left right (omega arith) (omega arith) x y a b (omega arith) (omega arith)
