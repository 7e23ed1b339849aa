-- Counts by their prefix and the last two: each count, the sum, and one event more or less.
use Rattle.std.proofs.Common.{◌≡◌, ◌≢◌, ℕ, zero, suc, ◌+◌, ◌-◌, ◌<◌, ◌≤◌, List, [], ◌∷◌, length, get_or, sum, refl, sym, ap, ◌∙◌, subst, inl, inr, ◌⊎◌, arith}
use Rattle.std.proofs.lemmas.Bool.{cases_lt}
use Rattle.def_model.specs.Events.{Computation}
use Rattle.def_model.specs.Order.{HasNoCycle}
use Rattle.def_model.specs.Cuts.{IsConsistent, one_more, one_less}
use Rattle.def_model.proofs.Counts.{sum_cons}
use Rattle.walk_keys.specs.Neighbors.{cut_at}
use Rattle.def_model.proofs.Undoing.{undo_some}

-- where a process stands: in the prefix, last but one, last, or nowhere
pub which : (n p : ℕ) → (p < n) ⊎ ((p ≡ n) ⊎ ((p ≡ suc n) ⊎ (suc n < p)))
which n p = go (cases_lt p n) (cases_lt n p) (cases_lt (suc n) p)
  where
    go : (p < n) ⊎ (n ≤ p) → (n < p) ⊎ (p ≤ n) → (suc n < p) ⊎ (p ≤ suc n)
        → (p < n) ⊎ ((p ≡ n) ⊎ ((p ≡ suc n) ⊎ (suc n < p)))
    go (inl h) b d = inl h
    go (inr a) (inr b) d = inr (inl (omega arith))
    go (inr a) (inl b) (inl d) = inr (inr (inr d))
    go (inr a) (inl b) (inr d) = inr (inr (inl (omega arith)))

pub at_prefix : (prefix : List ℕ) (x y p : ℕ) → p < length prefix → get_or (cut_at prefix x y) p 0 ≡ get_or prefix p 0
at_prefix [] x y p lt = absurd (omega arith)
at_prefix (n ∷ prefix) x y zero lt = refl
at_prefix (n ∷ prefix) x y (suc p) lt = at_prefix prefix x y p (omega arith)

pub at_x : (prefix : List ℕ) (x y n : ℕ) → length prefix ≡ n → get_or (cut_at prefix x y) n 0 ≡ x
at_x prefix x y n e = subst (λ (m : ℕ). get_or (cut_at prefix x y) m 0 ≡ x) e (go prefix)
  where
    go : (xs : List ℕ) → get_or (cut_at xs x y) (length xs) 0 ≡ x
    go [] = refl
    go (m ∷ xs) = go xs

pub at_y : (prefix : List ℕ) (x y n : ℕ) → length prefix ≡ n → get_or (cut_at prefix x y) (suc n) 0 ≡ y
at_y prefix x y n e = subst (λ (m : ℕ). get_or (cut_at prefix x y) (suc m) 0 ≡ y) e (go prefix)
  where
    go : (xs : List ℕ) → get_or (cut_at xs x y) (suc (length xs)) 0 ≡ y
    go [] = refl
    go (m ∷ xs) = go xs

pub at_past : (prefix : List ℕ) (x y p : ℕ) → suc (length prefix) < p → get_or (cut_at prefix x y) p 0 ≡ 0
at_past [] x y zero lt = absurd (omega arith)
at_past [] x y (suc zero) lt = absurd (omega arith)
at_past [] x y (suc (suc p)) lt = refl
at_past (n ∷ prefix) x y zero lt = absurd (omega arith)
at_past (n ∷ prefix) x y (suc p) lt = at_past prefix x y p (omega arith)

pub length_at : (prefix : List ℕ) (x y : ℕ) → length (cut_at prefix x y) ≡ length prefix + 2
length_at [] x y = refl
length_at (n ∷ prefix) x y = let t : length (cut_at prefix x y) ≡ length prefix + 2 = length_at prefix x y in
    omega arith

pub sum_at : (prefix : List ℕ) (x y : ℕ) → sum (cut_at prefix x y) ≡ sum prefix + (x + y)
sum_at [] x y = omega (arith, sum_cons x (y ∷ []), sum_cons y [])
sum_at (n ∷ prefix) x y = omega (arith, sum_cons n (cut_at prefix x y), sum_cons n prefix, sum_at prefix x y)

pub less_x : (prefix : List ℕ) (x y n : ℕ) → length prefix ≡ n
    → one_less (cut_at prefix x y) n ≡ cut_at prefix (x - 1) y
less_x prefix x y n e = subst (λ (m : ℕ). one_less (cut_at prefix x y) m ≡ cut_at prefix (x - 1) y) e (go prefix)
  where
    go : (xs : List ℕ) → one_less (cut_at xs x y) (length xs) ≡ cut_at xs (x - 1) y
    go [] = refl
    go (m ∷ xs) = ap (λ (ys : List ℕ). m ∷ ys) (go xs)

pub less_y : (prefix : List ℕ) (x y n : ℕ) → length prefix ≡ n
    → one_less (cut_at prefix x y) (suc n) ≡ cut_at prefix x (y - 1)
less_y prefix x y n e = subst (λ (m : ℕ). one_less (cut_at prefix x y) (suc m) ≡ cut_at prefix x (y - 1)) e (go prefix)
  where
    go : (xs : List ℕ) → one_less (cut_at xs x y) (suc (length xs)) ≡ cut_at xs x (y - 1)
    go [] = refl
    go (m ∷ xs) = ap (λ (ys : List ℕ). m ∷ ys) (go xs)

pub more_x : (prefix : List ℕ) (x y : ℕ) → one_more (cut_at prefix x y) (length prefix) ≡ cut_at prefix (x + 1) y
more_x [] x y = refl
more_x (n ∷ prefix) x y = ap (λ (ys : List ℕ). n ∷ ys) (more_x prefix x y)

pub more_y : (prefix : List ℕ) (x y : ℕ) → one_more (cut_at prefix x y) (suc (length prefix)) ≡ cut_at prefix x (y + 1)
more_y [] x y = refl
more_y (n ∷ prefix) x y = ap (λ (ys : List ℕ). n ∷ ys) (more_y prefix x y)

pub less_prefix : (prefix : List ℕ) (x y p : ℕ) → p < length prefix
    → one_less (cut_at prefix x y) p ≡ cut_at (one_less prefix p) x y
less_prefix [] x y p lt = absurd (omega arith)
less_prefix (n ∷ prefix) x y zero lt = refl
less_prefix (n ∷ prefix) x y (suc p) lt = ap (λ (ys : List ℕ). n ∷ ys) (less_prefix prefix x y p (omega arith))

pub more_prefix : (prefix : List ℕ) (x y p : ℕ) → p < length prefix
    → one_more (cut_at prefix x y) p ≡ cut_at (one_more prefix p) x y
more_prefix [] x y p lt = absurd (omega arith)
more_prefix (n ∷ prefix) x y zero lt = refl
more_prefix (n ∷ prefix) x y (suc p) lt = ap (λ (ys : List ℕ). n ∷ ys) (more_prefix prefix x y p (omega arith))

-- all counts but that of the last, or of the last but one
pub others_y : (prefix : List ℕ) (x y z w : ℕ) → x ≤ z → (q : ℕ) → q ≢ suc (length prefix)
    → get_or (cut_at prefix x y) q 0 ≤ get_or (cut_at prefix z w) q 0
others_y [] x y z w le zero h = le
others_y [] x y z w le (suc zero) h = absurd (h refl)
others_y [] x y z w le (suc (suc q)) h = omega arith
others_y (n ∷ prefix) x y z w le zero h = omega arith
others_y (n ∷ prefix) x y z w le (suc q) h = others_y prefix x y z w le q (λ e. h (ap suc e))

pub others_x : (prefix : List ℕ) (x y z w : ℕ) → y ≤ w → (q : ℕ) → q ≢ length prefix
    → get_or (cut_at prefix x y) q 0 ≤ get_or (cut_at prefix z w) q 0
others_x [] x y z w le zero h = absurd (h refl)
others_x [] x y z w le (suc zero) h = le
others_x [] x y z w le (suc (suc q)) h = omega arith
others_x (n ∷ prefix) x y z w le zero h = omega arith
others_x (n ∷ prefix) x y z w le (suc q) h = others_x prefix x y z w le q (λ e. h (ap suc e))

-- Beside a consistent cut with no fewer events of the prefix's processes and fewer of one of the last two, one of these
-- two of which it has fewer can be undone.
pub undo_two : (c : Computation) → HasNoCycle c → (prefix low : List ℕ) (x y z w : ℕ) → length low ≡ length prefix
    → ((q : ℕ) → get_or prefix q 0 ≤ get_or low q 0) → IsConsistent c (cut_at prefix x y)
    → IsConsistent c (cut_at low z w) → (z < x) ⊎ (w < y) → ((z < x) × IsConsistent c (cut_at prefix (x - 1) y))
    ⊎ ((w < y) × IsConsistent c (cut_at prefix x (y - 1)))
undo_two c acyclic prefix low x y z w l above ok ok_low some = pick (start some)
  where
    start : (z < x) ⊎ (w < y) → (p : ℕ) × (get_or (cut_at low z w) p 0 < get_or (cut_at prefix x y) p 0)
        × IsConsistent c (one_less (cut_at prefix x y) p)
    start (inl lt) =
        let a : get_or (cut_at prefix x y) (length prefix) 0 ≡ x = at_x prefix x y (length prefix) refl in
        let b : get_or (cut_at low z w) (length prefix) 0 ≡ z = at_x low z w (length prefix) l in
        undo_some c acyclic (cut_at low z w) (cut_at prefix x y) ok_low ok (length prefix) (omega arith)
    start (inr lt) =
        let a : get_or (cut_at prefix x y) (suc (length prefix)) 0 ≡ y = at_y prefix x y (length prefix) refl in
        let b : get_or (cut_at low z w) (suc (length prefix)) 0 ≡ w = at_y low z w (length prefix) l in
        undo_some c acyclic (cut_at low z w) (cut_at prefix x y) ok_low ok (suc (length prefix)) (omega arith)

    pick : (p : ℕ) × (get_or (cut_at low z w) p 0 < get_or (cut_at prefix x y) p 0)
        × IsConsistent c (one_less (cut_at prefix x y) p) → ((z < x) × IsConsistent c (cut_at prefix (x - 1) y))
        ⊎ ((w < y) × IsConsistent c (cut_at prefix x (y - 1)))
    pick (p, lt, less) = go (which (length prefix) p)
      where
        go : (p < length prefix) ⊎ ((p ≡ length prefix) ⊎ ((p ≡ suc (length prefix)) ⊎ (suc (length prefix) < p)))
            → ((z < x) × IsConsistent c (cut_at prefix (x - 1) y))
            ⊎ ((w < y) × IsConsistent c (cut_at prefix x (y - 1)))
        go (inl h) =
            let a : get_or (cut_at prefix x y) p 0 ≡ get_or prefix p 0 = at_prefix prefix x y p h in
            let b : get_or (cut_at low z w) p 0 ≡ get_or low p 0 = at_prefix low z w p (omega arith) in
            let d : get_or prefix p 0 ≤ get_or low p 0 = above p in
            absurd (omega arith)
        go (inr (inl e)) =
            let a : get_or (cut_at prefix x y) p 0 ≡ x = at_x prefix x y p (sym e) in
            let b : get_or (cut_at low z w) p 0 ≡ z = at_x low z w p (l ∙ sym e) in
            inl (omega arith, subst (IsConsistent c) (less_x prefix x y p (sym e)) less)
        go (inr (inr (inl e))) =
            let lt' : get_or (cut_at low z w) (suc (length prefix)) 0 < get_or (cut_at prefix x y) (suc (length prefix))
            0 = subst (λ (q : ℕ). get_or (cut_at low z w) q 0 < get_or (cut_at prefix x y) q 0) e lt in
            let a : get_or (cut_at prefix x y) (suc (length prefix)) 0 ≡ y = at_y prefix x y (length prefix) refl in
            let b : get_or (cut_at low z w) (suc (length prefix)) 0 ≡ w = at_y low z w (length prefix) l in
            inr (
              omega arith,
              subst (IsConsistent c) (ap (λ (q : ℕ). one_less (cut_at prefix x y) q) e
                  ∙ less_y prefix x y (length prefix) refl) less,
            )
        go (inr (inr (inr h))) = let a : get_or (cut_at prefix x y) p 0 ≡ 0 = at_past prefix x y p h in
            absurd (omega arith)

-- Beside a cut of the same prefix with fewer events of the last process and no fewer of the one before it, the last
-- process's last event can be undone. The same with the two changed.
pub undo_y : (c : Computation) → HasNoCycle c → (prefix : List ℕ) (x y z w : ℕ) → IsConsistent c (cut_at prefix x y)
    → IsConsistent c (cut_at prefix z w) → x ≤ z → w < y → IsConsistent c (cut_at prefix x (y - 1))
undo_y c acyclic prefix x y z w ok ok_low le lt =
    go (undo_two c acyclic prefix prefix x y z w refl (λ q. omega arith) ok ok_low (inr lt))
  where
    go : ((z < x) × IsConsistent c (cut_at prefix (x - 1) y)) ⊎ ((w < y) × IsConsistent c (cut_at prefix x (y - 1)))
        → IsConsistent c (cut_at prefix x (y - 1))
    go (inl (h, less)) = absurd (omega arith)
    go (inr (h, less)) = less

pub undo_x : (c : Computation) → HasNoCycle c → (prefix : List ℕ) (x y z w : ℕ) → IsConsistent c (cut_at prefix x y)
    → IsConsistent c (cut_at prefix z w) → z < x → y ≤ w → IsConsistent c (cut_at prefix (x - 1) y)
undo_x c acyclic prefix x y z w ok ok_low lt le =
    go (undo_two c acyclic prefix prefix x y z w refl (λ q. omega arith) ok ok_low (inl lt))
  where
    go : ((z < x) × IsConsistent c (cut_at prefix (x - 1) y)) ⊎ ((w < y) × IsConsistent c (cut_at prefix x (y - 1)))
        → IsConsistent c (cut_at prefix (x - 1) y)
    go (inl (h, less)) = less
    go (inr (h, less)) = absurd (omega arith)

-- cuts have one prefix
pub same_cut : (xs ys : List ℕ) (x y z w : ℕ) → cut_at xs x y ≡ cut_at ys z w → xs ≡ ys
same_cut [] [] x y z w e = refl
same_cut [] (n ∷ ys) x y z w e = absurd (omega (arith, ap length e, length_at (n ∷ ys) z w, length_at [] x y))
same_cut (n ∷ xs) [] x y z w e = absurd (omega (arith, ap length e, length_at (n ∷ xs) x y, length_at [] z w))
same_cut (n ∷ xs) (m ∷ ys) x y z w e =
    let head : n ≡ m = cc in
    let tail : cut_at xs x y ≡ cut_at ys z w = cc in
    let rest : xs ≡ ys = same_cut xs ys x y z w tail in
    cc
