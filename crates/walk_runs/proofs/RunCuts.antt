-- Cuts written as a prefix's counts and the last two counts: their counts, sums, meets and joins, and one event more or
-- less.
use Rattle.std.proofs.Common.{◌≡◌, ℕ, zero, suc, ◌+◌, ◌-◌, ◌<◌, ◌≤◌, min, max, List, [], ◌∷◌, length, get_or, sum, refl, ap, ap₂, ◌⊎◌, arith}
use Rattle.std.proofs.Math.ListN.{get_or-append}
use Rattle.def_model.specs.Cuts.{one_more, one_less}
use Rattle.def_model.proofs.Counts.{sum_cons}
use Rattle.def_model.specs.Lattice.{IsWithin, meet, join}
use Rattle.walk_keys.specs.Neighbors.{cut_at}

pub length_cut : (prefix : List ℕ) (x y : ℕ) → length (cut_at prefix x y) ≡ length prefix + 2
length_cut [] x y = refl
length_cut (n ∷ prefix) x y = let t : length (cut_at prefix x y) ≡ length prefix + 2 = length_cut prefix x y in
    omega arith

pub prefix_at : (prefix : List ℕ) (x y p : ℕ) → p < length prefix → get_or (cut_at prefix x y) p 0 ≡ get_or prefix p 0
prefix_at prefix x y p lt = get_or-append prefix (x ∷ y ∷ []) 0 p lt

pub x_at : (prefix : List ℕ) (x y : ℕ) → get_or (cut_at prefix x y) (length prefix) 0 ≡ x
x_at [] x y = refl
x_at (n ∷ prefix) x y = x_at prefix x y

pub y_at : (prefix : List ℕ) (x y : ℕ) → get_or (cut_at prefix x y) (suc (length prefix)) 0 ≡ y
y_at [] x y = refl
y_at (n ∷ prefix) x y = y_at prefix x y

-- a process is one of the prefix, the last but one or the last
pub which_process : (prefix : List ℕ) (x y p : ℕ) → p < length (cut_at prefix x y)
    → (p < length prefix) ⊎ ((p ≡ length prefix) ⊎ (p ≡ suc (length prefix)))
which_process prefix x y p lt = let l : length (cut_at prefix x y) ≡ length prefix + 2 = length_cut prefix x y in
    order p (length prefix) (omega arith)
  where
    order : (p n : ℕ) → p < n + 2 → (p < n) ⊎ ((p ≡ n) ⊎ (p ≡ suc n))
    order p n lt = grind arith

-- with one prefix, the last two counts decide
pub within_cuts : (prefix : List ℕ) (u v x y : ℕ) → u ≤ x → v ≤ y → IsWithin (cut_at prefix u v) (cut_at prefix x y)
within_cuts [] u v x y a b zero = a
within_cuts [] u v x y a b (suc zero) = b
within_cuts [] u v x y a b (suc (suc p)) = omega arith
within_cuts (n ∷ prefix) u v x y a b zero = omega arith
within_cuts (n ∷ prefix) u v x y a b (suc p) = within_cuts prefix u v x y a b p

pub sum_cut : (prefix : List ℕ) (x y : ℕ) → sum (cut_at prefix x y) ≡ sum prefix + (x + y)
sum_cut [] x y = omega (arith, sum_cons x (y ∷ []), sum_cons y [])
sum_cut (n ∷ prefix) x y =
    let t : sum (cut_at prefix x y) ≡ sum prefix + (x + y) = sum_cut prefix x y in
    let u : sum (n ∷ cut_at prefix x y) ≡ n + sum (cut_at prefix x y) = sum_cons n (cut_at prefix x y) in
    let v : sum (n ∷ prefix) ≡ n + sum prefix = sum_cons n prefix in
    omega arith

-- cuts with one prefix
pub meet_cuts : (prefix : List ℕ) (x y u v : ℕ) → meet (cut_at prefix x y) (cut_at prefix u v) ≡ cut_at prefix (min x u)
    (min y v)
meet_cuts [] x y u v = refl
meet_cuts (n ∷ prefix) x y u v =
    let t : min n n ≡ n = omega arith in ap₂ ◌∷◌ t (meet_cuts prefix x y u v)

pub join_cuts : (prefix : List ℕ) (x y u v : ℕ) → join (cut_at prefix x y) (cut_at prefix u v) ≡ cut_at prefix (max x u)
    (max y v)
join_cuts [] x y u v = refl
join_cuts (n ∷ prefix) x y u v =
    let t : max n n ≡ n = omega arith in ap₂ ◌∷◌ t (join_cuts prefix x y u v)

-- one event more or less of the last two processes
pub less_x : (prefix : List ℕ) (x y : ℕ) → one_less (cut_at prefix x y) (length prefix) ≡ cut_at prefix (x - 1) y
less_x [] x y = refl
less_x (n ∷ prefix) x y = ap (λ (xs : List ℕ). n ∷ xs) (less_x prefix x y)

pub less_y : (prefix : List ℕ) (x y : ℕ) → one_less (cut_at prefix x y) (suc (length prefix)) ≡ cut_at prefix x (y - 1)
less_y [] x y = refl
less_y (n ∷ prefix) x y = ap (λ (xs : List ℕ). n ∷ xs) (less_y prefix x y)

pub more_x : (prefix : List ℕ) (x y : ℕ) → one_more (cut_at prefix x y) (length prefix) ≡ cut_at prefix (x + 1) y
more_x [] x y = refl
more_x (n ∷ prefix) x y = ap (λ (xs : List ℕ). n ∷ xs) (more_x prefix x y)

pub more_y : (prefix : List ℕ) (x y : ℕ) → one_more (cut_at prefix x y) (suc (length prefix)) ≡ cut_at prefix x (y + 1)
more_y [] x y = refl
more_y (n ∷ prefix) x y = ap (λ (xs : List ℕ). n ∷ xs) (more_y prefix x y)

-- one event more or less of a process of the prefix
pub less_prefix : (prefix : List ℕ) (x y p : ℕ) → p < length prefix
    → one_less (cut_at prefix x y) p ≡ cut_at (one_less prefix p) x y
less_prefix [] x y p lt = absurd (omega arith)
less_prefix (n ∷ prefix) x y zero lt = refl
less_prefix (n ∷ prefix) x y (suc p) lt = ap (λ (xs : List ℕ). n ∷ xs) (less_prefix prefix x y p (omega arith))

pub more_prefix : (prefix : List ℕ) (x y p : ℕ) → p < length prefix
    → one_more (cut_at prefix x y) p ≡ cut_at (one_more prefix p) x y
more_prefix [] x y p lt = absurd (omega arith)
more_prefix (n ∷ prefix) x y zero lt = refl
more_prefix (n ∷ prefix) x y (suc p) lt = ap (λ (xs : List ℕ). n ∷ xs) (more_prefix prefix x y p (omega arith))

-- counts of two processes or more are those of a prefix and the last two, in one way
pub split_cut : (cut : List ℕ) → 2 ≤ length cut → (prefix : List ℕ) × (x : ℕ) × (y : ℕ) × (cut ≡ cut_at prefix x y)
split_cut [] few = absurd (omega arith)
split_cut (x ∷ []) few = absurd (omega arith)
split_cut (x ∷ y ∷ []) few = ([], x, y, refl)
split_cut (n ∷ m ∷ k ∷ rest) few =
    let w : (prefix : List ℕ) × (x : ℕ) × (y : ℕ) × (m ∷ k ∷ rest ≡ cut_at prefix x y) =
    split_cut (m ∷ k ∷ rest) (omega arith) in
    (n ∷ w.0, w.1, w.2, ap (λ (xs : List ℕ). n ∷ xs) w.3)

pub same_parts : (prefix other : List ℕ) (x y u v : ℕ) → cut_at prefix x y ≡ cut_at other u v
    → (prefix ≡ other) × (x ≡ u) × (y ≡ v)
same_parts [] [] x y u v e = (refl, cc, cc)
same_parts [] (n ∷ other) x y u v e =
    let l : length (x ∷ y ∷ []) ≡ length (n ∷ cut_at other u v) = ap length e in
    let m : length (cut_at other u v) ≡ length other + 2 = length_cut other u v in absurd (omega arith)
same_parts (n ∷ prefix) [] x y u v e =
    let l : length (n ∷ cut_at prefix x y) ≡ length (u ∷ v ∷ []) = ap length e in
    let m : length (cut_at prefix x y) ≡ length prefix + 2 = length_cut prefix x y in absurd (omega arith)
same_parts (n ∷ prefix) (m ∷ other) x y u v e =
    let tail : cut_at prefix x y ≡ cut_at other u v = cc in
    let w : (prefix ≡ other) × (x ≡ u) × (y ≡ v) = same_parts prefix other x y u v tail in
    let head : n ≡ m = cc in
    (ap₂ ◌∷◌ head w.0, w.1, w.2)
