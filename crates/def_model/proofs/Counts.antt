-- One event more or less in a list of counts, and counts that don't pass others.
use Rattle.std.proofs.Common.{◌≡◌, ◌≢◌, ℕ, zero, suc, ◌+◌, ◌-◌, ◌<◌, ◌≤◌, List, [], ◌∷◌, length, get_or, set, sum, refl, sym, ap, ◌∙◌, inl, inr, ◌⊎◌, arith, length-set, get_or-set_same, get_or-set_other, set-set}
use Rattle.std.proofs.lemmas.List.{set-get_or}
use Rattle.std.proofs.lemmas.List.Sums.{sum_by-set, sum_by-cons}
use Rattle.std.proofs.lemmas.Bool.{cases_eq, cases_lt}
use Rattle.def_model.specs.Events.{Computation, event_count}
use Rattle.def_model.specs.Cuts.{one_more, one_less, AddsEvent, empty_cut, full_cut}

-- a process with a count is there
pub in_range : (xs : List ℕ) (p : ℕ) → 0 < get_or xs p 0 → p < length xs
in_range [] p h = absurd (omega arith)
in_range (x ∷ xs) zero h = omega arith
in_range (x ∷ xs) (suc p) h = let t : p < length xs = in_range xs p h in omega arith

pub length_more : (xs : List ℕ) (p : ℕ) → length (one_more xs p) ≡ length xs
length_more xs p = length-set xs p (get_or xs p 0 + 1)

pub length_less : (xs : List ℕ) (p : ℕ) → length (one_less xs p) ≡ length xs
length_less xs p = length-set xs p (get_or xs p 0 - 1)

pub more_same : (xs : List ℕ) (p : ℕ) → p < length xs → get_or (one_more xs p) p 0 ≡ get_or xs p 0 + 1
more_same xs p h = get_or-set_same xs p (get_or xs p 0 + 1) 0 h

pub more_other : (xs : List ℕ) (p q : ℕ) → q ≢ p → get_or (one_more xs p) q 0 ≡ get_or xs q 0
more_other xs p q h = get_or-set_other xs p q (get_or xs p 0 + 1) 0 h

pub less_same : (xs : List ℕ) (p : ℕ) → 0 < get_or xs p 0 → get_or (one_less xs p) p 0 + 1 ≡ get_or xs p 0
less_same xs p h =
    let e : get_or (one_less xs p) p 0 ≡ get_or xs p 0 - 1 =
    get_or-set_same xs p (get_or xs p 0 - 1) 0 (in_range xs p h) in omega arith

pub less_other : (xs : List ℕ) (p q : ℕ) → q ≢ p → get_or (one_less xs p) q 0 ≡ get_or xs q 0
less_other xs p q h = get_or-set_other xs p q (get_or xs p 0 - 1) 0 h

pub less_le : (xs : List ℕ) (p q : ℕ) → 0 < get_or xs p 0 → get_or (one_less xs p) q 0 ≤ get_or xs q 0
less_le xs p q h = go (cases_eq q p)
  where
    go : (q ≡ p) ⊎ (q ≡ p → ⊥) → get_or (one_less xs p) q 0 ≤ get_or xs q 0
    go (inl e) = rw e (let t : get_or (one_less xs p) p 0 + 1 ≡ get_or xs p 0 = less_same xs p h in omega arith)
    go (inr n) = let t : get_or (one_less xs p) q 0 ≡ get_or xs q 0 = less_other xs p q n in omega arith

pub more_less : (xs : List ℕ) (p : ℕ) → 0 < get_or xs p 0 → one_more (one_less xs p) p ≡ xs
more_less xs p h =
    let a : get_or (one_less xs p) p 0 + 1 ≡ get_or xs p 0 = less_same xs p h in
    let b : one_more (one_less xs p) p ≡ set (one_less xs p) p (get_or xs p 0) =
    ap (λ (n : ℕ). set (one_less xs p) p n) a in
    b ∙ (set-set xs p (get_or xs p 0 - 1) (get_or xs p 0) ∙ set-get_or xs p 0)

pub less_more : (xs : List ℕ) (p : ℕ) → p < length xs → one_less (one_more xs p) p ≡ xs
less_more xs p h =
    let a : get_or (one_more xs p) p 0 - 1 ≡ get_or xs p 0 = let e : get_or (one_more xs p) p 0 ≡ get_or xs p 0 + 1 =
    more_same xs p h in omega arith in
    let b : one_less (one_more xs p) p ≡ set (one_more xs p) p (get_or xs p 0) =
    ap (λ (n : ℕ). set (one_more xs p) p n) a in
    b ∙ (set-set xs p (get_or xs p 0 + 1) (get_or xs p 0) ∙ set-get_or xs p 0)

pub sum_more : (xs : List ℕ) (p : ℕ) → p < length xs → sum (one_more xs p) ≡ sum xs + 1
sum_more xs p h =
    let e : sum (one_more xs p) + get_or xs p 0 ≡ sum xs + (get_or xs p 0 + 1) =
    sum_by-set (λ (x : ℕ). x) xs p (get_or xs p 0 + 1) 0 h in omega arith

pub sum_less : (xs : List ℕ) (p : ℕ) → 0 < get_or xs p 0 → sum (one_less xs p) + 1 ≡ sum xs
sum_less xs p h =
    let e : sum (one_less xs p) + get_or xs p 0 ≡ sum xs + (get_or xs p 0 - 1) =
    sum_by-set (λ (x : ℕ). x) xs p (get_or xs p 0 - 1) 0 (in_range xs p h) in omega arith

-- the cut with one event less, from a step
pub step_back : (old new : List ℕ) → AddsEvent old new → (p : ℕ) × (p < length new) × (0 < get_or new p 0)
    × (old ≡ one_less new p)
step_back old new (p, lt, e) =
    let a : get_or new p 0 ≡ get_or old p 0 + 1 = ap (λ (xs : List ℕ). get_or xs p 0) e ∙ more_same old p lt in
    let l : length new ≡ length old = ap length e ∙ length_more old p in
    (p, omega arith, omega arith, sym (ap (λ (xs : List ℕ). one_less xs p) e ∙ less_more old p lt))

pub step_from_less : (cut : List ℕ) (p : ℕ) → 0 < get_or cut p 0 → AddsEvent (one_less cut p) cut
step_from_less cut p h =
    let l : length (one_less cut p) ≡ length cut = length_less cut p in
    let r : p < length cut = in_range cut p h in
    (p, omega arith, sym (more_less cut p h))

pub sum_step : (old new : List ℕ) → AddsEvent old new → sum new ≡ sum old + 1
sum_step old new (p, lt, e) = ap sum e ∙ sum_more old p lt

pub sum_cons : (x : ℕ) (xs : List ℕ) → sum (x ∷ xs) ≡ x + sum xs
sum_cons x xs = sum_by-cons (λ (y : ℕ). y) x xs

-- no count above another's: the sums too
pub sum_le : (xs ys : List ℕ) → ((p : ℕ) → get_or xs p 0 ≤ get_or ys p 0) → length xs ≡ length ys → sum xs ≤ sum ys
sum_le [] ys h l = omega arith
sum_le (x ∷ xs) [] h l = absurd (cc)
sum_le (x ∷ xs) (y ∷ ys) h l =
    let a : x ≤ y = h 0 in
    let b : sum xs ≤ sum ys = sum_le xs ys (λ p. h (suc p)) (omega arith) in
    omega (arith, sum_cons x xs, sum_cons y ys)

pub same_or_below : (xs ys : List ℕ) → length xs ≡ length ys → ((p : ℕ) → get_or xs p 0 ≤ get_or ys p 0)
    → (xs ≡ ys) ⊎ ((p : ℕ) × (p < length xs) × (get_or xs p 0 < get_or ys p 0))
same_or_below [] [] l h = inl refl
same_or_below [] (y ∷ ys) l h = absurd (cc)
same_or_below (x ∷ xs) [] l h = absurd (cc)
same_or_below (x ∷ xs) (y ∷ ys) l h =
    let below : x ≤ y = h 0 in go below (cases_lt x y) (same_or_below xs ys (omega arith) (λ p. h (suc p)))
  where
    go : x ≤ y → (x < y) ⊎ (y ≤ x) → (xs ≡ ys) ⊎ ((p : ℕ) × (p < length xs) × (get_or xs p 0 < get_or ys p 0))
        → (x ∷ xs ≡ y ∷ ys) ⊎ ((p : ℕ) × (p < length (x ∷ xs)) × (get_or (x ∷ xs) p 0 < get_or (y ∷ ys) p 0))
    go below (inl lt) r = inr (0, omega arith, lt)
    go below (inr ge) (inl e) = let same : x ≡ y = omega arith in inl (cc)
    go below (inr ge) (inr (p, lt, less)) = inr (suc p, omega arith, less)

-- counts with no room are the same
pub same_from_sum : (xs ys : List ℕ) → length xs ≡ length ys → ((p : ℕ) → get_or xs p 0 ≤ get_or ys p 0)
    → sum xs ≡ sum ys → xs ≡ ys
same_from_sum xs ys l h s = go (same_or_below xs ys l h)
  where
    go : (xs ≡ ys) ⊎ ((p : ℕ) × (p < length xs) × (get_or xs p 0 < get_or ys p 0)) → xs ≡ ys
    go (inl e) = e
    go (inr (p, lt, less)) =
        let more : sum (one_more xs p) ≤ sum ys = sum_le (one_more xs p) ys each (length_more xs p ∙ l) in
        let one : sum (one_more xs p) ≡ sum xs + 1 = sum_more xs p lt in
        absurd (omega arith)
      where
        each : (q : ℕ) → get_or (one_more xs p) q 0 ≤ get_or ys q 0
        each q = pick (cases_eq q p)
          where
            pick : (q ≡ p) ⊎ (q ≡ p → ⊥) → get_or (one_more xs p) q 0 ≤ get_or ys q 0
            pick (inl e) = rw e (let t : get_or (one_more xs p) p 0 ≡ get_or xs p 0 + 1 = more_same xs p lt in
                omega arith)
            pick (inr n) = let t : get_or (one_more xs p) q 0 ≡ get_or xs q 0 = more_other xs p q n in
                let u : get_or xs q 0 ≤ get_or ys q 0 = h q in omega arith

pub full_at : (c : Computation) (p : ℕ) → get_or (full_cut c) p 0 ≡ event_count c p
full_at [] p = refl
full_at (events ∷ c) zero = refl
full_at (events ∷ c) (suc p) = full_at c p

pub length_full : (c : Computation) → length (full_cut c) ≡ length c
length_full [] = refl
length_full (events ∷ c) = ap suc (length_full c)

pub length_empty : (c : Computation) → length (empty_cut c) ≡ length c
length_empty [] = refl
length_empty (events ∷ c) = ap suc (length_empty c)

pub empty_at : (c : Computation) (p : ℕ) → get_or (empty_cut c) p 0 ≡ 0
empty_at [] p = refl
empty_at (events ∷ c) zero = refl
empty_at (events ∷ c) (suc p) = empty_at c p

pub sum_empty : (c : Computation) → sum (empty_cut c) ≡ 0
sum_empty [] = refl
sum_empty (events ∷ c) = sum_cons 0 (empty_cut c) ∙ ap (λ n. 0 + n) (sum_empty c)

-- counts whose sum is 0
pub empty_from_sum : (c : Computation) (xs : List ℕ) → length xs ≡ length c → sum xs ≡ 0 → xs ≡ empty_cut c
empty_from_sum c xs l s =
    sym (same_from_sum (empty_cut c) xs (length_empty c ∙ sym l) (λ p. rw empty_at (omega arith)) (sum_empty c ∙ sym s))

-- a sum above 0 has a count above 0
pub some_count : (xs : List ℕ) → 0 < sum xs → (p : ℕ) × (p < length xs) × (0 < get_or xs p 0)
some_count [] h = absurd (omega arith)
some_count (zero ∷ xs) h =
    let t : sum (0 ∷ xs) ≡ 0 + sum xs = sum_cons 0 xs in
    let r : (p : ℕ) × (p < length xs) × (0 < get_or xs p 0) = some_count xs (omega arith) in
    (suc r.0, let b : r.0 < length xs = r.1 in omega arith, r.2)
some_count (suc x ∷ xs) h = (0, omega arith, omega arith)
