-- Two ascending lists as one.
use Rattle.std.proofs.Common.{◌≡◌, ℕ, zero, suc, ◌+◌, ◌-◌, ◌<◌, ◌≤◌, List, [], ◌∷◌, ◌++◌, length, length-append, get_or, drop, take, Contains, refl, sym, ap, ◌∙◌, subst, inl, inr, ◌⊎◌, ◌↔◌, arith}
use Rattle.std.proofs.lemmas.Bool.{cases_lt}
use Rattle.std.proofs.lemmas.List.{get_or_append_left, get_or-append_right, get_or-drop, length-drop, take_more, take_all, drop_all, take-append-drop, append-nil}
use Rattle.std.proofs.lemmas.List.Elements.{Contains-get_or, Contains-append_left, Contains-append_right, Contains-push, Contains-push_cases, Contains-append_cases}
use Rattle.walk_keys.specs.Keys.{Ascending}

pub contains_at : (xs : List ℕ) (x : ℕ) → Contains xs x → (k : ℕ) × (k < length xs) × (get_or xs k 0 ≡ x)
contains_at [] x (k, lt, at) = absurd (omega arith)
contains_at (y ∷ xs) x (zero, lt, at) = (0, lt, at)
contains_at (y ∷ xs) x (suc k, lt, at) =
    let rest : (j : ℕ) × (j < length xs) × (get_or xs j 0 ≡ x) = contains_at xs x (k, omega arith, at) in
    (suc rest.0, omega (arith, rest.1), rest.2)

pub contains_get : (xs : List ℕ) (k : ℕ) → k < length xs → Contains xs (get_or xs k 0)
contains_get xs k lt = Contains-get_or xs k 0 lt

-- all of one ascending list below all of another
pub ascending_append : (xs ys : List ℕ) → Ascending xs → Ascending ys
    → ((x y : ℕ) → Contains xs x → Contains ys y → x < y) → Ascending (xs ++ ys)
ascending_append xs ys first second apart i j lt in_ = go (cases_lt j (length xs)) (cases_lt i (length xs))
  where
    go : (j < length xs) ⊎ (length xs ≤ j) → (i < length xs) ⊎ (length xs ≤ i)
        → get_or (xs ++ ys) i 0 < get_or (xs ++ ys) j 0
    go (inl low) (inl here) =
        rw (get_or_append_left xs ys 0 i here, get_or_append_left xs ys 0 j low) (first i j lt low)
    go (inl low) (inr past) = absurd (omega arith)
    go (inr high) (inl here) =
        let there : j - length xs < length ys = omega (arith, length-append xs ys) in
        rw (get_or_append_left xs ys 0 i here, get_or-append_right xs ys (length xs) j 0 refl high)
        (apart (get_or xs i 0) (get_or ys (j - length xs) 0) (contains_get xs i here)
        (contains_get ys (j - length xs) there))
    go (inr high) (inr past) =
        let there : j - length xs < length ys = omega (arith, length-append xs ys) in
        rw (get_or-append_right xs ys (length xs) i 0 refl past, get_or-append_right xs ys (length xs) j 0 refl high)
        (second (i - length xs) (j - length xs) (omega arith) there)

pub ascending_one : (x : ℕ) → Ascending (x ∷ [])
ascending_one x i j lt in_ = absurd (omega arith)

pub contains_one : (x y : ℕ) → Contains (x ∷ []) y → x ≡ y
contains_one x y (zero, lt, at) = at
contains_one x y (suc k, lt, at) = absurd (omega arith)

pub ascending_push : (xs : List ℕ) (y : ℕ) → Ascending xs → ((x : ℕ) → Contains xs x → x < y) → Ascending (xs ++ y ∷ [])
ascending_push xs y asc below =
    ascending_append xs (y ∷ []) asc (ascending_one y) (λ x z has one.
    subst (λ (w : ℕ). x < w) (contains_one y z one) (below x has))

pub ascending_drop : (xs : List ℕ) (n : ℕ) → Ascending xs → Ascending (drop n xs)
ascending_drop xs n asc i j lt in_ =
    let within : n + j < length xs = omega (arith, length-drop n xs) in
    rw (get_or-drop n xs i 0, get_or-drop n xs j 0) (asc (n + i) (n + j) (omega arith) within)

-- what is below the first of the rest is below all of it
pub below_drop : (xs : List ℕ) (n x y : ℕ) → Ascending xs → (n < length xs → x < get_or xs n 0) → Contains (drop n xs) y
    → x < y
below_drop xs n x y asc below has =
    let at : (k : ℕ) × (k < length (drop n xs)) × (get_or (drop n xs) k 0 ≡ y) = contains_at (drop n xs) y has in
    go at.0 (let lt : at.0 < length (drop n xs) =
    at.1 in omega (arith, length-drop n xs)) (sym (get_or-drop n xs at.0 0) ∙ at.2)
  where
    go : (k : ℕ) → n + k < length xs → get_or xs (n + k) 0 ≡ y → x < y
    go zero lt is =
        let first : n + 0 ≡ n = omega arith in
        let here : x < get_or xs n 0 = below (omega arith) in
        subst (λ (w : ℕ). x < w) (sym (ap (λ (m : ℕ). get_or xs m 0) first) ∙ is) here
    go (suc k) lt is =
        let later : get_or xs n 0 < get_or xs (n + suc k) 0 = asc n (n + suc k) (omega arith) lt in
        let here : x < get_or xs n 0 = below (omega arith) in
        omega arith

-- so far: `both` has the first i of the one list and the first j of the other, and what is left comes later
pub record IsMerged (left : List ℕ) (i : ℕ) (right : List ℕ) (j : ℕ) (both : List ℕ) : Type 0 where
  pub within_left : i ≤ length left
  pub within_right : j ≤ length right
  pub ascending : Ascending both
  pub just : (x : ℕ) → Contains both x ↔ (Contains (take i left) x ⊎ Contains (take j right) x)
  pub left_later : (x : ℕ) → Contains both x → i < length left → x < get_or left i 0
  pub right_later : (x : ℕ) → Contains both x → j < length right → x < get_or right j 0

⊎_swap : {A B : Type 0} → A ⊎ B → B ⊎ A
⊎_swap (inl a) = inr a
⊎_swap (inr b) = inl b

pub swapped : (left : List ℕ) (i : ℕ) (right : List ℕ) (j : ℕ) (both : List ℕ) → IsMerged left i right j both
    → IsMerged right j left i both
swapped left i right j both m = record {
  within_left = m.within_right;
  within_right = m.within_left;
  ascending = m.ascending;
  just = λ x. (λ has. ⊎_swap ((m.just x).0 has), λ has. (m.just x).1 (⊎_swap has));
  left_later = m.right_later;
  right_later = m.left_later;
}

-- one more element of a prefix
pub prefix_more : (xs : List ℕ) (i x : ℕ) → i < length xs → Contains (take (i + 1) xs) x
    ↔ (Contains (take i xs) x ⊎ (get_or xs i 0 ≡ x))
prefix_more xs i x lt = rw (take_more xs i 0 lt) (Contains-push_cases (take i xs) (get_or xs i 0) x, from)
  where
    from : Contains (take i xs) x ⊎ (get_or xs i 0 ≡ x) → Contains (take i xs ++ get_or xs i 0 ∷ []) x
    from (inl has) = Contains-append_left (take i xs) (get_or xs i 0 ∷ []) x has
    from (inr e) =
        subst (λ (w : ℕ). Contains (take i xs ++ get_or xs i 0 ∷ []) w) e (Contains-push (take i xs) (get_or xs i 0))

pub push_iff : (xs : List ℕ) (y x : ℕ) → Contains (xs ++ y ∷ []) x ↔ (Contains xs x ⊎ (y ≡ x))
push_iff xs y x = (Contains-push_cases xs y x, from)
  where
    from : Contains xs x ⊎ (y ≡ x) → Contains (xs ++ y ∷ []) x
    from (inl has) = Contains-append_left xs (y ∷ []) x has
    from (inr e) = subst (λ (w : ℕ). Contains (xs ++ y ∷ []) w) e (Contains-push xs y)

-- what is below y and y itself are below what comes after y
later_push : (xs : List ℕ) (y z : ℕ) → ((x : ℕ) → Contains xs x → x < y) → y < z → (x : ℕ) → Contains (xs ++ y ∷ []) x
    → x < z
later_push xs y z below lt x has = go (Contains-push_cases xs y x has)
  where
    go : Contains xs x ⊎ (y ≡ x) → x < z
    go (inl old) = let h : x < y = below x old in omega arith
    go (inr e) = omega arith

pub take_left : (left : List ℕ) (i : ℕ) (right : List ℕ) (j : ℕ) (both : List ℕ) → IsMerged left i right j both
    → Ascending left → i < length left → j < length right → get_or left i 0 < get_or right j 0
    → IsMerged left (i + 1) right j (both ++ get_or left i 0 ∷ [])
take_left left i right j both m asc in_left in_right less = record {
  within_left = omega arith;
  within_right = m.within_right;
  ascending = ascending_push both (get_or left i 0) m.ascending (λ x has. m.left_later x has in_left);
  just = λ x. (
    λ has. to x ((push_iff both (get_or left i 0) x).0 has),
    λ has. (push_iff both (get_or left i 0) x).1 (from x has),
  );
  left_later =
      λ x has lt. later_push both (get_or left i 0) (get_or left (i + 1) 0) (λ y old. m.left_later y old in_left)
      (asc i (i + 1) (omega arith) lt) x has;
  right_later =
      λ x has lt. later_push both (get_or left i 0) (get_or right j 0) (λ y old. m.left_later y old in_left) less x has;
}
  where
    to : (x : ℕ) → Contains both x ⊎ (get_or left i 0 ≡ x) → Contains (take (i + 1) left) x ⊎ Contains (take j right) x
    to x (inl old) = go ((m.just x).0 old)
      where
        go : Contains (take i left) x ⊎ Contains (take j right) x → Contains (take (i + 1) left) x
            ⊎ Contains (take j right) x
        go (inl l) = inl ((prefix_more left i x in_left).1 (inl l))
        go (inr r) = inr r
    to x (inr e) = inl ((prefix_more left i x in_left).1 (inr e))

    from : (x : ℕ) → Contains (take (i + 1) left) x ⊎ Contains (take j right) x → Contains both x
        ⊎ (get_or left i 0 ≡ x)
    from x (inl l) = go ((prefix_more left i x in_left).0 l)
      where
        go : Contains (take i left) x ⊎ (get_or left i 0 ≡ x) → Contains both x ⊎ (get_or left i 0 ≡ x)
        go (inl old) = inl ((m.just x).1 (inl old))
        go (inr e) = inr e
    from x (inr r) = inl ((m.just x).1 (inr r))

pub take_right : (left : List ℕ) (i : ℕ) (right : List ℕ) (j : ℕ) (both : List ℕ) → IsMerged left i right j both
    → Ascending right → i < length left → j < length right → get_or right j 0 < get_or left i 0
    → IsMerged left i right (j + 1) (both ++ get_or right j 0 ∷ [])
take_right left i right j both m asc in_left in_right less =
    swapped right (j + 1) left i (both ++ get_or right j 0 ∷ [])
    (take_left right j left i both (swapped left i right j both m) asc in_right in_left less)

pub take_both : (left : List ℕ) (i : ℕ) (right : List ℕ) (j : ℕ) (both : List ℕ) → IsMerged left i right j both
    → Ascending left → Ascending right → i < length left → j < length right → get_or left i 0 ≡ get_or right j 0
    → IsMerged left (i + 1) right (j + 1) (both ++ get_or left i 0 ∷ [])
take_both left i right j both m asc_left asc_right in_left in_right same = record {
  within_left = omega arith;
  within_right = omega arith;
  ascending = ascending_push both (get_or left i 0) m.ascending (λ x has. m.left_later x has in_left);
  just = λ x. (
    λ has. to x ((push_iff both (get_or left i 0) x).0 has),
    λ has. (push_iff both (get_or left i 0) x).1 (from x has),
  );
  left_later =
      λ x has lt. later_push both (get_or left i 0) (get_or left (i + 1) 0) (λ y old. m.left_later y old in_left)
      (asc_left i (i + 1) (omega arith) lt) x has;
  right_later = λ x has lt.
      let later : get_or right j 0 < get_or right (j + 1) 0 = asc_right j (j + 1) (omega arith) lt in
      later_push both (get_or left i 0) (get_or right (j + 1) 0) (λ y old. m.left_later y old in_left) (omega arith) x
      has;
}
  where
    to : (x : ℕ) → Contains both x ⊎ (get_or left i 0 ≡ x) → Contains (take (i + 1) left) x
        ⊎ Contains (take (j + 1) right) x
    to x (inl old) = go ((m.just x).0 old)
      where
        go : Contains (take i left) x ⊎ Contains (take j right) x → Contains (take (i + 1) left) x
            ⊎ Contains (take (j + 1) right) x
        go (inl l) = inl ((prefix_more left i x in_left).1 (inl l))
        go (inr r) = inr ((prefix_more right j x in_right).1 (inl r))
    to x (inr e) = inl ((prefix_more left i x in_left).1 (inr e))

    from : (x : ℕ) → Contains (take (i + 1) left) x ⊎ Contains (take (j + 1) right) x → Contains both x
        ⊎ (get_or left i 0 ≡ x)
    from x (inl l) = go ((prefix_more left i x in_left).0 l)
      where
        go : Contains (take i left) x ⊎ (get_or left i 0 ≡ x) → Contains both x ⊎ (get_or left i 0 ≡ x)
        go (inl old) = inl ((m.just x).1 (inl old))
        go (inr e) = inr e
    from x (inr r) = go ((prefix_more right j x in_right).0 r)
      where
        go : Contains (take j right) x ⊎ (get_or right j 0 ≡ x) → Contains both x ⊎ (get_or left i 0 ≡ x)
        go (inl old) = inl ((m.just x).1 (inr old))
        go (inr e) = inr (same ∙ e)

-- the rest of the one list, if nothing is left of it or of the other
pub rest_left : (left : List ℕ) (i : ℕ) (right : List ℕ) (j : ℕ) (both : List ℕ) → IsMerged left i right j both
    → Ascending left → (length left ≤ i) ⊎ (length right ≤ j)
    → IsMerged left (length left) right j (both ++ drop i left)
rest_left left i right j both m asc (inl done) =
    let all : i ≡ length left = let le : i ≤ length left = m.within_left in omega arith in
    let none : drop i left ≡ [] = drop_all i left done in
    let same : both ++ drop i left ≡ both = rw none (append-nil both) in
    rw same (subst (λ (k : ℕ). IsMerged left k right j both) all m)
rest_left left i right j both m asc (inr done) = record {
  within_left = omega arith;
  within_right = m.within_right;
  ascending =
      ascending_append both (drop i left) m.ascending (ascending_drop left i asc) (λ x y has later.
      below_drop left i x y asc (λ lt. m.left_later x has lt) later);
  just = λ x. (λ has. to x (Contains-append_cases both (drop i left) x has), λ has. from x has);
  left_later = λ x has lt. absurd (omega arith);
  right_later = λ x has lt. absurd (omega arith);
}
  where
    whole : take (length left) left ≡ left
    whole = take_all (length left) left (omega arith)

    parts : take i left ++ drop i left ≡ left
    parts = take-append-drop i left

    to : (x : ℕ) → Contains both x ⊎ Contains (drop i left) x → Contains (take (length left) left) x
        ⊎ Contains (take j right) x
    to x (inl old) = go ((m.just x).0 old)
      where
        go : Contains (take i left) x ⊎ Contains (take j right) x → Contains (take (length left) left) x
            ⊎ Contains (take j right) x
        go (inl l) =
            inl (rw whole (subst (λ (xs : List ℕ). Contains xs x) parts
            (Contains-append_left (take i left) (drop i left) x l)))
        go (inr r) = inr r
    to x (inr rest) =
        inl (rw whole (subst (λ (xs : List ℕ). Contains xs x) parts
        (Contains-append_right (take i left) (drop i left) x rest)))

    from : (x : ℕ) → Contains (take (length left) left) x ⊎ Contains (take j right) x → Contains (both ++ drop i left) x
    from x (inl l) =
        go (Contains-append_cases (take i left) (drop i left) x
        (subst (λ (xs : List ℕ). Contains xs x) (whole ∙ sym parts) l))
      where
        go : Contains (take i left) x ⊎ Contains (drop i left) x → Contains (both ++ drop i left) x
        go (inl prefix) = Contains-append_left both (drop i left) x ((m.just x).1 (inl prefix))
        go (inr rest) = Contains-append_right both (drop i left) x rest
    from x (inr r) = Contains-append_left both (drop i left) x ((m.just x).1 (inr r))

-- two lists of which the last of the first one is below the first of the last one
pub below_all : (left right : List ℕ) (x y : ℕ) → Ascending left → Ascending right
    → get_or left (length left - 1) 0 < get_or right 0 0 → Contains left x → Contains right y → x < y
below_all left right x y asc_left asc_right less has later = go (contains_at left x has) (contains_at right y later)
  where
    low : (i : ℕ) → i < length left → (i < length left - 1) ⊎ (length left - 1 ≤ i)
        → get_or left i 0 ≤ get_or left (length left - 1) 0
    low i lt (inl before) =
        let h : get_or left i 0 < get_or left (length left - 1) 0 = asc_left i (length left - 1) before (omega arith) in
        omega arith
    low i lt (inr last) =
        let e : i ≡ length left - 1 = omega arith in
        let f : get_or left i 0 ≡ get_or left (length left - 1) 0 = ap (λ (k : ℕ). get_or left k 0) e in
        omega arith

    high : (j : ℕ) → j < length right → get_or right 0 0 ≤ get_or right j 0
    high zero lt = omega arith
    high (suc j) lt =
        let h : get_or right 0 0 < get_or right (suc j) 0 = asc_right 0 (suc j) (omega arith) lt in omega arith

    go : (i : ℕ) × (i < length left) × (get_or left i 0 ≡ x) → (j : ℕ) × (j < length right) × (get_or right j 0 ≡ y)
        → x < y
    go (i, lt, at) (j, in_, there) =
        let a : get_or left i 0 ≤ get_or left (length left - 1) 0 = low i lt (cases_lt i (length left - 1)) in
        let b : get_or right 0 0 ≤ get_or right j 0 = high j in_ in
        omega arith

-- one list after the other
pub both_just : (left right both : List ℕ) → both ≡ left ++ right → (x : ℕ)
    → Contains both x ↔ (Contains left x ⊎ Contains right x)
both_just left right both e x = rw e (Contains-append_cases left right x, from)
  where
    from : Contains left x ⊎ Contains right x → Contains (left ++ right) x
    from (inl has) = Contains-append_left left right x has
    from (inr has) = Contains-append_right left right x has
