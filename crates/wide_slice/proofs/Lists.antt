-- What stands at a place of a list's view, also after an element was added.
use Rattle.std.proofs.Common.{◌≡◌, ℕ, ◌+◌, ◌<◌, ◌≤◌, List, [], ◌∷◌, ◌++◌, length, map, get_or, sym, ap, ◌∙◌, subst, ◌⊎◌, inl, inr, arith}
use Rattle.std.specs.Global.{Global}
use Rattle.std.specs.Prelude.{Vec}
use Rattle.std.proofs.lemmas.Bool.{cases_lt}
use Rattle.std.proofs.lemmas.List.{get_or-map, get_or_push, get_or_append_left, length_push, length-map, map_push}
use Rattle.wide_slice.specs.declared.points.Point.{Point}
use Rattle.wide_slice.specs.Points.{count_at, past_at}

pub push_left : {X Y : Type 0} (f : X → Y) (xs : List X) (x : X) (d : Y) (k : ℕ) → k < length xs
    → get_or (map f (xs ++ x ∷ [])) k d ≡ get_or (map f xs) k d
push_left {X} {Y} f xs x d k lt =
    ap (λ (ys : List Y). get_or ys k d) (map_push f xs x)
    ∙ get_or_append_left (map f xs) (f x ∷ []) d k (omega (arith, lt, length-map xs f))

pub push_last : {X Y : Type 0} (f : X → Y) (xs : List X) (x : X) (d : Y) (k : ℕ) → length xs ≡ k
    → get_or (map f (xs ++ x ∷ [])) k d ≡ f x
push_last {X} {Y} f xs x d k same =
    ap (λ (ys : List Y). get_or ys k d) (map_push f xs x)
    ∙ get_or_push (map f xs) (f x) d k (length-map xs f ∙ same)

pub view_is : {X Y : Type 0} (f : X → Y) (xs : List X) (x : X) (d : Y) (k : ℕ) → k < length xs → x ≡ get_or xs k x
    → get_or (map f xs) k d ≡ f x
view_is f xs x d k lt is = get_or-map f xs k x d lt ∙ ap f (sym is)

-- what holds of what each element is seen as, and of that of one more
pub push_each : {X Y : Type 0} (f : X → Y) (P : ℕ → Y → Type 0) (xs : List X) (x : X) (d : Y)
    → ((k : ℕ) → k < length xs → P k (get_or (map f xs) k d)) → P (length xs) (f x)
    → (k : ℕ) → k < length xs + 1 → P k (get_or (map f (xs ++ x ∷ [])) k d)
push_each {X} {Y} f P xs x d each last k lt = go (cases_lt k (length xs))
  where
    go : (k < length xs) ⊎ (length xs ≤ k) → P k (get_or (map f (xs ++ x ∷ [])) k d)
    go (inl low) = subst (λ (y : Y). P k y) (sym (push_left f xs x d k low)) (each k low)
    go (inr high) =
        let same : length xs ≡ k = omega (arith, lt, high) in
        subst (λ (s : ℕ × Y). P s.0 s.1) (λ i. (same i, sym (push_last f xs x d k same) i)) last

-- the same of lists in a list, of which one more has been pushed
pub row_each : {X : Type 0} (P : ℕ → List X → Type 0) (rows new : List (Vec X Global)) (row : Vec X Global) (n : ℕ)
    → length rows ≡ n → new ≡ rows ++ row ∷ []
    → ((k : ℕ) → k < n → P k (get_or (map (λ (v : Vec X Global). v.items) rows) k [])) → P n row.items
    → (length new ≡ n + 1) × ((k : ℕ) → k < n + 1 → P k (get_or (map (λ (v : Vec X Global). v.items) new) k []))
row_each {X} P rows new row n many pushed each last =
    subst
    (λ (xs : List (Vec X Global)). (length xs ≡ n + 1)
    × ((k : ℕ) → k < n + 1 → P k (get_or (map (λ (v : Vec X Global). v.items) xs) k []))) (sym pushed) (
      length_push rows row ∙ ap (λ (i : ℕ). i + 1) many,
      λ k lt.
          push_each (λ (v : Vec X Global). v.items) P rows row [] (λ i low. each i (omega (arith, low, many)))
          (subst (λ (i : ℕ). P i row.items) (sym many) last) k (omega (arith, lt, many)),
    )

-- what holds of the count and the past of each point, and of those of one more
pub point_each : (P : ℕ → ℕ → List ℕ → Type 0) (points : List Point) (point : Point)
    → ((k : ℕ) → k < length points → P k (count_at points k) (past_at points k))
    → P (length points) point.count point.past
    → (k : ℕ) → k < length (points ++ point ∷ [])
    → P k (count_at (points ++ point ∷ []) k) (past_at (points ++ point ∷ []) k)
point_each P points point each last k lt = go (cases_lt k (length points))
  where
    go : (k < length points) ⊎ (length points ≤ k)
        → P k (count_at (points ++ point ∷ []) k) (past_at (points ++ point ∷ []) k)
    go (inl low) =
        subst (λ (s : ℕ × List ℕ). P k s.0 s.1)
        (λ i. (
          sym (push_left (λ (x : Point). x.count) points point 0 k low) i,
          sym (push_left (λ (x : Point). x.past) points point [] k low) i,
        )) (each k low)
    go (inr high) =
        let same : length points ≡ k = omega (arith, lt, high, length_push points point) in
        subst (λ (s : ℕ × ℕ × List ℕ). P s.0 s.1 s.2)
        (λ i. (
          same i,
          sym (push_last (λ (x : Point). x.count) points point 0 k same) i,
          sym (push_last (λ (x : Point). x.past) points point [] k same) i,
        )) last

-- what holds of each number below n and of n
pub one_more : (P : ℕ → Type 0) (n : ℕ) → ((k : ℕ) → k < n → P k) → P n → (k : ℕ) → k < n + 1 → P k
one_more P n before here k lt = go (cases_lt k n)
  where
    go : (k < n) ⊎ (n ≤ k) → P k
    go (inl low) = before k low
    go (inr high) = let same : n ≡ k = omega (arith, lt, high) in subst (λ (i : ℕ). P i) same here
