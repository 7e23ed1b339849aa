-- What stands at the places of lists.
use Rattle.std.proofs.Common.{◌≡◌, ◌+◌, ◌<◌, ◌≤◌, ◌⊎◌, inl, inr, ℕ, List, [], ◌∷◌, ◌++◌, get_or, length, length-append, map, take, sym, ap, ◌∙◌, subst, arith}
use Rattle.std.specs.Prelude.{Vec}
use Rattle.std.specs.Global.{Global}
use Rattle.std.proofs.lemmas.Bool.{cases_lt}
use Rattle.std.proofs.lemmas.List.{get_or-map, get_or_append_left, get_or_push, length-map, map-append, take_more}
use Rattle.judge_orders.specs.Lists.{lists_view}

-- the list at a place
pub list_at : (lists : List (Vec ℕ Global)) (i : ℕ) (d : Vec ℕ Global) → i < length lists
    → get_or (lists_view lists) i [] ≡ (get_or lists i d).items
list_at lists i d lt = get_or-map (λ (list : Vec ℕ Global). list.items) lists i d [] lt

pub lists_length : (lists : List (Vec ℕ Global)) → length (lists_view lists) ≡ length lists
lists_length lists = length-map lists (λ (list : Vec ℕ Global). list.items)

-- one more element, as it is seen
pub map_more : {A B : Type 0} (f : A → B) (xs : List A) (i : ℕ) (d : A) → i < length xs
    → map f (take (i + 1) xs) ≡ map f (take i xs) ++ f (get_or xs i d) ∷ []
map_more f xs i d lt = ap (map f) (take_more xs i d lt) ∙ map-append f (take i xs) (get_or xs i d ∷ [])

-- what holds at each place of a list, as it is seen, holds at that of one more
pub all_push : {A B : Type 0} (P : ℕ → B → Type 0) (f : A → B) (xs : List A) (y : A) (n : ℕ) (d : B) → length xs ≡ n
    → ((k : ℕ) → k < n → P k (get_or (map f xs) k d)) → P n (f y) → (k : ℕ) → k < n + 1
    → P k (get_or (map f (xs ++ y ∷ [])) k d)
all_push {A} {B} P f xs y n d many known here k lt = go (cases_lt k n)
  where
    parts : (j : ℕ) → get_or (map f (xs ++ y ∷ [])) j d ≡ get_or (map f xs ++ f y ∷ []) j d
    parts j = ap (λ (zs : List B). get_or zs j d) (map-append f xs (y ∷ []))

    go : (k < n) ⊎ (n ≤ k) → P k (get_or (map f (xs ++ y ∷ [])) k d)
    go (inl less) =
        subst (P k)
        (sym (parts k
        ∙ get_or_append_left (map f xs) (f y ∷ []) d k (omega (arith, length-map xs f, many, less))))
        (known k less)
    go (inr ge) =
        let same : n ≡ k = omega (arith, lt, ge) in
        subst (λ (j : ℕ). P j (get_or (map f (xs ++ y ∷ [])) j d)) same
        (subst (P n) (sym (parts n ∙ get_or_push (map f xs) (f y) d n (length-map xs f ∙ many))) here)

-- a list is longer by the element that was put after it
pub longer : {A : Type 0} (xs new : List A) (y : A) (n : ℕ) → new ≡ xs ++ y ∷ [] → length xs ≡ n → length new ≡ n + 1
longer {A} xs new y n is many =
    ap (λ (ys : List A). length ys) is ∙ (length-append xs (y ∷ []) ∙ ap (λ (k : ℕ). k + 1) many)
