-- What holds of two lists up to a place, and there.
use Rattle.std.proofs.Common.{◌≡◌, ◌+◌, ◌<◌, ℕ, zero, suc, List, [], ◌∷◌, length, map, take, subst, add-one, arith}
use Rattle.std.specs.Prelude.{Some, slice_get, slice_index_or}
use Rattle.std.specs.List.{AllZip}

next_image : {A B : Type 0} (f : B → A) (n : ℕ) (xs : List A) (ys : List B) (d : B) → n < length ys
    → take n xs ≡ map f (take n ys) → slice_get xs n ≡ Some (f (slice_index_or ys n d))
    → take (suc n) xs ≡ map f (take (suc n) ys)
next_image f n xs [] d within same here = absurd (omega (arith, within))
next_image f zero [] (y ∷ ys) d within same here = absurd (cc)
next_image f zero (x ∷ xs) (y ∷ ys) d within same here = cc
next_image f (suc n) [] (y ∷ ys) d within same here = absurd (cc)
next_image f (suc n) (x ∷ xs) (y ∷ ys) d within same here =
    let less : n < length ys = omega (arith, within) in
    let rest : take n xs ≡ map f (take n ys) = cc in
    let more : take (suc n) xs ≡ map f (take (suc n) ys) = next_image f n xs ys d less rest here in
    cc

-- The lists go on so up to the next place.
pub one_more : {A B : Type 0} (f : B → A) (n : ℕ) (xs : List A) (ys : List B) (d : B) → n < length ys
    → take n xs ≡ map f (take n ys) → slice_get xs n ≡ Some (f (slice_index_or ys n d))
    → take (n + 1) xs ≡ map f (take (n + 1) ys)
one_more f n xs ys d within same here = rw add-one (next_image f n xs ys d within same here)

next_pair : {X Y A B : Type 0} (R : A → B → Type 0) (f : X → A) (g : Y → B) (n : ℕ) (xs : List X) (ys : List Y) (d : X)
    (e : Y) → n < length xs → n < length ys → AllZip R (map f (take n xs)) (map g (take n ys))
    → R (f (slice_index_or xs n d)) (g (slice_index_or ys n e))
    → AllZip R (map f (take (suc n) xs)) (map g (take (suc n) ys))
next_pair R f g n [] ys d e within within' so_far here = absurd (omega (arith, within))
next_pair R f g n (x ∷ xs) [] d e within within' so_far here = absurd (omega (arith, within'))
next_pair R f g zero (x ∷ xs) (y ∷ ys) d e within within' so_far here = (here, tt)
next_pair R f g (suc n) (x ∷ xs) (y ∷ ys) d e within within' so_far here =
    (so_far.0, next_pair R f g n xs ys d e (omega (arith, within)) (omega (arith, within')) so_far.1 here)

-- What holds of the items of two lists, place by place, holds up to the next place.
pub one_pair : {X Y A B : Type 0} (R : A → B → Type 0) (f : X → A) (g : Y → B) (n : ℕ) (xs : List X) (ys : List Y)
    (x : X) (y : Y) → n < length xs → n < length ys → x ≡ slice_index_or xs n x → y ≡ slice_index_or ys n y
    → AllZip R (map f (take n xs)) (map g (take n ys)) → R (f x) (g y)
    → AllZip R (map f (take (n + 1) xs)) (map g (take (n + 1) ys))
one_pair {X} {Y} R f g n xs ys x y within within' at at' so_far here =
    let there : R (f (slice_index_or xs n x)) (g (slice_index_or ys n y)) =
    subst (λ (v : X). R (f v) (g (slice_index_or ys n y))) at (subst (λ (v : Y). R (f x) (g v)) at' here) in
    rw add-one (next_pair R f g n xs ys x y within within' so_far there)
