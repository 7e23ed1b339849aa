-- Lists that are the same are so at each place.
use Rattle.std.proofs.Common.{◌≡◌, ℕ, zero, suc, ◌<◌, length, List, [], ◌∷◌, get_or, map, arith}

pub same_at : {A B : Type 0} (f : A → B) (xs ys : List A) (i : ℕ) (d e : A) → map f xs ≡ map f ys → i < length xs
    → i < length ys → f (get_or xs i d) ≡ f (get_or ys i e)
same_at f [] ys i d e same in_xs in_ys = absurd (omega arith)
same_at f (x ∷ xs) [] i d e same in_xs in_ys = absurd (omega arith)
same_at f (x ∷ xs) (y ∷ ys) zero d e same in_xs in_ys = cc
same_at f (x ∷ xs) (y ∷ ys) (suc i) d e same in_xs in_ys =
    same_at f xs ys i d e (let rest : map f xs ≡ map f ys = cc in rest) (omega arith) (omega arith)
