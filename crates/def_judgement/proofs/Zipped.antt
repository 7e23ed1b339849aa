-- If each item has one partner, a list has one list of partners.
use Rattle.std.proofs.Common.{◌≡◌, List, [], ◌∷◌, refl}
use Rattle.std.specs.List.{AllZip}

pub one_zipped : {A B : Type 0} (R : A → B → Type 0) → ((x : A) (y z : B) → R x y → R x z → y ≡ z)
    → (xs : List A) (ys zs : List B) → AllZip R xs ys → AllZip R xs zs → ys ≡ zs
one_zipped R one [] [] [] p q = refl
one_zipped R one [] [] (z ∷ zs) p q = absurd q
one_zipped R one [] (y ∷ ys) zs p q = absurd p
one_zipped R one (x ∷ xs) [] zs p q = absurd p
one_zipped R one (x ∷ xs) (y ∷ ys) [] p q = absurd q
one_zipped R one (x ∷ xs) (y ∷ ys) (z ∷ zs) p q =
    let first : y ≡ z = one x y z p.0 q.0 in
    let rest : ys ≡ zs = one_zipped R one xs ys zs p.1 q.1 in
    λ i. first i ∷ rest i
