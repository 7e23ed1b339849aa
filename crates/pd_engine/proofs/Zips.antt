-- Lists in step, and an element more of each.
use Rattle.std.proofs.Common.{List, [], ◌∷◌, ◌++◌}
use Rattle.std.specs.List.{AllZip}

pub all_zip_push : {A B : Type 0} (R : A → B → Type 0) (xs : List A) (ys : List B) (x : A) (y : B) → AllZip R xs ys
    → R x y → AllZip R (xs ++ x ∷ []) (ys ++ y ∷ [])
all_zip_push R [] [] x y all here = (here, tt)
all_zip_push R [] (b ∷ ys) x y all here = absurd all
all_zip_push R (a ∷ xs) [] x y all here = absurd all
all_zip_push R (a ∷ xs) (b ∷ ys) x y all here = (all.0, all_zip_push R xs ys x y all.1 here)
