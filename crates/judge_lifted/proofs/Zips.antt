-- Lists in step.
use Rattle.std.proofs.Common.{◌≡◌, ◌<◌, ℕ, List, [], ◌∷◌, ◌++◌, length, map, sym, ◌∙◌, zero, suc, arith}
use Rattle.std.specs.Prelude.{slice_index_or}
use Rattle.std.specs.List.{AllZip}
use Rattle.std.proofs.lemmas.Slice.Zip.{AllZip-long}
use Rattle.std.proofs.lemmas.List.{length-map}

pub all_zip_push : {A B : Type 0} (R : A → B → Type 0) (xs : List A) (ys : List B) (x : A) (y : B) → AllZip R xs ys
    → R x y → AllZip R (xs ++ x ∷ []) (ys ++ y ∷ [])
all_zip_push R [] [] x y all here = (here, tt)
all_zip_push R [] (b ∷ ys) x y all here = absurd all
all_zip_push R (a ∷ xs) [] x y all here = absurd all
all_zip_push R (a ∷ xs) (b ∷ ys) x y all here = (all.0, all_zip_push R xs ys x y all.1 here)

-- two lists in step by their views are equally long
pub same_length : {A B V W : Type 0} (R : V → W → Type 0) (f : A → V) (g : B → W) (xs : List A) (ys : List B)
    → AllZip R (map f xs) (map g ys) → length ys ≡ length xs
same_length R f g xs ys all =
    sym (length-map ys g) ∙ AllZip-long R (map f xs) (map g ys) all ∙ length-map xs f

-- R holds of the views at each place
pub zip_at : {A B V W : Type 0} (R : V → W → Type 0) (f : A → V) (g : B → W) (xs : List A) (ys : List B) (i : ℕ)
    (d : A) (e : B) → AllZip R (map f xs) (map g ys) → i < length xs
    → R (f (slice_index_or xs i d)) (g (slice_index_or ys i e))
zip_at R f g [] ys i d e all within = absurd (omega (arith, within))
zip_at R f g (x ∷ xs) [] i d e all within = absurd all
zip_at R f g (x ∷ xs) (y ∷ ys) zero d e all within = all.0
zip_at R f g (x ∷ xs) (y ∷ ys) (suc i) d e all within = zip_at R f g xs ys i d e all.1 (omega (arith, within))
