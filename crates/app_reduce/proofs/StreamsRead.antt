-- Streams that are read whole, one after another.
use Rattle.std.proofs.Common.{◌≡◌, ◌<◌, ◌≤◌, ◌+◌, Some, None, Option, ℕ, suc, zero, List, [], ◌∷◌, ◌++◌, drop, length, map, take, refl, sym, ap, subst, ◌∙◌, arith}
use Rattle.std.specs.Prelude.{IfSome}
use Rattle.std.specs.List.{AllZip, slice_index_or}
use Rattle.std.proofs.lemmas.List.{map-append, map_more}
use Rattle.def_model.proofs.ListPrefixes.{whole_input}

-- ---- the bytes of a stream

-- what was read within the limit is all that was left
pub all_left : (known : Option (List ℕ)) (bytes kept : List ℕ) (n : ℕ) → kept ≡ bytes
    → IfSome known (λ input. bytes ≡ take (n + 1) input) → length bytes ≤ n → IfSome known (λ input. kept ≡ input)
all_left None bytes kept n same prefix le = tt
all_left (Some input) bytes kept n same prefix le = same ∙ whole_input input bytes n prefix le

-- ---- the elements that are left

at_drop : {R : Type 0} (xs : List R) (i : ℕ) (d : R) → slice_index_or (drop i xs) 0 d ≡ slice_index_or xs i d
at_drop xs zero d = refl
at_drop [] (suc i) d = refl
at_drop (x ∷ xs) (suc i) d = at_drop xs i d

drop_next : {R : Type 0} (xs : List R) (i : ℕ) → drop 1 (drop i xs) ≡ drop (suc i) xs
drop_next xs zero = refl
drop_next [] (suc i) = refl
drop_next (x ∷ xs) (suc i) = drop_next xs i

drop_more : {R : Type 0} (xs : List R) (i : ℕ) → drop 1 (drop i xs) ≡ drop (i + 1) xs
drop_more xs i = drop_next xs i ∙ ap (λ n. drop n xs) (let next : suc i ≡ i + 1 = omega arith in next)

-- one element less is left
pub less_left : {R : Type 0} (xs rest now : List R) (i : ℕ) → rest ≡ drop i xs → now ≡ drop 1 rest
    → now ≡ drop (i + 1) xs
less_left xs rest now i left is = is ∙ (ap (drop 1) left ∙ drop_more xs i)

pub some_left : {R : Type 0} (xs : List R) (i : ℕ) → i < length xs → 0 < length (drop i xs)
some_left xs zero lt = lt
some_left [] (suc i) lt = absurd (omega (arith, lt))
some_left (x ∷ xs) (suc i) lt = some_left xs i (omega (arith, lt))

-- the first element that is left is the one at this place
pub taken : {R : Type 0} (xs rest : List R) (i : ℕ) (x : R) → rest ≡ drop i xs → x ≡ slice_index_or rest 0 x
    → x ≡ slice_index_or xs i x
taken {R = R} xs rest i x left is = is ∙ (ap (λ (r : List R). slice_index_or r 0 x) left ∙ at_drop xs i x)

-- ---- one more

zip_on : {A B : Type 0} (R : A → B → Type 0) (xs : List A) (ys : List B) (x : A) (y : B) → AllZip R xs ys → R x y
    → AllZip R (xs ++ x ∷ []) (ys ++ y ∷ [])
zip_on R [] [] x y all one = (one, tt)
zip_on R [] (b ∷ ys) x y all one = absurd all
zip_on R (a ∷ xs) [] x y all one = absurd all
zip_on R (a ∷ xs) (b ∷ ys) x y all one = (all.0, zip_on R xs ys x y all.1 one)

-- what is so of those before this place, and of it, is so of one more
pub zip_more : {R T A B : Type 0} (Related : A → B → Type 0) (f : R → A) (g : T → B) (xs : List R) (ys : List T)
    (i : ℕ) (d : R) (y : T) → i < length xs → AllZip Related (map f (take i xs)) (map g ys)
    → Related (f (slice_index_or xs i d)) (g y) → AllZip Related (map f (take (i + 1) xs)) (map g (ys ++ y ∷ []))
zip_more Related f g xs ys i d y lt all one =
    subst (λ firsts. AllZip Related firsts (map g (ys ++ y ∷ []))) (sym (map_more f xs i d lt))
    (subst (λ seconds. AllZip Related (map f (take i xs) ++ f (slice_index_or xs i d) ∷ []) seconds)
    (sym (map-append g ys (y ∷ [])))
    (zip_on Related _ _ _ _ all one))
