-- Lists in step.
use Rattle.std.proofs.Common.{◌≡◌, ℕ, zero, suc, ◌+◌, ◌<◌, List, [], ◌∷◌, ◌++◌, length, get_or, map, take, refl, sym, ap, ◌∙◌, arith, length-take}
use Rattle.std.specs.Prelude.{zip}
use Rattle.std.specs.List.{AllZip}
use Rattle.std.proofs.lemmas.List.{length-map, map-append, take_more}

pub all_zip_push : {A B : Type 0} (R : A → B → Type 0) (xs : List A) (ys : List B) (x : A) (y : B) → AllZip R xs ys
    → R x y → AllZip R (xs ++ x ∷ []) (ys ++ y ∷ [])
all_zip_push R [] [] x y all here = (here, tt)
all_zip_push R [] (b ∷ ys) x y all here = absurd all
all_zip_push R (a ∷ xs) [] x y all here = absurd all
all_zip_push R (a ∷ xs) (b ∷ ys) x y all here = (all.0, all_zip_push R xs ys x y all.1 here)

zip_push : {A B : Type 0} (xs : List A) (ys : List B) (x : A) (y : B) → length xs ≡ length ys
    → zip (xs ++ x ∷ []) (ys ++ y ∷ []) ≡ zip xs ys ++ (x, y) ∷ []
zip_push [] [] x y same = refl
zip_push [] (b ∷ ys) x y same = absurd (omega arith)
zip_push (a ∷ xs) [] x y same = absurd (omega arith)
zip_push (a ∷ xs) (b ∷ ys) x y same = ap (λ (pairs : List _). (a, b) ∷ pairs) (zip_push xs ys x y (omega arith))

-- an element more
pub taken_more : {A B : Type 0} (f : A → B) (xs : List A) (i : ℕ) (x : A) → i < length xs → x ≡ get_or xs i x
    → map f (take (i + 1) xs) ≡ map f (take i xs) ++ f x ∷ []
taken_more f xs i x lt is =
    ap (map f) (take_more xs i x lt ∙ ap (λ (y : _). take i xs ++ y ∷ []) (sym is)) ∙ map-append f (take i xs) (x ∷ [])

-- the elements of two lists at one place
pub same_at : {A B C : Type 0} (f : A → C) (g : B → C) (xs : List A) (ys : List B) (i : ℕ) (d : A) (e : B)
    → map f xs ≡ map g ys → i < length xs → (i < length ys) × (f (get_or xs i d) ≡ g (get_or ys i e))
same_at f g [] ys i d e same lt = absurd (omega arith)
same_at f g (x ∷ xs) [] i d e same lt = absurd (cc)
same_at f g (x ∷ xs) (y ∷ ys) zero d e same lt = (omega arith, (let first : f x ≡ g y = cc in first))
same_at f g (x ∷ xs) (y ∷ ys) (suc i) d e same lt =
    let rest : map f xs ≡ map g ys = cc in
    let later = same_at f g xs ys i d e rest (omega arith) in
    let there : i < length ys = later.0 in
    (omega arith, later.1)

pub maps_push : {A B C : Type 0} (f : A → C) (g : B → C) (xs : List A) (ys : List B) (i : ℕ) (x : A) (y : B)
    → i < length xs → i < length ys → x ≡ get_or xs i x → y ≡ get_or ys i y → map f (take i xs) ≡ map g (take i ys)
    → f x ≡ g y
    → map f (take (i + 1) xs) ≡ map g (take (i + 1) ys)
maps_push {C = C} f g xs ys i x y in_xs in_ys at_x at_y before here =
    taken_more f xs i x in_xs at_x
    ∙ (ap (λ (zs : List C). zs ++ f x ∷ []) before
    ∙ (ap (λ (z : C). map g (take i ys) ++ z ∷ []) here
    ∙ sym (taken_more g ys i y in_ys at_y)))

-- pairs, each with what goes with it
pub pairs_push : {A B C D E F : Type 0} (R : A × B → C → Type 0) (f : D → A) (g : E → B) (h : F
    → C) (xs : List D) (ys : List E) (zs : List F) (i : ℕ) (x : D) (y : E) (z : F) → length xs ≡ length ys
    → i < length xs → x ≡ get_or xs i x → y ≡ get_or ys i y
    → AllZip R (zip (map f (take i xs)) (map g (take i ys))) (map h zs) → R (f x, g y) (h z)
    → AllZip R (zip (map f (take (i + 1) xs)) (map g (take (i + 1) ys))) (map h (zs ++ z ∷ []))
pairs_push R f g h xs ys zs i x y z same lt at_x at_y all here =
    let lt_y : i < length ys = omega arith in
    let count : length (map f (take i xs)) ≡ length (map g (take i ys)) =
    omega (arith, length-map (take i xs) f, length-map (take i ys) g, length-take i xs, length-take i ys) in
    rw (
      taken_more f xs i x lt at_x,
      taken_more g ys i y lt_y at_y,
      zip_push (map f (take i xs)) (map g (take i ys)) (f x) (g y) count,
      map-append h zs (z ∷ []),
    )
    (all_zip_push R (zip (map f (take i xs)) (map g (take i ys))) (map h zs) (f x, g y) (h z) all here)

-- two lists whose elements have the same words are of one length
pub same_length : {A B C : Type 0} (f : A → C) (g : B → C) (xs : List A) (ys : List B) → map f xs ≡ map g ys
    → length xs ≡ length ys
same_length f g xs ys same = sym (length-map xs f) ∙ (ap length same ∙ length-map ys g)
