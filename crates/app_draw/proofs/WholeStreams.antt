-- Streams that are read whole, one after another.
use Rattle.std.proofs.Common.{◌≡◌, ◌<◌, ◌+◌, ℕ, suc, zero, List, [], ◌∷◌, ◌++◌, drop, length, map, take, Option, refl, sym, ap, subst, ◌∙◌, arith}
use Rattle.std.specs.Prelude.{IfSome}
use Rattle.std.specs.List.{AllZip, slice_index_or}
use Rattle.std.proofs.lemmas.List.{map-append, map_more}
use Rattle.def_judgement.specs.Writes.{IsWholeInput, Source}
use Rattle.app_draw.specs.Drawings.{IsSurelyRead}
use Rattle.app_host.proofs.FilesRead.{zip_on}

-- a source that has more left than this many bytes isn't surely read within them
pub not_more : (limit : ℕ) (left : Source) → IfSome left.bytes (λ input. limit < length input)
    → ¬ IsSurelyRead limit left
not_more limit left more sure =
    let here : limit < length sure.bytes =
    subst (λ (bytes : Option (List ℕ)). IfSome bytes (λ input. limit < length input)) sure.known more in
    omega (arith, here, sure.fits)

-- ---- the elements that are left

at_drop : {R : Type 0} (xs : List R) (i : ℕ) (d : R) → slice_index_or (drop i xs) 0 d ≡ slice_index_or xs i d
at_drop xs zero d = refl
at_drop [] (suc i) d = refl
at_drop (x ∷ xs) (suc i) d = at_drop xs i d

drop_next : {R : Type 0} (xs : List R) (i : ℕ) → drop 1 (drop i xs) ≡ drop (suc i) xs
drop_next xs zero = refl
drop_next [] (suc i) = refl
drop_next (x ∷ xs) (suc i) = drop_next xs i

pub drop_more : {R : Type 0} (xs : List R) (i : ℕ) → drop 1 (drop i xs) ≡ drop (i + 1) xs
drop_more xs i = drop_next xs i ∙ ap (λ n. drop n xs) (let next : suc i ≡ i + 1 = omega arith in next)

pub some_left : {R : Type 0} (xs : List R) (i : ℕ) → i < length xs → 0 < length (drop i xs)
some_left xs zero lt = lt
some_left [] (suc i) lt = absurd (omega (arith, lt))
some_left (x ∷ xs) (suc i) lt = some_left xs i (omega (arith, lt))

-- the first element that is left is the one at this place
pub taken : {R : Type 0} (xs rest : List R) (i : ℕ) (x : R) → rest ≡ drop i xs → x ≡ slice_index_or rest 0 x
    → x ≡ slice_index_or xs i x
taken {R = R} xs rest i x left is = is ∙ (ap (λ (r : List R). slice_index_or r 0 x) left ∙ at_drop xs i x)

-- one stream more
pub whole_on : {R B : Type 0} (left : R → Source) (items : B → List ℕ) (streams : List R) (read : List B) (i : ℕ)
    (d : R) (bytes : B) → i < length streams → AllZip IsWholeInput (map left (take i streams)) (map items read)
    → IsWholeInput (left (slice_index_or streams i d)) (items bytes)
    → AllZip IsWholeInput (map left (take (i + 1) streams)) (map items (read ++ bytes ∷ []))
whole_on left items streams read i d bytes lt all one =
    subst (λ xs. AllZip IsWholeInput xs (map items (read ++ bytes ∷ []))) (sym (map_more left streams i d lt))
    (subst (λ ys. AllZip IsWholeInput (map left (take i streams) ++ left (slice_index_or streams i d) ∷ []) ys)
    (sym (map-append items read (bytes ∷ [])))
    (zip_on IsWholeInput _ _ _ _ all one))
