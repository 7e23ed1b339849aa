-- Things that are written one after another, with a comma between each two.
use Rattle.std.proofs.Common.{◌≡◌, ℕ, zero, suc, ◌+◌, ◌<◌, List, [], ◌∷◌, ◌++◌, get_or, length, map, take, refl, sym, ap, ◌∙◌, add-one, append-nil, append_assoc, arith}
use Rattle.std.specs.Prelude.{Some, flat_map, slice_get}
use Rattle.std.proofs.Math.Dec.{eqb-suc-zero}
use Rattle.std.proofs.lemmas.List.{flat_map_more, take_more}
use Rattle.std.proofs.lemmas.List.Folds.{flat_map-map}
use Rattle.out_page.specs.JsonTexts.{comma_after, listed}

-- ---- the first one, and then the others

pub listed_end : {A : Type 0} (text : A → List ℕ) (before middle after : List ℕ) (all others taken : List A) (first : A)
    → all ≡ first ∷ others → middle ≡ before ++ text first
    → after ≡ middle ++ flat_map (λ x. 44 ∷ text x) taken → taken ≡ others → after ≡ before ++ listed text all
listed_end text before middle after all others taken first split begun written whole =
    written
    ∙ ap (λ out. out ++ flat_map (λ x. 44 ∷ text x) taken) begun
    ∙ append_assoc before (text first) (flat_map (λ x. 44 ∷ text x) taken)
    ∙ ap (λ xs. before ++ (text first ++ flat_map (λ x. 44 ∷ text x) xs)) whole
    ∙ ap (λ xs. before ++ listed text xs) (sym split)

seen : {A B : Type 0} (text : B → List ℕ) (f : A → B) (xs : List A) → listed (λ x. text (f x)) xs
    ≡ listed text (map f xs)
seen text f [] = refl
seen text f (x ∷ xs) = ap (λ rest. text (f x) ++ rest) (sym (flat_map-map (λ y. 44 ∷ text y) f xs))

-- the same of things that are written as they are seen
pub listed_seen : {A B : Type 0} (text : B → List ℕ) (f : A → B) (before middle after : List ℕ)
    (all others taken : List A) (first : A) → all ≡ first ∷ others → middle ≡ before ++ text (f first)
    → after ≡ middle ++ flat_map (λ x. 44 ∷ text (f x)) taken → taken ≡ others
    → after ≡ before ++ listed text (map f all)
listed_seen text f before middle after all others taken first split begun written whole =
    listed_end (λ x. text (f x)) before middle after all others taken first split begun written whole
    ∙ ap (λ rest. before ++ rest) (seen text f all)

-- ---- one more

take_one : {A : Type 0} (xs : List A) (i : ℕ) (x : A) → slice_get xs i ≡ Some x
    → take (suc i) xs ≡ take i xs ++ x ∷ []
take_one [] i x e = absurd (cc)
take_one (y ∷ xs) zero x e = let same : y ≡ x = cc in ap (λ z. z ∷ []) same
take_one (y ∷ xs) (suc i) x e = ap (λ rest. y ∷ rest) (take_one xs i x e)

there : {A : Type 0} (xs : List A) (i : ℕ) → i < length xs → (x : A) × (slice_get xs i ≡ Some x)
there [] i lt = absurd (omega arith)
there (x ∷ xs) zero lt = (x, refl)
there (x ∷ xs) (suc i) lt = there xs i (omega arith)

pub one_more : {A : Type 0} (text : A → List ℕ) (old mid new : List ℕ) (xs : List A) (i : ℕ) (x : A)
    → slice_get xs i ≡ Some x → mid ≡ old ++ flat_map text (take i xs) → new ≡ mid ++ text x
    → new ≡ old ++ flat_map text (take (i + 1) xs)
one_more text old mid new xs i x e before here =
    here
    ∙ ap (λ out. out ++ text x) before
    ∙ flat_map_more text old (take i xs) x
    ∙ ap (λ ys. old ++ flat_map text ys) (sym (take_one xs i x e))
    ∙ ap (λ n. old ++ flat_map text (take n xs)) (sym (add-one i))

pub each_more : {A : Type 0} (text : A → List ℕ) (old mid new : List ℕ) (xs : List A) (i : ℕ) → i < length xs
    → mid ≡ old ++ flat_map text (take i xs) → ((x : A) → slice_get xs i ≡ Some x → new ≡ mid ++ text x)
    → new ≡ old ++ flat_map text (take (i + 1) xs)
each_more text old mid new xs i lt before here =
    let x = there xs i lt in one_more text old mid new xs i x.0 x.1 before (here x.0 x.1)

listed_one : {A : Type 0} (text : A → List ℕ) (xs : List A) (i : ℕ) (x : A) → slice_get xs i ≡ Some x
    → listed text (take (suc i) xs) ≡ listed text (take i xs) ++ (comma_after i ++ text x)
listed_one text [] i x e = absurd (cc)
listed_one text (y ∷ xs) zero x e = let same : y ≡ x = cc in append-nil (text y) ∙ ap text same
listed_one text (y ∷ xs) (suc i) x e =
    rw (eqb-suc-zero i)
    (ap (λ ys. text y ++ flat_map (λ z. 44 ∷ text z) ys) (take_one xs i x e)
    ∙ sym (flat_map_more (λ z. 44 ∷ text z) (text y) (take i xs) x))

pub listed_at : {A : Type 0} (text : A → List ℕ) (old mid new : List ℕ) (xs : List A) (i : ℕ) (x : A)
    → slice_get xs i ≡ Some x → mid ≡ old ++ listed text (take i xs) → new ≡ mid ++ (comma_after i ++ text x)
    → new ≡ old ++ listed text (take (i + 1) xs)
listed_at text old mid new xs i x e before here =
    here
    ∙ ap (λ out. out ++ (comma_after i ++ text x)) before
    ∙ append_assoc old (listed text (take i xs)) (comma_after i ++ text x)
    ∙ ap (λ rest. old ++ rest) (sym (listed_one text xs i x e))
    ∙ ap (λ n. old ++ listed text (take n xs)) (sym (add-one i))

pub listed_more : {A : Type 0} (text : A → List ℕ) (old mid new : List ℕ) (xs : List A) (i : ℕ) → i < length xs
    → mid ≡ old ++ listed text (take i xs)
    → ((x : A) → slice_get xs i ≡ Some x → new ≡ mid ++ (comma_after i ++ text x))
    → new ≡ old ++ listed text (take (i + 1) xs)
listed_more text old mid new xs i lt before here =
    let x = there xs i lt in listed_at text old mid new xs i x.0 x.1 before (here x.0 x.1)

-- one more after its comma
pub comma_more : {A : Type 0} (text : A → List ℕ) (old mid after new : List ℕ) (xs : List A) (i : ℕ) (d : A)
    → i < length xs → mid ≡ old ++ flat_map (λ x. 44 ∷ text x) (take i xs) → after ≡ mid ++ 44 ∷ []
    → new ≡ after ++ text (get_or xs i d) → new ≡ old ++ flat_map (λ x. 44 ∷ text x) (take (i + 1) xs)
comma_more text old mid after new xs i d lt before comma here =
    here
    ∙ ap (λ out. out ++ text (get_or xs i d)) comma
    ∙ append_assoc mid (44 ∷ []) (text (get_or xs i d))
    ∙ ap (λ out. out ++ (44 ∷ text (get_or xs i d))) before
    ∙ flat_map_more (λ x. 44 ∷ text x) old (take i xs) (get_or xs i d)
    ∙ ap (λ ys. old ++ flat_map (λ x. 44 ∷ text x) ys) (sym (take_more xs i d lt))
