-- Lists that are written one after another: if all have one length, the whole shows each of them.
use Rattle.std.proofs.Common.{◌≡◌, ℕ, zero, suc, ◌<◌, ◌≤◌, List, [], ◌∷◌, ◌++◌, length, get_or, All, flat_map, refl, sym, ap, ap₂, ◌∙◌, arith, length-append}
use Rattle.std.specs.List.{AllZip}

-- two lists that are written before others, and have one length, are the same, and so are the others
pub same_parts : {A : Type 0} (xs ys rest rest' : List A) → length xs ≡ length ys → xs ++ rest ≡ ys ++ rest'
    → (xs ≡ ys) × (rest ≡ rest')
same_parts [] [] rest rest' long same = (refl, same)
same_parts [] (y ∷ ys) rest rest' long same = absurd (omega arith)
same_parts (x ∷ xs) [] rest rest' long same = absurd (omega arith)
same_parts {A} (x ∷ xs) (y ∷ ys) rest rest' long same = go (same_parts xs ys rest rest' (omega arith) (cc))
  where
    go : (xs ≡ ys) × (rest ≡ rest') → (x ∷ xs ≡ y ∷ ys) × (rest ≡ rest')
    go (others, then) = (let first : x ≡ y = cc in cc, then)

-- pieces of one length, of lists that are equally long, are the same one by one
pub same_pieces : {X Y A : Type 0} (f : X → List A) (g : Y → List A) (k : ℕ) → ((x : X) → length (f x) ≡ k)
    → ((y : Y) → length (g y) ≡ k) → (xs : List X) (ys : List Y) → length xs ≡ length ys
    → flat_map f xs ≡ flat_map g ys → (i : ℕ) (d : X) (e : Y) → i < length xs → f (get_or xs i d) ≡ g (get_or ys i e)
same_pieces f g k f_long g_long [] ys long same i d e lt = absurd (omega arith)
same_pieces f g k f_long g_long (x ∷ xs) [] long same i d e lt = absurd (omega arith)
same_pieces f g k f_long g_long (x ∷ xs) (y ∷ ys) long same zero d e lt =
    (same_parts (f x) (g y) (flat_map f xs) (flat_map g ys) (f_long x ∙ sym (g_long y)) same).0
same_pieces f g k f_long g_long (x ∷ xs) (y ∷ ys) long same (suc i) d e lt =
    same_pieces f g k f_long g_long xs ys (omega arith)
    (same_parts (f x) (g y) (flat_map f xs) (flat_map g ys) (f_long x ∙ sym (g_long y)) same).1 i d e (omega arith)

-- rows of one length, which isn't 0
pub same_rows : {A : Type 0} (k : ℕ) → 1 ≤ k → (rows rows' : List (List A)) → All (λ row. length row ≡ k) rows
    → All (λ row. length row ≡ k) rows' → flat_map (λ (row : List A). row) rows ≡ flat_map (λ (row : List A). row) rows'
    → rows ≡ rows'
same_rows k some [] [] long long' same = refl
same_rows {A} k some [] (row ∷ rows) long long' same =
    absurd (let first : length row ≡ k = long' 0 [] (omega arith) in
    let none : 0 ≡ length (row ++ flat_map (λ (r : List A). r) rows) = ap length same in
    omega (arith, length-append row (flat_map (λ (r : List A). r) rows)))
same_rows {A} k some (row ∷ rows) [] long long' same =
    absurd (let first : length row ≡ k = long 0 [] (omega arith) in
    let none : length (row ++ flat_map (λ (r : List A). r) rows) ≡ 0 = ap length same in
    omega (arith, length-append row (flat_map (λ (r : List A). r) rows)))
same_rows {A} k some (row ∷ rows) (row' ∷ rows') long long' same =
    ap₂ (λ (r : List A) (rs : List (List A)). r ∷ rs) parts.0
    (same_rows k some rows rows' (λ i d lt. long (suc i) d (omega arith)) (λ i d lt. long' (suc i) d (omega arith))
    parts.1)
  where
    parts : (row ≡ row') × (flat_map (λ (r : List A). r) rows ≡ flat_map (λ (r : List A). r) rows')
    parts =
        same_parts row row' (flat_map (λ (r : List A). r) rows) (flat_map (λ (r : List A). r) rows')
        (long 0 [] (omega arith) ∙ sym (long' 0 [] (omega arith))) same

-- what holds of the items of two lists, place by place
pub zip_at : {A B : Type 0} (R : A → B → Type 0) (xs : List A) (ys : List B) → AllZip R xs ys → (i : ℕ) (d : A) (e : B)
    → i < length xs → R (get_or xs i d) (get_or ys i e)
zip_at R [] ys all i d e lt = absurd (omega arith)
zip_at R (x ∷ xs) [] all i d e lt = absurd all
zip_at R (x ∷ xs) (y ∷ ys) all zero d e lt = all.0
zip_at R (x ∷ xs) (y ∷ ys) all (suc i) d e lt = zip_at R xs ys all.1 i d e (omega arith)
