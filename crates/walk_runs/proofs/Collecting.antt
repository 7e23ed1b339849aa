-- What stands in the lists of births.
use Rattle.std.proofs.Common.{◌≡◌, ℕ, zero, suc, ◌+◌, ◌<◌, ◌≤◌, List, [], ◌∷◌, ◌++◌, length, get_or, map, take, slice_set, insert, Contains, IsPermutation, Vec, refl, sym, ap, ◌∙◌, subst, inl, inr, ◌⊎◌, arith}
use Rattle.std.specs.Global.{Global}
use Rattle.std.specs.List.Sorted.{IsNonDecreasingBy}
use Rattle.std.proofs.lemmas.List.{append-nil, append_assoc, get_or-map, length-map, map-append, take_all}
use Rattle.std.proofs.lemmas.List.Elements.{Contains-append_left, Contains-append_right, Contains-append_cases, Contains-push, Contains-push_cases}
use Rattle.std.proofs.lemmas.List.Sorted.{Contains-permutation, IsPermutation-insert, IsPermutation-map, IsPermutation-sym}
use Rattle.walk_runs.specs.Collected.{births_in, HasOneMore, IsSortedOf}
use Rattle.walk_runs.specs.Kept.{KeyedBirth, birth_view, births_view, cuts_of}
use Rattle.walk_runs.specs.declared.kept_birth.KeptBirth.{KeptBirth}

pub births_append : {A : Type 0} (view : A → KeyedBirth) (lists : List (Vec A Global)) (list : Vec A Global)
    → births_in view (lists ++ list ∷ []) ≡ births_in view lists ++ map view list.items
births_append view [] list = append-nil (map view list.items)
births_append view (first ∷ rest) list =
    ap (λ (all : List KeyedBirth). map view first.items ++ all) (births_append view rest list)
    ∙ sym (append_assoc (map view first.items) (births_in view rest) (map view list.items))

-- the lists so far, and one more
pub births_more : {A : Type 0} (view : A → KeyedBirth) (lists : List (Vec A Global)) (i : ℕ) (none : Vec A Global)
    → i < length lists
    → births_in view (take (i + 1) lists) ≡ births_in view (take i lists) ++ map view (get_or lists i none).items
births_more view [] i none lt = absurd (omega arith)
births_more view (first ∷ rest) zero none lt = append-nil (map view first.items)
births_more view (first ∷ rest) (suc i) none lt =
    let on : suc i + 1 ≡ suc (i + 1) = omega arith in
    ap (λ (n : ℕ). births_in view (take n (first ∷ rest))) on
    ∙ ap (λ (all : List KeyedBirth). map view first.items ++ all) (births_more view rest i none (omega arith))
    ∙ sym (append_assoc (map view first.items) (births_in view (take i rest)) (map view (get_or rest i none).items))

pub births_all : {A : Type 0} (view : A → KeyedBirth) (lists : List (Vec A Global)) (i : ℕ) → length lists ≤ i
    → births_in view (take i lists) ≡ births_in view lists
births_all view lists i le = ap (births_in view) (take_all i lists le)

-- a birth is added to one of the lists
one_list : (old list rest : List KeyedBirth) (cut : KeyedBirth) → list ≡ old ++ cut ∷ []
    → HasOneMore (old ++ rest) cut (list ++ rest)
one_list old list rest cut e = record {
  kept = λ z has. kept z (Contains-append_cases old rest z has);
  here = in_list cut (Contains-push old cut);
  just = λ z has. just z (Contains-append_cases list rest z has);
}
  where
    in_list : (z : KeyedBirth) → Contains (old ++ cut ∷ []) z → Contains (list ++ rest) z
    in_list z has = Contains-append_left list rest z (subst (λ (xs : List KeyedBirth). Contains xs z) (sym e) has)

    kept : (z : KeyedBirth) → Contains old z ⊎ Contains rest z → Contains (list ++ rest) z
    kept z (inl has) = in_list z (Contains-append_left old (cut ∷ []) z has)
    kept z (inr has) = Contains-append_right list rest z has

    before : (z : KeyedBirth) → Contains old z ⊎ (cut ≡ z) → Contains (old ++ rest) z ⊎ (cut ≡ z)
    before z (inl has) = inl (Contains-append_left old rest z has)
    before z (inr is) = inr is

    just : (z : KeyedBirth) → Contains list z ⊎ Contains rest z → Contains (old ++ rest) z ⊎ (cut ≡ z)
    just z (inl has) =
        before z (Contains-push_cases old cut z (subst (λ (xs : List KeyedBirth). Contains xs z) e has))
    just z (inr has) = inl (Contains-append_right old rest z has)

-- the same with a list before them
pub one_later : (first old new : List KeyedBirth) (cut : KeyedBirth) → HasOneMore old cut new
    → HasOneMore (first ++ old) cut (first ++ new)
one_later first old new cut more = record {
  kept = λ z has. kept z (Contains-append_cases first old z has);
  here = Contains-append_right first new cut more.here;
  just = λ z has. just z (Contains-append_cases first new z has);
}
  where
    kept : (z : KeyedBirth) → Contains first z ⊎ Contains old z → Contains (first ++ new) z
    kept z (inl has) = Contains-append_left first new z has
    kept z (inr has) = Contains-append_right first new z (more.kept z has)

    later : (z : KeyedBirth) → Contains old z ⊎ (cut ≡ z) → Contains (first ++ old) z ⊎ (cut ≡ z)
    later z (inl has) = inl (Contains-append_right first old z has)
    later z (inr is) = inr is

    just : (z : KeyedBirth) → Contains first z ⊎ Contains new z → Contains (first ++ old) z ⊎ (cut ≡ z)
    just z (inl has) = inl (Contains-append_left first old z has)
    just z (inr has) = later z (more.just z has)

-- a birth is added to the list of a process
pub births_push : {A : Type 0} (view : A → KeyedBirth) (lists : List (Vec A Global)) (p : ℕ) (list none : Vec A Global)
    (birth : A)
    → p < length lists → list.items ≡ (get_or lists p none).items ++ birth ∷ []
    → HasOneMore (births_in view lists) (view birth) (births_in view (slice_set lists p list))
births_push view [] p list none birth lt e = absurd (omega arith)
births_push view (first ∷ rest) zero list none birth lt e =
    one_list (map view first.items) (map view list.items) (births_in view rest) (view birth)
    (ap (map view) e ∙ map-append view first.items (birth ∷ []))
births_push view (first ∷ rest) (suc p) list none birth lt e =
    one_later (map view first.items) (births_in view rest) (births_in view (slice_set rest p list)) (view birth)
    (births_push view rest p list none birth (omega arith) e)

-- births that are sorted by their cuts
pub sorted_of : {A : Type 0} (number : A → ℕ) (all sorted : List (KeptBirth A)) → IsPermutation all sorted
    → IsNonDecreasingBy (λ (born : KeptBirth A). number born.cut) sorted
    → IsSortedOf (births_view number all) (births_view number sorted)
sorted_of {A} number all sorted same rises = record {
  there = λ z has. Contains-permutation (births_view number all) (births_view number sorted) z views has;
  back = λ z has.
      Contains-permutation (births_view number sorted) (births_view number all) z
      (IsPermutation-sym (births_view number all) (births_view number sorted) views) has;
  ascends = λ i j le lt. ascends sorted i j le lt rises;
}
  where
    views : IsPermutation (births_view number all) (births_view number sorted)
    views = IsPermutation-map (birth_view number) all sorted same

    at : (xs : List (KeptBirth A)) (i : ℕ) (x : KeptBirth A) → i < length xs
        → get_or (cuts_of (births_view number xs)) i 0 ≡ number (get_or xs i x).cut
    at xs i x lt =
        let size : length (births_view number xs) ≡ length xs = length-map xs (birth_view number) in
        get_or-map (λ (birth : KeyedBirth). birth.cut) (births_view number xs) i (birth_view number x) 0 (omega arith)
        ∙ ap (λ (birth : KeyedBirth). birth.cut) (get_or-map (birth_view number) xs i x (birth_view number x) lt)

    ascends : (xs : List (KeptBirth A)) (i j : ℕ) → i ≤ j → j < length (cuts_of (births_view number xs))
        → IsNonDecreasingBy (λ (born : KeptBirth A). number born.cut) xs
        → get_or (cuts_of (births_view number xs)) i 0 ≤ get_or (cuts_of (births_view number xs)) j 0
    ascends [] i j le lt up = absurd (omega arith)
    ascends (x ∷ xs) i j le lt up =
        let size : length (births_view number (x ∷ xs)) ≡ length (x ∷ xs) =
        length-map (x ∷ xs) (birth_view number) in
        let cuts : length (cuts_of (births_view number (x ∷ xs))) ≡ length (births_view number (x ∷ xs)) =
        length-map (births_view number (x ∷ xs)) (λ (birth : KeyedBirth). birth.cut) in
        let low : get_or (cuts_of (births_view number (x ∷ xs))) i 0 ≡ number (get_or (x ∷ xs) i x).cut =
        at (x ∷ xs) i x (omega arith) in
        let high : get_or (cuts_of (births_view number (x ∷ xs))) j 0 ≡ number (get_or (x ∷ xs) j x).cut =
        at (x ∷ xs) j x (omega arith) in
        let both : number (get_or (x ∷ xs) i x).cut ≤ number (get_or (x ∷ xs) j x).cut = up i j x le (omega arith) in
        omega arith

-- a birth is put among the few
pub few_more : {A : Type 0} (view : A → KeyedBirth) (few : List A) (at : ℕ) (birth : A) (rest : List KeyedBirth)
    → HasOneMore (map view few ++ rest) (view birth) (map view (insert few at birth) ++ rest)
few_more {A} view few at birth rest = record {
  kept = λ z has. kept z (Contains-append_cases (map view few) rest z has);
  here = among (view birth) (there (view birth) (0, omega arith, refl));
  just = λ z has. just z (Contains-append_cases (map view (insert few at birth)) rest z has);
}
  where
    same : IsPermutation (view birth ∷ map view few) (map view (insert few at birth))
    same = IsPermutation-map view (birth ∷ few) (insert few at birth) (IsPermutation-insert few at birth)

    there : (z : KeyedBirth) → Contains (view birth ∷ map view few) z → Contains (map view (insert few at birth)) z
    there z has =
        Contains-permutation (view birth ∷ map view few) (map view (insert few at birth)) z same has

    back : (z : KeyedBirth) → Contains (map view (insert few at birth)) z → Contains (view birth ∷ map view few) z
    back z has =
        Contains-permutation (map view (insert few at birth)) (view birth ∷ map view few) z
        (IsPermutation-sym (view birth ∷ map view few) (map view (insert few at birth)) same) has

    among : (z : KeyedBirth) → Contains (map view (insert few at birth)) z
        → Contains (map view (insert few at birth) ++ rest) z
    among z has = Contains-append_left (map view (insert few at birth)) rest z has

    kept : (z : KeyedBirth) → Contains (map view few) z ⊎ Contains rest z
        → Contains (map view (insert few at birth) ++ rest) z
    kept z (inl has) = among z (there z (Contains-append_right (view birth ∷ []) (map view few) z has))
    kept z (inr has) = Contains-append_right (map view (insert few at birth)) rest z has

    one : (z : KeyedBirth) → Contains (view birth ∷ []) z ⊎ Contains (map view few) z
        → Contains (map view few ++ rest) z ⊎ (view birth ≡ z)
    one z (inl (zero, lt, is)) = inr is
    one z (inl (suc k, lt, is)) = absurd (omega arith)
    one z (inr has) = inl (Contains-append_left (map view few) rest z has)

    just : (z : KeyedBirth) → Contains (map view (insert few at birth)) z ⊎ Contains rest z
        → Contains (map view few ++ rest) z ⊎ (view birth ≡ z)
    just z (inl has) = one z (Contains-append_cases (view birth ∷ []) (map view few) z (back z has))
    just z (inr has) = inl (Contains-append_right (map view few) rest z has)
