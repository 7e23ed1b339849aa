-- Lists that stand apart, and how many there are.
use Rattle.std.proofs.Common.{◌≡◌, ◌<◌, ◌≤◌, ◌⊎◌, inl, inr, ℕ, zero, suc, List, [], ◌∷◌, length, get_or, sym, ap, ◌∙◌, Contains, arith}
use Rattle.std.proofs.lemmas.Bool.{cases_lt}
use Rattle.std.proofs.lemmas.List.{get_or_default}
use Rattle.def_model.proofs.Pigeonhole.{two_equal}
use Rattle.def_wide.specs.DeadEnds.{AreApart}
use Rattle.wide_back.specs.Searches.{IsAdded}

-- what stands at two places differs
apart_at : (xs : List (List ℕ)) → AreApart xs → (i j : ℕ) → i < j → j < length xs → ¬ (get_or xs i [] ≡ get_or xs j [])
apart_at [] apart i j less lt same = absurd (omega arith)
apart_at (x ∷ xs) apart i zero less lt same = absurd (omega arith)
apart_at (x ∷ xs) apart zero (suc j) less lt same =
    let inside : j < length xs = omega arith in
    apart.0 (j, inside, get_or_default xs j x [] inside ∙ sym same)
apart_at (x ∷ xs) apart (suc i) (suc j) less lt same = apart_at xs apart.1 i j (omega arith) (omega arith) same

-- no more stand apart than there are in a list that has them all
pub apart_within : (xs ys : List (List ℕ)) → AreApart xs → ((i : ℕ) → i < length xs → Contains ys (get_or xs i []))
    → length xs ≤ length ys
apart_within xs ys apart each = go (cases_lt (length ys) (length xs))
  where
    -- a place of it in the other list
    place : (i : ℕ) → (i < length xs) ⊎ (length xs ≤ i) → ℕ
    place i (inl lt) = (each i lt).0
    place i (inr ge) = 0

    below : (i : ℕ) (is : (i < length xs) ⊎ (length xs ≤ i)) → i < length xs → place i is < length ys
    below i (inl lt) inside = (each i lt).1
    below i (inr ge) inside = absurd (omega arith)

    at : (i : ℕ) (is : (i < length xs) ⊎ (length xs ≤ i)) → i < length xs
        → get_or ys (place i is) [] ≡ get_or xs i []
    at i (inl lt) inside = get_or_default ys (each i lt).0 [] (get_or xs i []) (each i lt).1 ∙ (each i lt).2
    at i (inr ge) inside = absurd (omega arith)

    go : (length ys < length xs) ⊎ (length xs ≤ length ys) → length xs ≤ length ys
    go (inr le) = le
    go (inl more) =
        let w : (i : ℕ) × (j : ℕ) × (i < j) × (j ≤ length ys)
        × (place i (cases_lt i (length xs)) ≡ place j (cases_lt j (length xs))) =
        two_equal (length ys) (λ i. place i (cases_lt i (length xs)))
        (λ i le. below i (cases_lt i (length xs)) (omega arith)) in
        let less : w.0 < w.1 = w.2 in
        let inside : w.1 < length xs = let le : w.1 ≤ length ys = w.3 in omega arith in
        absurd (apart_at xs apart w.0 w.1 less inside
        (sym (at w.0 (cases_lt w.0 (length xs)) (omega arith))
        ∙ (ap (λ (k : ℕ). get_or ys k []) w.4 ∙ at w.1 (cases_lt w.1 (length xs)) inside)))

-- a list with one more before it
pub added_first : (xs : List (List ℕ)) (x : List ℕ) → IsAdded xs x (x ∷ xs)
added_first xs x other = (to, from)
  where
    to : Contains (x ∷ xs) other → (other ≡ x) ⊎ Contains xs other
    to (zero, lt, same) = inl (sym same)
    to (suc i, lt, same) = inr (i, omega arith, same)

    from : (other ≡ x) ⊎ Contains xs other → Contains (x ∷ xs) other
    from (inl same) = (0, omega arith, sym same)
    from (inr (i, lt, same)) = (suc i, omega arith, same)
