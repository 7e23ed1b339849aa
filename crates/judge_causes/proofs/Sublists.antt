-- A list of which the first part is cut short.
use Rattle.std.proofs.Common.{◌≡◌, ◌⊎◌, ℕ, zero, suc, inl, inr, List, [], ◌∷◌, ◌++◌, take, get_or, All, sym, arith}
use Rattle.std.specs.Prelude.{AllPairs, Contains}
use Rattle.std.proofs.lemmas.List.Elements.{All-contains, Contains-append_cases, Contains-append_left, Contains-append_right, Contains-get_or}
use Rattle.std.proofs.lemmas.List.Kept.{AllPairs-cons}

module _ {X : Type 0} where
  pub all_from_contains : (P : X → Type 0) (xs : List X) → ((x : X) → Contains xs x → P x) → All P xs
  all_from_contains P xs each k d lt = each (get_or xs k d) (Contains-get_or xs k d lt)

  pub contains_first : (x y : X) (xs : List X) → Contains (x ∷ xs) y → (y ≡ x) ⊎ Contains xs y
  contains_first x y xs (zero, lt, is) = inl (sym is)
  contains_first x y xs (suc k, lt, is) = inr (k, omega arith, is)

  contains_take : (n : ℕ) (xs : List X) (x : X) → Contains (take n xs) x → Contains xs x
  contains_take zero xs x h = absurd (omega (arith, h.1))
  contains_take (suc n) [] x h = h
  contains_take (suc n) (y ∷ xs) x h = go (contains_first y x (take n xs) h) (contains_take n xs x)
    where
      go : (x ≡ y) ⊎ Contains (take n xs) x → (Contains (take n xs) x → Contains xs x) → Contains (y ∷ xs) x
      go (inl same) more = (0, omega arith, sym same)
      go (inr rest) more = let w : Contains xs x = more rest in (suc w.0, omega (arith, w.1), w.2)

  pub contains_short : (n : ℕ) (xs ys : List X) (x : X) → Contains (take n xs ++ ys) x → Contains (xs ++ ys) x
  contains_short n xs ys x h = go (Contains-append_cases (take n xs) ys x h)
    where
      go : Contains (take n xs) x ⊎ Contains ys x → Contains (xs ++ ys) x
      go (inl first) = Contains-append_left xs ys x (contains_take n xs x first)
      go (inr second) = Contains-append_right xs ys x second

  pub all_short : (P : X → Type 0) (n : ℕ) (xs ys : List X) → All P (xs ++ ys) → All P (take n xs ++ ys)
  all_short P n xs ys all =
      all_from_contains P (take n xs ++ ys) (λ x h.
      All-contains P (xs ++ ys) x all (contains_short n xs ys x h))

  pairs_first : (R : X → X → Type 0) (x : X) (xs : List X) → AllPairs R (x ∷ xs) → All (R x) xs
  pairs_first R x xs pairs k d lt = pairs 0 (suc k) d (omega arith) (omega (arith, lt))

  pairs_rest : (R : X → X → Type 0) (x : X) (xs : List X) → AllPairs R (x ∷ xs) → AllPairs R xs
  pairs_rest R x xs pairs i j d lt within = pairs (suc i) (suc j) d (omega (arith, lt)) (omega (arith, within))

  pairs_after : (R : X → X → Type 0) (xs ys : List X) → AllPairs R (xs ++ ys) → AllPairs R ys
  pairs_after R [] ys pairs = pairs
  pairs_after R (x ∷ xs) ys pairs = pairs_after R xs ys (pairs_rest R x (xs ++ ys) pairs)

  pub pairs_short : (R : X → X → Type 0) (n : ℕ) (xs ys : List X) → AllPairs R (xs ++ ys)
      → AllPairs R (take n xs ++ ys)
  pairs_short R zero xs ys pairs = pairs_after R xs ys pairs
  pairs_short R (suc n) [] ys pairs = pairs
  pairs_short R (suc n) (x ∷ xs) ys pairs =
      AllPairs-cons R x (take n xs ++ ys) (all_short (R x) n xs ys (pairs_first R x (xs ++ ys) pairs))
      (pairs_short R n xs ys (pairs_rest R x (xs ++ ys) pairs))
