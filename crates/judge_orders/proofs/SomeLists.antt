-- Which lists of some aren't empty.
use Rattle.std.proofs.Common.{◌≡◌, ◌+◌, ◌<◌, ◌≤◌, ◌⊎◌, inl, inr, ℕ, List, [], ◌∷◌, ◌++◌, get_or, subst, arith}
use Rattle.std.specs.Prelude.{All, AllPairs, Contains}
use Rattle.std.proofs.lemmas.Bool.{cases_lt}
use Rattle.std.proofs.lemmas.List.Elements.{All-push, Contains-append_left, Contains-push}
use Rattle.std.proofs.lemmas.List.Quantifiers.{all_pairs_push}

-- These are the places of the first k lists that aren't empty.
pub record ArePlacesOf (lists : List (List ℕ)) (places : List ℕ) (k : ℕ) : Type 0 where
  pub ascend : AllPairs (λ (p q : ℕ). p < q) places
  pub within : All (λ p. p < k) places
  pub others : (p : ℕ) → p < k → (¬ Contains places p) → get_or lists p [] ≡ []

-- the next list isn't empty, whatever it is
pub places_more : (lists : List (List ℕ)) (places : List ℕ) (k : ℕ) → ArePlacesOf lists places k
    → ArePlacesOf lists (places ++ k ∷ []) (k + 1)
places_more lists places k known = record {
  ascend = all_pairs_push (λ (p q : ℕ). p < q) places k known.ascend (λ i d in_places. known.within i d in_places);
  within = All-push (λ (p : ℕ). p < k + 1) places k (λ i d in_places. omega (arith, known.within i d in_places))
      (omega arith);
  others = λ p lt out. go p lt out (cases_lt p k);
}
  where
    go : (p : ℕ) → p < k + 1 → (¬ Contains (places ++ k ∷ []) p) → (p < k) ⊎ (k ≤ p) → get_or lists p [] ≡ []
    go p lt out (inl before) = known.others p before (λ has. out (Contains-append_left places (k ∷ []) p has))
    go p lt out (inr ge) =
        let same : k ≡ p = omega (arith, lt, ge) in
        absurd (out (subst (Contains (places ++ k ∷ [])) same (Contains-push places k)))

-- the next list is empty
pub places_same : (lists : List (List ℕ)) (places : List ℕ) (k : ℕ) → ArePlacesOf lists places k
    → get_or lists k [] ≡ [] → ArePlacesOf lists places (k + 1)
places_same lists places k known empty = record {
  ascend = known.ascend;
  within = λ i d lt. omega (arith, known.within i d lt);
  others = λ p lt out. go p lt out (cases_lt p k);
}
  where
    go : (p : ℕ) → p < k + 1 → (¬ Contains places p) → (p < k) ⊎ (k ≤ p) → get_or lists p [] ≡ []
    go p lt out (inl before) = known.others p before out
    go p lt out (inr ge) =
        let same : k ≡ p = omega (arith, lt, ge) in subst (λ (q : ℕ). get_or lists q [] ≡ []) same empty
