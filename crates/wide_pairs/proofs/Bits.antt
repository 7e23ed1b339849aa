-- The bits of a word that is made from its highest bit down.
use Rattle.std.proofs.Common.{◌≡◌, ℕ, zero, suc, ◌+◌, ◌-◌, ◌<◌, ◌≤◌, List, [], ◌∷◌, length, get_or, Bool, refl, sym, ap, ◌∙◌, ℤ, pos, arith}
use Rattle.std.proofs.lemmas.List.{get_or-append_right, get_or_append_left}
use Rattle.std.specs.List.{IsLastAndRest}
use Rattle.wide_pairs.specs.Parts.{number_at}
use Rattle.walk_keys.specs.Words.{has_bit}

-- one truth more below those from k on
pub one_below : (truth : ℕ → Bool) (old new n k : ℕ) → 0 < k → k ≤ n → n ≤ 64 → has_bit new 0 ≡ truth (k - 1)
    → ((j : ℕ) → j < 63 → has_bit new (j + 1) ≡ has_bit old j)
    → ((d : ℕ) → k + d < n → has_bit old d ≡ truth (k + d))
    → (d : ℕ) → k - 1 + d < n → has_bit new d ≡ truth (k - 1 + d)
one_below truth old new n k some most few first moved before zero lt =
    let e : k - 1 ≡ k - 1 + 0 = omega arith in
    first ∙ ap truth e
one_below truth old new n k some most few first moved before (suc d) lt =
    let e : d + 1 ≡ suc d = omega arith in
    let f : k + d ≡ k - 1 + suc d = omega (arith, some) in
    sym (ap (has_bit new) e)
    ∙ (moved d (omega (arith, lt, few, some)) ∙ (before d (omega (arith, lt, some)) ∙ ap truth f))

-- and at last all
pub all_below : (truth : ℕ → Bool) (word n k : ℕ) → k ≤ 0 → ((d : ℕ) → k + d < n → has_bit word d ≡ truth (k + d))
    → (d : ℕ) → d < n → has_bit word d ≡ truth d
all_below truth word n k none bits d lt =
    let e : k + d ≡ d = omega (arith, none) in
    bits d (omega (arith, none, lt)) ∙ ap truth e

-- the last number of a list, and those before it
module _ (xs rest : List ℤ) (last : ℤ) (is : IsLastAndRest xs last rest) where
  pub number_before : (k : ℕ) → k < length rest → number_at rest k ≡ number_at xs k
  number_before k lt =
      sym (ap (λ (ys : List ℤ). number_at ys k) is.0 ∙ get_or_append_left rest (last ∷ []) (pos 0) k lt)

  pub number_last : number_at xs (length rest) ≡ last
  number_last =
      let none : length rest - length rest ≡ 0 = omega arith in
      ap (λ (ys : List ℤ). number_at ys (length rest)) is.0
      ∙ (get_or-append_right rest (last ∷ []) (length rest) (length rest) (pos 0) refl (omega arith)
      ∙ ap (λ (n : ℕ). get_or (last ∷ []) n (pos 0)) none)
