-- One step more is looked at for a row.
use Rattle.std.proofs.Common.{◌≡◌, ◌≢◌, ℕ, zero, suc, ◌+◌, ◌<◌, ◌≤◌, List, [], ◌∷◌, ◌++◌, length, get_or, refl, sym, ap, ◌∙◌, subst, ◌⊎◌, inl, inr, arith}
use Rattle.std.specs.Global.{Global}
use Rattle.std.specs.Prelude.{Vec}
use Rattle.std.proofs.lemmas.Bool.{cases_eq, cases_lt}
use Rattle.std.proofs.lemmas.List.{get_or_push, get_or_append_left, length_push}
use Rattle.wide_flow.specs.declared.step.Step.{Step}
use Rattle.wide_flow.specs.Steps.{AreSteps, step_at}
use Rattle.wide_flow.specs.Rows.{IsPayer, IsRowUpTo, row_of}
use Rattle.wide_flow.proofs.Lists.{push_each}

pub row_none : (steps : List Step) (p : ℕ) → IsRowUpTo steps 0 p []
row_none steps p = record {
  each = λ k lt. absurd (omega (arith, lt));
  low = λ k lt. absurd (omega (arith, lt));
  all = λ s lt is. absurd (omega (arith, lt));
  counted = λ i j less lt. absurd (omega (arith, lt));
}

pub row_skip : (steps : List Step) (i p : ℕ) (row : List ℕ) → IsRowUpTo steps i p row → (IsPayer steps p i → ⊥)
    → IsRowUpTo steps (i + 1) p row
row_skip steps i p row are none = record {
  each = are.each;
  low = λ k lt. let l : get_or row k 0 < i = are.low k lt in omega (arith, l);
  all = λ s lt is.
      elim (cases_eq s i) [
        | inl same ↦ absurd (none (subst (λ (n : ℕ). IsPayer steps p n) same is))
        | inr other ↦ are.all s (omega (arith, lt, other)) is
      ];
  counted = are.counted;
}

pub row_more : (processes : ℕ) (steps : List Step) (i p : ℕ) (row : List ℕ) → AreSteps processes steps
    → IsRowUpTo steps i p row → IsPayer steps p i → IsRowUpTo steps (i + 1) p (row ++ i ∷ [])
row_more processes steps i p row all are new = record {
  each = push_each (IsPayer steps p) row i 0 are.each new;
  low =
      push_each (λ (s : ℕ). s < i + 1) row i 0
      (λ k lt. let l : get_or row k 0 < i = are.low k lt in omega (arith, l)) (omega arith);
  all = λ s lt is.
      elim (cases_eq s i) [
        | inl same ↦ (length row, omega (arith, length_push row i), get_or_push row i 0 (length row) refl ∙ sym same)
        | inr other ↦ old s (are.all s (omega (arith, lt, other)) is)
      ];
  counted = counted;
}
  where
    old : (s : ℕ) → ((k : ℕ) × (k < length row) × (get_or row k 0 ≡ s))
        → (k : ℕ) × (k < length (row ++ i ∷ [])) × (get_or (row ++ i ∷ []) k 0 ≡ s)
    old s (k, lt, is) = (k, omega (arith, lt, length_push row i), get_or_append_left row (i ∷ []) 0 k lt ∙ is)

    counted : (a b : ℕ) → a < b → b < length (row ++ i ∷ [])
        → (step_at steps (get_or (row ++ i ∷ []) a 0)).count ≤ (step_at steps (get_or (row ++ i ∷ []) b 0)).count
    counted a b less lt = go (cases_lt b (length row))
      where
        low_a : a < length row
        low_a = omega (arith, less, lt, length_push row i)

        at_a : get_or (row ++ i ∷ []) a 0 ≡ get_or row a 0
        at_a = get_or_append_left row (i ∷ []) 0 a low_a

        go : (b < length row) ⊎ (length row ≤ b)
            → (step_at steps (get_or (row ++ i ∷ []) a 0)).count ≤ (step_at steps (get_or (row ++ i ∷ []) b 0)).count
        go (inl low) =
            subst (λ (s : ℕ × ℕ). (step_at steps s.0).count ≤ (step_at steps s.1).count)
            (λ k. (sym at_a k, sym (get_or_append_left row (i ∷ []) 0 b low) k)) (are.counted a b less low)
        go (inr high) =
            let at_b : get_or (row ++ i ∷ []) b 0 ≡ i =
            get_or_push row i 0 b (omega (arith, high, lt, length_push row i)) in
            let is : IsPayer steps p (get_or row a 0) = are.each a low_a in
            subst (λ (s : ℕ × ℕ). (step_at steps s.0).count ≤ (step_at steps s.1).count)
            (λ k. (sym at_a k, sym at_b k))
            (all.counted (get_or row a 0) i (are.low a low_a) new.there (is.own ∙ sym new.own) is.negative new.negative)

-- the counts of a row ascend
pub row_up : (steps : List Step) (n p : ℕ) (row : List ℕ) → IsRowUpTo steps n p row → (i j : ℕ) → i ≤ j
    → j < length row → (step_at steps (get_or row i 0)).count ≤ (step_at steps (get_or row j 0)).count
row_up steps n p row are i j le lt = go (cases_eq i j)
  where
    go : (i ≡ j) ⊎ (i ≢ j) → (step_at steps (get_or row i 0)).count ≤ (step_at steps (get_or row j 0)).count
    go (inl same) =
        let e : (step_at steps (get_or row i 0)).count ≡ (step_at steps (get_or row j 0)).count =
        ap (λ (n : ℕ). (step_at steps (get_or row n 0)).count) same in
        omega (arith, e)
    go (inr other) = are.counted i j (omega (arith, le, other)) lt

-- the row of a process by its place
pub row_is : (rows : List (Vec ℕ Global)) (p : ℕ) (d : Vec ℕ Global) → p < length rows
    → row_of rows p ≡ (get_or rows p d).items
row_is [] p d lt = absurd (omega (arith, lt))
row_is (row ∷ rows) zero d lt = refl
row_is (row ∷ rows) (suc p) d lt = row_is rows p d (omega (arith, lt))
