-- Marks by place.
use Rattle.std.proofs.Common.{◌≡◌, ℕ, suc, ◌+◌, Bool, List, [], ◌∷◌, Some, length, map, refl, ap, ◌∙◌, subst, arith}
use Rattle.std.specs.Prelude.{IfSome, Option, slice_get}
use Rattle.std.specs.List.{AllZip, range_with_len}

marks_from : (test : List ℕ → Bool) (all : List (List ℕ)) (a : ℕ) (cuts : List (List ℕ)) (marks : List Bool)
    → ((i : ℕ) → slice_get all (a + i) ≡ slice_get cuts i)
    → AllZip (λ i mark. IfSome (slice_get all i) (λ cut. mark ≡ test cut)) (range_with_len a (length cuts)) marks
    → marks ≡ map test cuts
marks_from test all a [] [] at zip = refl
marks_from test all a [] (mark ∷ marks) at zip = absurd zip
marks_from test all a (x ∷ xs) [] at zip = absurd zip
marks_from test all a (x ∷ xs) (mark ∷ marks) at zip =
    let here : slice_get all a ≡ Some x = ap (slice_get all) (let e : a ≡ a + 0 = omega arith in e) ∙ at 0 in
    let first : mark ≡ test x =
    subst (λ (cut : Option (List ℕ)). IfSome cut (λ c. mark ≡ test c)) here zip.0 in
    let rest : marks ≡ map test xs =
    marks_from test all (a + 1) xs marks
    (λ i. ap (slice_get all) (let e : a + 1 + i ≡ a + suc i = omega arith in e) ∙ at (suc i)) zip.1 in
    λ i. first i ∷ rest i

-- a mark for each place, by the cut there
pub marks_are : (test : List ℕ → Bool) (cuts : List (List ℕ)) (places : List ℕ) (marks : List Bool)
    → places ≡ range_with_len 0 (length cuts)
    → AllZip (λ i mark. IfSome (slice_get cuts i) (λ cut. mark ≡ test cut)) places marks → marks ≡ map test cuts
marks_are test cuts places marks e zip =
    marks_from test cuts 0 cuts marks (λ i. ap (slice_get cuts) (let e : 0 + i ≡ i = omega arith in e))
    (subst (λ (l : List ℕ). AllZip (λ i mark. IfSome (slice_get cuts i) (λ cut. mark ≡ test cut)) l marks) e zip)
