-- The sum over the processes, one after another.
use Rattle.std.proofs.Common.{◌≡◌, ℕ, zero, suc, ◌+◌, ◌*◌, ◌<◌, ◌≤◌, List, [], ◌∷◌, drop, length, get_or, ℤ, ◌+ℤ◌, to_z, of_z, refl, sym, ap, ◌∙◌, subst, arith}
use Rattle.std.specs.Global.{Global}
use Rattle.std.specs.Int.{w128}
use Rattle.std.specs.Int.RustNames.{FitsSigned, unsigned_abs}
use Rattle.std.specs.Prelude.{Vec}
use Rattle.std.proofs.lemmas.Int.{fits_signed_from_abs, ints, to_z-of_z}
use Rattle.std.proofs.lemmas.List.{drop_more}
use Rattle.wide_slice.specs.Values.{number_at, sum_at, value_limit, value_of}
use Rattle.wide_reach.specs.Sums.{AreSmall}

value_is : (values : List (Vec ℤ Global)) (p count : ℕ) (d : Vec ℤ Global) → p < length values
    → value_of values p count ≡ number_at (get_or values p d).items count
value_is [] p count d lt = absurd (omega arith)
value_is (row ∷ rows) zero count d lt = refl
value_is (row ∷ rows) (suc p) count d lt = value_is rows p count d (omega arith)

-- a number of a row is small
pub number_small : (values : List (Vec ℤ Global)) (p count : ℕ) (row : Vec ℤ Global) → AreSmall values
    → p < length values → row ≡ get_or values p row → unsigned_abs (number_at row.items count) ≤ value_limit
number_small values p count row are lt is =
    subst (λ (z : ℤ). unsigned_abs z ≤ value_limit)
    (value_is values p count row lt ∙ ap (λ (v : Vec ℤ Global). number_at v.items count) (sym is)) (are.small p count)

-- what the processes from this one on add
pub sum_drop : (values : List (Vec ℤ Global)) (counts : List ℕ) (p : ℕ) (row : Vec ℤ Global) → p < length values
    → length values ≡ length counts → row ≡ get_or values p row
    → sum_at (drop p values) (drop p counts)
    ≡ number_at row.items (get_or counts p 0) +ℤ sum_at (drop (p + 1) values) (drop (p + 1) counts)
sum_drop values counts p row lt same is =
    ap (λ (xs : List (Vec ℤ Global)). sum_at xs (drop p counts)) (drop_more values p row lt)
    ∙ ap (λ (xs : List ℕ). sum_at (get_or values p row ∷ drop (p + 1) values) xs)
    (drop_more counts p 0 (omega arith))
    ∙ ap (λ (v : Vec ℤ Global). number_at v.items (get_or counts p 0)
    +ℤ sum_at (drop (p + 1) values) (drop (p + 1) counts)) (sym is)

-- a number more of the sum, which stays small
pub sum_small : (sum number : ℤ) (p : ℕ) → unsigned_abs sum ≤ p * value_limit → unsigned_abs number ≤ value_limit
    → unsigned_abs (sum +ℤ number) ≤ (p + 1) * value_limit
sum_small sum number p low small = omega (arith, ints)

pub fits_sum : (z : ℤ) (p : ℕ) → unsigned_abs z ≤ (p + 1) * value_limit → p < 16 → FitsSigned w128 z
fits_sum z p small few = fits_signed_from_abs w128 z (omega arith)

-- as it is read
pub sum_read : (sum number : ℤ) (p : ℕ) → unsigned_abs sum ≤ p * value_limit → unsigned_abs number ≤ value_limit
    → p < 16
    → FitsSigned w128 (sum +ℤ to_z w128 (of_z w128 number))
    × (to_z w128 (of_z w128 (sum +ℤ to_z w128 (of_z w128 number))) ≡ sum +ℤ number)
sum_read sum number p low small few =
    let fits : FitsSigned w128 number = fits_sum number 0 (omega arith) (omega arith) in
    let whole : FitsSigned w128 (sum +ℤ number) =
    fits_sum (sum +ℤ number) p (sum_small sum number p low small) few in
    let is : sum +ℤ to_z w128 (of_z w128 number) ≡ sum +ℤ number =
    ap (λ (z : ℤ). sum +ℤ z) (to_z-of_z w128 number fits) in (
      subst (λ (z : ℤ). FitsSigned w128 z) (sym is) whole,
      ap (λ (z : ℤ). to_z w128 (of_z w128 z)) is ∙ to_z-of_z w128 (sum +ℤ number) whole,
    )

-- the number is added to the sum
pub sum_more : (new old number rest more whole : ℤ) → new ≡ old +ℤ number → rest ≡ number +ℤ more
    → old +ℤ rest ≡ whole → new +ℤ more ≡ whole
sum_more new old number rest more whole a b d = omega (arith, ints)
