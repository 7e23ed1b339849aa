-- Whole numbers between others.
use Rattle.std.proofs.Common.{◌≡◌, ◌≤◌, ◌<◌, ◌*◌, ◌-◌, ◌^◌, arith, ap, ◌∙◌, ℤ, pos, ◌+ℤ◌, ◌*ℤ◌, to_z, of_z, w64}
use Rattle.std.specs.Int.{w128}
use mir.Val.{SFits}
use Rattle.std.specs.Int.RustNames.{unsigned_abs}
use Rattle.std.proofs.Math.Nat.{mul-le-mul}
use Rattle.std.proofs.lemmas.Int.{ints, to_z-of_z, unsigned_abs-mul, fits_signed_from_abs}
use Rattle.walk_tables.specs.Zero.{IsBetween, IsSmall}

-- what stands between two small numbers is small
pub small_between : (least greatest value : ℤ) → IsSmall least → IsSmall greatest → IsBetween least greatest value
    → IsSmall value
small_between least greatest value low high between = omega (arith, ints, between.0, between.1)

pub product_small : (f v : ℤ) → unsigned_abs f < 2 ^ 32 → unsigned_abs v ≤ 2 ^ 63 → unsigned_abs (f *ℤ v) < 2 ^ 95
product_small f v small fits =
    let most : unsigned_abs f * unsigned_abs v ≤ (2 ^ 32 - 1) * 2 ^ 63 =
    mul-le-mul {n₂ = 2 ^ 32 - 1} {m₂ = 2 ^ 63} (omega arith) fits in
    rw (unsigned_abs-mul f v) (omega (arith, most))

pub fits_wide : (z : ℤ) → unsigned_abs z < 2 ^ 95 → SFits w128 z
fits_wide z small = fits_signed_from_abs w128 z (omega arith)

pub abs_of_fits : (z : ℤ) → SFits w64 z → unsigned_abs z ≤ 2 ^ 63
abs_of_fits z fits = omega (arith, ints, fits)

-- a product of wide numbers, as it is read
pub product_read : (f b v : ℤ) → SFits w128 f → b ≡ to_z w64 (of_z w64 v) → SFits w64 v → unsigned_abs f < 2 ^ 32
    → to_z w128 (of_z w128 (to_z w128 (of_z w128 f) *ℤ to_z w128 (of_z w128 b))) ≡ f *ℤ v
product_read f b v wide is fits small =
    let same : b ≡ v = is ∙ to_z-of_z w64 v fits in
    let value : unsigned_abs v ≤ 2 ^ 63 = abs_of_fits v fits in
    let narrow : SFits w128 v = fits_wide v (omega arith) in
    let product : SFits w128 (f *ℤ v) = fits_wide (f *ℤ v) (product_small f v small value) in
    ap (λ (a : ℤ). to_z w128 (of_z w128 (a *ℤ to_z w128 (of_z w128 b)))) (to_z-of_z w128 f wide)
    ∙ ap (λ (a : ℤ). to_z w128 (of_z w128 (f *ℤ to_z w128 (of_z w128 a)))) same
    ∙ ap (λ (a : ℤ). to_z w128 (of_z w128 (f *ℤ a))) (to_z-of_z w128 v narrow)
    ∙ to_z-of_z w128 (f *ℤ v) product

-- one part more is added
pub part_added : (new old f part rest whole total : ℤ) → new ≡ old +ℤ f → part ≡ f → whole ≡ part +ℤ rest
    → old +ℤ whole ≡ total → new +ℤ rest ≡ total
part_added new old f part rest whole total a b d e = omega (arith, ints)

-- a part that is 0 is left out
pub part_left_out : (new old part rest whole total : ℤ) → new ≡ old → part ≡ pos 0 → whole ≡ part +ℤ rest
    → old +ℤ whole ≡ total → new +ℤ rest ≡ total
part_left_out new old part rest whole total a b d e = omega (arith, ints)
