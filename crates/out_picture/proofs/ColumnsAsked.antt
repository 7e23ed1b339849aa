-- The columns that are shown are those that are asked for.
use Rattle.std.proofs.Common.{◌≡◌, ℕ, ◌+◌, ◌-◌, ◌<◌, ◌≤◌, min, max, Bool, true, false, ◌&&◌, nat_le, nat_lt, refl, sym, ap, arith}
use Rattle.std.proofs.lemmas.Bool.{le-leb, leb-true, lt-ltb, ltb-true}
use Rattle.out_picture.specs.Layout.{is_shown, window_of}
use Rattle.out_picture.specs.Shown.{is_asked}
use Rattle.out_picture.specs.declared.extent.Extent.{Extent}
use Rattle.out_picture.specs.declared.extent.Extent.TheVariants.{Around, From, All}

same_truth : (a b : Bool) → (a ≡ true → b ≡ true) → (b ≡ true → a ≡ true) → a ≡ b
same_truth true b there back = sym (there refl)
same_truth false true there back = back refl
same_truth false false there back = refl

-- below the end of a range, or up to its last number
up_to : (column end last : ℕ) → end ≡ last + 1 → nat_lt column end ≡ nat_le column last
up_to column end last is =
    same_truth (nat_lt column end) (nat_le column last)
    (λ h. let less : column < end = ltb-true column end h in le-leb column last (omega arith))
    (λ h. let least : column ≤ last = leb-true column last h in lt-ltb column end (omega arith))

each_column : (extent : Extent) (widest focus room column : ℕ)
    → is_shown (window_of extent widest focus room) column ≡ is_asked extent widest focus column
each_column All widest focus room column =
    ap (λ b. nat_le 1 column && b) (up_to column (1 + min widest 65535) (min widest 65535) (omega arith))
each_column (From first) widest focus room column =
    ap (λ b. nat_le (max 1 (min first widest)) column && b)
    (up_to column (max 1 (min first widest) + min (widest - (max 1 (min first widest) - 1)) 24)
    (min widest (max 1 (min first widest) + 23)) (omega arith))
each_column Around widest focus room column =
    ap (λ b. nat_le (min widest (max (focus + 8) 24) - 24 + 1) column && b)
    (up_to column (min widest (max (focus + 8) 24) - 24 + 1 + min (min widest (max (focus + 8) 24)) 24)
    (min widest (max (focus + 8) 24)) (omega arith))

pub columns_asked : (extent : Extent) (widest focus room : ℕ)
    → is_shown (window_of extent widest focus room) ≡ is_asked extent widest focus
columns_asked extent widest focus room = λ i column. each_column extent widest focus room column i
