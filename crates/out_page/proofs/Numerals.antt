-- Numbers in decimal digits hold no `<`.
use Rattle.std.proofs.Common.{◌≡◌, ℕ, zero, suc, ◌/◌, ◌%◌, Bool, true, false, List, [], ◌∷◌, refl, arith}
use Rattle.std.specs.Prelude.{ℤ, pos, negsuc, ◌==◌, not, if◌then◌else◌, decimal}
use Rattle.std.specs.Fmt.{digits, digits_onto, digit_glyph, signed_decimal}
use Rattle.std.proofs.lemmas.Bool.Decides.{nat_tests}
use Rattle.out_page.specs.JsonTexts.{lacks_less}

digit_lacks : (n : ℕ) → not (digit_glyph false (n % 10) == 60) ≡ true
digit_lacks n = grind (arith, nat_tests)

digits_lack : (k n : ℕ) (following : List ℕ) → lacks_less following ≡ true
    → lacks_less (digits_onto k 10 false n following) ≡ true
digits_lack zero n following h = h
digits_lack (suc k) n following h =
    go (n / 10 == 0) (digits_lack k (n / 10) (digit_glyph false (n % 10) ∷ following) more)
  where
    more : lacks_less (digit_glyph false (n % 10) ∷ following) ≡ true
    more = rw (digit_lacks n) h

    go : (is_last : Bool)
        → lacks_less (digits_onto k 10 false (n / 10) (digit_glyph false (n % 10) ∷ following)) ≡ true
        → lacks_less (if is_last then digit_glyph false (n % 10) ∷ following else
        digits_onto k 10 false (n / 10) (digit_glyph false (n % 10) ∷ following)) ≡ true
    go true further = more
    go false further = further

pub decimal_lacks : (n : ℕ) → lacks_less (decimal n) ≡ true
unfolding digits
decimal_lacks n = digits_lack 64 n [] refl

pub signed_lacks : (n : ℤ) → lacks_less (signed_decimal n) ≡ true
signed_lacks (pos n) = decimal_lacks n
signed_lacks (negsuc n) = decimal_lacks (suc n)
