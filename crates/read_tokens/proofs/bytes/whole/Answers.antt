-- The number that the digits at the start write.
use Rattle.std.proofs.Common.{◌∙◌, arith, get_or, refl, sym}
use Rattle.std.proofs.lemmas.List.Folds.{list_all_more}
use Rattle.std.proofs.lemmas.Int.Digits.{digits_value_more}
use Rattle.std.specs.Char.{is_ascii_digit}
use Rattle.read_tokens.proofs.Digits.{digit_small, digit_worth}
use Rattle.read_tokens.proofs.bytes.whole.Goals as goal

pub digits-preserved : goal.digits-preserved
digits-preserved c =
    let l = c.digits.invariant in
    let bytes = c.args.bytes.now in
    let digit = sym c.is_ascii_digit.ensures.value ∙ c.if-is_ascii_digit.true in
    let worth = digit_worth (get_or bytes c.digits.count 0) digit in record {
      within = omega (arith, c.if-count-bytes.true);
      are = list_all_more is_ascii_digit bytes c.digits.count 0 c.if-count-bytes.true ∙ rw (l.are, digit) refl;
      value_is =
          rw l.value_is (sym (digits_value_more 10 bytes c.digits.count c.if-count-bytes.true
          ∙ rw worth refl));
      fits = omega (arith, c.digits-test.true, digit_small (get_or bytes c.digits.count 0) digit);
    }
