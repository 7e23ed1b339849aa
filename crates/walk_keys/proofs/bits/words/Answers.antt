-- What holds of every word.
use Rattle.std.proofs.Common.{ℕ, ◌≡◌, false, subst, sym}
use Rattle.std.proofs.lemmas.Nat.Bits.{bit_at_above}
use Rattle.walk_keys.specs.Words.{has_bit}
use Rattle.walk_keys.proofs.Truths.{is_unset, none_is_zero, zero_has_none}
use Rattle.walk_keys.proofs.bits.words.Goals as goal

pub returns-clause-beyond : goal.returns-clause-beyond
returns-clause-beyond c j above =
    is_unset c.args.word j (bit_at_above c.args.word 64 j c.ranges.word.fits above)

pub returns-clause-none : goal.returns-clause-none
returns-clause-none c = (
  λ zero_word j. subst (λ (w : ℕ). has_bit w j ≡ false) (sym zero_word) (zero_has_none j),
  none_is_zero c.args.word,
)
