-- The lowest bit that is set.
use Rattle.std.proofs.Common.{w64, ap, ◌∙◌, ◌<◌, ℕ, subst}
use Rattle.std.specs.Int.{bit_at}
use Rattle.std.proofs.lemmas.Nat.Bits.{bit_at-trailing_zeros}
use Rattle.walk_keys.proofs.Truths.{is_set, is_unset}
use Rattle.walk_keys.proofs.bits.least.Goals as goal

pub returns-clause-set : goal.returns-clause-set
returns-clause-set c =
    is_set c.args.word c.from.result (ap (bit_at c.args.word) c.from.ensures
    ∙ (bit_at-trailing_zeros w64 c.args.word c.requires c.ranges.word.fits).1)

pub returns-clause-least : goal.returns-clause-least
returns-clause-least c j below =
    is_unset c.args.word j ((bit_at-trailing_zeros w64 c.args.word c.requires c.ranges.word.fits).2 j
    (subst (λ (t : ℕ). j < t) c.from.ensures below))
