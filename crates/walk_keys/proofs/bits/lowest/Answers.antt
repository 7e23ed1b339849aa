-- The lowest bits.
use Rattle.std.proofs.Common.{ap, ◌∙◌, ◌^◌, ◌-◌, arith}
use Rattle.std.proofs.lemmas.Nat.{one_shl}
use Rattle.std.proofs.lemmas.Nat.Bits.{bit_at_ones, bit_at_ones_above}
use Rattle.std.specs.Int.{bit_at}
use Rattle.walk_keys.proofs.Truths.{is_set, is_unset}
use Rattle.walk_keys.proofs.bits.lowest.Goals as goal

pub returns-then-n-eq-BITS-clause-within : goal.returns-then-n-eq-BITS-clause-within
returns-then-n-eq-BITS-clause-within c j within =
    is_set (2 ^ 64 - 1) j (bit_at_ones 64 j (omega (arith, c.if-n-eq-BITS.true)))

pub returns-then-n-eq-BITS-clause-beyond : goal.returns-then-n-eq-BITS-clause-beyond
returns-then-n-eq-BITS-clause-beyond c j beyond =
    is_unset (2 ^ 64 - 1) j (bit_at_ones_above 64 j (omega (arith, c.if-n-eq-BITS.true)))

pub returns-else-n-eq-BITS-clause-within : goal.returns-else-n-eq-BITS-clause-within
returns-else-n-eq-BITS-clause-within c j within =
    is_set _ j (ap (λ m. bit_at (m - 1) j) (one_shl c.args.n 64 (omega (arith, c.requires, c.if-n-eq-BITS.false)))
    ∙ bit_at_ones c.args.n j within)

pub returns-else-n-eq-BITS-clause-beyond : goal.returns-else-n-eq-BITS-clause-beyond
returns-else-n-eq-BITS-clause-beyond c j beyond =
    is_unset _ j (ap (λ m. bit_at (m - 1) j) (one_shl c.args.n 64 (omega (arith, c.requires, c.if-n-eq-BITS.false)))
    ∙ bit_at_ones_above c.args.n j beyond)
