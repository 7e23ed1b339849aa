-- One bit set.
use Rattle.std.proofs.Common.{w64}
use Rattle.std.proofs.lemmas.Nat.Bits.{bit_at_set_same, bit_at_set_other}
use Rattle.walk_keys.proofs.Truths.{is_set, same_bit}
use Rattle.walk_keys.proofs.bits.with.Goals as goal

pub returns-clause-set : goal.returns-clause-set
returns-clause-set c = is_set _ c.args.j (bit_at_set_same w64 c.args.word c.args.j c.requires)

pub returns-clause-others : goal.returns-clause-others
returns-clause-others c i apart =
    same_bit _ c.args.word i i (bit_at_set_other w64 c.args.word c.args.j c.requires i apart)
