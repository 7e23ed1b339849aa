-- One bit set.
use Rattle.std.proofs.Common.{w16}
use Rattle.std.proofs.lemmas.Nat.Bits.{bit_at_set_same, bit_at_set_other}
use Rattle.walk_keys.proofs.Truths.{is_set, same_bit}
use Rattle.walk_runs.proofs.steps.with_receiver.Goals as goal

pub returns-clause-set : goal.returns-clause-set
returns-clause-set c = is_set _ c.args.p (bit_at_set_same w16 c.args.word c.args.p c.requires)

pub returns-clause-others : goal.returns-clause-others
returns-clause-others c j apart =
    same_bit _ c.args.word j j (bit_at_set_other w16 c.args.word c.args.p c.requires j apart)
