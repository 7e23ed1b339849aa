-- The bits that are moved down.
use Rattle.std.proofs.Common.{ap, ◌∙◌, ◌+◌, ◌%◌, ◌^◌, ◌/◌}
use Rattle.std.proofs.lemmas.Nat.{shr-shr}
use Rattle.std.proofs.Math.Nat.{add_comm}
use Rattle.walk_keys.proofs.Truths.{same_bit}
use Rattle.walk_keys.proofs.bits.down.Goals as goal

pub returns : goal.returns
returns c j =
    same_bit _ c.args.word j (j + c.args.by) (ap (λ x. x % 2) (shr-shr c.args.word c.args.by j)
    ∙ ap (λ k. c.args.word / 2 ^ k % 2) (add_comm c.args.by j))
