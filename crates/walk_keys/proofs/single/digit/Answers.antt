-- The count of process `p` among those of which a number is made.
use Rattle.std.proofs.Common.{sym, ◌∙◌}
use Rattle.walk_keys.proofs.PairNumbers.{place_digit}
use Rattle.walk_keys.proofs.single.digit.Goals as goal

pub returns : goal.returns
returns c =
    c.digit_before.ensures
    ∙ sym (place_digit c.args.processes c.args.key c.args.p c.requires.within c.requires.below)
