-- The last of the first numbers is below the first of the last ones.
use Rattle.std.proofs.Common.{ℕ, ◌-◌, ◌<◌, length, get_or, ap, arith}
use Rattle.pd_level.proofs.Merges.{below_all}
use Rattle.pd_level.proofs.merge.is_below.Goals as goal

pub returns : goal.returns
returns g c = λ less x y.
    let lt = c.is_below.ensures.0 less in
    let below : get_or c.args.left.now (length c.args.left.now - 1) 0 < get_or c.args.right.now 0 0 =
    omega (
      arith,
      lt,
      c.get.ensures,
      c.get-2.ensures,
      ap (λ (n : ℕ). get_or c.args.left.now (n - 1) 0) c.len-2.ensures,
    ) in
    below_all c.args.left.now c.args.right.now x y c.requires.left c.requires.right below
