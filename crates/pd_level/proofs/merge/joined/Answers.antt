-- One list after the other, or both merged.
use Rattle.std.proofs.Common.{subst, sym}
use Rattle.walk_keys.specs.Keys.{Ascending}
use Rattle.pd_level.proofs.Merges.{ascending_append, both_just}
use Rattle.pd_level.proofs.merge.joined.Goals as goal

pub returns-then-is_below-clause-ascending : goal.returns-then-is_below-clause-ascending
returns-then-is_below-clause-ascending g c =
    subst Ascending (sym c.in_ok-extend.ensures) (ascending_append c.args.left c.args.right.now
    c.requires.left c.requires.right (c.is_below.ensures c.if-is_below.true))

pub returns-then-is_below-clause-just : goal.returns-then-is_below-clause-just
returns-then-is_below-clause-just g c =
    both_just c.args.left c.args.right.now c.extend.new.self c.in_ok-extend.ensures
