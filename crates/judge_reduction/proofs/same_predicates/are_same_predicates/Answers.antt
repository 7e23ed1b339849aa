-- One predicate more.
use Rattle.std.proofs.Common.{refl, rules}
use Rattle.def_orders.specs.Selections.{numbers_in}
use Rattle.def_recordings.specs.Reductions.{IsSamePredicate}
use Rattle.pd_spec.specs.Named.{named_view}
use Rattle.judge_reduction.proofs.Prefixes.{one_pair}
use Rattle.judge_reduction.proofs.same_predicates.are_same_predicates.Goals as goal

pub loop-i-preserved : goal.loop-i-preserved
loop-i-preserved c =
    one_pair (IsSamePredicate (numbers_in c.args.places.now c.args.count)) named_view named_view c.loop-i.i
    c.args.second.now c.args.first.now c.index-second-i.result c.index-first-i.result (search rules) (search rules)
    c.index-second-i.is c.index-first-i.is c.loop-i.invariant (c.if-not-is_same_named.ensures refl)
