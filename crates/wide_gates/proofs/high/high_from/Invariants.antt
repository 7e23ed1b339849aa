-- The event happened before none of those up to here.
use Rattle.pd_match.specs.Views.{place_view}
use Rattle.wide_gates.specs.Highs.{HasNoneAfter}
use Rattle.wide_gates.proofs.high.high_from.Given as goal

abbrev pub invariant-loop-high : goal.invariant-loop-high
invariant-loop-high l = HasNoneAfter l.computation.events (place_view l.place) l.q l.high
