-- What the loops of `same_places` keep.
use Rattle.std.proofs.Common.{◌≡◌, map, take}
use Rattle.pd_report.specs.Views.{named_place_view}
use Rattle.pd_report.proofs.same.same_places.Given as goal

abbrev pub invariant-loop-i : goal.invariant-loop-i
invariant-loop-i l = map named_place_view (take l.i l.a) ≡ map named_place_view (take l.i l.b)
