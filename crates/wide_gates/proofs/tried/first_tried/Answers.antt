-- The ends at all spots and the cuts on the way back are all that are tried.
use Rattle.std.proofs.Common.{List, length, subst}
use Rattle.pd_pred.specs.Views.{predicate_view}
use Rattle.wide_gates.specs.Ends.{IsEndIn}
use Rattle.wide_gates.specs.Seen.{IsFirstSeen}
use Rattle.wide_gates.specs.declared.spot.Spot.{Spot}
use Rattle.wide_gates.proofs.TriedCuts.{tried_seen}
use Rattle.wide_gates.proofs.tried.first_tried.Goals as goal

pub returns : goal.returns
returns c =
    let r = c.args.computation.now in
    let predicate = predicate_view c.args.pred.now in
    tried_seen r predicate c.in_ok-spots.spots.items c.in_ok-spots.ensures c.in_ok-best.best c.in_ok-found.found
    (subst (λ (spots : List Spot). IsFirstSeen r predicate (IsEndIn r.events spots (length spots)) c.in_ok-best.best)
    c.deref.ensures.value c.in_ok-best.ensures)
    c.in_ok-found.ensures
