-- What the loops of `first_misplaced` keep.
use Rattle.std.proofs.Common.{◌≤◌, take}
use Rattle.pd_pred.specs.Placement.{IsSoundPlace, position_view}
use Rattle.pd_pred.specs.States.{open_parens, parser_state_view}
use Rattle.pd_pred.specs.Tokens.{lexed_view}
use Rattle.pd_pred.proofs.placement.first_misplaced.Given as goal

abbrev pub invariant-loop-placed : goal.invariant-loop-placed
invariant-loop-placed l = record {
  sound : IsSoundPlace l.names (position_view l.place) (lexed_view (take l.placed-index l.tokens));
  few : open_parens (parser_state_view l.place.state) ≤ l.placed-index;
}
