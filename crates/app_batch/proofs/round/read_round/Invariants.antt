-- What the loop keeps: the entries of the round so far, one for each turn.
use Rattle.std.proofs.Common.{◌≡◌, List, length, ℕ}
use Rattle.def_judgement.specs.Writes.{Source}
use Rattle.app_batch.specs.Entries.{HasEntries}
use Rattle.app_batch.proofs.Rounds.{HasRound}
use Rattle.app_batch.proofs.round.read_round.Given as goal

abbrev pub invariant-lines : goal.invariant-lines
invariant-lines g l = record {
  counted : length l.round.items ≡ l._place;
  has : (input : Source) (before : List (List ℕ)) → HasEntries l.in_bundles input before l.fn.lines
      → HasRound l.in_bundles l.round.items input before l.lines;
}
