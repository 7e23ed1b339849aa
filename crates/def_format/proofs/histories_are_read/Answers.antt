-- The test of legal histories is exact, and rows are read off the steps.
use Rattle.def_format.proofs.HistoryFacts.{runs_are_decided, legal_is_decided, rows_are_read, events_never_fall}
use Rattle.def_format.proofs.histories_are_read.Goals as goal

pub returns : goal.returns
returns c = record {
  runs = runs_are_decided;
  legal = legal_is_decided;
  rows = rows_are_read;
  events =
      events_never_fall;
}
