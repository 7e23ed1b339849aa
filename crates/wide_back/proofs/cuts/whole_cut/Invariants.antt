-- What the loop of `whole_cut` keeps.
use Rattle.std.proofs.Common.{◌≡◌, ◌<◌, ℕ, get_or, length}
use Rattle.def_format.specs.Limits.{process_limit}
use Rattle.def_model.specs.Events.{event_count}
use Rattle.wide_back.proofs.cuts.whole_cut.Given as goal

abbrev pub invariant-loop-p : goal.invariant-loop-p
invariant-loop-p l = record {
  many : length l.counts ≡ process_limit;
  so_far : (q : ℕ) → q < l.p → get_or l.counts q 0 ≡ event_count l.computation.events q;
}
