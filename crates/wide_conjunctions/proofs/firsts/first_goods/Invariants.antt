-- What the loop of `first_goods` keeps.
use Rattle.std.proofs.Common.{◌≡◌, ℕ, ◌<◌, get_or, length}
use Rattle.def_model.specs.Events.{event_count}
use Rattle.wide_conjunctions.specs.Firsts.{IsFirstGood}
use Rattle.wide_conjunctions.proofs.firsts.first_goods.Given as goal

abbrev pub invariant-loop-p : goal.invariant-loop-p
invariant-loop-p g l = record {
  count : length l.firsts.items ≡ l.p;
  each : (q : ℕ) → q < l.p → IsFirstGood (g.G.GoodCounts.good l.wanted q) (event_count l.computation.events q)
      (get_or l.firsts.items q 0);
}
