-- The bits so far are those of the last predicates that are asked.
use Rattle.std.proofs.Common.{◌+◌, ◌-◌, ◌^◌, ◌<◌, ℕ, IsTrue, get_or}
use Rattle.walk_keys.specs.Words.{has_bit}
use Rattle.walk_marks.specs.SkippedRuns.{HoldsNowhere}
use Rattle.walk_tables.specs.Views.{CompiledView}
use Rattle.walk_marks.proofs.asked.word_of.Given as goal

abbrev pub invariant-loop-k : goal.invariant-loop-k
invariant-loop-k l = record {
  small : l.word < 2 ^ l.k;
  set : (j : ℕ) (test : CompiledView) → IsTrue (has_bit l.word j)
      → HoldsNowhere (get_or l.tests (l.n - l.k + j) test) l.prefix;
}
