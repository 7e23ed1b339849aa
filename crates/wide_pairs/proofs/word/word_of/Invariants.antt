-- What the loop of `word_of` keeps: the rest is the first of the numbers, and the bits are those of the later ones.
use Rattle.std.proofs.Common.{◌≡◌, ℕ, ◌+◌, ◌<◌, ◌≤◌, length}
use Rattle.walk_keys.specs.Words.{has_bit}
use Rattle.def_model.specs.Predicates.{compares}
use Rattle.pd_pred.specs.Trees.{comparison_view}
use Rattle.wide_pairs.specs.Parts.{number_at}
use Rattle.wide_pairs.proofs.word.word_of.Given as goal

abbrev pub invariant-loop-last : goal.invariant-loop-last
invariant-loop-last l = record {
  within : length l.rest ≤ length l.numbers;
  rest : (k : ℕ) → k < length l.rest → number_at l.rest k ≡ number_at l.numbers k;
  bits : (d : ℕ) → length l.rest + d < length l.numbers → has_bit l.word d
      ≡ compares (comparison_view l.comparison) (number_at l.numbers (length l.rest + d)) l.number;
}

abbrev pub decreases-loop-last : goal.decreases-loop-last
decreases-loop-last l = length l.rest
