-- What the loop of `set_run` keeps: the counts so far are true, and the others as they were.
use Rattle.std.proofs.Common.{◌≡◌, ◌-◌, ◌<◌, ◌≤◌, ◌⊎◌, ℕ, length, true}
use Rattle.wide_terms.specs.Truths.{truth_at}
use Rattle.wide_terms.proofs.truths.set_run.Given as goal

abbrev pub invariant-loop-at : goal.invariant-loop-at
invariant-loop-at l = record {
  order : l.from ≤ l.at;
  within : l.at ≤ l.to;
  same : length l.words ≡ length l.initial.words;
  inside : (k : ℕ) → l.from ≤ k → k < l.at → truth_at l.words k ≡ true;
  outside : (k : ℕ) → (k < l.from) ⊎ (l.at ≤ k) → truth_at l.words k ≡ truth_at l.initial.words k;
}

abbrev pub decreases-loop-at : goal.decreases-loop-at
decreases-loop-at l = l.to - l.at
