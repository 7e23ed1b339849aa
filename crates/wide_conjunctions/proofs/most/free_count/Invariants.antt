-- What the loop of `free_count` keeps.
use Rattle.std.proofs.Common.{ℕ, ◌≤◌}
use Rattle.def_model.specs.Events.{place}
use Rattle.wide_conjunctions.specs.Firsts.{IsFree}
use Rattle.wide_conjunctions.proofs.most.free_count.Given as goal

abbrev pub invariant-loop-n : goal.invariant-loop-n
invariant-loop-n l = (m : ℕ) → 1 ≤ m → m ≤ l.n → IsFree l.computation.events l.firsts (place l.p m)
