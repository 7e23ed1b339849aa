-- What the loop of `is_lex_below` keeps.
use Rattle.std.proofs.Common.{◌≡◌, ℕ, ◌<◌, get_or}
use Rattle.wide_conjunctions.proofs.order.is_lex_below.Given as goal

abbrev pub invariant-loop-p : goal.invariant-loop-p
invariant-loop-p l = (k : ℕ) → k < l.p → get_or l.a k 0 ≡ get_or l.b k 0
