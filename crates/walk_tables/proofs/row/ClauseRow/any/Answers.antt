-- The bits of all words.
use Rattle.std.proofs.Common.{◌≡◌, ℕ, List, true, length, get_or, subst, arith}
use Rattle.walk_keys.specs.Words.{has_bit}
use Rattle.walk_tables.proofs.Conjunctions.{rows_at}
use Rattle.walk_tables.proofs.row.ClauseRow.any.Goals as goal

pub returns : goal.returns
returns c n j =
    let items = c.deref-word-items.result.now in
    let beyond = c.args.self.now.beyond in
    subst (λ (ws : List ℕ). has_bit (get_or ws n beyond) j ≡ true → has_bit c.loop-word.all j ≡ true)
    c.deref-word-items.ensures.value
    (rows_at (λ k a b. has_bit b j ≡ true → has_bit c.loop-word.all j ≡ true) items items beyond beyond
    (λ i. length items) (λ k lt. c.loop-word.invariant.done k j (omega (arith, lt)))
    (λ k le. c.loop-word.invariant.beyond j) n)
