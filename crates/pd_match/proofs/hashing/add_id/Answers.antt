-- The sum with an id.
use Rattle.std.proofs.Common.{◌*◌, ◌/◌, lt-ltb, le-ltb}
use Rattle.pd_match.specs.IdHash.{id_sum}
use Rattle.pd_match.proofs.hashing.add_id.Goals as goal

pub returns-then-count-end : goal.returns-then-count-end
unfolding id_sum
returns-then-count-end c =
    let end = c.min-end.result in
    rw (
      ← c.min-end.ensures,
      lt-ltb (4 * (end / 4)) end c.if-count-end.true,
      c.add_term.ensures,
      c.tail.ensures,
      c.add_words-sum.ensures,
      c.add_term-sum.ensures,
    )

pub returns : goal.returns
unfolding id_sum
returns c =
    let end = c.min-end.result in
    rw (
      ← c.min-end.ensures,
      le-ltb (4 * (end / 4)) end c.if-count-end.false,
      c.add_words-sum.ensures,
      c.add_term-sum.ensures,
    )
