-- The lowest bit of those that are left.
use Rattle.std.proofs.Common.{◌≡◌, ◌≤◌, ◌+◌, ◌-◌, ℕ, true, ap, sym, ◌∙◌, arith}
use Rattle.walk_keys.specs.Words.{has_bit}
use Rattle.walk_runs.proofs.birth.next_bit.Goals as goal

-- a bit of the word is one of those moved down
moved : (word rest from j : ℕ) → ((i : ℕ) → has_bit rest i ≡ has_bit word (i + from)) → from ≤ j
    → has_bit word j ≡ has_bit rest (j - from)
moved word rest from j down le =
    let at : j ≡ j - from + from = omega arith in
    ap (has_bit word) at ∙ sym (down (j - from))

pub returns-then-rest-eq0-clause-none : goal.returns-then-rest-eq0-clause-none
returns-then-rest-eq0-clause-none c j le =
    moved c.args.word c.down-rest.result c.args.from j c.down-rest.ensures le
    ∙ c.words.ensures.none.0 c.if-rest-eq0.true (j - c.args.from)

pub returns-clause-some : goal.returns-clause-some
returns-clause-some c =
    let l = c.least.result in
    let back : c.args.from + l - c.args.from ≡ l = omega arith in
    let set : has_bit c.args.word (c.args.from + l) ≡ true =
    moved c.args.word c.down-rest.result c.args.from (c.args.from + l) c.down-rest.ensures (omega arith)
    ∙ ap (has_bit c.down-rest.result) back ∙ c.least.ensures.set in (
      omega arith,
      set,
      λ j le lt. moved c.args.word c.down-rest.result c.args.from j c.down-rest.ensures le
          ∙ c.least.ensures.least (j - c.args.from) (omega arith),
    )
