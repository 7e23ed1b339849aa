-- One comparison more was asked.
use Rattle.std.proofs.Common.{◌≡◌, ◌∙◌, ℕ, ◌+◌, ◌-◌, length, get_or, ap, sym, false, rules}
use Rattle.walk_keys.specs.Words.{has_bit}
use Rattle.walk_tables.specs.Zero.{joined}
use Rattle.walk_tables.specs.Tables.{linear_holds}
use Rattle.walk_tables.specs.declared.linear.Linear.{Linear}
use Rattle.walk_tables.specs.Choices.{choices_hold}
use Rattle.walk_tables.proofs.Chains.{all_decided, asked_next, joined_decided, joined_same}
use Rattle.walk_tables.proofs.series.Series.mask.Goals as goal

pub loop-i-preserved : goal.loop-i-preserved
loop-i-preserved c =
    let parts = c.args.self.now.parts.items in
    let count : c.len-count.result ≡ length parts = search rules in
    let part = c.index-part.result.now in
    let is : part ≡ get_or parts (c.len-count.result - 1 - c.loop-i.i) part = search rules in
    record {
      within = λ j lt.
          asked_next c.args.self.now.is_and (λ (l : Linear). linear_holds l c.args.prefix.now (c.args.x + j)
          (c.args.y - j)) parts
          c.loop-i.i c.len-count.result part (has_bit c.mask.result j) (has_bit c.loop-i.found j)
          (has_bit c.joined_words-found.result j) count c.loop-i-test.true is (c.mask.ensures.within j lt)
          (c.loop-i.invariant.within j lt) (c.joined_words-found.ensures j);
      beyond = λ j le.
          c.joined_words-found.ensures j
          ∙ (λ k. joined c.args.self.now.is_and (c.mask.ensures.beyond j le k) (c.loop-i.invariant.beyond j le k))
          ∙ joined_same c.args.self.now.is_and false;
    }

pub returns-then-found-decided-clause-within : goal.returns-then-found-decided-clause-within
returns-then-found-decided-clause-within c j lt =
    let parts = c.args.self.now.parts.items in
    let count : c.len-count.result ≡ length parts = search rules in
    let part = c.index-part.result.now in
    let is : part ≡ get_or parts (c.len-count.result - 1 - c.loop-i.i) part = search rules in
    let bit = c.all_or_none-decided.ensures.within j lt in
    bit ∙ sym (ap (joined c.args.self.now.is_and (choices_hold c.args.self.now.is_and c.args.self.now.choices.items
    c.args.prefix.now (c.args.x + j) (c.args.y - j))) (all_decided c.args.self.now.is_and (λ (l : Linear).
    linear_holds l c.args.prefix.now (c.args.x + j) (c.args.y - j)) parts
    (length parts - (c.loop-i.i + 1))
    (sym (asked_next c.args.self.now.is_and (λ (l : Linear). linear_holds l c.args.prefix.now (c.args.x + j)
    (c.args.y - j)) parts
    c.loop-i.i c.len-count.result part (has_bit c.mask.result j) (has_bit c.loop-i.found j)
    (has_bit c.joined_words-found.result j) count c.loop-i-test.true is (c.mask.ensures.within j lt)
    (c.loop-i.invariant.within j lt) (c.joined_words-found.ensures j))
    ∙ ap (λ (word : ℕ). has_bit word j) c.if-found-decided.true
    ∙ bit))
    ∙ joined_decided c.args.self.now.is_and (choices_hold c.args.self.now.is_and c.args.self.now.choices.items
    c.args.prefix.now (c.args.x + j) (c.args.y - j)))
