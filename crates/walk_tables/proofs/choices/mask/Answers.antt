-- One choice more was asked.
use Rattle.std.proofs.Common.{refl, ◌≡◌, ◌∙◌, ℕ, ◌+◌, ◌-◌, length, get_or, ap, sym, false, rules}
use Rattle.walk_keys.specs.Words.{has_bit}
use Rattle.walk_tables.specs.Zero.{joined}
use Rattle.walk_tables.specs.Choices.{choice_holds}
use Rattle.walk_tables.specs.declared.choice.Choice.{Choice}
use Rattle.walk_tables.proofs.Chains.{all_decided, asked_next, joined_same}
use Rattle.walk_tables.proofs.choices.mask.Goals as goal

pub loop-i-preserved : goal.loop-i-preserved
loop-i-preserved c =
    let parts = c.args.choices.now in
    let part = c.index-choices-count.result in
    let is : part ≡ get_or parts (length parts - 1 - c.loop-i.i) part = search rules in
    record {
      within = λ j lt.
          asked_next c.args.is_and (λ (l : Choice). choice_holds l c.args.prefix.now (c.args.x + j) (c.args.y - j))
          parts
          c.loop-i.i (length parts) part (has_bit c.mask.result j) (has_bit c.loop-i.found j)
          (has_bit c.joined_words-found.result j) refl c.loop-i-test.true is (c.mask.ensures.within j lt)
          (c.loop-i.invariant.within j lt) (c.joined_words-found.ensures j);
      beyond = λ j le.
          c.joined_words-found.ensures j
          ∙ (λ k. joined c.args.is_and (c.mask.ensures.beyond j le k) (c.loop-i.invariant.beyond j le k))
          ∙ joined_same c.args.is_and false;
    }

pub returns-then-found-decided-clause-within : goal.returns-then-found-decided-clause-within
returns-then-found-decided-clause-within c j lt =
    let parts = c.args.choices.now in
    let part = c.index-choices-count.result in
    let is : part ≡ get_or parts (length parts - 1 - c.loop-i.i) part = search rules in
    let bit = c.all_or_none-decided.ensures.within j lt in
    bit ∙ sym (all_decided c.args.is_and (λ (l : Choice). choice_holds l c.args.prefix.now (c.args.x + j) (c.args.y -
    j)) parts
    (length parts - (c.loop-i.i + 1))
    (sym (asked_next c.args.is_and (λ (l : Choice). choice_holds l c.args.prefix.now (c.args.x + j) (c.args.y - j))
    parts
    c.loop-i.i (length parts) part (has_bit c.mask.result j) (has_bit c.loop-i.found j)
    (has_bit c.joined_words-found.result j) refl c.loop-i-test.true is (c.mask.ensures.within j lt)
    (c.loop-i.invariant.within j lt) (c.joined_words-found.ensures j))
    ∙ ap (λ (word : ℕ). has_bit word j) c.if-found-decided.true
    ∙ bit))
