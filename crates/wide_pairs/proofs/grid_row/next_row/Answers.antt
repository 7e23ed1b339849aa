-- One word more.
use Rattle.std.proofs.Common.{◌≡◌, ◌+◌, ◌-◌, ◌*◌, ◌/◌, ℕ, length, max, min, refl, ◌∙◌, subst, arith}
use Rattle.walk_keys.specs.Words.{has_bit}
use Rattle.wide_pairs.specs.Grids.{IsFilled, row_has}
use Rattle.wide_pairs.proofs.Filled.{left_more, word_above, word_more, words_more}
use Rattle.wide_pairs.proofs.grid_row.next_row.Goals as goal

pub loop-number-preserved : goal.loop-number-preserved
loop-number-preserved g c =
    let good = g.G.GoodPairs.good c.args.wanted.now c.args.i in
    let above = row_has c.args.above.now.first c.args.above.now.words.items in
    let first : ℕ = c.args.low / 64 in
    let number : ℕ = c.loop-number.number in
    let word : ℕ = c.filled_word-word.result in
    let old = c.loop-number.words.items in
    let new = c.push.new.self.items in
    let at : first + length old ≡ number = c.loop-number.invariant.at in
    let from : c.max.result ≡ max c.args.low (number * 64) = c.max.ensures in
    let to : c.min.result ≡ min c.args.end (number * 64 + 64) = c.min.ensures in
    let by_word : IsFilled (λ d. good (number * 64 + d)) (has_bit c.word.result) (has_bit word) c.loop-number.left
    (max c.args.low (number * 64) - number * 64) (min c.args.end (number * 64 + 64) - number * 64) =
    subst (λ (n : ℕ). IsFilled (λ d. good (number * 64 + d)) (has_bit c.word.result) (has_bit word) c.loop-number.left
    (n - number * 64) (min c.args.end (number * 64 + 64) - number * 64)) from
    (subst (λ (n : ℕ). IsFilled (λ d. good (number * 64 + d)) (has_bit c.word.result) (has_bit word)
    c.loop-number.left (c.max.result - number * 64) (n - number * 64)) to c.filled_word-word.ensures) in
    record {
      at = words_more first number word old new c.in_ok-push.ensures.items at;
      left = c.has-left.ensures
          ∙ left_more good above first number word old new c.args.start c.loop-number.left c.args.low c.args.end
          c.in_ok-push.ensures.items at refl c.word.result
          (word_above c.args.above.now.first c.args.above.now.words.items number c.word.result c.word.ensures)
          c.loop-number.invariant.left c.loop-number.invariant.filled by_word
          (omega (arith, c.loop-number.auto.number));
      filled = word_more good above first number word old new c.args.start c.loop-number.left c.args.low c.args.end
          c.in_ok-push.ensures.items at refl c.word.result
          (word_above c.args.above.now.first c.args.above.now.words.items number c.word.result c.word.ensures)
          c.loop-number.invariant.left c.loop-number.invariant.filled by_word;
    }
