-- Each place has the word of the run there.
use Rattle.std.proofs.Common.{◌∙◌, arith}
use Rattle.walk_marks.proofs.skips_by_threads.words_by_threads.Goals as goal

pub returns : goal.returns
returns g c = record {
  one_each = c.in_ok-words.ensures.one_each ∙ c.len.ensures;
  each = λ i lt. (c.in_ok-words.ensures.values i 0 (omega (arith, lt, c.len.ensures))).is;
}
