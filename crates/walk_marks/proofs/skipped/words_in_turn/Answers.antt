-- The word of one run more.
use Rattle.std.proofs.Common.{◌≡◌, ◌+◌, ℕ, length, length-append, ◌∷◌, [], ap, ◌∙◌, arith}
use Rattle.walk_marks.specs.RunPlaces.{run_at}
use Rattle.walk_marks.specs.SkippedRuns.{IsWordOf}
use Rattle.walk_marks.proofs.SkippedWords.{each_pushed}
use Rattle.walk_marks.proofs.skipped.words_in_turn.Goals as goal

pub loop-i-preserved : goal.loop-i-preserved
loop-i-preserved g c = record {
  row = c.word_after.auto.counts ∙ c.loop-i.invariant.row;
  one_each =
      ap length c.in_ok-push.ensures.items
      ∙ (length-append c.loop-i.words.items (c.word_after.result ∷ [])
      ∙ ap (λ (n : ℕ). n + 1) c.loop-i.invariant.one_each);
  each = each_pushed (λ k word. IsWordOf c.args.tests.now (run_at c.args.level.now.runs k).prefix word)
      c.loop-i.words.items c.push.new.self.items c.word_after.result c.loop-i.i c.in_ok-push.ensures.items
      c.loop-i.invariant.one_each c.loop-i.invariant.each c.word_after.ensures;
}

pub returns : goal.returns
returns g c =
    let end : c.loop-i.i ≡ length c.args.level.now.runs =
    omega (arith, c.loop-i-test.false, c.loop-i.auto.i-end, c.len-i-end.ensures) in
    record {
      one_each = c.loop-i.invariant.one_each ∙ end;
      each = λ k lt. c.loop-i.invariant.each k (omega (arith, end));
    }
