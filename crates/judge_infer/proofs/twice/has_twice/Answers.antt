-- Whether some text is among these twice.
use Rattle.std.proofs.Common.{sym, ap, ◌∙◌}
use Rattle.std.proofs.lemmas.List.{take_all}
use Rattle.def_format.specs.Documents.{has_twice}
use Rattle.pd_spec.proofs.TwiceLemmas.{texts_of, same_more, once_more, twice_here}
use Rattle.judge_infer.proofs.twice.has_twice.Goals as goal

pub loop-text-preserved : goal.loop-text-preserved
loop-text-preserved c =
    record {
      same = same_more c.args.texts.now c.loop-text.text-index _ c.loop-text.seen.keys c.insert.new.self.keys
          c.loop-text-test.true c.loop-text.invariant.same c.in_ok-insert.ensures.keys;
      once =
          once_more c.args.texts.now c.loop-text.text-index _ c.loop-text.seen.keys c.loop-text-test.true
          c.loop-text.invariant.same c.loop-text.invariant.once (sym c.if-not-branch.false
          ∙ c.in_ok-insert.ensures.added);
    }

pub returns-then-not-branch : goal.returns-then-not-branch
returns-then-not-branch c =
    sym (twice_here c.args.texts.now c.loop-text.text-index _ c.loop-text.seen.keys c.loop-text-test.true
    c.loop-text.invariant.same (sym c.if-not-branch.true ∙ c.in_ok-insert.ensures.added))

pub returns : goal.returns
returns c =
    sym (ap (λ texts. has_twice (texts_of texts))
    (sym (take_all c.loop-text.text-index c.args.texts.now c.loop-text-test.false)) ∙ c.loop-text.invariant.once)
