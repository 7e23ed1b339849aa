-- Each word that is added is that of the next cuts of the run.
use Rattle.std.proofs.Common.{◌≡◌, ◌+◌, ◌-◌, ◌*◌, ◌≤◌, ◌↔◌, ℕ, IsTrue, length, ◌++◌, ◌∷◌, [], subst, ap, ◌∙◌, arith}
use Rattle.std.proofs.lemmas.List.{length-append}
use Rattle.walk_keys.specs.Words.{has_bit}
use Rattle.walk_marks.specs.RunPlaces.{run_at}
use Rattle.walk_runs.specs.WholeLevels.{AvoidsAt}
use Rattle.walk_marks.specs.Marks.{bit_from}
use Rattle.walk_marks.proofs.PushedWords.{run_some, pushed_just, pushed_beyond, kept_pushed}
use Rattle.walk_marks.proofs.mark.push_run.Goals as goal

pub overflow_sub-b-end : goal.overflow_sub-b-end
overflow_sub-b-end g c =
    let some : (run_at c.args.level.now.runs c.args.i).lo ≤ (run_at c.args.level.now.runs c.args.i).hi =
    run_some (g.T.RunTest.events c.args.test.now) c.args.level.now c.requires.level c.args.i c.requires.within in
    omega (arith, c.lo-lo.ensures, c.hi-hi.ensures)

pub block-n-requires : goal.block-n-requires
block-n-requires g c =
    let some : (run_at c.args.level.now.runs c.args.i).lo ≤ (run_at c.args.level.now.runs c.args.i).hi =
    run_some (g.T.RunTest.events c.args.test.now) c.args.level.now c.requires.level c.args.i c.requires.within in
    omega (arith, c.lo-lo.ensures, c.hi-hi.ensures)

pub loop-b-preserved : goal.loop-b-preserved
loop-b-preserved g c =
    let some : (run_at c.args.level.now.runs c.args.i).lo ≤ (run_at c.args.level.now.runs c.args.i).hi =
    run_some (g.T.RunTest.events c.args.test.now) c.args.level.now c.requires.level c.args.i c.requires.within in
    let is : c.push.new.self.items ≡ c.loop-b.all.items ++ c.avoiding.result ∷ [] =
    c.in_ok-push.ensures.items in
    record {
      more = ap length is ∙ (length-append c.loop-b.all.items (c.avoiding.result ∷ [])
          ∙ omega (arith, c.loop-b.invariant.more));
      others = λ k lt. kept_pushed c.loop-b.all.items c.push.new.self.items c.args.all.now.items c.avoiding.result k is
          lt (omega (arith, c.loop-b.invariant.more)) (c.loop-b.invariant.others k lt);
      just = pushed_just (λ d. AvoidsAt (g.T.RunTest.events c.args.test.now) (g.T.RunTest.test c.args.test.now)
          c.args.level.now.number (run_at c.args.level.now.runs c.args.i).prefix (c.lo-lo.result + d))
          c.loop-b.all.items c.push.new.self.items c.avoiding.result (length c.args.all.now.items) c.loop-b.b
          c.block-n.result (c.hi-hi.result - c.lo-lo.result) is c.loop-b.invariant.more
          (λ j lt. let e : c.lo-lo.result + c.loop-b.b * 64 + j ≡ c.lo-lo.result + (64 * c.loop-b.b + j) =
          omega arith in
          subst (λ (x : ℕ). IsTrue (has_bit c.avoiding.result j) ↔ AvoidsAt (g.T.RunTest.events c.args.test.now)
          (g.T.RunTest.test c.args.test.now) c.args.level.now.number
          (run_at c.args.level.now.runs c.args.i).prefix x) e (c.avoiding.ensures.bits j lt))
          c.block-n.ensures.few
          (λ lt. let w : c.lo-lo.result + c.loop-b.b * 64 + c.block-n.result ≡ c.hi-hi.result + 1 =
          c.block-n.ensures.whole lt in
          omega arith)
          c.loop-b.invariant.just;
      beyond = pushed_beyond c.loop-b.all.items c.push.new.self.items c.avoiding.result (length c.args.all.now.items)
          c.loop-b.b c.block-n.result (c.hi-hi.result - c.lo-lo.result) is c.loop-b.invariant.more
          c.avoiding.ensures.beyond (omega (arith, c.block-n.ensures.high)) c.loop-b.invariant.beyond;
    }

pub returns-clause-words : goal.returns-clause-words
returns-clause-words g c = record {
  just = λ d le. subst (λ (x : ℕ). IsTrue (bit_from c.loop-b.all.items (length c.args.all.now.items) d)
      ↔ AvoidsAt (g.T.RunTest.events c.args.test.now) (g.T.RunTest.test c.args.test.now) c.args.level.now.number
      (run_at c.args.level.now.runs c.args.i).prefix (x + d)) c.lo-lo.ensures
      (c.loop-b.invariant.just d (omega (arith, c.lo-lo.ensures, c.hi-hi.ensures))
      (omega (arith, c.lo-lo.ensures, c.hi-hi.ensures)));
  beyond = λ d lt in_. c.loop-b.invariant.beyond d (omega (arith, c.lo-lo.ensures, c.hi-hi.ensures))
      (omega (arith, c.lo-lo.ensures, c.hi-hi.ensures));
}
