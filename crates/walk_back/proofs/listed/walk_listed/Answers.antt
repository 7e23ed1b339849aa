-- The walk by lists.
use Rattle.std.proofs.Common.{◌≡◌, ℕ, ◌+◌, ◌≤◌, List, length, ap, sym, ◌∙◌, subst, arith}
use Rattle.walk_back.specs.Ways.{last_number}
use Rattle.pd_level.specs.Levels.{Levelled}
use Rattle.walk_back.specs.Listed.{IsAt}
use Rattle.walk_back.specs.Questions.{IsSplitTo, question_events, question_test}
use Rattle.walk_back.proofs.Going.{at_last, last_at, level_at}
use Rattle.walk_back.proofs.listed.walk_listed.Goals as goal

pub loop-k-init : goal.loop-k-init
loop-k-init g c =
    let number : c.number-k.result ≡ last_number c.args.split.held.walked.items =
    c.number-k.ensures ∙ (level_at (question_events c.args.question.now) (question_test c.args.question.now)
    (last_number c.args.split.held.walked.items) c.args.split.held.walked.items c.at.result.now c.requires.at
    c.at.ensures).1 in
    record {
      within = omega (arith, number, c.requires.within);
      at = subst (λ (n : ℕ). IsAt (question_events c.args.question.now) (question_test c.args.question.now) n
          c.args.split.held.walked.items) (sym number) c.requires.at;
      split = subst (λ (n : ℕ). IsSplitTo c.args.question.now (n + 1) c.args.split) (sym number) c.requires.split;
      two = λ some. c.requires.held.two (omega (arith, number));
      no_fewer = omega arith;
    }

pub settle_listed-requires-clause-at : goal.settle_listed-requires-clause-at
settle_listed-requires-clause-at g c _ _ =
    at_last (question_events c.args.question.now) (question_test c.args.question.now) (c.loop-k.k + 1)
    c.in_ok-up.up.held.walked.items c.in_ok-up.ensures.at

pub settle_listed-requires-clause-within : goal.settle_listed-requires-clause-within
settle_listed-requires-clause-within g c _ _ =
    omega (
      arith,
      c.loop-k-test.true,
      c.total-total.ensures.sum,
      last_at (question_events c.args.question.now) (question_test c.args.question.now) (c.loop-k.k + 1)
          c.in_ok-up.up.held.walked.items c.in_ok-up.ensures.at,
    )

pub settle_listed-requires-clause-split : goal.settle_listed-requires-clause-split
settle_listed-requires-clause-split g c _ _ =
    subst (λ (k : ℕ). IsSplitTo c.args.question.now k c.in_ok-up.up)
    (sym (last_at (question_events c.args.question.now) (question_test c.args.question.now) (c.loop-k.k + 1)
    c.in_ok-up.up.held.walked.items c.in_ok-up.ensures.at)) c.in_ok-up.ensures.split

pub settle_listed-requires-clause-held : goal.settle_listed-requires-clause-held
settle_listed-requires-clause-held g c _ _ = record {
  some = omega (arith, c.in_ok-up.ensures.two);
  two = λ _. c.in_ok-up.ensures.two;
}

pub loop-k-preserved : goal.loop-k-preserved
loop-k-preserved g c =
    let same : c.in-Ok.on.held.walked.items ≡ c.in_ok-up.up.held.walked.items =
    rw c.in-Ok.is at c.in_ok-settled.ensures.walked in
    record {
      within = omega (arith, c.loop-k-test.true, c.total-total.ensures.sum);
      at = subst (λ (levels : List Levelled). IsAt (question_events c.args.question.now)
          (question_test c.args.question.now) (c.loop-k.k + 1) levels) (sym same) c.in_ok-up.ensures.at;
      split = subst (λ (k : ℕ). IsSplitTo c.args.question.now (k + 1) c.in-Ok.on)
          (last_at (question_events c.args.question.now) (question_test c.args.question.now) (c.loop-k.k + 1)
          c.in_ok-up.up.held.walked.items c.in_ok-up.ensures.at) (rw c.in-Ok.is at c.in_ok-settled.ensures.on);
      two = λ _.
          let more : c.in_ok-up.up.held.most ≤ c.in-Ok.on.held.most = rw c.in-Ok.is at c.in_ok-settled.ensures.held in
          omega (arith, c.in_ok-up.ensures.two);
      no_fewer =
          let more : c.in_ok-up.up.held.most ≤ c.in-Ok.on.held.most = rw c.in-Ok.is at c.in_ok-settled.ensures.held in
          omega (arith, c.in_ok-up.ensures.no_fewer, c.loop-k.invariant.no_fewer);
    }

pub answer_no-requires-clause-split : goal.answer_no-requires-clause-split
answer_no-requires-clause-split g c _ _ =
    subst (λ (k : ℕ). IsSplitTo c.args.question.now (k + 1) c.loop-k.split)
    (omega (arith, c.loop-k-test.false, c.total-total.ensures.sum, c.loop-k.invariant.within)) c.loop-k.invariant.split

pub answer_no-requires-clause-held : goal.answer_no-requires-clause-held
answer_no-requires-clause-held g c _ _ = record {
  some = omega (arith, ap length c.loop-k.invariant.at.1, c.loop-k.split.held.enough);
  two = λ some.
      c.loop-k.invariant.two (omega (arith, c.loop-k-test.false, c.total-total.ensures.sum, c.loop-k.invariant.within));
}

pub answer_no-requires-clause-one : goal.answer_no-requires-clause-one
answer_no-requires-clause-one g c _ _ = omega (arith, ap length c.loop-k.invariant.at.1)
