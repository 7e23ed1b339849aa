-- The first place at which the counts differ decides.
use Rattle.std.proofs.Common.{◌<◌, ◌↔◌, ℕ, get_or, arith}
use Rattle.std.proofs.lemmas.Bool.{ltb-true, lt-ltb}
use Rattle.def_model.specs.Answers.{LexBelow}
use Rattle.wide_conjunctions.proofs.CutsInOrder.{lex_at, lex_nowhere}
use Rattle.wide_conjunctions.proofs.order.is_lex_below.Goals as goal

pub returns-then-a-p : goal.returns-then-a-p
returns-then-a-p c =
    let a : ℕ = get_or c.args.a.now c.loop-p.p 0 in
    let b : ℕ = get_or c.args.b.now c.loop-p.p 0 in
    let decides : (a < b) ↔ LexBelow c.args.a.now c.args.b.now =
    lex_at c.args.a.now c.args.b.now c.loop-p.p c.requires (omega (arith, c.loop-p-test.true)) c.loop-p.invariant
    (λ e. absurd (omega (arith, e, c.if-a-p.true))) in
    (λ h. decides.0 (ltb-true a b h), λ h. lt-ltb a b (decides.1 h))

pub returns : goal.returns
returns c = (
  λ h. absurd (cc),
  λ h. absurd (lex_nowhere c.args.a.now c.args.b.now c.requires (λ k lt.
      c.loop-p.invariant k (omega (arith, c.loop-p-test.false))) h),
)
