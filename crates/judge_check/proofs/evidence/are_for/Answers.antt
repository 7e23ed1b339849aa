-- A name that differs, and names that are the same so far.
use Rattle.std.proofs.Common.{◌≡◌, ◌<◌, false, true, length, ap, refl, sym, ◌∙◌, arith}
use Rattle.std.specs.Prelude.{string_bytes}
use Rattle.pd_report.specs.declared.answer.Answer.{Answer}
use Rattle.pd_spec.specs.declared.named.NamedPred.{NamedPred}
use Rattle.judge_check.proofs.Zips.{maps_push, same_at}
use Rattle.judge_check.proofs.evidence.are_for.Goals as goal

pub returns-then-not-is_for : goal.returns-then-not-is_for
returns-then-not-is_for c = (
  λ (no' : false ≡ true). absurd (cc),
  λ same.
      let at = same_at (λ (answer : Answer). string_bytes answer.name) (λ (predicate : NamedPred).
      string_bytes predicate.name) c.args.answers.now c.args.asked.now c.loop-i.i c.index-answers-i.result
      c.index-asked-i.result same c.loop-i-test.true in
      c.if-not-is_for.ensures.1
      (ap (λ (answer : Answer). string_bytes answer.name) c.index-answers-i.is
      ∙ (at.1 ∙ ap (λ (predicate : NamedPred). string_bytes predicate.name) (sym c.index-asked-i.is))),
)

pub loop-i-preserved : goal.loop-i-preserved
loop-i-preserved c =
    let in_asked : c.loop-i.i < length c.args.asked.now = omega (arith, c.loop-i-test.true, c.if-asked-answers.false) in
    maps_push (λ (answer : Answer). string_bytes answer.name) (λ (predicate : NamedPred). string_bytes predicate.name)
    c.args.answers.now c.args.asked.now c.loop-i.i c.index-answers-i.result c.index-asked-i.result
    c.loop-i-test.true in_asked c.index-answers-i.is c.index-asked-i.is c.loop-i.invariant
    (c.if-not-is_for.ensures.0 refl)
