-- One more answer is put to the text after each turn.
use Rattle.std.proofs.Common.{List, arith, subst}
use Rattle.std.specs.Prelude.{Result}
use Rattle.std.proofs.lemmas.List.{take_all}
use Rattle.judge_session.specs.declared.fault.EngineFault.{EngineFault}
use Rattle.app_batch.specs.declared.answer.Answer.{Answer}
use Rattle.app_batch.proofs.Rounds.{HasText, more_text, no_text}
use Rattle.app_batch.proofs.round.round_text.Goals as goal

pub loop-result-init : goal.loop-result-init
loop-result-init c = rw c.new-text.ensures.items (no_text c.args.found)

pub loop-result-preserved : goal.loop-result-preserved
loop-result-preserved c =
    more_text c.args.results.now c.loop-result.result-index c.in-Ok.answer c.args.found c.loop-result.all
    c.with-all.result c.loop-result.text.items c.push_bytes.new.out.items c.deref.result.now (omega arith)
    c.result-item.result c.result-item.is c.in-Ok.is c.loop-result.invariant c.deref.ensures.value
    c.in_ok-push_bytes-in-Ok.ensures.ok c.with-all.ensures

pub returns-clause-text : goal.returns-clause-text
returns-clause-text c =
    let has = subst (λ (results : List (Result Answer EngineFault)).
    HasText results c.args.found c.loop-result.text.items c.loop-result.all)
    (take_all c.loop-result.result-index c.args.results.now (omega arith)) c.loop-result.invariant in
    (has.due, has.are_made, has.is_text, has.is_found)
