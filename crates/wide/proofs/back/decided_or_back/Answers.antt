-- What is decided is final.
use Rattle.std.proofs.Common.{subst}
use Rattle.std.specs.Prelude.{Option}
use Rattle.pd_pred.specs.Views.{predicate_view}
use Rattle.walk_back.specs.declared.definitely_answer.DefinitelyAnswer.{DefinitelyAnswer}
use Rattle.wide.specs.Found.{FindsDefinitely}
use Rattle.wide.proofs.SearchedBack.{decided_is_final}
use Rattle.wide.proofs.back.decided_or_back.Goals as goal

pub returns-in-Some : goal.returns-in-Some
returns-in-Some c =
    let r = c.args.computation.now in
    let predicate = predicate_view c.args.pred.now in
    decided_is_final r predicate c.args.width c.in-Some.answer
    (subst (λ (decided : Option DefinitelyAnswer). FindsDefinitely r predicate decided) c.in-Some.is c.requires)

pub gate_or_back-requires : goal.gate_or_back-requires
gate_or_back-requires c =
    let r = c.args.computation.now in
    let predicate = predicate_view c.args.pred.now in
    subst (λ (decided : Option DefinitelyAnswer). FindsDefinitely r predicate decided) c.in-None.is c.requires
