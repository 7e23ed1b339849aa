-- Where some cut satisfies, that is asked; and where none does, the path is that of each predicate.
use Rattle.std.proofs.Common.{subst}
use Rattle.std.specs.Prelude.{Option, Some}
use Rattle.wide.specs.Found.{FindsPossibly}
use Rattle.walk_back.specs.declared.possibly_answer.PossiblyAnswer.{PossiblyAnswer}
use Rattle.pd_pred.specs.Views.{predicate_view}
use Rattle.wide.proofs.Deciding.{is_possible, neither, no_after}
use Rattle.wide.proofs.both.definitely_after.Goals as goal

pub definitely_decided-requires : goal.definitely_decided-requires
definitely_decided-requires c =
    let r = c.args.computation.now in
    let predicate = predicate_view c.args.pred.now in
    is_possible r predicate c.in-Yes.field-0
    (subst (λ (answer : PossiblyAnswer). FindsPossibly r predicate (Some answer)) c.in-Yes.is
    (subst (λ (found : Option PossiblyAnswer). FindsPossibly r predicate found) c.in-Some.is c.requires.possibly))

pub returns-in_ok-copy-in-No-clause-definitely : goal.returns-in_ok-copy-in-No-clause-definitely
returns-in_ok-copy-in-No-clause-definitely c =
    let r = c.args.computation.now in
    let predicate = predicate_view c.args.pred.now in
    let found =
    subst (λ (answer : PossiblyAnswer). FindsPossibly r predicate (Some answer)) c.in-No.is
    (subst (λ (found : Option PossiblyAnswer). FindsPossibly r predicate found) c.in-Some.is c.requires.possibly) in
    no_after r predicate c.in_ok-copy-in-No.copy.items found.0 found.1 c.in_ok-copy-in-No.ensures.copied

pub returns-in_default-clause-definitely : goal.returns-in_default-clause-definitely
returns-in_default-clause-definitely c =
    let r = c.args.computation.now in
    let predicate = predicate_view c.args.pred.now in
    neither r predicate
    (subst (λ (found : Option PossiblyAnswer). FindsPossibly r predicate found) c.in_default.is c.requires.possibly)
