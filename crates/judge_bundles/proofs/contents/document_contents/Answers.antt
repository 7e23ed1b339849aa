-- The name that isn't there, or that each is, is looked up in the document.
use Rattle.std.proofs.Common.{◌≡◌, List, None, Some, ap, sym, ◌∙◌}
use Rattle.std.proofs.lemmas.Result.{IfOk-weaker}
use Rattle.def_format.specs.Documents.{NamedPredicate}
use Rattle.judge_runs.specs.Views.{name_view, wishes_view}
use Rattle.judge_runs.specs.Wishes.{first_unnamed, names_of}
use Rattle.pd_spec.specs.Views.{document_view}
use Rattle.judge_bundles.proofs.contents.document_contents.Goals as goal

pub returns-in-Some-clause-contents : goal.returns-in-Some-clause-contents
returns-in-Some-clause-contents g c =
    let read = document_view c.args.spec in
    let wishes = wishes_view c.args.wishes.now in
    let lacks : first_unnamed (names_of read.predicates) wishes ≡ Some c.in-Some.name.now =
    sym (ap (λ (all : List NamedPredicate). first_unnamed (names_of all) wishes) c.predicates.ensures)
    ∙ (sym c.first_unnamed.ensures ∙ ap name_view c.in-Some.is) in
    IfOk-weaker c.unnamed_contents.result _ _
    (λ contents given input options is has.
    given input options wishes c.args.document.items read is lacks has)
    c.unnamed_contents.ensures.contents

pub returns-in-None-clause-contents : goal.returns-in-None-clause-contents
returns-in-None-clause-contents g c =
    let read = document_view c.args.spec in
    let wishes = wishes_view c.args.wishes.now in
    let named : first_unnamed (names_of read.predicates) wishes ≡ None =
    sym (ap (λ (all : List NamedPredicate). first_unnamed (names_of all) wishes) c.predicates.ensures)
    ∙ (sym c.first_unnamed.ensures ∙ ap name_view c.in-None.is) in
    IfOk-weaker c.session_contents.result _ _
    (λ contents given input options is has. given input options wishes is named has)
    c.session_contents.ensures.contents
