-- Each predicate that a wish names is there, or there is none to look up.
use Rattle.std.proofs.Common.{◌≡◌, ◌∙◌, List, None, ap, map, not, sym, subst}
use Rattle.def_format.specs.Documents.{NamedPredicate}
use Rattle.app_host.proofs.NamedPredicates.{has_of_read, has_of_refused, none_found, refused_unless_memory, some_found}
use Rattle.judge_runs.specs.Views.{wishes_view}
use Rattle.judge_runs.specs.Wishes.{first_unnamed, names_of}
use Rattle.judge_session.specs.Inquiries.{inquiry_view}
use Rattle.pd_spec.specs.Views.{document_view}
use Rattle.app_explore.specs.Explorations.{named_by}
use Rattle.app_explore.proofs.WishedNames.{wished_names}
use Rattle.app_explore.proofs.wished.has_wished.Goals as goal

pub returns-in-Ok-clause-yes : goal.returns-in-Ok-clause-yes
returns-in-Ok-clause-yes c = λ yes.
    let wishes = wishes_view c.args.wishes.now in
    let names = names_of (document_view c.in-Ok.spec).predicates in
    has_of_read (map named_by wishes) (inquiry_view c.args.inquiry) (document_view c.in-Ok.spec)
    c.one_document.ensures.single c.in-Ok.ensures.ok
    (wished_names names wishes
    ∙ subst (λ (predicates : List NamedPredicate). first_unnamed (names_of predicates) wishes ≡ None)
    c.predicates.ensures
    (none_found c.first_unnamed.result _ c.first_unnamed.ensures (c.is_none.ensures ∙ ap not yes)))

pub returns-in-Ok-clause-no : goal.returns-in-Ok-clause-no
returns-in-Ok-clause-no c = λ no.
    let wishes = wishes_view c.args.wishes.now in
    let names = names_of (document_view c.in-Ok.spec).predicates in (
      document_view c.in-Ok.spec,
      c.in-Ok.ensures.ok,
      λ known. subst (λ (predicates : List NamedPredicate). first_unnamed (names_of predicates) wishes ≡ None → ⊥)
          c.predicates.ensures
          (some_found c.first_unnamed.result _ c.first_unnamed.ensures (c.is_none.ensures ∙ ap not no))
          (sym (wished_names names wishes) ∙ known),
    )

pub returns-else-is_out_of_memory-clause-yes : goal.returns-else-is_out_of_memory-clause-yes
returns-else-is_out_of_memory-clause-yes c = λ _.
    let inquiry = inquiry_view c.args.inquiry in
    let refused = refused_unless_memory inquiry c.in-Err.fault
    (sym c.is_out_of_memory.ensures ∙ c.if-is_out_of_memory.false) c.in-Err.ensures.err in
    has_of_refused (map named_by (wishes_view c.args.wishes.now)) inquiry refused.0 c.one_document.ensures.not_refused
    refused.1
