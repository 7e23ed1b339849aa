-- The predicates and what is shown of the report, part by part.
use Rattle.std.proofs.Common.{◌∙◌, ◌++◌, List, ap}
use Rattle.std.specs.Prelude.{codes}
use Rattle.def_format.specs.Documents.{NamedPredicate}
use Rattle.def_format.specs.Names.{ProcessNames}
use Rattle.out_page.specs.AnswerData.{outcome_text}
use Rattle.out_page.specs.JsonTexts.{listed}
use Rattle.out_page.specs.Written.{named_text, report_text}
use Rattle.out_page.specs.Views.{outcome_view}
use Rattle.out_page.proofs.Parts.{four_parts}
use Rattle.pd_spec.specs.Views.{document_view}
use Rattle.out_page.proofs.page_data.push_report.Goals as goal

pub returns : goal.returns
unfolding report_text
returns c =
    let document = document_view c.args.spec.now in
    let outcome = outcome_view c.args.outcome in
    four_parts c.args.out.now.items c.push_bytes.new.out.items c.push_predicates.new.out.items
    c.push_bytes-2.new.out.items c.push_outcome.new.out.items
    (codes ",\n\"predicates\":[") (listed named_text document.predicates) (codes "],\n")
    (outcome_text document.names outcome) c.in_ok-push_bytes.ensures.ok
    (c.in_ok-push_predicates.ensures
    ∙ ap (λ (predicates : List NamedPredicate). c.push_bytes.new.out.items ++ listed named_text predicates)
    c.predicates.ensures)
    c.in_ok-push_bytes-2.ensures.ok
    (c.in_ok-push_outcome.ensures
    ∙ ap (λ (names : List ProcessNames). c.push_bytes-2.new.out.items ++ outcome_text names outcome)
    c.names.ensures)
