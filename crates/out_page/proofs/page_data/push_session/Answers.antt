-- The processes and the initial values, part by part.
use Rattle.std.proofs.Common.{◌∙◌, ◌++◌, List, ap, ℤ}
use Rattle.std.specs.Prelude.{codes}
use Rattle.def_format.specs.Names.{ProcessNames}
use Rattle.out_page.specs.EventData.{process_text, value_text}
use Rattle.out_page.specs.JsonTexts.{array, listed}
use Rattle.out_page.specs.Written.{session_text}
use Rattle.out_page.proofs.Parts.{five_parts}
use Rattle.pd_spec.specs.Views.{document_view}
use Rattle.out_page.proofs.page_data.push_session.Goals as goal

pub returns : goal.returns
unfolding session_text
returns c =
    let document = document_view c.args.spec.now in
    five_parts c.args.out.now.items c.push_bytes.new.out.items c.push_processes.new.out.items
    c.push_bytes-2.new.out.items c.push_rows.new.out.items c.push_bytes-3.new.out.items
    (codes ",\n\"processes\":[") (listed process_text document.names) (codes "],\n\"initial\":[")
    (listed (array value_text) document.initial) (codes "]") c.in_ok-push_bytes.ensures.ok
    (c.in_ok-push_processes.ensures
    ∙ ap (λ (names : List ProcessNames). c.push_bytes.new.out.items ++ listed process_text names) c.names.ensures)
    c.in_ok-push_bytes-2.ensures.ok
    (c.in_ok-push_rows.ensures
    ∙ ap (λ (rows : List (List ℤ)). c.push_bytes-2.new.out.items ++ listed (array value_text) rows)
    c.initial_rows.ensures)
    c.in_ok-push_bytes-3.ensures.ok
