-- The field, part by part.
use Rattle.std.specs.Prelude.{codes}
use Rattle.out_page.specs.AnswerData.{named_place_text}
use Rattle.out_page.specs.JsonTexts.{listed}
use Rattle.out_page.proofs.Parts.{three_parts}
use Rattle.pd_report.specs.Views.{named_places_view}
use Rattle.out_page.proofs.answer_data.push_cycle_field.Goals as goal

pub returns : goal.returns
returns c =
    three_parts c.args.out.now.items c.push_bytes.new.out.items c.push_named_places.new.out.items
    c.push_bytes-2.new.out.items
    (codes "\"cycle\":[") (listed (named_place_text c.args.names.now) (named_places_view c.args.places.now))
    (codes "]")
    c.in_ok-push_bytes.ensures.ok c.in_ok-push_named_places.ensures c.in_ok-push_bytes-2.ensures.ok
