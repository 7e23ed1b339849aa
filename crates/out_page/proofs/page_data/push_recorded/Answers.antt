-- The field, part by part.
use Rattle.std.specs.Prelude.{codes}
use Rattle.out_page.specs.JsonTexts.{listed}
use Rattle.out_page.specs.Written.{sources_text}
use Rattle.out_page.specs.SourceData.{source_text}
use Rattle.out_page.specs.Views.{sources_view}
use Rattle.out_page.proofs.Parts.{three_parts}
use Rattle.out_page.proofs.page_data.push_recorded.Goals as goal

pub returns : goal.returns
unfolding sources_text
returns c =
    three_parts c.args.out.now.items c.push_bytes.new.out.items c.push_sources.new.out.items
    c.push_bytes-2.new.out.items (codes ",\n\"sources\":[") (listed source_text (sources_view c.args.sources.now))
    (codes "]") c.in_ok-push_bytes.ensures.ok c.in_ok-push_sources.ensures c.in_ok-push_bytes-2.ensures.ok
