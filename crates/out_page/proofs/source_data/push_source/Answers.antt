-- Where the events of a process were recorded, part by part.
use Rattle.std.proofs.Common.{◌∙◌, ◌++◌, ℕ, List, ap}
use Rattle.std.specs.Prelude.{codes, decimal}
use Rattle.out_page.specs.JsonTexts.{listed, quoted}
use Rattle.out_page.specs.SourceData.{source_text}
use Rattle.out_page.proofs.Parts.{five_parts}
use Rattle.out_page.proofs.source_data.push_source.Goals as goal

pub returns : goal.returns
unfolding source_text
returns c =
    let source = c.args.source.now in
    five_parts c.args.out.now.items c.push_bytes.new.out.items c.push_quoted.new.out.items
    c.push_bytes-2.new.out.items c.push_counts.new.out.items c.push_bytes-3.new.out.items (codes "[")
    (quoted source.name.now) (codes ",[") (listed decimal source.lines.items) (codes "]]")
    c.in_ok-push_bytes.ensures.ok
    (c.in_ok-push_quoted.ensures
    ∙ ap (λ (text : List ℕ). c.push_bytes.new.out.items ++ quoted text) c.as_bytes.ensures.value)
    c.in_ok-push_bytes-2.ensures.ok
    (c.in_ok-push_counts.ensures
    ∙ ap (λ (lines : List ℕ). c.push_bytes-2.new.out.items ++ listed decimal lines) c.deref.ensures.value)
    c.in_ok-push_bytes-3.ensures.ok
