-- The report and the explanation, part by part.
use Rattle.std.specs.Prelude.{codes}
use Rattle.out_page.specs.JsonTexts.{quoted}
use Rattle.out_page.specs.Pages.{refusal_data}
use Rattle.out_page.proofs.Parts.{five_parts}
use Rattle.out_page.proofs.refusal.push_refusal.Goals as goal

pub returns : goal.returns
unfolding refusal_data
returns c =
    five_parts c.args.out.now.items c.push_bytes.new.out.items c.push_quoted.new.out.items
    c.push_bytes-2.new.out.items c.push_quoted-2.new.out.items c.push_bytes-3.new.out.items
    (codes "{\"format\":1,\"refusal\":[") (quoted c.args.report.now) (codes ",") (quoted c.args.explanation.now)
    (codes "]}\n") c.in_ok-push_bytes.ensures.ok c.in_ok-push_quoted.ensures c.in_ok-push_bytes-2.ensures.ok
    c.in_ok-push_quoted-2.ensures c.in_ok-push_bytes-3.ensures.ok
