-- Appends events with a comma between each two.
use Rattle.std.proofs.Common.{◌++◌, sym, ap, ◌∙◌, arith}
use Rattle.std.specs.List.{join_with_byte}
use Rattle.std.proofs.lemmas.List.{take_all}
use Rattle.std.proofs.lemmas.Simd.{map-map}
use Rattle.def_format.specs.Reports.{place_text}
use Rattle.pd_report.specs.Views.{named_place_view}
use Rattle.pd_report.proofs.Joins.{words_end}
use Rattle.pd_report.proofs.fields.push_places.Goals as goal

pub returns : goal.returns
returns c =
    let first = c.in-Some.field-0-0.now in
    let others = c.in-Some.others.now in
    let begun = rw c.deref.ensures at c.in_ok-push_place.ensures in
    words_end (λ place. place_text (named_place_view place)) c.args.out.now.items c.push_place.new.out.items
    c.loop-name.out.items c.args.places.now others _ first c.in-Some.ensures.cases.0 begun c.loop-name.invariant
    (take_all c.loop-name.name-index others (omega arith))
    ∙ ap (λ words. c.args.out.now.items ++ join_with_byte 44 words)
    (sym (map-map place_text named_place_view c.args.places.now))
