-- What the steps of the reader find is what the definitions find.
use Rattle.std.proofs.Common.{◌≡◌, Ok, Some, None, option_map, sym, ap, ◌∙◌}
use Rattle.std.proofs.lemmas.Result.{err_from_is_err_and, MatchResult-weaker}
use Rattle.serde_json.specs.View.{view}
use Rattle.def_format.specs.Documents.{Inquiry, inquiry_json, inquiry_of, outline_of, outline_within}
use Rattle.pd_spec.specs.Outlines.{outline_view}
use Rattle.pd_spec.specs.Views.{document_view, options_view}
use Rattle.pd_spec.proofs.DocumentFacts.{changed_value, document_of_inquiry, late_fault, long_bytes, no_json, no_shape, no_value, outline_fault_reported, sound_bytes}
use Rattle.pd_spec.proofs.spec.Spec.read_within.Goals as goal

pub returns-then-is_long-clause-err : goal.returns-then-is_long-clause-err
returns-then-is_long-clause-err c =
    long_bytes c.args.limit (inquiry_of (options_view c.args.options.now) c.args.bytes.now)
    (c.is_long.ensures.yes c.if-is_long.true)

pub returns-in_default-clause-err : goal.returns-in_default-clause-err
returns-in_default-clause-err c =
    let inquiry : Inquiry = inquiry_of (options_view c.args.options.now) c.args.bytes.now in
    no_json c.args.limit inquiry (c.is_long.ensures.no c.if-is_long.false)
    (no_value inquiry.options inquiry.bytes _ c.in_ok-value.ensures c.in_default.is)

pub returns-in_default-2-clause-err : goal.returns-in_default-2-clause-err
returns-in_default-2-clause-err c =
    let inquiry : Inquiry = inquiry_of (options_view c.args.options.now) c.args.bytes.now in
    let changed = view c.in_ok-changed.changed in
    let value : inquiry_json inquiry ≡ Some changed =
    changed_value inquiry.options inquiry.bytes _ c.in-Some.value changed c.in_ok-value.ensures c.in-Some.is
    c.in_ok-changed.ensures in
    let none : outline_of changed ≡ None =
    sym c.in_ok-outline.ensures ∙ ap (option_map outline_view) c.in_default-2.is in
    no_shape c.args.limit inquiry changed (c.is_long.ensures.no c.if-is_long.false) value none

pub returns-in_err-check-clause-err : goal.returns-in_err-check-clause-err
returns-in_err-check-clause-err c =
    let inquiry : Inquiry = inquiry_of (options_view c.args.options.now) c.args.bytes.now in
    let changed = view c.in_ok-changed.changed in
    let value : inquiry_json inquiry ≡ Some changed =
    changed_value inquiry.options inquiry.bytes _ c.in-Some.value changed c.in_ok-value.ensures c.in-Some.is
    c.in_ok-changed.ensures in
    let outline : outline_of changed ≡ Some (outline_view c.in-Some-2.outline) =
    sym c.in_ok-outline.ensures ∙ ap (option_map outline_view) c.in-Some-2.is in
    let p = err_from_is_err_and c.from_residual-in_err-check.result c.from_residual-in_err-check.ensures.1 in
    rw (p.1, p.2)
    (outline_fault_reported c.args.limit inquiry changed (outline_view c.in-Some-2.outline)
    c.in_err-check.field-0.0 (c.is_long.ensures.no c.if-is_long.false) value outline c.in_err-check.ensures.err)

pub returns-clause-ok : goal.returns-clause-ok
returns-clause-ok c =
    let inquiry : Inquiry = inquiry_of (options_view c.args.options.now) c.args.bytes.now in
    let changed = view c.in_ok-changed.changed in
    let value : inquiry_json inquiry ≡ Some changed =
    changed_value inquiry.options inquiry.bytes _ c.in-Some.value changed c.in_ok-value.ensures c.in-Some.is
    c.in_ok-changed.ensures in
    let outline : outline_of changed ≡ Some (outline_view c.in-Some-2.outline) =
    sym c.in_ok-outline.ensures ∙ ap (option_map outline_view) c.in-Some-2.is in
    let sound : outline_within c.args.limit inquiry ≡ Ok (outline_view c.in-Some-2.outline) =
    sound_bytes c.args.limit inquiry changed (outline_view c.in-Some-2.outline)
    (c.is_long.ensures.no c.if-is_long.false) value outline c.in_ok-check.ensures.ok in
    MatchResult-weaker c.of_outline.result c.of_outline.ensures.ok (λ spec.
    document_of_inquiry c.args.limit inquiry (outline_view c.in-Some-2.outline) (document_view spec) sound)
    (λ fault h. h)

pub returns-clause-err : goal.returns-clause-err
returns-clause-err c =
    let inquiry : Inquiry = inquiry_of (options_view c.args.options.now) c.args.bytes.now in
    let changed = view c.in_ok-changed.changed in
    let value : inquiry_json inquiry ≡ Some changed =
    changed_value inquiry.options inquiry.bytes _ c.in-Some.value changed c.in_ok-value.ensures c.in-Some.is
    c.in_ok-changed.ensures in
    let outline : outline_of changed ≡ Some (outline_view c.in-Some-2.outline) =
    sym c.in_ok-outline.ensures ∙ ap (option_map outline_view) c.in-Some-2.is in
    let sound : outline_within c.args.limit inquiry ≡ Ok (outline_view c.in-Some-2.outline) =
    sound_bytes c.args.limit inquiry changed (outline_view c.in-Some-2.outline)
    (c.is_long.ensures.no c.if-is_long.false) value outline c.in_ok-check.ensures.ok in
    MatchResult-weaker c.of_outline.result c.of_outline.ensures.err (λ spec h. h) (λ fault.
    late_fault c.args.limit inquiry (outline_view c.in-Some-2.outline) fault sound)
