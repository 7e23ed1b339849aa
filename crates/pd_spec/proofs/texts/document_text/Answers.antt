-- That `document_text` meets its contract.
use Rattle.std.proofs.Common.{◌≡◌, ◌≤◌, ◌∙◌, Some, option_map, ap, subst, sym}
use Rattle.serde_json.specs.Data.{Data, depth}
use Rattle.serde_json.specs.Read.{max_depth, read}
use Rattle.serde_json.specs.View.{view}
use Rattle.def_format.specs.Records.{json_value}
use Rattle.def_format.proofs.JsonFacts.{json_value-some}
use Rattle.pd_spec.specs.Texts.{no_json, own, printed}
use Rattle.pd_spec.specs.Views.{options_view}
use Rattle.pd_spec.proofs.Depths.{changed_depth}
use Rattle.pd_spec.proofs.DocumentFacts.{changed_value, no_value}
use Rattle.pd_spec.proofs.texts.document_text.Goals as goal

pub returns-then-keep_fields : goal.returns-then-keep_fields
returns-then-keep_fields c =
    own (c.keep_fields.ensures.yes c.if-keep_fields.true)
    (c.in_ok-own.ensures.items_if_clones_equal (λ x y same. same))

pub returns-in_default : goal.returns-in_default
returns-in_default c =
    no_json (no_value (options_view c.args.options.now) c.args.bytes.now _ c.in_ok-value.ensures c.in_default.is)
    (c.in_ok-own-2.ensures.items_if_clones_equal (λ x y same. same))

pub returns : goal.returns
returns c =
    let options = options_view c.args.options.now in
    let bytes = c.args.bytes.now in
    let changed = view c.in_ok-changed.changed in
    let is : json_value bytes ≡ Some (view c.in-Some.value) =
    sym c.in_ok-value.ensures ∙ ap (option_map view) c.in-Some.is in
    let flat : depth changed ≤ max_depth =
    subst (λ (v : Data). depth v ≤ max_depth) (sym c.in_ok-changed.ensures)
    (changed_depth options bytes (view c.in-Some.value) is) in
    let reads : read c.in_ok-text.text.items ≡ Some changed = c.in_ok-text.ensures.reads_back flat in
    printed (c.keep_fields.ensures.no c.if-keep_fields.false) changed
    (changed_value options bytes _ c.in-Some.value changed c.in_ok-value.ensures c.in-Some.is c.in_ok-changed.ensures)
    (json_value-some c.in_ok-text.text.items changed c.in_ok-text.ensures.utf8 reads) c.in_ok-text.ensures.compact
