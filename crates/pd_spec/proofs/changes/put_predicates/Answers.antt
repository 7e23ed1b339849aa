-- The predicates are at their place.
use Rattle.std.proofs.Common.{◌<◌, ◌∙◌, length, map, ap, ap₂, arith}
use Rattle.std.proofs.lemmas.Bool.Decides.{nat_tests}
use Rattle.std.proofs.lemmas.List.{length-map}
use Rattle.serde_json.specs.Data.{array, put}
use Rattle.serde_json.specs.View.{members_view}
use Rattle.serde_json.specs.declared.value.Value.{Array}
use Rattle.serde_json.proofs.Views.{members_view-insert_entry, view-Array}
use Rattle.pd_spec.proofs.AskedItems.{some_asked}
use Rattle.pd_spec.proofs.changes.put_predicates.Goals as goal

pub returns-in_ok-insert : goal.returns-in_ok-insert
returns-in_ok-insert c =
    let texts = map (λ text. text.now) c.args.texts.now in
    let fields = members_view c.args.fields.now.entries in
    let some : 0 < length c.args.texts.now = grind (arith, nat_tests, c.is_empty.ensures, c.if-not-is_empty.true) in
    let many : 0 < length texts = omega (arith, length-map c.args.texts.now (λ text. text.now), some) in
    ap members_view c.in_ok-insert.ensures.entries
    ∙ (members_view-insert_entry c.args.fields.now.entries c.in_ok-from_str.field-0 (Array c.in_ok-values.values)
    ∙ (ap₂ (λ key value. put key value fields) c.in_ok-from_str.ensures.ok
    (view-Array c.in_ok-values.values ∙ ap array c.in_ok-values.ensures)
    ∙ some_asked texts fields many))
