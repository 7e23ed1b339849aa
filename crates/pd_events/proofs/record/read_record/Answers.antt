-- The record of a line is that of its JSON value.
use Rattle.std.proofs.Common.{◌≡◌, option_map, sym, ap, ◌∙◌}
use Rattle.std.specs.Prelude.{Some, None}
use Rattle.serde_json.specs.View.{view}
use Rattle.def_format.specs.Records.{json_value}
use Rattle.pd_events.specs.Statements.{statement_view}
use Rattle.pd_events.proofs.RecordFacts.{no_value, record_of_its_value}
use Rattle.pd_events.proofs.record.read_record.Goals as goal

pub returns-in_default : goal.returns-in_default
returns-in_default c =
    no_value c.args.spec.now.names c.args.joined c.args.bytes.now
    (sym c.in_ok-value.ensures ∙ ap (option_map view) c.in_default.is)

pub returns-in-Some-statement_of : goal.returns-in-Some-statement_of
returns-in-Some-statement_of c =
    let value : json_value c.args.bytes.now ≡ Some (view c.in-Some.value) =
    sym c.in_ok-value.ensures ∙ ap (option_map view) c.in-Some.is in
    rw (record_of_its_value c.args.spec.now.names c.args.joined c.args.bytes.now (view c.in-Some.value)
    (Some (statement_view c.in-Some-statement_of.statement)) value c.in-Some-statement_of.ensures)
    (rw c.names.ensures at c.record_of.ensures)

pub returns : goal.returns
returns c =
    let value : json_value c.args.bytes.now ≡ Some (view c.in-Some.value) =
    sym c.in_ok-value.ensures ∙ ap (option_map view) c.in-Some.is in
    record_of_its_value c.args.spec.now.names c.args.joined c.args.bytes.now (view c.in-Some.value) None value
    c.in-None.ensures
