-- The drawing is the picture.
use Rattle.std.proofs.Common.{◌≡◌, ◌∙◌, ◌-◌, ℕ, ap, sym, length}
use Rattle.std.proofs.lemmas.List.{length-map}
use Rattle.read_traces.specs.Views.{computation_view}
use Rattle.read_traces.specs.declared.event.Trace.{Trace}
use Rattle.out_picture.specs.Cycles.{cycle_focus, kept_column}
use Rattle.out_picture.specs.Layout.{lane_y}
use Rattle.out_picture.specs.Pictures.{texts_view}
use Rattle.out_picture.specs.Tables.{column_at, places_view}
use Rattle.out_picture.proofs.CycleFacts.{columns_are, is_cycle_picture}
use Rattle.out_picture.proofs.cycle_pictures.drawn_cycle.Goals as goal

pub returns : goal.returns
returns c =
    let subject = c.args.subject.now in
    let run = computation_view subject.traces.now in
    let cycle = places_view subject.cycle.now in
    let many : length subject.traces.now ≡ length run =
    sym (length-map subject.traces.now (λ (trace : Trace). trace.events)) in
    let high : c.lane_y.result - 30 ≡ lane_y (length run) - 30 =
    ap (λ (n : ℕ). n - 30) c.lane_y.ensures ∙ ap (λ (n : ℕ). lane_y n - 30) many in
    is_cycle_picture run (column_at c.args.rows.now) subject.messages.now (texts_view subject.names.now)
    subject.title.now cycle subject.extent c.cycle_widest-widest.result c.kept_column-focus.result c.names_room.result
    c.of-window.result c.cycle_widest-widest.ensures
    (c.kept_column-focus.ensures ∙ ap kept_column c.cycle_focus.ensures) c.names_room.ensures
    c.of-window.ensures c.requires.messages
    (columns_are run cycle c.args.rows.now c.requires.table) _
    c.in_ok-shapes.ensures c.in_ok-width.ensures high c.in_ok-title.ensures.ok c.in_ok-description.ensures
