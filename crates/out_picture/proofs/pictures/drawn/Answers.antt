-- The drawing is the picture.
use Rattle.std.proofs.Common.{◌≡◌, ◌∙◌, ◌-◌, ℕ, ap, length}
use Rattle.read_traces.specs.Views.{computation_view}
use Rattle.out_picture.specs.Layout.{lane_y}
use Rattle.out_picture.specs.Pictures.{texts_view}
use Rattle.out_picture.specs.Tables.{column_at}
use Rattle.out_picture.proofs.PictureFacts.{is_picture}
use Rattle.out_picture.proofs.pictures.drawn.Goals as goal

pub returns : goal.returns
returns c =
    let high : c.lane_y.result - 30 ≡ lane_y (length c.args.subject.now.computation.now.events) - 30 =
    ap (λ (n : ℕ). n - 30) c.lane_y.ensures ∙ ap (λ (n : ℕ). lane_y n - 30) c.processes.ensures in
    is_picture c.args.subject.now.computation.now.events (computation_view c.args.subject.now.traces.now)
    (column_at c.args.rows.now) c.args.subject.now.messages.now (texts_view c.args.subject.now.names.now)
    c.args.subject.now.title.now c.args.subject.now.evidence.now c.args.subject.now.extent c.widest-widest.result
    c.focus-focus.result c.names_room.result c.of-window.result c.requires.traces c.widest-widest.ensures
    c.focus-focus.ensures c.names_room.ensures c.of-window.ensures c.requires.messages c.requires.columns _
    c.in_ok-shapes.ensures c.in_ok-width.ensures high c.in_ok-title.ensures.ok c.in_ok-description.ensures
