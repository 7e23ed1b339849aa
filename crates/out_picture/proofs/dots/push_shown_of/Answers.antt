-- One event more.
use Rattle.std.proofs.Common.{ℕ, ◌+◌}
use Rattle.def_model.specs.Events.{place}
use Rattle.out_picture.specs.Pictures.{shown_at}
use Rattle.out_picture.specs.Tables.{column_at, places_view}
use Rattle.out_picture.proofs.Listed.{push_more}
use Rattle.out_picture.proofs.dots.push_shown_of.Goals as goal

pub loop-n-preserved : goal.loop-n-preserved
loop-n-preserved c =
    push_more (λ (n : ℕ). shown_at c.args.window (column_at c.args.rows.now) (place c.args.process (n + 1)))
    (places_view c.args.places.now.items) (places_view c.loop-n.places.items)
    (places_view c.push_shown.new.places.items) c.loop-n.n c.loop-n.invariant c.in_ok-push_shown.ensures
