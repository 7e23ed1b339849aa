-- How messages of one run show the order of the kept events of another one: each neighbor gets one, and none orders
-- more.
use Rattle.std.specs.Prelude.{◌≡◌, ◌↔◌, ◌<◌, ◌≤◌, Bool}
use Rattle.def_model.specs.Events.{Computation, Place}
use Rattle.def_model.specs.Messages.{IsMessage}
use Rattle.def_model.specs.Order.{HappenedBefore}
use Rattle.def_model.specs.Cuts.{Includes}
use Rattle.def_long.specs.Windows.{Window}
use Rattle.def_long.specs.Kept.{IsKept}

-- Of two neighbors one happened before the other, and no kept event lies between them.
pub record AreNeighbors (w : Window) (kept : Place → Bool) (e f : Place) : Type 0 where
  pub before : HappenedBefore w.run e f
  pub none_between : (d : Place) → IsKept w kept d → HappenedBefore w.run e d → ¬ HappenedBefore w.run d f

-- e sends a message that is received by f, or by an earlier event of its process
abbrev pub SendsTo : Computation → Place → Place → Type 0
SendsTo c e f =
    (receipt : Place) × IsMessage c e receipt × (receipt.process ≡ f.process) × (receipt.number ≤ f.number)

-- The kept events of the second window are the images of those of the first one: those of one process again of one
-- process, in their order. Each sends a message to its neighbors in other processes, and to no kept event that it
-- didn't happen before; and no event that isn't kept sends one.
pub record KeepsOrderByMessages (w : Window) (kept : Place → Bool) (w' : Window) (kept' : Place → Bool) : Type 0 where
  -- an event's image, and the event that has this image
  pub image : Place → Place
  pub origin : Place → Place
  pub image_kept : (e : Place) → IsKept w kept e → IsKept w' kept' (image e)
  pub origin_kept : (e : Place) → IsKept w' kept' e → IsKept w kept (origin e)
  pub origin_of_image : (e : Place) → IsKept w kept e → origin (image e) ≡ e
  pub image_of_origin : (e : Place) → IsKept w' kept' e → image (origin e) ≡ e
  pub same_process : (e f : Place) → IsKept w kept e → IsKept w kept f
      → (e.process ≡ f.process) ↔ ((image e).process ≡ (image f).process)
  pub same_turn : (e f : Place) → IsKept w kept e → IsKept w kept f → e.process ≡ f.process → e.number < f.number
      → (image e).number < (image f).number
  -- the messages that are sent and received in the window
  pub message_to_neighbor : (e f : Place) → IsKept w kept e → IsKept w kept f → AreNeighbors w kept e f
      → ¬ (e.process ≡ f.process) → SendsTo w'.run (image e) (image f)
  pub message_in_order : (e f : Place) → IsKept w kept e → IsKept w kept f → SendsTo w'.run (image e) (image f)
      → HappenedBefore w.run e f
  pub sender_is_kept : (send receipt : Place) → IsMessage w'.run send receipt → ¬ Includes w'.from send
      → Includes w'.to receipt → IsKept w' kept' send
