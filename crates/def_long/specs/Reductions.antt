-- When two windows have the same answers: their kept events are the same up to names, in the same order, and so are
-- the truths.
use Rattle.std.specs.Prelude.{◌≡◌, ◌↔◌, ℕ, Bool, List}
use Rattle.def_model.specs.Events.{Place}
use Rattle.def_model.specs.Order.{HappenedBefore}
use Rattle.def_model.specs.Cuts.{Includes}
use Rattle.def_long.specs.Windows.{Window, IsCutIn}
use Rattle.def_long.specs.Kept.{IsKept}

-- The kept events of the second window are the images of those of the first one, each of one of them, and of two of
-- them one happened before the other exactly if the same holds of their images.
pub record HaveSameEvents (w : Window) (kept : Place → Bool) (w' : Window) (kept' : Place → Bool) : Type 0 where
  -- an event's image, and the event that has this image
  pub image : Place → Place
  pub origin : Place → Place
  pub image_kept : (e : Place) → IsKept w kept e → IsKept w' kept' (image e)
  pub origin_kept : (e : Place) → IsKept w' kept' e → IsKept w kept (origin e)
  pub origin_of_image : (e : Place) → IsKept w kept e → origin (image e) ≡ e
  pub image_of_origin : (e : Place) → IsKept w' kept' e → image (origin e) ≡ e
  pub same_order : (e f : Place) → IsKept w kept e → IsKept w kept f
      → HappenedBefore w.run e f ↔ HappenedBefore w'.run (image e) (image f)

-- And cuts with the same kept events have the same truth.
pub record IsReduction (w : Window) (kept : Place → Bool) (test : List ℕ → Bool) (w' : Window) (kept' : Place → Bool)
    (test' : List ℕ → Bool) : Type 0 where
  pub events : HaveSameEvents w kept w' kept'
  pub same_truth : (cut cut' : List ℕ) → IsCutIn w cut → IsCutIn w' cut'
      → ((e : Place) → IsKept w kept e → Includes cut e ↔ Includes cut' (events.image e)) → test cut ≡ test' cut'
