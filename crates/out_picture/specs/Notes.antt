-- What is added to a picture if events have notes: remarks over all other shapes, each a text at a point.
use Rattle.std.specs.Prelude.{◌≡◌, Bool, false, List, [], ◌∷◌, ◌++◌, flat_map, string_bytes}
use Rattle.out_svg.specs.declared.anchor.Anchor.TheVariants as anchor
use Rattle.out_svg.specs.declared.class.Class.TheVariants as class
use Rattle.out_svg.specs.declared.drawing.Drawing.{Drawing}
use Rattle.out_picture.specs.Shapes.{Seen, SeenText, all_seen}
use Rattle.out_picture.specs.declared.label.Label.{Label}

-- a label, in type that can be read
abbrev pub label_shapes : Label → List Seen
label_shapes label = SeenText class.Note label.at anchor.Middle 10 (string_bytes label.text) ∷ []

-- A drawing is this plain one with labels over its shapes; there are none unless it is noted.
pub record AddsNotes (is_noted : Bool) (plain drawing : Drawing) : Type 0 where
  pub width : drawing.width ≡ plain.width
  pub height : drawing.height ≡ plain.height
  pub title : string_bytes drawing.title ≡ string_bytes plain.title
  pub description : string_bytes drawing.description ≡ string_bytes plain.description
  pub labels : List Label
  pub shapes : all_seen drawing.shapes.items ≡ all_seen plain.shapes.items ++ flat_map label_shapes labels
  pub unnoted : is_noted ≡ false → labels ≡ []
