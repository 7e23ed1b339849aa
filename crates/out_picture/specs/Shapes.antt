-- Shapes as they are seen: with their texts and points.
use Rattle.std.specs.Prelude.{ℕ, List, map, string_bytes}
use Rattle.out_svg.specs.declared.anchor.Anchor.{Anchor}
use Rattle.out_svg.specs.declared.class.Class.{Class}
use Rattle.out_svg.specs.declared.point.Point.{Point}
use Rattle.out_svg.specs.declared.shape.Shape.{Shape}
use Rattle.out_svg.specs.declared.shape.Shape.TheVariants.{Line, Arrow, Circle, Polyline, Text}

pub data Seen : Type 0 where
  SeenLine : Class → (from to : Point) → Seen
  SeenArrow : Class → (from to : Point) → Seen
  SeenCircle : Class → (centre : Point) → (radius : ℕ) → Seen
  SeenPolyline : Class → List Point → Seen
  SeenText : Class → Point → Anchor → (size : ℕ) → (text : List ℕ) → Seen

abbrev pub seen : Shape → Seen
seen (Line class from to) = SeenLine class from to
seen (Arrow class from to) = SeenArrow class from to
seen (Circle class centre radius) = SeenCircle class centre radius
seen (Polyline class points) = SeenPolyline class points.items
seen (Text class at anchor size text) = SeenText class at anchor size (string_bytes text)

abbrev pub all_seen : List Shape → List Seen
all_seen shapes = map seen shapes
