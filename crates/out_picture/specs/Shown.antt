-- What a picture shows of a run: which dots, arrows and numbers it has and where they stand to each other. How it looks
-- otherwise, and what else it says, is left open.
use Rattle.std.specs.Prelude.{◌≡◌, ◌<◌, ◌≤◌, ◌↔◌, ℕ, ◌+◌, ◌-◌, min, max, Bool, true, not, ◌&&◌, nat_le, if◌then◌else◌, IsTrue, List, [], ◌∷◌, decimal, drop, filter, flat_map, length, map, replicate, slice_index}
use Rattle.std.specs.Fmt.Cut.{cut_to}
use Rattle.std.specs.List.{AllZip}
use Rattle.def_model.specs.Cuts.{one_more}
use Rattle.def_model.specs.Events.{Computation, Place, place, IsEvent, event_count}
use Rattle.out_svg.specs.declared.class.Class.TheVariants as class
use Rattle.out_svg.specs.declared.drawing.Drawing.{Drawing}
use Rattle.out_svg.specs.declared.point.Point.{Point}
use Rattle.out_picture.specs.Columns.{AreColumns}
use Rattle.out_picture.specs.Cycles.{AreCycleColumns, cycle_focus, kept_column}
use Rattle.out_picture.specs.Layout.{upto}
use Rattle.out_picture.specs.Pictures.{IsInFlight, focus, is_past, widest}
use Rattle.out_picture.specs.Shapes.{Seen, SeenArrow, SeenCircle, SeenLine, SeenText, all_seen}
use Rattle.out_picture.specs.declared.evidence.Evidence.{Evidence}
use Rattle.out_picture.specs.declared.evidence.Evidence.TheVariants.{Absent, Cut, Observation}
use Rattle.out_picture.specs.declared.extent.Extent.{Extent}
use Rattle.out_picture.specs.declared.extent.Extent.TheVariants.{Around, From, All}

-- ---- what a shape is

-- a dot: each circle that is no ring
abbrev pub dot : Seen → List Seen
dot (SeenCircle class.Cut at radius) = []
dot (SeenCircle other at radius) = SeenCircle other at radius ∷ []
dot _ = []

-- a ring
abbrev pub ring : Seen → List Seen
ring (SeenCircle class.Cut at radius) = SeenCircle class.Cut at radius ∷ []
ring _ = []

-- the broken arrow of a message in flight: where it begins
abbrev pub broken : Seen → List Point
broken (SeenArrow class.Flight from to) = from ∷ []
broken _ = []

-- each other arrow: where it begins, and where its head stands
abbrev pub arrow : Seen → List (Point × Point)
arrow (SeenArrow class.Flight from to) = []
arrow (SeenArrow other from to) = (from, to) ∷ []
arrow _ = []

-- the line of a message without a head: where it begins
abbrev pub line : Seen → List Point
line (SeenLine class.Message from to) = from ∷ []
line _ = []

-- the number of an event, or that of a step: where it stands, and the height of its type
abbrev pub number : Seen → List (Point × ℕ × List ℕ)
number (SeenText class.Number at anchor size text) = (at, size, text) ∷ []
number _ = []

abbrev pub step : Seen → List (Point × ℕ × List ℕ)
step (SeenText class.Step at anchor size text) = (at, size, text) ∷ []
step _ = []

-- the name of a process, or the title
abbrev pub name : Seen → List (Point × ℕ × List ℕ)
name (SeenText class.Name at anchor size text) = (at, size, text) ∷ []
name _ = []

-- ---- which events are shown

-- The first and the last of the columns that are asked for: all columns, 65,535 at most; 24 columns from one on; or 24
-- columns up to the eighth after the one in which the evidence ends, or up to the last one.
abbrev pub first_asked : Extent → (widest focus : ℕ) → ℕ
first_asked All widest focus = 1
first_asked (From column) widest focus = max 1 (min column widest)
first_asked Around widest focus = min widest (max (focus + 8) 24) - 24 + 1

abbrev pub last_asked : Extent → (widest focus : ℕ) → ℕ
last_asked All widest focus = min widest 65535
last_asked (From column) widest focus = min widest (max 1 (min column widest) + 23)
last_asked Around widest focus = min widest (max (focus + 8) 24)

abbrev pub is_asked : Extent → (widest focus column : ℕ) → Bool
is_asked extent widest focus column =
    nat_le (first_asked extent widest focus) column && nat_le column (last_asked extent widest focus)

-- the events in these columns, in the order of their places
abbrev pub events_in : (is_column : ℕ → Bool) → (Place → ℕ) → Computation → List Place
events_in is_column columns c = upto (λ p. upto (λ n.
    if is_column (columns (place p (n + 1))) then place p (n + 1) ∷ [] else []) (event_count c p)) (length c)

-- ---- where things stand

-- An event's column says how far right it stands, and its process how far down.
abbrev pub stands : (x y : ℕ → ℕ) → (Place → ℕ) → Place → Point
stands x y columns e = record { x = x (columns e); y = y e.process }

-- Columns that are shown stand from left to right and processes from above to below, all of them on the page, and
-- farther from each other than what is near to one dot may be from another.
pub record IsGrid (is_column : ℕ → Bool) (processes width height : ℕ) (x y : ℕ → ℕ) : Type 0 where
  pub rightwards : (m n : ℕ) → IsTrue (is_column m) → IsTrue (is_column n) → m < n → x m + 48 ≤ x n
  pub downwards : (p q : ℕ) → p < q → q < processes → y p + 100 ≤ y q
  pub wide : (m : ℕ) → IsTrue (is_column m) → x m ≤ width
  pub high : (p : ℕ) → p < processes → y p ≤ height

-- The point stands at this dot, and so at no other.
abbrev pub IsNear : Point → Point → Type 0
IsNear dot at = (at.x ≤ dot.x + 20) × (dot.x ≤ at.x + 20) × (at.y ≤ dot.y + 40) × (dot.y ≤ at.y + 40)

-- the text of this number stands at this dot, in type that can be read
abbrev pub IsLabel : Point → ℕ → Point × ℕ × List ℕ → Type 0
IsLabel dot n label = IsNear dot label.0 × (10 ≤ label.1) × (label.2 ≡ decimal n)

-- the name of a process, of 32 bytes at most, stands at its lane
abbrev pub IsName : (y : ℕ → ℕ) → ℕ × List ℕ → Point × ℕ × List ℕ → Type 0
IsName y process label =
    (label.2 ≡ cut_to 32 process.1) × (10 ≤ label.1) × (label.0.y ≤ y process.0 + 40) × (y process.0 ≤ label.0.y + 40)

-- An arrow of a message goes from the dot of the send to that of the receipt.
abbrev pub IsArrow : (Place → Point) → Place × Place → Point × Point → Type 0
IsArrow at message ends = (ends.0 ≡ at message.0) × IsNear (at message.1) ends.1

-- ---- steps

-- the events that a path adds to a cut, one at each step
abbrev pub added : (cut path : List ℕ) → List Place
added cut [] = []
added cut (p ∷ path) = place p (slice_index cut p + 1) ∷ added (one_more cut p) path

-- these things, each with a number, the first with this one
abbrev pub numbered_from : {A : Type 0} → ℕ → List A → List (ℕ × A)
numbered_from n [] = []
numbered_from n (x ∷ rest) = (n, x) ∷ numbered_from (n + 1) rest

-- the events that the evidence adds, step by step
abbrev pub steps_of : Computation → Evidence → List Place
steps_of c Absent = []
steps_of c (Cut counts values path) = added (replicate (length c) 0) path.items
steps_of c (Observation path) = added (replicate (length c) 0) path.items

-- ---- the whole

-- The run is drawn. After the title stand the names of the processes, each at its lane. Each event in these columns is
-- one dot with its number, and there is no other dot. Each message whose receipt is shown is one arrow from its send to
-- its receipt, and each one whose send alone is shown is one line from there; each shown send of a message in flight is
-- one broken arrow, and there is no other arrow. Rings stand around the ringed events alone. The steps whose events are
-- shown have their numbers, in their order.
pub record ShowsRun (c : Computation) (messages : List (Place × Place)) (names : List (List ℕ)) (columns : Place → ℕ)
    (is_column : ℕ → Bool) (is_filled : Place → Bool) (ringed steps : List Place) (drawing : Drawing) : Type 0 where
  pub x : ℕ → ℕ
  pub y : ℕ → ℕ
  pub grid : IsGrid is_column (length c) drawing.width drawing.height x y
  pub labels : AllZip (IsName y) (numbered_from 0 names) (drop 1 (flat_map name (all_seen drawing.shapes.items)))
  pub dots : flat_map dot (all_seen drawing.shapes.items)
      ≡ map (λ e. SeenCircle (if is_filled e then class.Past else class.Next) (stands x y columns e) 7)
      (events_in is_column columns c)
  pub numbers : AllZip (λ e label. IsLabel (stands x y columns e) e.number label) (events_in is_column columns c)
      (flat_map number (all_seen drawing.shapes.items))
  pub arrows : AllZip (IsArrow (stands x y columns)) (filter (λ m. is_column (columns m.1)) messages)
      (flat_map arrow (all_seen drawing.shapes.items))
  pub lines : flat_map line (all_seen drawing.shapes.items) ≡ map (λ m. stands x y columns m.0)
      (filter (λ m. not (is_column (columns m.1)) && is_column (columns m.0)) messages)
  pub flights : Place → Bool
  pub are_flights : (e : Place) → IsEvent c e → IsTrue (flights e) ↔ IsInFlight c e
  pub broken_arrows : flat_map broken (all_seen drawing.shapes.items)
      ≡ map (stands x y columns) (filter flights (events_in is_column columns c))
  pub rings : flat_map ring (all_seen drawing.shapes.items)
      ≡ map (λ e. SeenCircle class.Cut (stands x y columns e) 12) ringed
  pub steps_are : AllZip (λ s label. IsLabel (stands x y columns s.1) s.0 label)
      (filter (λ s. is_column (columns s.1)) (numbered_from 1 steps))
      (flat_map step (all_seen drawing.shapes.items))

-- The run is drawn with this evidence: each event stands right of all that happened before it, and the dots in a cut
-- are filled.
pub record ShowsPicture (c : Computation) (messages : List (Place × Place)) (names : List (List ℕ))
    (evidence : Evidence) (extent : Extent) (drawing : Drawing) : Type 0 where
  pub columns : Place → ℕ
  pub are_columns : AreColumns c columns
  pub shows : ShowsRun c messages names columns (is_asked extent (widest columns c) (focus columns c evidence))
      (is_past evidence) [] (steps_of c evidence) drawing

-- The run is drawn with this causal cycle: the events of the cycle stand in one column, with rings around them.
pub record ShowsCycle (c : Computation) (messages : List (Place × Place)) (names : List (List ℕ)) (cycle : List Place)
    (extent : Extent) (drawing : Drawing) : Type 0 where
  pub columns : Place → ℕ
  pub are_columns : AreCycleColumns c cycle columns
  pub shows : ShowsRun c messages names columns (is_asked extent (widest columns c) (kept_column (cycle_focus cycle)))
      (λ e. true) cycle [] drawing
