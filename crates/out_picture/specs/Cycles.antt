-- What a picture shows of a run in which there is a causal cycle. Such a run has no order by which its events could
-- stand, so each stands by its number, and the processes are moved against each other: the events of the cycle stand in
-- one column, and its messages go backwards or straight.
use Rattle.std.specs.Prelude.{◌≡◌, ℕ, ◌+◌, ◌-◌, ◌==◌, min, max, Bool, if◌then◌else◌, IsTrue, ◌↔◌, List, [], ◌∷◌, ◌++◌, flat_map, codes, string_bytes}
use Rattle.def_model.specs.Events.{Computation, Place, place, IsEvent}
use Rattle.out_svg.specs.declared.class.Class.TheVariants as class
use Rattle.out_svg.specs.declared.drawing.Drawing.{Drawing}
use Rattle.out_picture.specs.declared.extent.Extent.{Extent}
use Rattle.out_picture.specs.Layout.{upto, window_of, event_point}
use Rattle.out_picture.specs.Pictures.{IsInFlight, ends_shapes, event_shapes, flight_shapes, heading_shapes, lanes_shapes, messages_shapes, page_height, page_width, shown_events, widest, window_note}
use Rattle.out_picture.specs.Rooms.{names_room}
use Rattle.out_picture.specs.Shapes.{Seen, SeenLine, SeenCircle, all_seen}
use Rattle.out_picture.specs.declared.evidence.Evidence.TheVariants.{Absent}
use Rattle.out_picture.specs.declared.window.Window.{Window}

-- ---- columns

-- the number of the cycle's event of this process, and if it has none, this other number
abbrev pub number_in : (otherwise : ℕ) → List Place → ℕ → ℕ
number_in otherwise [] p = otherwise
number_in otherwise (e ∷ rest) p = if e.process == p then e.number else number_in otherwise rest p

-- the greatest of this number and those of the events
abbrev pub greatest_after : ℕ → List Place → ℕ
greatest_after greatest [] = greatest
greatest_after greatest (e ∷ rest) = greatest_after (max greatest e.number) rest

-- the column in which the events of the cycle stand: the greatest of their numbers
abbrev pub cycle_focus : List Place → ℕ
cycle_focus cycle = greatest_after 0 cycle

-- how far the events of a process are moved to the right
abbrev pub shift : List Place → ℕ → ℕ
shift cycle p = cycle_focus cycle - number_in (cycle_focus cycle) cycle p

-- a column as the table of columns keeps it
abbrev pub kept_column : ℕ → ℕ
kept_column column = min column 4294967295

-- the column of an event: its number, moved as its process is
abbrev pub cycle_column : List Place → Place → ℕ
cycle_column cycle e = kept_column (e.number + shift cycle e.process)

-- the column of each event
abbrev pub AreCycleColumns : Computation → (cycle : List Place) → (Place → ℕ) → Type 0
AreCycleColumns c cycle columns = (e : Place) → IsEvent c e → columns e ≡ cycle_column cycle e

-- the columns that are shown
abbrev pub cycle_window : (Place → ℕ) → Computation → (names : List (List ℕ)) → (cycle : List Place) → Extent → Window
cycle_window columns c names cycle extent =
    window_of extent (widest columns c) (kept_column (cycle_focus cycle)) (names_room names)

-- ---- marks

-- the cycle's event of this process
abbrev pub event_in : List Place → ℕ → Place
event_in cycle p = place p (number_in 0 cycle p)

-- the event is one of the cycle
abbrev pub is_in_cycle : List Place → Place → Bool
is_in_cycle cycle e = number_in 0 cycle e.process == e.number

-- What is drawn over a message that an event of the cycle receives: a line along the lane of its sender, from the
-- cycle's event there to the send, and one along the message.
abbrev pub marked_message : Window → (Place → ℕ) → (cycle : List Place) → Place × Place → List Seen
marked_message window columns cycle (send, receipt) =
    if is_in_cycle cycle receipt then (
    SeenLine class.Cut (event_point window columns (event_in cycle send.process)) (event_point window columns send)
    ∷ SeenLine class.Cut (event_point window columns send) (event_point window columns receipt) ∷ []
    ) else []

abbrev pub marked_messages : Window → (Place → ℕ) → (cycle : List Place) → List (Place × Place) → List Seen
marked_messages window columns cycle messages = flat_map (marked_message window columns cycle) messages

-- the ring around an event of the cycle
abbrev pub marked_event : Window → (Place → ℕ) → Place → List Seen
marked_event window columns e = SeenCircle class.Cut (event_point window columns e) 12 ∷ []

abbrev pub marked_events : Window → (Place → ℕ) → (cycle : List Place) → List Seen
marked_events window columns cycle = flat_map (marked_event window columns) cycle

-- ---- words

-- what the shapes mean
abbrev pub cycle_legend : List ℕ
cycle_legend =
    codes "Thick: a causal cycle. Each ringed event receives what was sent after the next ringed event, and so around."

-- what stands in the picture, for those who don't see it
abbrev pub cycle_description : Window → (widest : ℕ) → List ℕ
cycle_description window widest = cycle_legend ++ codes " " ++ window_note window widest

-- ---- the whole

-- what stands below the dots: the lines of the processes, the marks of the cycle, the arrows of all messages
abbrev pub below_shapes : Window → (Place → ℕ) → (Place → Bool) → Computation → List (Place × Place) → List (List ℕ)
    → (cycle : List Place) → List Seen
below_shapes shown columns flights c messages names cycle =
    lanes_shapes shown names ++ marked_messages shown columns cycle messages ++ marked_events shown columns cycle
    ++ messages_shapes shown columns messages ++ ends_shapes shown columns messages
    ++ flat_map (flight_shapes shown columns flights) (shown_events shown columns c)

-- all shapes, each over those before it
abbrev pub cycle_shapes : (Place → ℕ) → (Place → Bool) → Computation → List (Place × Place) → (names : List (List ℕ))
    → (title : List ℕ) → (cycle : List Place) → Window → List Seen
cycle_shapes columns flights c messages names title cycle shown =
    heading_shapes shown (widest columns c) title cycle_legend
    ++ below_shapes shown columns flights c messages names cycle
    ++ flat_map (event_shapes shown columns Absent) (shown_events shown columns c)

-- The picture of a run with these messages and this causal cycle.
pub record IsCyclePicture (c : Computation) (messages : List (Place × Place)) (names : List (List ℕ)) (title : List ℕ)
    (cycle : List Place) (extent : Extent) (drawing : Drawing) : Type 0 where
  pub columns : Place → ℕ
  pub are_columns : AreCycleColumns c cycle columns
  pub flights : Place → Bool
  pub are_flights : (e : Place) → IsEvent c e → IsTrue (flights e) ↔ IsInFlight c e
  pub shapes : all_seen drawing.shapes.items
      ≡ cycle_shapes columns flights c messages names title cycle (cycle_window columns c names cycle extent)
  pub width : drawing.width ≡ page_width (cycle_window columns c names cycle extent) title Absent
  pub height : drawing.height ≡ page_height c
  pub is_titled : string_bytes drawing.title ≡ title
  pub is_described : string_bytes drawing.description
      ≡ cycle_description (cycle_window columns c names cycle extent) (widest columns c)

-- ---- on the way

-- the columns of these many events of a process, after a 0 before its first event
abbrev pub cycle_row : (shift count : ℕ) → List ℕ
cycle_row shift count = 0 ∷ upto (λ n. kept_column (n + 1 + shift) ∷ []) count
