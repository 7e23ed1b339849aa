-- What a picture shows, and where.
use Rattle.std.specs.Prelude.{◌≡◌, ◌<◌, ◌≤◌, ℕ, ◌+◌, ◌-◌, min, max, Bool, true, ◌||◌, nat_le, nat_lt, if◌then◌else◌, IsTrue, ◌↔◌, List, [], ◌∷◌, ◌++◌, length, flat_map, codes, decimal, string_bytes, slice_index, slice_get, replicate, Option, Some, None, String, map}
use Rattle.std.specs.Global.{Global}
use Rattle.std.specs.Fmt.Cut.{cut_to}
use Rattle.def_model.specs.Events.{Computation, Place, place, event_count, IsEvent}
use Rattle.def_model.specs.Messages.{IsMessage, Sends}
use Rattle.def_model.specs.Cuts.{one_more, total}
use Rattle.out_svg.specs.declared.anchor.Anchor.TheVariants as anchor
use Rattle.out_svg.specs.declared.class.Class.TheVariants as class
use Rattle.out_svg.specs.declared.drawing.Drawing.{Drawing}
use Rattle.out_svg.specs.declared.point.Point.{Point}
use Rattle.out_picture.specs.declared.extent.Extent.{Extent}
use Rattle.out_picture.specs.Columns.{AreColumns}
use Rattle.out_picture.specs.Layout.{upto, window_of, is_shown, greatest_column, right, column_x, lane_y, event_point}
use Rattle.out_picture.specs.Rooms.{names_room, title_room, values_room}
use Rattle.out_picture.specs.Shapes.{Seen, SeenLine, SeenArrow, SeenCircle, SeenPolyline, SeenText, all_seen}
use Rattle.out_picture.specs.declared.evidence.Evidence.{Evidence}
use Rattle.out_picture.specs.declared.evidence.Evidence.TheVariants.{Absent, Cut, Observation}
use Rattle.out_picture.specs.declared.window.Window.{Window}

abbrev pub point : (x y : ℕ) → Point
point x y = record { x = x; y = y }

-- ---- texts

-- a text of more bytes than the limit is cut off between two characters, and ends in three dots
abbrev pub shortened : (limit : ℕ) → List ℕ → List ℕ
shortened limit text = cut_to limit text

abbrev pub text_in : Option (List ℕ) → List ℕ
text_in None = []
text_in (Some text) = text

-- the text with this number, and no text past the end
abbrev pub text_at : List (List ℕ) → ℕ → List ℕ
text_at texts p = text_in (slice_get texts p)

abbrev pub texts_view : List (String Global) → List (List ℕ)
texts_view texts = map string_bytes texts

-- ---- the run

-- the line of a process, and its name at the left of it
abbrev pub lane_shapes : Window → List (List ℕ) → ℕ → List Seen
lane_shapes window names p =
    SeenLine class.Process (point window.left (lane_y p)) (point (right window) (lane_y p))
    ∷ SeenText class.Name (point (window.left - 14) (lane_y p + 5)) anchor.End 15 (shortened 32 (text_at names p)) ∷ []

abbrev pub lanes_shapes : Window → List (List ℕ) → List Seen
lanes_shapes window names = upto (lane_shapes window names) (length names)

-- where the head of an arrow stands that comes to this point from above or from below, from its left or, if it goes
-- back, from its right
abbrev pub head_point : (from_above from_right : Bool) → Point → Point
head_point from_above from_right at =
    point (if from_right then at.x + 5 else at.x - 5) (if from_above then at.y - 8 else at.y + 8)

-- the arrow of a message, if its receipt is shown; a line without a head, if its send alone is
abbrev pub message_shapes : Window → (Place → ℕ) → Place × Place → List Seen
message_shapes window columns (send, receipt) =
    if is_shown window (columns receipt) then (
    SeenArrow class.Message (event_point window columns send)
    (head_point (nat_lt send.process receipt.process)
    (nat_lt (event_point window columns receipt).x (event_point window columns send).x)
    (event_point window columns receipt)) ∷ []
    ) else (
    if is_shown window (columns send) then (
    SeenLine class.Message (event_point window columns send) (event_point window columns receipt) ∷ []
    ) else [])

abbrev pub messages_shapes : Window → (Place → ℕ) → List (Place × Place) → List Seen
messages_shapes window columns messages = flat_map (message_shapes window columns) messages

-- the corners of a diamond around a point, the first of them twice
abbrev pub diamond : Point → List Point
diamond at =
    point (at.x - 6) at.y ∷ point at.x (at.y - 6) ∷ point (at.x + 6) at.y ∷ point at.x (at.y + 6)
    ∷ point (at.x - 6) at.y ∷ []

-- the mark of an event that isn't shown, where a message begins or ends that has its other end in the picture
abbrev pub mark_shapes : Window → (Place → ℕ) → Place → List Seen
mark_shapes window columns e = SeenPolyline class.Beyond (diamond (event_point window columns e)) ∷ []

-- the mark of a message of which one end is shown
abbrev pub end_shapes : Window → (Place → ℕ) → Place × Place → List Seen
end_shapes window columns (send, receipt) =
    if is_shown window (columns receipt) then (
    if is_shown window (columns send) then [] else mark_shapes window columns send
    ) else (
    if is_shown window (columns send) then mark_shapes window columns receipt else [])

abbrev pub ends_shapes : Window → (Place → ℕ) → List (Place × Place) → List Seen
ends_shapes window columns messages = flat_map (end_shapes window columns) messages

-- the event, if it is shown
abbrev pub shown_at : Window → (Place → ℕ) → Place → List Place
shown_at window columns e = if is_shown window (columns e) then e ∷ [] else []

abbrev pub shown_of : Window → (Place → ℕ) → (process count : ℕ) → List Place
shown_of window columns p count = upto (λ n. shown_at window columns (place p (n + 1))) count

-- The events that are shown: of all events, in the order of their places, those whose columns are.
abbrev pub shown_events : Window → (Place → ℕ) → Computation → List Place
shown_events window columns c = upto (λ p. shown_of window columns p (event_count c p)) (length c)

-- the event sends a message that no event receives
abbrev pub IsInFlight : Computation → Place → Type 0
IsInFlight c e = ((id : List ℕ) × Sends c e id) × ((receipt : Place) → ¬ IsMessage c e receipt)

-- the broken arrow of a message in flight, which ends at nothing
abbrev pub flight_shapes : Window → (Place → ℕ) → (Place → Bool) → Place → List Seen
flight_shapes window columns flights e =
    if flights e then (
    SeenArrow class.Flight (event_point window columns e)
    (point (column_x window (columns e) + 28) (lane_y e.process + 40)) ∷ []
    ) else []

-- the evidence has no cut, or the event is in it
abbrev pub is_past : Evidence → Place → Bool
is_past Absent e = true
is_past (Cut counts values path) e = nat_le e.number (slice_index counts.items e.process)
is_past (Observation path) e = true

-- the dot of an event, and its number below it
abbrev pub event_shapes : Window → (Place → ℕ) → Evidence → Place → List Seen
event_shapes window columns evidence e =
    SeenCircle (if is_past evidence e then class.Past else class.Next) (event_point window columns e) 7
    ∷ SeenText class.Number (point (column_x window (columns e)) (lane_y e.process + 30)) anchor.Middle 12
    (decimal e.number) ∷ []

-- ---- the evidence

-- where the cut crosses the lane of a process: right of its last event in the cut, and left of the next one; at the
-- lane's end, if that event stands after all that is shown
abbrev pub cut_x : Window → (Place → ℕ) → List ℕ → ℕ → ℕ
cut_x window columns counts p =
    min (column_x window (columns (place p (slice_index counts p))) + 24) (right window)

abbrev pub cut_points : Window → (Place → ℕ) → List ℕ → ℕ → List Point
cut_points window columns counts p =
    point (cut_x window columns counts p) (lane_y p - 50) ∷ point (cut_x window columns counts p) (lane_y p + 36) ∷ []

-- what is shown of the values of a process's variables
abbrev pub shown_value : List ℕ → List ℕ
shown_value text = shortened 80 text

-- where values stand: right of all lanes, and so of all arrows
abbrev pub values_x : Window → ℕ
values_x window = right window + 24

-- the law of values: where they begin is right of each lane's end, and of each point at which an arrow begins or ends
abbrev pub ValuesStandClear : Type 0
ValuesStandClear = (window : Window) (columns : Place → ℕ) (e : Place)
    → (right window < values_x window) × ((event_point window columns e).x ≤ right window)

-- the values of a process's variables at the cut, at the right of its lane
abbrev pub value_shapes : Window → List (List ℕ) → ℕ → List Seen
value_shapes window values p =
    SeenText class.Value (point (values_x window) (lane_y p + 5)) anchor.Start 13 (shown_value (text_at values p)) ∷ []

-- the words above the values
abbrev pub values_words : List ℕ
values_words = codes "at the cut"

abbrev pub cut_shapes : Window → (Place → ℕ) → (lanes : ℕ) → List ℕ → List (List ℕ) → List Seen
cut_shapes window columns lanes counts values =
    SeenPolyline class.Cut (upto (cut_points window columns counts) lanes)
    ∷ SeenText class.Value (point (values_x window) 114) anchor.Start 13 values_words
    ∷ upto (value_shapes window values) lanes

-- the height of the type of a step's number: one of five digits, or of six, is set smaller, so that it has room
abbrev pub step_size : ℕ → ℕ
step_size step = if nat_le step 9999 then 13 else (if nat_le step 99999 then 11 else 10)

-- the number of a step, above the event that it adds, if that is shown
abbrev pub step_shapes : Window → (Place → ℕ) → (step : ℕ) → Place → List Seen
step_shapes window columns step e =
    if is_shown window (columns e) then (
    SeenText class.Step (point (column_x window (columns e)) (lane_y e.process - 20)) anchor.Middle (step_size step)
    (decimal step) ∷ []
    ) else []

-- The steps of an observation from a cut on: each adds the next event of its process.
abbrev pub steps_shapes : Window → (Place → ℕ) → (cut : List ℕ) → (step : ℕ) → List ℕ → List Seen
steps_shapes window columns cut step [] = []
steps_shapes window columns cut step (p ∷ path) =
    step_shapes window columns step (place p (slice_index cut p + 1))
    ++ steps_shapes window columns (one_more cut p) (step + 1) path

-- what is shown of the evidence
abbrev pub evidence_shapes : Window → (Place → ℕ) → Computation → Evidence → List Seen
evidence_shapes window columns c Absent = []
evidence_shapes window columns c (Cut counts values path) =
    cut_shapes window columns (length c) counts.items (texts_view values.items)
    ++ steps_shapes window columns (replicate (length c) 0) 1 path.items
evidence_shapes window columns c (Observation path) = steps_shapes window columns (replicate (length c) 0) 1 path.items

-- ---- what is said

-- what the shapes mean
abbrev pub legend : Evidence → List ℕ
legend Absent = codes "Dots are events, arrows are messages; a broken arrow is a message in flight."
legend (Cut counts values path) =
    codes "The thick line is a cut; open dots have not happened. Numbers above dots: an order of events through it."
legend (Observation path) =
    codes "The numbers above the dots are the order of an observation in which no cut satisfies."

-- which columns are shown, if not all are
abbrev pub window_note : Window → (widest : ℕ) → List ℕ
window_note window widest =
    if nat_lt window.shown widest then (
    codes "Columns " ++ decimal window.first ++ codes " to " ++ decimal (window.first + window.shown - 1)
    ++ codes " of " ++ decimal widest ++ codes " are shown. A diamond stands for an event before or after them."
    ) else codes "All events are shown."

-- the title, what the shapes mean, and which columns are shown
abbrev pub heading_shapes : Window → (widest : ℕ) → (title legend : List ℕ) → List Seen
heading_shapes window widest title legend =
    SeenText class.Name (point 24 38) anchor.Start 18 (shortened 112 title)
    ∷ SeenText class.Note (point 24 64) anchor.Start 13 legend
    ∷ SeenText class.Note (point 24 84) anchor.Start 13 (window_note window widest) ∷ []

-- how many processes and events there are
abbrev pub counts_text : Computation → List ℕ
counts_text c = decimal (length c) ++ codes " processes, " ++ decimal (total c) ++ codes " events. "

-- these values, after the word that leads to them; nothing if there are none
abbrev pub where_worth : List ℕ → List ℕ
where_worth [] = []
where_worth (byte ∷ rest) = codes ", where " ++ byte ∷ rest

-- a number and a name, each after these words
unfoldable pub count_words : (before : List ℕ) → (count : ℕ) → (between name : List ℕ) → List ℕ
count_words before count between name = before ++ decimal count ++ between ++ name

-- how many events of the process of this name are in a cut, and what its variables are worth there
unfoldable pub process_words : (count : ℕ) → (name values : List ℕ) → List ℕ
process_words count name values =
    count_words (codes " The cut has ") count (codes " events of ") name ++ where_worth values ++ codes "."

-- the same of the process with this number
abbrev pub crossing_words : (counts : List ℕ) → (names values : List (List ℕ)) → ℕ → List ℕ
crossing_words counts names values p =
    process_words (slice_index counts p) (text_at names p) (text_at values p)

-- the same of each process, if the evidence is a cut
abbrev pub cut_words : (names : List (List ℕ)) → (lanes : ℕ) → Evidence → List ℕ
cut_words names lanes Absent = []
cut_words names lanes (Cut counts values path) =
    upto (crossing_words counts.items names (texts_view values.items)) lanes
cut_words names lanes (Observation path) = []

-- what stands in the picture, for those who don't see it
abbrev pub description : Window → (widest : ℕ) → Computation → (names : List (List ℕ)) → Evidence → List ℕ
description window widest c names evidence =
    counts_text c ++ legend evidence ++ codes " " ++ window_note window widest
    ++ cut_words names (length c) evidence

-- ---- the whole

-- the column in which the evidence ends; 0 if it has no end
abbrev pub focus : (Place → ℕ) → Computation → Evidence → ℕ
focus columns c Absent = 0
focus columns c (Cut counts values path) = greatest_column columns (λ p. slice_index counts.items p) (length c)
focus columns c (Observation path) = 0

-- the greatest column of all
abbrev pub widest : (Place → ℕ) → Computation → ℕ
widest columns c = greatest_column columns (λ p. event_count c p) (length c)

-- the columns that are shown
abbrev pub window : (Place → ℕ) → Computation → (names : List (List ℕ)) → Evidence → Extent → Window
window columns c names evidence extent =
    window_of extent (widest columns c) (focus columns c evidence) (names_room names)

-- the room right of the lanes
abbrev pub room_right : Evidence → ℕ
room_right Absent = 0
room_right (Cut counts values path) = values_room (map shown_value (texts_view values.items))
room_right (Observation path) = 0

-- the width of the page: there is room for the headings, the lanes and the values at a cut
abbrev pub page_width : Window → (title : List ℕ) → Evidence → ℕ
page_width window title evidence = max 800 (max (title_room title + 48) (values_x window + 24 + room_right evidence))

abbrev pub page_height : Computation → ℕ
page_height c = lane_y (length c) - 30

-- the lines of the processes, the arrows of the messages, and the dots of the events
abbrev pub run_shapes : Window → (Place → ℕ) → (Place → Bool) → Computation → List (Place × Place) → List (List ℕ)
    → Evidence → List Seen
run_shapes shown columns flights c messages names evidence =
    lanes_shapes shown names ++ messages_shapes shown columns messages ++ ends_shapes shown columns messages
    ++ flat_map (flight_shapes shown columns flights) (shown_events shown columns c)
    ++ flat_map (event_shapes shown columns evidence) (shown_events shown columns c)

-- all shapes, each over those before it
abbrev pub picture_shapes : (Place → ℕ) → (Place → Bool) → Computation → List (Place × Place) → (names : List (List ℕ))
    → (title : List ℕ) → Evidence → Window → List Seen
picture_shapes columns flights c messages names title evidence shown =
    heading_shapes shown (widest columns c) title (legend evidence)
    ++ run_shapes shown columns flights c messages names evidence ++ evidence_shapes shown columns c evidence

-- The picture of a run with these messages. Its columns are the lengths of longest chains, and its broken arrows are
-- those of the sends that no event receives.
pub record IsPicture (c : Computation) (messages : List (Place × Place)) (names : List (List ℕ)) (title : List ℕ)
    (evidence : Evidence) (extent : Extent) (drawing : Drawing) : Type 0 where
  pub columns : Place → ℕ
  pub are_columns : AreColumns c columns
  pub flights : Place → Bool
  pub are_flights : (e : Place) → IsEvent c e → IsTrue (flights e) ↔ IsInFlight c e
  pub shapes : all_seen drawing.shapes.items
      ≡ picture_shapes columns flights c messages names title evidence
      (window columns c names evidence extent)
  pub width : drawing.width ≡ page_width (window columns c names evidence extent) title evidence
  pub height : drawing.height ≡ page_height c
  pub is_titled : string_bytes drawing.title ≡ title
  pub is_described : string_bytes drawing.description
      ≡ description (window columns c names evidence extent) (widest columns c) c names evidence
