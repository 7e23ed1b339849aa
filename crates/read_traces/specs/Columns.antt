-- What the columns of a process's events stand for.
use Rattle.std.specs.Prelude.{◌≡◌, ℕ, ◌+◌, ◌≤◌, List, All, drop, length, map, take, ℤ}
use Rattle.std.specs.List.{zip}
use Rattle.def_model.specs.Events as events
use Rattle.read_traces.specs.declared.entry.Entry.{Entry}
use Rattle.read_traces.specs.declared.entry.Tag.{Tag}
use Rattle.read_traces.specs.declared.entry.Tag.TheVariants as tags
use Rattle.read_traces.specs.declared.kind.Kind.{Kind}
use Rattle.read_traces.specs.declared.kind.Kind.TheVariants as seen

-- this many elements, from this index on
abbrev pub part : {A : Type 0} → ℕ → ℕ → List A → List A
part start len xs = take len (drop start xs)

abbrev pub tag_view : Tag → List ℕ → events.Kind
tag_view tags.Local id = events.Local
tag_view tags.Send id = events.Send id
tag_view tags.Recv id = events.Receive id

abbrev pub seen_kind_view : Kind → events.Kind
seen_kind_view seen.Local = events.Local
seen_kind_view (seen.Send id) = events.Send id.now
seen_kind_view (seen.Recv id) = events.Receive id.now

abbrev pub entry_with : Tag → ℕ → ℕ → ℕ → ℕ → Entry
entry_with tag id_start id_len set_start set_len = record {
  tag = tag;
  id_start = id_start;
  id_len = id_len;
  set_start = set_start;
  set_len = set_len;
}

-- the variables of settings
abbrev pub places_in : List (ℕ × ℤ) → List ℕ
places_in sets = map (λ (set : ℕ × ℤ). set.0) sets

-- the values of settings
abbrev pub values_in : List (ℕ × ℤ) → List ℤ
values_in sets = map (λ (set : ℕ × ℤ). set.1) sets

abbrev pub event_with : events.Kind → List (ℕ × ℤ) → events.Event
event_with kind sets = record { kind = kind; sets = sets }

-- the event whose parts stand there, among these bytes of ids and these variables and values of settings
abbrev pub entry_view : List ℕ → List ℕ → List ℤ → Entry → events.Event
entry_view ids places values e = record {
  kind = tag_view e.tag (part e.id_start e.id_len ids);
  sets = zip (part e.set_start e.set_len places) (part e.set_start e.set_len values);
}

abbrev pub columns_view : List ℕ → List ℕ → List ℤ → List Entry → List events.Event
columns_view ids places values entries = map (entry_view ids places values) entries

-- the event's parts stand within the columns
pub record IsWithin (ids places : List ℕ) (values : List ℤ) (e : Entry) : Type 0 where
  pub in_ids : e.id_start + e.id_len ≤ length ids
  pub in_places : e.set_start + e.set_len ≤ length places
  pub in_values : e.set_start + e.set_len ≤ length values

-- there is a value for each variable that is set, and each event's parts stand within the columns
pub record AreWithin (ids places : List ℕ) (values : List ℤ) (entries : List Entry) : Type 0 where
  pub same : length places ≡ length values
  pub each : All (IsWithin ids places values) entries
