-- No number of a report is a float.
use Rattle.std.proofs.Common.{◌≡◌, ℕ, ℤ, pos, negsuc, List, [], ◌∷◌, Bool, true, false, map, Option, Some, None, Ordering, Less, Equal, Greater, refl}
use Rattle.std.specs.Ordering.{nat_cmp, match_ordering}
use Rattle.std.specs.Cmp.Lexicographic.{slice_cmp}
use Rattle.serde_json.specs.Data.{Data, Members, no_members, member, number, put}
use Rattle.serde_json.specs.Find.{of_integer}
use Rattle.serde_json.specs.View.{items_of}
use Rattle.serde_json.specs.Written.{has_float, items_have_float, members_have_float}
use Rattle.def_format.specs.Names.{ProcessNames}
use Rattle.def_format.specs.Reports.{Possibly, Definitely, Answer, Refusal, Spec, Predicate, Streams, Stream, Absent, Match, Cycle, Report, Judged, Refused}
use Rattle.out_json.specs.JsonReports.{Places, ProcessAt, number_data, put_all, value_field, values_data, process_field, placed, recorded_in, cut_data, field, with_counts, run_data, runs, possibly_data, definitely_data, answer_data, place_data, refusal_data, json_at}

items_whole : {A : Type 0} (f : A → Data) → ((x : A) → has_float (f x) ≡ false) → (xs : List A)
    → items_have_float (items_of (map f xs)) ≡ false
items_whole f each [] = refl
items_whole f each (x ∷ xs) = rw (each x, items_whole f each xs) refl

-- ---- the counts of a cut

by_order : (o : Ordering) (a b c : Members) → members_have_float a ≡ false → members_have_float b ≡ false
    → members_have_float c ≡ false → members_have_float (match_ordering o a b c) ≡ false
by_order Less a b c p q r = p
by_order Equal a b c p q r = q
by_order Greater a b c p q r = r

first_whole : (k : List ℕ) (d : Data) (fields : Members) → members_have_float (member k d fields) ≡ false
    → has_float d ≡ false
first_whole k d fields h = go (has_float d) refl h
  where
    go : (b : Bool) → has_float d ≡ b → members_have_float (member k d fields) ≡ false → has_float d ≡ false
    go true e h = absurd (let bad = rw e at h in cc)
    go false e h = e

rest_whole : (k : List ℕ) (d : Data) (fields : Members) → members_have_float (member k d fields) ≡ false
    → members_have_float fields ≡ false
rest_whole k d fields h = rw (first_whole k d fields h) at h

put_whole : (k : List ℕ) (d : Data) (fields : Members) → has_float d ≡ false → members_have_float fields ≡ false
    → members_have_float (put k d fields) ≡ false
put_whole k d no_members whole h = rw (whole) refl
put_whole k d (member l e fields) whole h =
    by_order (slice_cmp nat_cmp k l) (member k d (member l e fields)) (member l d fields)
    (member l e (put k d fields)) (rw (whole, h) refl) (rw (whole, rest_whole l e fields h) refl)
    (rw (first_whole l e fields h, put_whole k d fields whole (rest_whole l e fields h)) refl)

all_whole : {A : Type 0} (f : A → List ℕ × Data) → ((x : A) → has_float (f x).1 ≡ false) → (xs : List A)
    (fields : Members) → members_have_float fields ≡ false → members_have_float (put_all (map f xs) fields) ≡ false
all_whole f each [] fields h = h
all_whole f each (x ∷ xs) fields h =
    all_whole f each xs (put (f x).0 (f x).1 fields) (put_whole (f x).0 (f x).1 fields (each x) h)

counts_whole : (names : List ProcessNames) (counts : List ℕ) (fields : Members) → members_have_float fields ≡ false
    → members_have_float (with_counts names counts fields) ≡ false
counts_whole [] counts fields h = h
counts_whole (process ∷ names) [] fields h = h
counts_whole (process ∷ names) (count ∷ counts) fields h =
    counts_whole names counts (put process.name (number_data count) fields)
    (put_whole process.name (number_data count) fields refl h)

-- ---- what is known of a cut

integer_whole : (value : ℤ) → has_float (number (of_integer value)) ≡ false
integer_whole (pos n) = refl
integer_whole (negsuc n) = refl

value_whole : (value : List ℕ × ℤ) → has_float (value_field value).1 ≡ false
value_whole (name, value) = integer_whole value

recorded_whole : (recorded : Option (List ℕ × ℕ)) (fields : Members) → members_have_float fields ≡ false
    → members_have_float (recorded_in recorded fields) ≡ false
recorded_whole None fields h = h
recorded_whole (Some (file, line)) fields h = rw (h) refl

process_whole : (known : ProcessAt) → has_float (process_field known).1 ≡ false
process_whole known =
    recorded_whole known.recorded (field "values" (values_data known.values) no_members)
    (rw (all_whole value_field value_whole known.values no_members refl) refl)

placed_whole : (known : Option (List ProcessAt)) (fields : Members) → members_have_float fields ≡ false
    → members_have_float (placed known fields) ≡ false
placed_whole None fields h = h
placed_whole (Some known) fields h = rw (all_whole process_field process_whole known no_members refl, h) refl

-- ---- a report

possibly_whole : (names : List ProcessNames) (known_at : List ℕ → Option (List ProcessAt)) (possibly : Possibly)
    → has_float (possibly_data names known_at possibly) ≡ false
possibly_whole names known_at (Possibly.Yes counts) =
    placed_whole (known_at counts) (field "cut" (cut_data names counts) no_members)
    (rw (counts_whole names counts no_members refl) refl)
possibly_whole names known_at Possibly.No = refl
possibly_whole names known_at (Possibly.Unknown level) = refl

definitely_whole : (definitely : Definitely) → has_float (definitely_data definitely) ≡ false
definitely_whole (Definitely.Yes level) = refl
definitely_whole (Definitely.No path) = rw (items_whole run_data (λ run. refl) (runs path)) refl
definitely_whole (Definitely.Unknown level) = refl

answer_whole : (names : List ProcessNames) (places : Places) (answer : Answer)
    → has_float (answer_data names places answer) ≡ false
answer_whole names places answer =
    rw (definitely_whole answer.definitely, possibly_whole names (places answer.name) answer.possibly) refl

refusal_whole : (refusal : Refusal) → has_float (refusal_data refusal) ≡ false
refusal_whole (Spec word) = refl
refusal_whole (Predicate n word at) = refl
refusal_whole Streams = refl
refusal_whole (Stream stream line word) = refl
refusal_whole (Absent name) = refl
refusal_whole (Match word place) = refl
refusal_whole (Cycle places) = rw (items_whole place_data (λ place. refl) places) refl

pub report_whole : (names : List ProcessNames) (places : Places) (report : Report)
    → has_float (json_at names places report) ≡ false
report_whole names places (Judged processes events messages answers) =
    rw (items_whole (answer_data names places) (answer_whole names places) answers) refl
report_whole names places (Refused refusal) = rw (refusal_whole refusal) refl
