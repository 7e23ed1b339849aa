-- What columns stand for after an event is added, and which events are kept.
use Rattle.std.proofs.Common.{◌≡◌, ℕ, ℤ, ◌+◌, ◌-◌, ◌≤◌, List, [], ◌∷◌, ◌++◌, length, take, drop, refl, sym, ap, ◌∙◌, arith}
use Rattle.std.specs.List.{zip}
use Rattle.std.specs.Prelude.{All}
use Rattle.std.proofs.Math.Seq.{drop-append_seam, take-length}
use Rattle.std.proofs.lemmas.List.{drop-append-le, length-drop, length-map, length-take-le, map-append, take-append-le}
use Rattle.std.proofs.lemmas.List.Elements.{All-head, All-tail}
use Rattle.def_model.specs.Events as events
use Rattle.read_traces.specs.Columns.{IsWithin, AreWithin, columns_view, entry_view, entry_with, event_with, part, places_in, tag_view, values_in}
use Rattle.read_traces.specs.declared.entry.Entry.{Entry}
use Rattle.read_traces.specs.declared.entry.Tag.{Tag}

part_grown : {A : Type 0} (start len : ℕ) (xs ys : List A) → start + len ≤ length xs
    → part start len (xs ++ ys) ≡ part start len xs
part_grown start len xs ys within =
    let rest : length (drop start xs) ≡ length xs - start = length-drop start xs in
    ap (take len) (drop-append-le start xs ys (omega arith))
    ∙ take-append-le len (drop start xs) ys (omega arith)

part_last : {A : Type 0} (start len : ℕ) (xs ys : List A) → start ≡ length xs → len ≡ length ys
    → part start len (xs ++ ys) ≡ ys
part_last start len xs ys e f = rw (e, f) (ap (take (length ys)) (drop-append_seam xs ys) ∙ take-length ys)

pub length_part : {A : Type 0} (start len : ℕ) (xs : List A) → start + len ≤ length xs
    → length (part start len xs) ≡ len
length_part start len xs within =
    let rest : length (drop start xs) ≡ length xs - start = length-drop start xs in
    length-take-le len (drop start xs) (omega arith)

-- the settings, from their variables and their values
parts_zipped : (sets : List (ℕ × ℤ)) → zip (places_in sets) (values_in sets) ≡ sets
parts_zipped [] = refl
parts_zipped (set_ ∷ sets) = λ i. set_ ∷ parts_zipped sets i

module _ (ids places : List ℕ) (values : List ℤ) (id : List ℕ) (new : List (ℕ × ℤ)) where
  entry_grown : (e : Entry) → IsWithin ids places values e
      → entry_view (ids ++ id) (places ++ places_in new) (values ++ values_in new) e ≡ entry_view ids places values e
  entry_grown e within = λ i. record {
    kind = tag_view e.tag (part_grown e.id_start e.id_len ids id within.in_ids i);
    sets = zip (part_grown e.set_start e.set_len places (places_in new) within.in_places i)
        (part_grown e.set_start e.set_len values (values_in new) within.in_values i);
  }

  columns_grown : (entries : List Entry) → All (IsWithin ids places values) entries
      → columns_view (ids ++ id) (places ++ places_in new) (values ++ values_in new) entries
      ≡ columns_view ids places values entries
  columns_grown [] within = refl
  columns_grown (e ∷ entries) within = λ i.
      entry_grown e (All-head (IsWithin ids places values) e entries within) i
      ∷ columns_grown entries (All-tail (IsWithin ids places values) e entries within) i

  entry_last : (tag : Tag) → length places ≡ length values
      → entry_view (ids ++ id) (places ++ places_in new) (values ++ values_in new)
      (entry_with tag (length ids) (length id) (length places) (length new))
      ≡ event_with (tag_view tag id) new
  entry_last tag same =
      let placed : part (length places) (length new) (places ++ places_in new) ≡ places_in new =
      part_last (length places) (length new) places (places_in new) refl (sym (length-map new _)) in
      let valued : part (length places) (length new) (values ++ values_in new) ≡ values_in new =
      part_last (length places) (length new) values (values_in new) same (sym (length-map new _)) in
      let sets : zip (part (length places) (length new) (places ++ places_in new))
      (part (length places) (length new) (values ++ values_in new)) ≡ new =
      (λ i. zip (placed i) (valued i)) ∙ parts_zipped new in
      λ i. event_with (tag_view tag (part_last (length ids) (length id) ids id refl refl i)) (sets i)

  -- the events after one is added
  pub columns_pushed : (entries : List Entry) (tag : Tag) (kind : events.Kind) → AreWithin ids places values entries
      → tag_view tag id ≡ kind
      → columns_view (ids ++ id) (places ++ places_in new) (values ++ values_in new)
      (entries ++ entry_with tag (length ids) (length id) (length places) (length new) ∷ [])
      ≡ columns_view ids places values entries ++ event_with kind new ∷ []
  columns_pushed entries tag kind within is =
      let last = entry_with tag (length ids) (length id) (length places) (length new) in
      map-append (entry_view (ids ++ id) (places ++ places_in new) (values ++ values_in new)) entries (last ∷ [])
      ∙ (λ i. columns_grown entries within.each i ++ (entry_last tag within.same
      ∙ (λ j. event_with (is j) new)) i ∷ [])

-- what keeps what was kept keeps it
pub keeps_more : {A : Type 0} (old more new : List A) → take (length old) more ≡ old → take (length more) new ≡ more
    → take (length old) new ≡ old
keeps_more [] more new first second = refl
keeps_more (x ∷ old) [] new first second = absurd (cc)
keeps_more (x ∷ old) (y ∷ more) [] first second = absurd (cc)
keeps_more (x ∷ old) (y ∷ more) (z ∷ new) first second =
    let rest : take (length old) more ≡ old = cc in
    let others : take (length more) new ≡ more = cc in
    let kept : take (length old) new ≡ old = keeps_more old more new rest others in
    let same : z ≡ x = cc in
    λ i. same i ∷ kept i
