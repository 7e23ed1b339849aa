-- What variables are worth by the row of their process.
use Rattle.std.proofs.Common.{◌≡◌, ◌≢◌, ◌+◌, ◌<◌, ◌≤◌, ◌⊎◌, inl, inr, ℕ, zero, suc, ℤ, pos, List, [], ◌∷◌, ◌++◌, Option, Some, None, option_map, append-nil, drop, get_or, length, map, take, refl, sym, ap, ◌∙◌, subst, arith}
use Rattle.std.specs.Prelude.{flat_map, slice_get}
use Rattle.std.proofs.Math.Seq.{drop-append_seam}
use Rattle.std.proofs.lemmas.Bool.{cases_lt}
use Rattle.std.proofs.lemmas.Grind.{flat_map-append}
use Rattle.std.proofs.lemmas.List.{ext_get_or, get_or-drop, get_or-map, length-map}
use Rattle.std.proofs.lemmas.Option.{same_Some, slice_get-get_or, slice_get_past}
use Rattle.def_long.specs.Views.{value_after}
use Rattle.def_model.specs.Events.{Event}
use Rattle.def_model.specs.Predicates.{Recorded, last_set, last_set_if_there}
use Rattle.def_orders.specs.Orders.{values_after}
use Rattle.judge_orders.specs.KeptEvents.{AreKeptUpTo}
use Rattle.judge_orders.specs.ProcessEvents.{AreKeptOfProcess, IsProcess, seen_in}
use Rattle.pd_clock.specs.Histories.{row_after}
use Rattle.pd_clock.proofs.Rows.{length-row_after, row_after-at}
use Rattle.judge_orders.proofs.Keeping.{kept_all, kept_more, kept_none, kept_same}
use Rattle.judge_orders.proofs.Places.{map_more}

-- ---- what the row has

-- one variable more
pub seen_more : (row : List ℤ) (vars : List ℕ) (i d : ℕ) → i < length vars
    → seen_in row (take (i + 1) vars) ≡ seen_in row (take i vars) ++ get_or row (get_or vars i d) (pos 0) ∷ []
seen_more row vars i d lt = map_more (λ (v : ℕ). get_or row v (pos 0)) vars i d lt

seen_length : (row : List ℤ) (vars : List ℕ) → length (seen_in row vars) ≡ length vars
seen_length row vars = length-map vars (λ (v : ℕ). get_or row v (pos 0))

-- as many values as variables
pub values_for : (row values : List ℤ) (vars : List ℕ) (last : ℕ) → drop last values ≡ seen_in row vars
    → length (drop last values) ≡ length vars
values_for row values vars last seen = ap (λ (xs : List ℤ). length xs) seen ∙ seen_length row vars

-- each variable is worth what the value in its place says
pub seen_all : (row values : List ℤ) (vars : List ℕ) (last : ℕ) → length (drop last values) ≡ length vars
    → ((k : ℕ) → k < length vars → get_or values (last + k) (pos 0) ≡ get_or row (get_or vars k 0) (pos 0))
    → drop last values ≡ seen_in row vars
seen_all row values vars last many same =
    ext_get_or (pos 0) (drop last values) (seen_in row vars) (many ∙ sym (seen_length row vars))
    (λ k lt.
    get_or-drop last values k (pos 0)
    ∙ (same k (omega (arith, many, lt))
    ∙ sym (get_or-map (λ (v : ℕ). get_or row v (pos 0)) vars k 0 (pos 0) (omega (arith, many, lt)))))

-- one of them is worth something else
pub seen_differ : (row values : List ℤ) (vars : List ℕ) (last i : ℕ) → i < length vars
    → get_or values (last + i) (pos 0) ≢ get_or row (get_or vars i 0) (pos 0)
    → drop last values ≢ seen_in row vars
seen_differ row values vars last i lt differ same =
    differ
    (sym (get_or-drop last values i (pos 0))
    ∙ (ap (λ (xs : List ℤ). get_or xs i (pos 0)) same
    ∙ get_or-map (λ (v : ℕ). get_or row v (pos 0)) vars i 0 (pos 0) lt))

-- ---- the row after events

-- the row after all settings of these events
abbrev pub row_of : List ℤ → List Event → List ℤ
row_of row [] = row
row_of row (event ∷ rest) = row_of (row_after row event.sets) rest

pub length-row_of : (row : List ℤ) (events : List Event) → length (row_of row events) ≡ length row
length-row_of row [] = refl
length-row_of row (event ∷ rest) =
    length-row_of (row_after row event.sets) rest ∙ length-row_after row event.sets

-- one event more
pub row_of_more : (row : List ℤ) (events : List Event) (k : ℕ) (event : Event) → slice_get events k ≡ Some event
    → row_of row (take (k + 1) events) ≡ row_after (row_of row (take k events)) event.sets
row_of_more row [] k event at = absurd (cc)
row_of_more row (first ∷ events) zero event at =
    let same : first ≡ event = cc in ap (λ (e : Event). row_after row e.sets) same
row_of_more row (first ∷ events) (suc k) event at =
    ap (λ (n : ℕ). row_of row (take n (first ∷ events))) (let e : suc k + 1 ≡ suc (k + 1) = omega arith in e)
    ∙ row_of_more (row_after row first.sets) events k event at

-- the variable's value, if it is there
row_at : (row : List ℤ) (events : List Event) (v : ℕ) → v < length row
    → get_or (row_of row events) v (pos 0) ≡ last_set v (get_or row v (pos 0)) events
row_at row [] v lt = refl
row_at row (event ∷ rest) v lt =
    row_at (row_after row event.sets) rest v (omega (arith, lt, length-row_after row event.sets))
    ∙ ap (λ (old : ℤ). last_set v old rest) (row_after-at row event.sets v lt)

row_past : (row : List ℤ) (v : ℕ) → length row ≤ v → get_or row v (pos 0) ≡ pos 0
row_past [] v le = refl
row_past (x ∷ row) zero le = absurd (omega (arith, le))
row_past (x ∷ row) (suc v) le = row_past row v (omega (arith, le))

pub value_at : (row : List ℤ) (events : List Event) (v : ℕ)
    → get_or (row_of row events) v (pos 0) ≡ last_set_if_there v (slice_get row v) events
value_at row events v = go (cases_lt v (length row))
  where
    go : (v < length row) ⊎ (length row ≤ v)
        → get_or (row_of row events) v (pos 0) ≡ last_set_if_there v (slice_get row v) events
    go (inl lt) =
        row_at row events v lt
        ∙ ap (λ (old : Option ℤ). last_set_if_there v old events) (sym (slice_get-get_or row v (pos 0) lt))
    go (inr past) =
        row_past (row_of row events) v (omega (arith, past, length-row_of row events))
        ∙ ap (λ (old : Option ℤ). last_set_if_there v old events) (sym (slice_get_past row v past))

-- ---- of a process

value_is : (r : Recorded) (p : ℕ) (start : List ℤ) (events : List Event) (k v : ℕ) → IsProcess r p start events
    → get_or (row_of start (take k events)) v (pos 0) ≡ value_after r k p v
value_is r p start events k v is =
    value_at start (take k events) v
    ∙ ((λ i. last_set_if_there v (slice_get (sym is.starts i) v) (take k (sym is.happen i))))

-- what the row has is what the process's variables are worth
pub seen_is : (r : Recorded) (p : ℕ) (start : List ℤ) (events : List Event) (vars : List ℕ) (k : ℕ)
    → IsProcess r p start events → seen_in (row_of start (take k events)) vars ≡ values_after r p vars k
seen_is r p start events vars k is = λ i. map (λ (v : ℕ). value_is r p start events k v is i) vars

-- ---- one event after another

-- What is kept of the first k events. The row has what all variables of the process are worth after them, and the last
-- values, which stand from `last` on, say the same of those that are seen.
pub record IsKeptSoFar (start : List ℤ) (events : List Event) (vars numbers : List ℕ) (values row : List ℤ)
    (last k : ℕ) : Type 0 where
  pub row_is : row ≡ row_of start (take k events)
  pub seen : drop last values ≡ seen_in row vars
  pub kept : (r : Recorded) (p : ℕ) → IsProcess r p start events → AreKeptUpTo r p vars numbers k
  pub values_are : (r : Recorded) (p : ℕ) → IsProcess r p start events
      → values ≡ flat_map (values_after r p vars) (0 ∷ numbers)

-- what the row has is what the process's variables are worth
seen_now : (r : Recorded) (p : ℕ) (start : List ℤ) (events : List Event) (vars : List ℕ) (row : List ℤ) (k : ℕ)
    → row ≡ row_of start (take k events) → IsProcess r p start events → seen_in row vars ≡ values_after r p vars k
seen_now r p start events vars row k is process =
    ap (λ (xs : List ℤ). seen_in xs vars) is ∙ seen_is r p start events vars k process

-- no event yet
pub so_far_first : (start row : List ℤ) (events : List Event) (vars numbers : List ℕ) (old values : List ℤ)
    → row ≡ start → numbers ≡ [] → old ≡ [] → values ≡ old ++ seen_in row vars
    → IsKeptSoFar start events vars numbers values row 0 0
so_far_first start row events vars numbers old values is none empty are = record {
  row_is = is;
  seen = seen;
  kept = λ r p process. subst (λ (xs : List ℕ). AreKeptUpTo r p vars xs 0) (sym none) (kept_none r p vars);
  values_are = λ r p process.
      seen ∙ (seen_now r p start events vars row 0 is process
      ∙ (sym (append-nil (values_after r p vars 0))
      ∙ ap (λ (xs : List ℕ). flat_map (values_after r p vars) (0 ∷ xs)) (sym none)));
}
  where
    seen : values ≡ seen_in row vars
    seen = are ∙ ap (λ (xs : List ℤ). xs ++ seen_in row vars) empty

-- the row after one event more
row_next : (start row new : List ℤ) (events : List Event) (k : ℕ) (sets : List (ℕ × ℤ))
    → row ≡ row_of start (take k events)
    → option_map (λ (event : Event). event.sets) (slice_get events k) ≡ Some sets → new ≡ row_after row sets
    → new ≡ row_of start (take (k + 1) events)
row_next start row new events k sets before at is = go (slice_get events k) refl at
  where
    go : (found : Option Event) → slice_get events k ≡ found
        → option_map (λ (event : Event). event.sets) found ≡ Some sets → new ≡ row_of start (take (k + 1) events)
    go None is_found has = absurd (cc)
    go (Some event) is_found has =
        let same : event.sets ≡ sets = same_Some event.sets sets has in
        is ∙ ((λ i. row_after (before i) (sym same i)) ∙ sym (row_of_more start events k event is_found))

-- the next event leaves what is seen as it was
pub so_far_same : (start : List ℤ) (events : List Event) (vars numbers : List ℕ) (values row new : List ℤ)
    (last k : ℕ) (sets : List (ℕ × ℤ)) → IsKeptSoFar start events vars numbers values row last k
    → option_map (λ (event : Event). event.sets) (slice_get events k) ≡ Some sets → new ≡ row_after row sets
    → drop last values ≡ seen_in new vars → IsKeptSoFar start events vars numbers values new last (k + 1)
so_far_same start events vars numbers values row new last k sets known at is same = record {
  row_is = after;
  seen = same;
  kept = λ r p process.
      kept_same r p vars numbers k (known.kept r p process)
      (sym (seen_now r p start events vars row k known.row_is process)
      ∙ (sym known.seen ∙ (same ∙ seen_now r p start events vars new (k + 1) after process)));
  values_are = known.values_are;
}
  where
    after : new ≡ row_of start (take (k + 1) events)
    after = row_next start row new events k sets known.row_is at is

-- the next event is kept
pub so_far_more : (start : List ℤ) (events : List Event) (vars numbers more : List ℕ) (values row new added : List ℤ)
    (last next k : ℕ) (sets : List (ℕ × ℤ)) → k < length events → next ≡ length values
    → IsKeptSoFar start events vars numbers values row last k
    → option_map (λ (event : Event). event.sets) (slice_get events k) ≡ Some sets → new ≡ row_after row sets
    → drop last values ≢ seen_in new vars → added ≡ values ++ seen_in new vars → more ≡ numbers ++ (k + 1) ∷ []
    → IsKeptSoFar start events vars more added new next (k + 1)
so_far_more start events vars numbers more values row new all last to k sets lt end known at is apart add put = record {
  row_is = after;
  seen = (λ i. drop (end i) (add i)) ∙ drop-append_seam values (seen_in new vars);
  kept = λ r p process.
      subst (λ (xs : List ℕ). AreKeptUpTo r p vars xs (k + 1)) (sym put)
      (kept_more r p vars numbers k (known.kept r p process)
      (omega (arith, lt, ap (λ (xs : List Event). length xs) process.happen))
      (λ same.
      apart (known.seen ∙ (seen_now r p start events vars row k known.row_is process
      ∙ (same ∙ sym (seen_now r p start events vars new (k + 1) after process))))));
  values_are = λ r p process.
      add ∙ ((λ i. known.values_are r p process i
      ++ seen_now r p start events vars new (k + 1) after process i)
      ∙ (ap (λ (xs : List ℤ). flat_map (values_after r p vars) (0 ∷ numbers) ++ xs)
      (sym (append-nil (values_after r p vars (k + 1))))
      ∙ (sym (flat_map-append (values_after r p vars) (0 ∷ numbers) ((k + 1) ∷ []))
      ∙ ap (λ (xs : List ℕ). flat_map (values_after r p vars) (0 ∷ xs)) (sym put))));
}
  where
    after : new ≡ row_of start (take (k + 1) events)
    after = row_next start row new events k sets known.row_is at is

-- no event is left
pub so_far_all : (start : List ℤ) (events : List Event) (vars numbers : List ℕ) (values row : List ℤ) (last k : ℕ)
    → length events ≤ k → IsKeptSoFar start events vars numbers values row last k
    → AreKeptOfProcess start events vars numbers values
so_far_all start events vars numbers values row last k le known = record {
  kept = λ r p process.
      kept_all r p vars numbers k (known.kept r p process)
      (omega (arith, le, ap (λ (xs : List Event). length xs) process.happen));
  values_are = known.values_are;
}
