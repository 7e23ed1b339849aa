-- What the order of a run says of its kept events: which there are, and by its rows which one is up to which.
use Rattle.std.proofs.Common.{◌≡◌, ℕ, ◌<◌, ◌≤◌, List, [], length, get_or, All, sym, ap, ◌∙◌, subst, inl, inr, ◌⊎◌, ◌↔◌, arith}
use Rattle.std.proofs.lemmas.Bool.{cases_lt}
use Rattle.std.proofs.lemmas.List.{get_or_past}
use Rattle.std.proofs.lemmas.Slice.Zip.{AllZip-long}
use Rattle.def_model.specs.Events.{IsEvent, event_count, place}
use Rattle.def_model.specs.Order.{IsClock, IsUpTo}
use Rattle.def_model.specs.Predicates.{Recorded}
use Rattle.def_orders.specs.Orders.{AreKept, IsKnownTo, IsOrderOf, IsSeenOf, ProcessOrder, count_up_to}
use Rattle.def_orders.proofs.Flat.{zip_at}
use Rattle.def_orders.proofs.KeptImages.{listed}
use Rattle.def_orders.proofs.Ranks.{first_ones}

-- a process of no events keeps none
none_kept : (r : Recorded) (p : ℕ) (vars numbers : List ℕ) → event_count r.events p ≡ 0 → length numbers ≡ 0
    → AreKept r p vars numbers
none_kept r p vars numbers none empty = record {
  ascend = λ i j d lt within. absurd (omega arith);
  events = λ i d within. absurd (omega arith);
  changes = λ n (i, within, at). absurd (omega arith);
  others = λ n lt out. absurd (omega arith);
}

-- what is seen of no process
abbrev pub nothing_seen : ProcessOrder
nothing_seen = record { values = []; known = [] }

module _ (r : Recorded) (named : List (List ℕ)) (order : List ProcessOrder) (is : IsOrderOf r named order) where
  abbrev NumbersOf : ℕ → List ℕ
  NumbersOf p = get_or is.numbers p []

  pub seen : (p : ℕ) → p < length r.events
      → IsSeenOf r (get_or named p []) is.numbers p (get_or order p nothing_seen)
  seen p there = is.each p nothing_seen there

  pub none_listed : (p : ℕ) → length r.events ≤ p → length (NumbersOf p) ≡ 0
  none_listed p past = let long : length is.numbers ≡ length r.events = is.all_kept in
      ap length (get_or_past is.numbers p [] (omega arith))

  pub there_of_listed : (p i : ℕ) → i < length (NumbersOf p) → p < length r.events
  there_of_listed p i within = go (cases_lt p (length r.events))
    where
      go : (p < length r.events) ⊎ (length r.events ≤ p) → p < length r.events
      go (inl there) = there
      go (inr past) = let none : length (NumbersOf p) ≡ 0 = none_listed p past in absurd (omega arith)

  pub kept_of : (p : ℕ) → AreKept r p (get_or named p []) (NumbersOf p)
  kept_of p = go (cases_lt p (length r.events))
    where
      go : (p < length r.events) ⊎ (length r.events ≤ p) → AreKept r p (get_or named p []) (NumbersOf p)
      go (inl there) = (seen p there).kept
      go (inr past) =
          none_kept r p (get_or named p []) (NumbersOf p) (ap length (get_or_past r.events p [] past))
          (none_listed p past)

  -- ---- the rows of a process's kept events

  module _ (p : ℕ) (there : p < length r.events) where
    abbrev pub Rows : List (List ℕ)
    Rows = (seen p there).rows

    pub as_many_rows : length Rows ≡ length (NumbersOf p)
    as_many_rows =
        AllZip-long (λ n row. IsKnownTo r is.numbers (place p n) row) (NumbersOf p) Rows (seen p there).are_rows

    row_known : (i : ℕ) → i < length (NumbersOf p) → (d : List ℕ)
        → IsKnownTo r is.numbers (listed is.numbers p i) (get_or Rows i d)
    row_known i within d =
        zip_at (λ n row. IsKnownTo r is.numbers (place p n) row) (NumbersOf p) Rows (seen p there).are_rows i 0 d within

    pub rows_long : All (λ row. length row ≡ length r.events) Rows
    rows_long i d within =
        let many : length Rows ≡ length (NumbersOf p) = as_many_rows in
        let known : IsKnownTo r is.numbers (listed is.numbers p i) (get_or Rows i d) =
        row_known i (omega arith) d in
        known.one_each ∙ is.all_kept

    -- An event of another process is up to this one exactly if the row counts it.
    pub up_to_by_row : (q j i : ℕ) → j < length (NumbersOf q) → i < length (NumbersOf p)
        → IsUpTo r.events (listed is.numbers q j) (listed is.numbers p i) ↔ (j < get_or (get_or Rows i []) q 0)
    up_to_by_row q j i in_q in_p = (to, from)
      where
        clock : (n : ℕ) × IsClock r.events (listed is.numbers p i) q n
            × (get_or (get_or Rows i []) q 0 ≡ count_up_to (NumbersOf q) n)
        clock =
            let known : IsKnownTo r is.numbers (listed is.numbers p i) (get_or Rows i []) = row_known i in_p [] in
            let many : length is.numbers ≡ length r.events = is.all_kept in
            let low : q < length r.events = there_of_listed q j in_q in
            known.each q (omega arith)

        event : IsEvent r.events (listed is.numbers q j)
        event = (kept_of q).events j 0 in_q

        counted : (get_or (NumbersOf q) j 0 ≤ clock.0) ↔ (j < count_up_to (NumbersOf q) clock.0)
        counted = first_ones (NumbersOf q) (kept_of q).ascend clock.0 j in_q

        to : IsUpTo r.events (listed is.numbers q j) (listed is.numbers p i) → j < get_or (get_or Rows i []) q 0
        to up =
            subst (λ (k : ℕ). j < k) (sym clock.2)
            (counted.0 ((clock.1.past (get_or (NumbersOf q) j 0) event.0 event.1).1 up))

        from : j < get_or (get_or Rows i []) q 0 → IsUpTo r.events (listed is.numbers q j) (listed is.numbers p i)
        from low =
            (clock.1.past (get_or (NumbersOf q) j 0) event.0 event.1).0
            (counted.1 (subst (λ (k : ℕ). j < k) clock.2 low))
