-- One column more in a table.
use Rattle.std.proofs.Common.{◌≡◌, ◌≢◌, ℕ, ◌+◌, ◌-◌, ◌<◌, ◌≤◌, max, List, [], ◌∷◌, ◌++◌, length, get_or, sum, replicate, refl, sym, ap, ◌∙◌, subst, inl, inr, ◌⊎◌, ◌↔◌, arith, length-append}
use Rattle.std.specs.Prelude.{Option, Some, None, Vec, option_map, IfSome}
use Rattle.std.specs.Global.{Global}
use Rattle.std.proofs.lemmas.Bool.{cases_lt, cases_eq}
use Rattle.std.proofs.lemmas.List.{get_or_append_left, get_or-append-add}
use Rattle.std.proofs.lemmas.Option.{slice_get_past, same_Some, none-some}
use Rattle.pd_match.specs.Views.{place_view}
use Rattle.pd_match.specs.declared.place.Place.{Place as MatchedPlace}
use Rattle.def_model.specs.Events.{Computation, Place, place, IsEvent, event_count}
use Rattle.def_model.specs.Messages.{IsMessage}
use Rattle.def_model.specs.Order.{HasNoCycle}
use Rattle.def_model.specs.Cuts.{one_more, full_cut, total}
use Rattle.def_model.proofs.Consistency.{process_in_range}
use Rattle.def_model.proofs.Counts.{more_other, sum_more, sum_le, length_full, full_at}
use Rattle.def_model.proofs.Stuck.{none_stuck}
use Rattle.pd_clock.specs.Orders.{IsDone, IsOrdered, CanGo, LeavesStuck, clocks_in, next_of}
use Rattle.pd_clock.proofs.OrderSteps.{IsSendOf, send_event, go_within, in_list, more_here, old_or_next, zeros_at}
use Rattle.out_picture.specs.Columns.{AreColumns}
use Rattle.out_picture.specs.Tables.{HasColumns, IsNextColumn, IsNextTo, IsTable, column_at, column_of, place_before, row_of}
use Rattle.out_picture.proofs.ColumnLaws.{are_columns}

row_past : (rows : List (Vec ℕ Global)) (p : ℕ) → length rows ≤ p → row_of rows p ≡ []
row_past rows p past = ap clocks_in (slice_get_past rows p past)

-- the table of no event
pub columns_none : (c : Computation) (n : ℕ) (done : List ℕ) (rows : List (Vec ℕ Global)) → n ≡ length c
    → done ≡ replicate n 0 → length rows ≡ n → ((p : ℕ) → p < n → row_of rows p ≡ 0 ∷ []) → HasColumns c done rows
columns_none c n done rows many none each zeros = record {
  one_each = each ∙ many;
  lengths = λ p lt. let z : get_or done p 0 ≡ 0 = zeros_at done n p none in let one : length (row_of rows p) ≡ 1 =
      ap length (zeros p (omega arith)) in omega arith;
  zero_first = λ p. zero_first p (cases_lt p n);
  steps = λ e is in_order. let z : get_or done e.process 0 ≡ 0 =
      zeros_at done n e.process none in let some : 1 ≤ e.number =
      is.0 in absurd (omega arith);
  small = λ e in_order. let z : get_or done e.process 0 ≡ 0 =
      zeros_at done n e.process none in let number : e.number ≡ 0 =
      omega arith in let nothing : column_at rows (place e.process 0) ≡ 0 =
      zero_first e.process (cases_lt e.process n) in let here : column_at rows e ≡ 0 =
      subst (λ (m : ℕ). get_or (row_of rows e.process) m 0 ≡ 0) (sym number) nothing in omega arith;
}
  where
    zero_first : (p : ℕ) → (p < n) ⊎ (n ≤ p) → column_at rows (place p 0) ≡ 0
    zero_first p (inl lt) = ap (λ (row : List ℕ). get_or row 0 0) (zeros p lt)
    zero_first p (inr le) = ap (λ (row : List ℕ). get_or row 0 0) (row_past rows p (omega arith))

-- a column after the others of its process
module _ (c : Computation) (done : List ℕ) (rows after : List (Vec ℕ Global)) (p column : ℕ)
    (ordered : IsOrdered c done) (goes : CanGo c done p) (has : HasColumns c done rows)
    (next : IsNextColumn c done rows p column) (many : length after ≡ length rows)
    (here : row_of after p ≡ row_of rows p ++ column ∷ [])
    (others : (q : ℕ) → q ≢ p → row_of after q ≡ row_of rows q) where
  kept : (e : Place) → IsDone done e → column_at after e ≡ column_at rows e
  kept e in_order = go (cases_eq e.process p)
    where
      go : (e.process ≡ p) ⊎ (e.process ≡ p → ⊥) → column_at after e ≡ column_at rows e
      go (inr other) = ap (λ (row : List ℕ). get_or row e.number 0) (others e.process other)
      go (inl same) =
          let within : e.process < length c = subst (λ (q : ℕ). q < length c) (sym same) (go_within c done p goes) in
          let long : length (row_of rows e.process) ≡ get_or done e.process 0 + 1 = has.lengths e.process within in
          let there : row_of after e.process ≡ row_of rows e.process ++ column ∷ [] =
          subst (λ (q : ℕ). row_of after q ≡ row_of rows q ++ column ∷ []) (sym same) here in
          ap (λ (row : List ℕ). get_or row e.number 0) there
          ∙ get_or_append_left (row_of rows e.process) (column ∷ []) 0 e.number (omega arith)

  new_column : column_at after (next_of done p) ≡ column
  new_column =
      let long : length (row_of rows p) ≡ get_or done p 0 + 1 = has.lengths p (go_within c done p goes) in
      let at : get_or done p 0 + 1 ≡ length (row_of rows p) + 0 = omega arith in
      rw (at, here) (get_or-append-add (row_of rows p) (column ∷ []) 0 0)

  new_lengths : (q : ℕ) → q < length c → (q ≡ p) ⊎ (q ≡ p → ⊥)
      → length (row_of after q) ≡ get_or (one_more done p) q 0 + 1
  new_lengths q lt (inr other) =
      ap length (others q other) ∙ (has.lengths q lt ∙ ap (λ (n : ℕ). n + 1) (sym (more_other done p q other)))
  new_lengths q lt (inl same) =
      let was : length (row_of rows p) ≡ get_or done p 0 + 1 = has.lengths p (go_within c done p goes) in
      let now : length (row_of after p) ≡ length (row_of rows p) + 1 =
      ap length here ∙ length-append (row_of rows p) (column ∷ []) in
      let more : get_or (one_more done p) p 0 ≡ get_or done p 0 + 1 = more_here c done p ordered goes in
      rw (same, more) (omega arith)

  step_of : (e : Place) → IsEvent c e → IsDone done e ⊎ ((get_or done e.process 0 < e.number) × (e ≡ next_of done p))
      → IsNextTo c (column_at after) e
  step_of e is (inl old) = record {
    own = rw (kept e old, kept_before) was.own;
    sent = λ send message. let there : IsDone done send =
        (ordered.before send e (inr message) old).0 in rw (kept e old, kept send there) (was.sent send message);
    next = next_one was.next;
  }
    where
      was : IsNextTo c (column_at rows) e
      was = has.steps e is old

      kept_before : column_at after (place_before e) ≡ column_at rows (place_before e)
      kept_before = kept (place_before e) (omega arith)

      next_one : (column_at rows e ≡ column_at rows (place_before e) + 1)
          ⊎ ((send : Place) × IsMessage c send e × (column_at rows e ≡ column_at rows send + 1))
          → (column_at after e ≡ column_at after (place_before e) + 1)
          ⊎ ((send : Place) × IsMessage c send e × (column_at after e ≡ column_at after send + 1))
      next_one (inl same) = inl (rw (kept e old, kept_before) same)
      next_one (inr (send, message, same)) =
          let there : IsDone done send = (ordered.before send e (inr message) old).0 in
          inr (send, message, rw (kept e old, kept send there) same)
  step_of e is (inr (out, same)) =
      subst (λ (x : Place). IsNextTo c (column_at after) x) (sym same) (record {
        own = rw (new_column, kept_before) next.own;
        sent = λ send message. let there : IsDone done send =
            goes.sent send message in rw (new_column, kept send there) (next.sent send message);
        next = next_one next.next;
      })
    where
      before : place_before (next_of done p) ≡ place p (get_or done p 0)
      before = let same : get_or done p 0 + 1 - 1 ≡ get_or done p 0 = omega arith in ap (λ (n : ℕ). place p n) same

      kept_before : column_at after (place_before (next_of done p)) ≡ column_at rows (place p (get_or done p 0))
      kept_before = ap (λ (x : Place). column_at after x) before ∙ kept (place p (get_or done p 0)) (omega arith)

      next_one : (column ≡ column_at rows (place p (get_or done p 0)) + 1)
          ⊎ ((send : Place) × IsMessage c send (next_of done p) × (column ≡ column_at rows send + 1))
          → (column_at after (next_of done p) ≡ column_at after (place_before (next_of done p)) + 1)
          ⊎ ((send : Place) × IsMessage c send (next_of done p)
          × (column_at after (next_of done p) ≡ column_at after send + 1))
      next_one (inl is_next) = inl (rw (new_column, kept_before) is_next)
      next_one (inr (send, message, is_next)) =
          let there : IsDone done send = goes.sent send message in
          inr (send, message, rw (new_column, kept send there) is_next)

  -- the new column is no greater than the number of events that have one
  column_small : column ≤ sum done + 1
  column_small = go next.next
    where
      go : (column ≡ column_at rows (place p (get_or done p 0)) + 1)
          ⊎ ((send : Place) × IsMessage c send (next_of done p) × (column ≡ column_at rows send + 1))
          → column ≤ sum done + 1
      go (inl same) =
          let s : column_at rows (place p (get_or done p 0)) ≤ sum done =
          has.small (place p (get_or done p 0)) (omega arith) in
          omega arith
      go (inr (send, message, same)) =
          let s : column_at rows send ≤ sum done = has.small send (goes.sent send message) in omega arith

  pub columns_more : HasColumns c (one_more done p) after
  columns_more = record {
    one_each = many ∙ has.one_each;
    lengths = λ q lt. new_lengths q lt (cases_eq q p);
    zero_first = zero_first;
    steps = λ e is in_order. step_of e is (old_or_next c done p ordered goes e in_order);
    small = λ e in_order. small e (old_or_next c done p ordered goes e in_order);
  }
    where
      zero_first : (q : ℕ) → column_at after (place q 0) ≡ 0
      zero_first q = kept (place q 0) (omega arith) ∙ has.zero_first q

      sum_is : sum (one_more done p) ≡ sum done + 1
      sum_is = sum_more done p (in_list c done p ordered goes)

      small : (e : Place) → IsDone done e ⊎ ((get_or done e.process 0 < e.number) × (e ≡ next_of done p))
          → column_at after e ≤ sum (one_more done p)
      small e (inl old) =
          let s : column_at rows e ≤ sum done = has.small e old in
          let k : column_at after e ≡ column_at rows e = kept e old in
          let m : sum (one_more done p) ≡ sum done + 1 = sum_is in
          omega arith
      small e (inr (out, same)) =
          let n : column_at after e ≡ column = ap (λ (x : Place). column_at after x) same ∙ new_column in
          let s : column ≤ sum done + 1 = column_small in
          let m : sum (one_more done p) ≡ sum done + 1 = sum_is in
          omega arith

-- the greatest of the columns before it and one more is a next column
pub next_column_is : (c : Computation) (done : List ℕ) (rows : List (Vec ℕ Global)) (p own sent column : ℕ)
    (found : Option Place) → IsSendOf c (next_of done p) found → own ≡ column_at rows (place p (get_or done p 0))
    → ((send : Place) → found ≡ Some send → sent ≡ column_at rows send) → (found ≡ None → sent ≡ 0)
    → column ≡ max own sent + 1 → IsNextColumn c done rows p column
next_column_is c done rows p own sent column found is_send own_is sent_is none_is column_is = record {
  own = omega arith;
  sent = λ send message. let s : sent ≡ column_at rows send = sent_is send ((is_send send).0 message) in omega arith;
  next = go found refl (cases_lt own sent);
}
  where
    go : (o : Option Place) → found ≡ o → (own < sent) ⊎ (sent ≤ own)
        → (column ≡ column_at rows (place p (get_or done p 0)) + 1)
        ⊎ ((send : Place) × IsMessage c send (next_of done p) × (column ≡ column_at rows send + 1))
    go None none less = let z : sent ≡ 0 = none_is none in inl (omega arith)
    go (Some send) same (inr le) = inl (omega arith)
    go (Some send) same (inl lt) =
        let s : sent ≡ column_at rows send = sent_is send same in inr (send, (is_send send).1 same, omega arith)

-- where no event is left out, all have their columns
module _ (c : Computation) (done : List ℕ) (rows : List (Vec ℕ Global)) (acyclic : HasNoCycle c)
    (leaves : LeavesStuck c done) (has : HasColumns c done rows) where
  all_done : (e : Place) → IsEvent c e → IsDone done e
  all_done e is = go (cases_lt (get_or done e.process 0) e.number)
    where
      go : (get_or done e.process 0 < e.number) ⊎ (e.number ≤ get_or done e.process 0) → IsDone done e
      go (inr le) = le
      go (inl out) = absurd ((none_stuck c).0 acyclic e ((leaves.left e is).0 out))

  pub columns_are : AreColumns c (column_at rows)
  columns_are = are_columns c (column_at rows) has.zero_first (λ e is. has.steps e is (all_done e is))

  pub table_is : IsTable c rows
  table_is = record {
    one_each = has.one_each;
    lengths = λ p lt. let long : length (row_of rows p) ≡ get_or done p 0 + 1 =
        has.lengths p lt in let all : get_or done p 0 ≡ event_count c p =
        same p (cases_lt 0 (event_count c p)) in omega arith;
    zero_first = has.zero_first;
    small = λ e is. let s : column_at rows e ≤ sum done =
        has.small e (all_done e is) in let t : sum done ≤ total c =
        sum_le done (full_cut c) (λ q. rw full_at (leaves.within q))
        (leaves.one_each ∙ sym (length_full c)) in omega arith;
  }
    where
      same : (p : ℕ) → (0 < event_count c p) ⊎ (event_count c p ≤ 0) → get_or done p 0 ≡ event_count c p
      same p (inr none) = let w : get_or done p 0 ≤ event_count c p = leaves.within p in omega arith
      same p (inl some) =
          let all : event_count c p ≤ get_or done p 0 =
          all_done (place p (event_count c p)) (omega arith, omega arith) in
          let w : get_or done p 0 ≤ event_count c p = leaves.within p in
          omega arith

-- the send of a next event that can go has a column
pub sent_there : (c : Computation) (done : List ℕ) (rows : List (Vec ℕ Global)) (p n : ℕ)
    (found : Option MatchedPlace) → IsOrdered c done → HasColumns c done rows → CanGo c done p → n ≡ get_or done p 0
    → ((send : Place) → (option_map place_view found ≡ Some send) ↔ IsMessage c send (place p (n + 1)))
    → IfSome found (λ e. (e.process < length rows) × (e.number < length (row_of rows e.process)))
sent_there c done rows p n None ordered has goes read send = tt
sent_there c done rows p n (Some s) ordered has goes read send =
    let message : IsMessage c (place_view s) (next_of done p) =
    subst (λ (m : ℕ). IsMessage c (place_view s) (place p (m + 1))) read ((send (place_view s)).0 refl) in
    let within : s.process < length c =
    process_in_range c (place_view s) (send_event c (place_view s) (next_of done p) message) in
    let in_order : s.number ≤ get_or done s.process 0 = goes.sent (place_view s) message in
    let long : length (row_of rows s.process) ≡ get_or done s.process 0 + 1 = has.lengths s.process within in
    let each : length rows ≡ length c = has.one_each in
    (omega arith, omega arith)

-- the greatest of the columns before the next event and one more is its column
pub next_is : (c : Computation) (done : List ℕ) (rows : List (Vec ℕ Global)) (p n own sent : ℕ)
    (found : Option MatchedPlace) → n ≡ get_or done p 0
    → ((send : Place) → (option_map place_view found ≡ Some send) ↔ IsMessage c send (place p (n + 1)))
    → own ≡ column_at rows (place p n) → sent ≡ column_of rows found → IsNextColumn c done rows p (max own sent + 1)
next_is c done rows p n own sent found read send own_is sent_is =
    next_column_is c done rows p own sent (max own sent + 1) (option_map place_view found) is_send
    (own_is ∙ ap (λ (m : ℕ). column_at rows (place p m)) read) (some found sent_is) (none found sent_is) refl
  where
    is_send : IsSendOf c (next_of done p) (option_map place_view found)
    is_send s =
        let w : (option_map place_view found ≡ Some s) ↔ IsMessage c s (next_of done p) =
        subst (λ (m : ℕ). (option_map place_view found ≡ Some s) ↔ IsMessage c s (place p (m + 1))) read (send s) in
        (w.1, w.0)

    some : (o : Option MatchedPlace) → sent ≡ column_of rows o → (s : Place) → option_map place_view o ≡ Some s
        → sent ≡ column_at rows s
    some None is s same = absurd (none-some s same)
    some (Some e) is s same = is ∙ ap (λ (x : Place). column_at rows x) (same_Some (place_view e) s same)

    none : (o : Option MatchedPlace) → sent ≡ column_of rows o → option_map place_view o ≡ None → sent ≡ 0
    none None is same = is
    none (Some e) is same = absurd (none-some (place_view e) (sym same))

-- no column that a next one is next to is above the number of events
pub columns_below : (c : Computation) (done : List ℕ) (rows : List (Vec ℕ Global)) (p n own sent : ℕ)
    (found : Option MatchedPlace) → IsOrdered c done → HasColumns c done rows → CanGo c done p → n ≡ get_or done p 0
    → ((send : Place) → (option_map place_view found ≡ Some send) ↔ IsMessage c send (place p (n + 1)))
    → own ≡ column_at rows (place p n) → sent ≡ column_of rows found → max own sent ≤ total c
columns_below c done rows p n own sent found ordered has goes read send own_is sent_is =
    let all : sum done ≤ total c =
    sum_le done (full_cut c) (λ q. rw full_at (ordered.within q)) (ordered.one_each ∙ sym (length_full c)) in
    let first : column_at rows (place p n) ≤ sum done = has.small (place p n) (omega arith) in
    let second : sent ≤ sum done = go found send sent_is in
    omega arith
  where
    go : (o : Option MatchedPlace)
        → ((s : Place) → (option_map place_view o ≡ Some s) ↔ IsMessage c s (place p (n + 1)))
        → sent ≡ column_of rows o → sent ≤ sum done
    go None message is = omega arith
    go (Some s) message is =
        let sends : IsMessage c (place_view s) (next_of done p) =
        subst (λ (m : ℕ). IsMessage c (place_view s) (place p (m + 1))) read ((message (place_view s)).0 refl) in
        let small : column_at rows (place_view s) ≤ sum done =
        has.small (place_view s) (goes.sent (place_view s) sends) in
        omega arith
