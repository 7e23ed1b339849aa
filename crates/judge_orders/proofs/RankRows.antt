-- The rows of what events know of, one after another.
use Rattle.std.proofs.Common.{◌≡◌, ◌≢◌, ℕ, ◌+◌, ◌-◌, ◌*◌, ◌<◌, ◌≤◌, max, List, [], ◌++◌, length, get_or, set, refl, sym, ap, ◌∙◌, subst, inl, inr, ◌⊎◌, ◌↔◌, arith, length-append}
use Rattle.std.specs.Prelude.{Option, Some, None, Vec, Contains}
use Rattle.std.specs.Global.{Global}
use Rattle.std.proofs.lemmas.Bool.{cases_lt, cases_eq}
use Rattle.std.proofs.lemmas.List.{get_or_append_left, get_or-append-add, get_or_past, get_or-set_same, get_or-set_other}
use Rattle.std.proofs.lemmas.Option.{slice_get_past, same_Some}
use Rattle.std.proofs.lemmas.Nat.{mul-add-lt}
use Rattle.def_model.specs.Events.{Computation, Place, place, IsEvent}
use Rattle.def_model.specs.Messages.{IsMessage, IsMessageList}
use Rattle.def_model.specs.Order.{IsClock}
use Rattle.def_model.specs.Cuts.{one_more}
use Rattle.def_model.proofs.ClockLemmas.{one_clock}
use Rattle.def_model.proofs.ClockSteps.{CountsWhere, IsUpToOwn, IsUpToSend, clock_step, own_clock, own_counted, none_own, send_counted, none_sent}
use Rattle.def_model.proofs.Consistency.{process_in_range}
use Rattle.def_model.proofs.Counts.{more_other}
use Rattle.def_orders.specs.Orders.{count_up_to}
use Rattle.pd_clock.specs.Orders.{IsDone, IsOrdered, IsEmptyOrder, CanGo, HasRows, clocks_in, count_of, next_of}
use Rattle.pd_clock.proofs.OrderSteps.{IsSendOf, send_found, send_event, next_event, go_within, more_here, old_or_next, order_more, zeros_at, no_cycle_in_order}
use Rattle.judge_orders.specs.RankTables.{AreEventNumbers, HasRank, HasRanks, IsWithNumber, rank_at, rows_of}
use Rattle.judge_orders.proofs.Ranking.{count_greater, count_zero}

pub ranks_none : (c : Computation) (numbers : List (List ℕ)) (n : ℕ) (done : List ℕ) (rows : List (Vec ℕ Global))
    → n ≡ length c → IsEmptyOrder n done rows → HasRanks c numbers done rows
ranks_none c numbers n done rows many empty = record {
  one_each = empty.one_each ∙ many;
  long = λ p lt. let z : get_or done p 0 ≡ 0 = zeros_at done n p empty.none in
      let e : length (rows_of rows p) ≡ 0 = ap length (empty.empty p) in e ∙ (rw z (omega arith));
  right = λ e q is in_order within. let z : get_or done e.process 0 ≡ 0 = zeros_at done n e.process empty.none in
      let some : 1 ≤ e.number = is.0 in absurd (omega arith);
}

-- the rows as they are read
pub has_rows : (c : Computation) (numbers : List (List ℕ)) (done : List ℕ) (rows : List (Vec ℕ Global))
    → IsOrdered c done → HasRanks c numbers done rows → HasRows done rows
has_rows c numbers done rows ordered has = record {
  one_each = has.one_each ∙ sym ordered.one_each;
  rows = λ p. rw ordered.one_each (go p (cases_lt p (length c)));
}
  where
    go : (p : ℕ) → (p < length c) ⊎ (length c ≤ p) → length (rows_of rows p) ≡ get_or done p 0 * length c
    go p (inl lt) = has.long p lt
    go p (inr le) =
        let z : get_or done p 0 ≡ 0 = let l : length done ≡ length c = ordered.one_each in
        get_or_past done p 0 (omega arith) in
        let e : length (rows_of rows p) ≡ 0 =
        ap (λ (row : Option (Vec ℕ Global)). length (clocks_in row))
        (slice_get_past rows p (let l : length rows ≡ length c = has.one_each in omega arith)) in
        e ∙ (rw z (omega arith))

-- the row after those of its process is in its place, and the others stay where they are
pub ranks_more : (c : Computation) (numbers : List (List ℕ)) (done : List ℕ) (rows after : List (Vec ℕ Global)) (p : ℕ)
    (row : List ℕ) → IsOrdered c done → CanGo c done p → HasRanks c numbers done rows → length row ≡ length c
    → ((q : ℕ) → q < length c → HasRank c numbers (next_of done p) q (get_or row q 0)) → length after ≡ length rows
    → rows_of after p ≡ rows_of rows p ++ row → ((q : ℕ) → q ≢ p → rows_of after q ≡ rows_of rows q)
    → HasRanks c numbers (one_more done p) after
ranks_more c numbers done rows after p row ordered goes has wide known many here others = record {
  one_each = many ∙ has.one_each;
  long = λ q lt. long q lt (cases_eq q p);
  right = λ e q is in_order lt. right e q is lt (old_or_next c done p ordered goes e in_order);
}
  where
    long : (q : ℕ) → q < length c → (q ≡ p) ⊎ (q ≡ p → ⊥)
        → length (rows_of after q) ≡ get_or (one_more done p) q 0 * length c
    long q lt (inr other) =
        ap length (others q other) ∙ (has.long q lt ∙ ap (λ (n : ℕ). n * length c) (sym (more_other done p q other)))
    long q lt (inl same) =
        let was : length (rows_of rows p) ≡ get_or done p 0 * length c =
        has.long p (subst (λ (r : ℕ). r < length c) same lt) in
        let now : length (rows_of after p) ≡ length (rows_of rows p) + length row =
        ap length here ∙ length-append (rows_of rows p) row in
        let more : get_or (one_more done p) p 0 ≡ get_or done p 0 + 1 = more_here c done p ordered goes in
        rw (same, more) (omega arith)

    old_row : (e : Place) (q : ℕ) → IsEvent c e → q < length c → IsDone done e → (e.process ≡ p) ⊎ (e.process ≡ p → ⊥)
        → rank_at (length c) after e q ≡ rank_at (length c) rows e q
    old_row e q is lt in_order (inr other) =
        ap (λ (ranks : List ℕ). get_or ranks ((e.number - 1) * length c + q) 0) (others e.process other)
    old_row e q is lt in_order (inl same) =
        let was : length (rows_of rows e.process) ≡ get_or done e.process 0 * length c =
        has.long e.process (process_in_range c e is) in
        let some : 1 ≤ e.number = is.0 in
        let place_in : (e.number - 1) * length c + q < length c * get_or done e.process 0 =
        mul-add-lt (e.number - 1) (length c) q (get_or done e.process 0) (omega arith) lt in
        let there : rows_of after e.process ≡ rows_of rows e.process ++ row =
        subst (λ (r : ℕ). rows_of after r ≡ rows_of rows r ++ row) (sym same) here in
        ap (λ (ranks : List ℕ). get_or ranks ((e.number - 1) * length c + q) 0) there
        ∙ get_or_append_left (rows_of rows e.process) row 0 ((e.number - 1) * length c + q) (omega arith)

    new_row : (q : ℕ) → q < length c → rank_at (length c) after (next_of done p) q ≡ get_or row q 0
    new_row q lt =
        let was : length (rows_of rows p) ≡ get_or done p 0 * length c = has.long p (go_within c done p goes) in
        let at : (get_or done p 0 + 1 - 1) * length c + q ≡ length (rows_of rows p) + q =
        let one : get_or done p 0 + 1 - 1 ≡ get_or done p 0 = omega arith in rw one (omega arith) in
        rw (at, here) (get_or-append-add (rows_of rows p) row q 0)

    right : (e : Place) (q : ℕ) → IsEvent c e → q < length c
        → IsDone done e ⊎ ((get_or done e.process 0 < e.number) × (e ≡ next_of done p))
        → HasRank c numbers e q (rank_at (length c) after e q)
    right e q is lt (inl old) =
        subst (λ (rank : ℕ). HasRank c numbers e q rank) (sym (old_row e q is lt old (cases_eq e.process p)))
        (has.right e q is old lt)
    right e q is lt (inr (out, same)) =
        subst (λ (x : Place). HasRank c numbers x q (rank_at (length c) after x q)) (sym same)
        (subst (λ (rank : ℕ). HasRank c numbers (next_of done p) q rank) (sym (new_row q lt)) (known q lt))

-- what is counted of a set of events of process q, of which P holds: this many of the kept ones are in it
abbrev CountsKept : Computation → List (List ℕ) → (Place → Type 0) → (q rank : ℕ) → Type 0
CountsKept c numbers P q rank = (n : ℕ) × CountsWhere c P q n × (rank ≡ count_up_to (get_or numbers q []) n)

module _ (c : Computation) (numbers : List (List ℕ)) (done : List ℕ) (rows : List (Vec ℕ Global)) (p : ℕ)
    (own sent : Option Place) (given : AreEventNumbers c numbers) (ordered : IsOrdered c done)
    (has : HasRanks c numbers done rows) (goes : CanGo c done p) (before : IsWithNumber p (get_or done p 0) own)
    (send : IsSendOf c (next_of done p) sent) where
  none_before : (q : ℕ) → q < length c → count_up_to (get_or numbers q []) 0 ≡ 0
  none_before q lt =
      let in_numbers : q < length numbers = omega (arith, given.one_each, lt) in
      count_zero (get_or numbers q []) (given.ascend q in_numbers) (λ i d within.
      (given.there q in_numbers i d within).0)

  own_right : (q : ℕ) → q < length c → CountsKept c numbers (IsUpToOwn c p (get_or done p 0)) q
      (count_of (length c) rows own q)
  own_right q lt = go before
    where
      go : IsWithNumber p (get_or done p 0) own → CountsKept c numbers (IsUpToOwn c p (get_or done p 0)) q
          (count_of (length c) rows own q)
      go (inl (zero_done, none)) =
          subst (λ (o : Option Place). CountsKept c numbers (IsUpToOwn c p (get_or done p 0)) q
          (count_of (length c) rows o q)) (sym none)
          (0, none_own c p (get_or done p 0) q zero_done, sym (none_before q lt))
      go (inr (some, is)) =
          let event : IsEvent c (place p (get_or done p 0)) = (some, ordered.within p) in
          let known : HasRank c numbers (place p (get_or done p 0)) q
          (rank_at (length c) rows (place p (get_or done p 0)) q) =
          has.right (place p (get_or done p 0)) q event (omega arith) lt in
          subst (λ (o : Option Place). CountsKept c numbers (IsUpToOwn c p (get_or done p 0)) q
          (count_of (length c) rows o q)) (sym is)
          (known.0, own_counted c p (get_or done p 0) q known.0 event known.1, known.2)

  send_right : (q : ℕ) → q < length c → (o : Option Place) → sent ≡ o
      → CountsKept c numbers (IsUpToSend c (next_of done p)) q (count_of (length c) rows o q)
  send_right q lt None none = (
    0,
    none_sent c (next_of done p) q (λ s m. let e : sent ≡ Some s = (send s).0 m in absurd (cc)),
    sym (none_before q lt),
  )
  send_right q lt (Some s) is =
      let message : IsMessage c s (next_of done p) = (send s).1 is in
      let known : HasRank c numbers s q (rank_at (length c) rows s q) =
      has.right s q (send_event c s (next_of done p) message) (goes.sent s message) lt in (
        known.0,
        send_counted c (next_of done p) s q known.0 message (λ other m. same_Some s other (sym is ∙ (send other).0 m))
            known.1,
        known.2,
      )

  -- what the event before the next one of its process knows of this process
  pub own_before : count_of (length c) rows own p ≡ count_up_to (get_or numbers p []) (get_or done p 0)
  own_before = go before
    where
      within : p < length c
      within = go_within c done p goes

      go : IsWithNumber p (get_or done p 0) own
          → count_of (length c) rows own p ≡ count_up_to (get_or numbers p []) (get_or done p 0)
      go (inl (zero_done, none)) =
          ap (λ (o : Option Place). count_of (length c) rows o p) none
          ∙ (sym (none_before p within) ∙ ap (count_up_to (get_or numbers p [])) (sym zero_done))
      go (inr (some, is)) =
          let event : IsEvent c (place p (get_or done p 0)) = (some, ordered.within p) in
          let known : HasRank c numbers (place p (get_or done p 0)) p
          (rank_at (length c) rows (place p (get_or done p 0)) p) =
          has.right (place p (get_or done p 0)) p event (omega arith) within in
          ap (λ (o : Option Place). count_of (length c) rows o p) is
          ∙ (known.2
          ∙ ap (count_up_to (get_or numbers p []))
          (one_clock c (place p (get_or done p 0)) p known.0 (get_or done p 0) known.1
          (own_clock c (place p (get_or done p 0)) event
          (no_cycle_in_order c done (place p (get_or done p 0)) ordered (omega arith)))))

  -- the row of the next event has what it knows of
  pub next_ranks : (row : List ℕ) (rank q : ℕ) → q < length c → p < length row
      → ((k : ℕ) → k < length c → get_or row k 0
      ≡ max (count_of (length c) rows own k) (count_of (length c) rows sent k))
      → rank ≡ count_up_to (get_or numbers p []) (get_or done p 0 + 1)
      → HasRank c numbers (next_of done p) q (get_or (set row p rank) q 0)
  next_ranks row rank q lt there greater mine = go (cases_eq q p)
    where
      go : (q ≡ p) ⊎ (q ≡ p → ⊥) → HasRank c numbers (next_of done p) q (get_or (set row p rank) q 0)
      go (inr other) =
          let mine : CountsKept c numbers (IsUpToOwn c p (get_or done p 0)) q (count_of (length c) rows own q) =
          own_right q lt in
          let theirs : CountsKept c numbers (IsUpToSend c (next_of done p)) q (count_of (length c) rows sent q) =
          send_right q lt sent refl in (
            max mine.0 theirs.0,
            clock_step c p (get_or done p 0) q mine.0 theirs.0 (next_event c done p goes.there) other mine.1 theirs.1,
            get_or-set_other row p q rank 0 other
                ∙ (greater q lt
                ∙ (ap (λ (n : ℕ). max n (count_of (length c) rows sent q)) mine.2
                ∙ (ap (λ (n : ℕ). max (count_up_to (get_or numbers q []) mine.0) n) theirs.2
                ∙ sym (count_greater (get_or numbers q []) mine.0 theirs.0)))),
          )
      go (inl here) =
          let more : get_or (one_more done p) p 0 ≡ get_or done p 0 + 1 = more_here c done p ordered goes in
          let clock : IsClock c (next_of done p) p (get_or done p 0 + 1) =
          own_clock c (next_of done p) (next_event c done p goes.there)
          (no_cycle_in_order c (one_more done p) (next_of done p) (order_more c done p ordered goes) (omega arith))
          in
          subst (λ (r : ℕ). HasRank c numbers (next_of done p) r (get_or (set row p rank) r 0)) (sym here)
          (get_or done p 0 + 1, clock, get_or-set_same row p rank 0 there ∙ mine)

-- ---- as they are read

-- the send of the next event, whose number was read
pub next_send : (c : Computation) (pairs : List (Place × Place)) (done : List ℕ) (p number : ℕ) (found : Option Place)
    → IsMessageList c pairs → number ≡ get_or done p 0 + 1
    → ((send : Place) → Contains pairs (send, place p number) ↔ (found ≡ Some send))
    → IsSendOf c (next_of done p) found
next_send c pairs done p number found messages is look =
    send_found c pairs (next_of done p) found messages
    (subst (λ (n : ℕ). (send : Place) → Contains pairs (send, place p n) ↔ (found ≡ Some send)) is look)

pub next_before : (done : List ℕ) (p number : ℕ) (own : Option Place) → number ≡ get_or done p 0 + 1
    → IsWithNumber p (number - 1) own → IsWithNumber p (get_or done p 0) own
next_before done p number own is before =
    let same : number - 1 ≡ get_or done p 0 = omega (arith, is) in
    subst (λ (n : ℕ). IsWithNumber p n own) same before
