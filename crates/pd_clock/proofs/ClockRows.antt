-- The rows of clocks, one after another.
use Rattle.std.proofs.Common.{◌≡◌, ◌≢◌, ℕ, zero, suc, ◌+◌, ◌-◌, ◌*◌, ◌<◌, ◌≤◌, max, List, [], ◌∷◌, ◌++◌, length, get_or, set, refl, sym, ap, ◌∙◌, subst, inl, inr, ◌⊎◌, arith, length-append}
use Rattle.std.specs.Prelude.{Option, Some, None, Vec, slice_get}
use Rattle.std.specs.Global.{Global}
use Rattle.std.proofs.lemmas.Bool.{cases_lt, cases_eq}
use Rattle.std.proofs.lemmas.List.{get_or_append_left, get_or-append-add, get_or_past, get_or-set_same, get_or-set_other}
use Rattle.std.proofs.lemmas.Option.{slice_get_past, slice_get_read, same_Some}
use Rattle.std.proofs.lemmas.Nat.{mul-add-lt}
use Rattle.def_model.specs.Events.{Computation, Place, place, IsEvent}
use Rattle.def_model.specs.Messages.{IsMessage}
use Rattle.def_model.specs.Order.{IsClock}
use Rattle.def_model.specs.Cuts.{one_more}
use Rattle.def_model.proofs.Consistency.{process_in_range}
use Rattle.def_model.proofs.Counts.{more_other}
use Rattle.pd_clock.specs.Orders.{IsDone, IsOrdered, IsEmptyOrder, CanGo, HasClocks, HasRows, clocks_in, clocks_of, clock_at, count_of, next_of}
use Rattle.def_model.proofs.ClockSteps.{CountsWhere, IsUpToOwn, IsUpToSend, clock_step, own_clock, own_counted, none_own, send_counted, none_sent}
use Rattle.pd_clock.proofs.OrderSteps.{IsSendOf, send_event, next_event, go_within, more_here, old_or_next, order_more, zeros_at, no_cycle_in_order}

pub clocks_none : (c : Computation) (n : ℕ) (done : List ℕ) (clocks : List (Vec ℕ Global)) → n ≡ length c
    → IsEmptyOrder n done clocks → HasClocks c done clocks
clocks_none c n done clocks many empty = record {
  one_each = empty.one_each ∙ many;
  rows = λ p lt. let z : get_or done p 0 ≡ 0 = zero_at p in let e : length (clocks_of clocks p) ≡ 0 =
      ap length (empty.empty p) in e ∙ (rw z (omega arith));
  right = λ e q is in_order within. let z : get_or done e.process 0 ≡ 0 = zero_at e.process in let some : 1 ≤ e.number =
      is.0 in absurd (omega arith);
}
  where
    zero_at : (p : ℕ) → get_or done p 0 ≡ 0
    zero_at p = zeros_at done n p empty.none

get_set_same : {A : Type 0} (xs : List A) (p : ℕ) (x : A) → p < length xs → slice_get (set xs p x) p ≡ Some x
get_set_same [] p x lt = absurd (omega arith)
get_set_same (y ∷ xs) zero x lt = refl
get_set_same (y ∷ xs) (suc p) x lt = get_set_same xs p x (omega arith)

get_set_other : {A : Type 0} (xs : List A) (p q : ℕ) (x : A) → q ≢ p → slice_get (set xs p x) q ≡ slice_get xs q
get_set_other [] p q x other = refl
get_set_other (y ∷ xs) zero zero x other = absurd (other refl)
get_set_other (y ∷ xs) zero (suc q) x other = refl
get_set_other (y ∷ xs) (suc p) zero x other = refl
get_set_other (y ∷ xs) (suc p) (suc q) x other = get_set_other xs p q x (λ e. other (ap suc e))

pub rows_written : (clocks : List (Vec ℕ Global)) (p : ℕ) (rows : Vec ℕ Global) → p < length clocks
    → clocks_of (set clocks p rows) p ≡ rows.items
rows_written clocks p rows lt = ap clocks_in (get_set_same clocks p rows lt)

pub rows_kept : (clocks : List (Vec ℕ Global)) (p : ℕ) (rows : Vec ℕ Global) (q : ℕ) → q ≢ p
    → clocks_of (set clocks p rows) q ≡ clocks_of clocks q
rows_kept clocks p rows q other = ap clocks_in (get_set_other clocks p q rows other)

pub rows_read : (clocks : List (Vec ℕ Global)) (p : ℕ) (rows : Vec ℕ Global) → p < length clocks
    → rows ≡ get_or clocks p rows → clocks_of clocks p ≡ rows.items
rows_read clocks p rows lt is = ap clocks_in (slice_get_read clocks (length clocks) p rows refl lt is)

-- the rows as they are read
pub has_rows : (c : Computation) (done : List ℕ) (clocks : List (Vec ℕ Global)) → IsOrdered c done
    → HasClocks c done clocks → HasRows done clocks
has_rows c done clocks ordered has = record {
  one_each = has.one_each ∙ sym ordered.one_each;
  rows = λ p. rw ordered.one_each (go p (cases_lt p (length c)));
}
  where
    go : (p : ℕ) → (p < length c) ⊎ (length c ≤ p) → length (clocks_of clocks p) ≡ get_or done p 0 * length c
    go p (inl lt) = has.rows p lt
    go p (inr le) =
        let z : get_or done p 0 ≡ 0 = let l : length done ≡ length c = ordered.one_each in
        get_or_past done p 0 (omega arith) in
        let e : length (clocks_of clocks p) ≡ 0 =
        ap (λ (row : Option (Vec ℕ Global)). length (clocks_in row))
        (slice_get_past clocks p (let l : length clocks ≡ length c = has.one_each in omega arith)) in
        e ∙ (rw z (omega arith))

-- the clock after the rows of its process is in the row that comes after them, and the others stay where they are
pub clocks_more : (c : Computation) (done : List ℕ) (clocks after : List (Vec ℕ Global)) (p : ℕ) (row : List ℕ)
    → IsOrdered c done → CanGo c done p → HasClocks c done clocks → length row ≡ length c
    → ((q : ℕ) → q < length c → IsClock c (next_of done p) q (get_or row q 0)) → length after ≡ length clocks
    → clocks_of after p ≡ clocks_of clocks p ++ row → ((q : ℕ) → q ≢ p → clocks_of after q ≡ clocks_of clocks q)
    → HasClocks c (one_more done p) after
clocks_more c done clocks after p row ordered goes has wide clock many here others = record {
  one_each = many ∙ has.one_each;
  rows = λ q lt. rows q lt (cases_eq q p);
  right = λ e q is in_order lt. right e q is lt (old_or_next c done p ordered goes e in_order);
}
  where
    rows : (q : ℕ) → q < length c → (q ≡ p) ⊎ (q ≡ p → ⊥)
        → length (clocks_of after q) ≡ get_or (one_more done p) q 0 * length c
    rows q lt (inr other) =
        ap length (others q other) ∙ (has.rows q lt ∙ ap (λ (n : ℕ). n * length c) (sym (more_other done p q other)))
    rows q lt (inl same) =
        let was : length (clocks_of clocks p) ≡ get_or done p 0 * length c =
        has.rows p (subst (λ (r : ℕ). r < length c) same lt) in
        let now : length (clocks_of after p) ≡ length (clocks_of clocks p) + length row =
        ap length here ∙ length-append (clocks_of clocks p) row in
        let more : get_or (one_more done p) p 0 ≡ get_or done p 0 + 1 = more_here c done p ordered goes in
        rw (same, more) (omega arith)

    old_row : (e : Place) (q : ℕ) → IsEvent c e → q < length c → IsDone done e → (e.process ≡ p) ⊎ (e.process ≡ p → ⊥)
        → clock_at (length c) after e q ≡ clock_at (length c) clocks e q
    old_row e q is lt in_order (inr other) =
        ap (λ (counts : List ℕ). get_or counts ((e.number - 1) * length c + q) 0) (others e.process other)
    old_row e q is lt in_order (inl same) =
        let was : length (clocks_of clocks e.process) ≡ get_or done e.process 0 * length c =
        has.rows e.process (process_in_range c e is) in
        let some : 1 ≤ e.number = is.0 in
        let place_in : (e.number - 1) * length c + q < length c * get_or done e.process 0 =
        mul-add-lt (e.number - 1) (length c) q (get_or done e.process 0) (omega arith) lt in
        let there : clocks_of after e.process ≡ clocks_of clocks e.process ++ row =
        subst (λ (r : ℕ). clocks_of after r ≡ clocks_of clocks r ++ row) (sym same) here in
        ap (λ (counts : List ℕ). get_or counts ((e.number - 1) * length c + q) 0) there
        ∙ get_or_append_left (clocks_of clocks e.process) row 0 ((e.number - 1) * length c + q) (omega arith)

    new_row : (q : ℕ) → q < length c → clock_at (length c) after (next_of done p) q ≡ get_or row q 0
    new_row q lt =
        let was : length (clocks_of clocks p) ≡ get_or done p 0 * length c = has.rows p (go_within c done p goes) in
        let at : (get_or done p 0 + 1 - 1) * length c + q ≡ length (clocks_of clocks p) + q =
        let one : get_or done p 0 + 1 - 1 ≡ get_or done p 0 = omega arith in rw one (omega arith) in
        rw (at, here) (get_or-append-add (clocks_of clocks p) row q 0)

    right : (e : Place) (q : ℕ) → IsEvent c e → q < length c
        → IsDone done e ⊎ ((get_or done e.process 0 < e.number) × (e ≡ next_of done p))
        → IsClock c e q (clock_at (length c) after e q)
    right e q is lt (inl old) =
        subst (λ (n : ℕ). IsClock c e q n) (sym (old_row e q is lt old (cases_eq e.process p)))
        (has.right e q is old lt)
    right e q is lt (inr (out, same)) =
        subst (λ (x : Place). IsClock c x q (clock_at (length c) after x q)) (sym same)
        (subst (λ (n : ℕ). IsClock c (next_of done p) q n) (sym (new_row q lt)) (clock q lt))

-- the event before the next one of its process, if there is one
abbrev pub IsBeforeNext : List ℕ → ℕ → Option Place → Type 0
IsBeforeNext done p own =
    ((get_or done p 0 ≡ 0) × (own ≡ None)) ⊎ ((1 ≤ get_or done p 0) × (own ≡ Some (place p (get_or done p 0))))

module _ (c : Computation) (done : List ℕ) (clocks : List (Vec ℕ Global)) (p : ℕ) (own sent : Option Place)
    (ordered : IsOrdered c done) (has : HasClocks c done clocks) (goes : CanGo c done p)
    (before : IsBeforeNext done p own) (send : IsSendOf c (next_of done p) sent) where
  own_right : (q : ℕ) → q < length c → CountsWhere c (IsUpToOwn c p (get_or done p 0)) q
      (count_of (length c) clocks own q)
  own_right q lt = go before
    where
      go : IsBeforeNext done p own → CountsWhere c (IsUpToOwn c p (get_or done p 0)) q
          (count_of (length c) clocks own q)
      go (inl (zero_done, none)) =
          subst (λ (o : Option Place). CountsWhere c (IsUpToOwn c p (get_or done p 0)) q
          (count_of (length c) clocks o q)) (sym none) (none_own c p (get_or done p 0) q zero_done)
      go (inr (some, is)) =
          let event : IsEvent c (place p (get_or done p 0)) = (some, ordered.within p) in
          subst (λ (o : Option Place). CountsWhere c (IsUpToOwn c p (get_or done p 0)) q
          (count_of (length c) clocks o q)) (sym is)
          (own_counted c p (get_or done p 0) q (clock_at (length c) clocks (place p (get_or done p 0)) q) event
          (has.right (place p (get_or done p 0)) q event (omega arith) lt))

  send_right : (q : ℕ) → q < length c → (o : Option Place) → sent ≡ o
      → CountsWhere c (IsUpToSend c (next_of done p)) q (count_of (length c) clocks o q)
  send_right q lt None none =
      none_sent c (next_of done p) q (λ s m. let e : sent ≡ Some s = (send s).0 m in absurd (cc))
  send_right q lt (Some s) is =
      let message : IsMessage c s (next_of done p) = (send s).1 is in
      send_counted c (next_of done p) s q (clock_at (length c) clocks s q) message (λ other m.
      same_Some s other (sym is ∙ (send other).0 m))
      (has.right s q (send_event c s (next_of done p) message) (goes.sent s message) lt)

  -- the row of the next event is its clock
  pub next_clock : (row : List ℕ) (q : ℕ) → q < length c → p < length row
      → ((k : ℕ) → k < length c → get_or row k 0
      ≡ max (count_of (length c) clocks own k) (count_of (length c) clocks sent k))
      → IsClock c (next_of done p) q (get_or (set row p (get_or done p 0 + 1)) q 0)
  next_clock row q lt there greater = go (cases_eq q p)
    where
      go : (q ≡ p) ⊎ (q ≡ p → ⊥) → IsClock c (next_of done p) q (get_or (set row p (get_or done p 0 + 1)) q 0)
      go (inr other) =
          let same : get_or (set row p (get_or done p 0 + 1)) q 0
          ≡ max (count_of (length c) clocks own q) (count_of (length c) clocks sent q) =
          get_or-set_other row p q (get_or done p 0 + 1) 0 other ∙ greater q lt in
          subst (λ (n : ℕ). IsClock c (next_of done p) q n) (sym same)
          (clock_step c p (get_or done p 0) q (count_of (length c) clocks own q) (count_of (length c) clocks sent q)
          (next_event c done p goes.there) other (own_right q lt) (send_right q lt sent refl))
      go (inl here) =
          let at : get_or (set row p (get_or done p 0 + 1)) q 0 ≡ get_or done p 0 + 1 =
          ap (λ (r : ℕ). get_or (set row p (get_or done p 0 + 1)) r 0) here
          ∙ get_or-set_same row p (get_or done p 0 + 1) 0 there in
          let more : get_or (one_more done p) p 0 ≡ get_or done p 0 + 1 = more_here c done p ordered goes in
          let mine : IsClock c (next_of done p) p (get_or done p 0 + 1) =
          own_clock c (next_of done p) (next_event c done p goes.there)
          (no_cycle_in_order c (one_more done p) (next_of done p) (order_more c done p ordered goes) (omega arith))
          in
          subst (λ (r : ℕ). IsClock c (next_of done p) r (get_or (set row p (get_or done p 0 + 1)) q 0)) (sym here)
          (subst (λ (n : ℕ). IsClock c (next_of done p) p n) (sym at) mine)
