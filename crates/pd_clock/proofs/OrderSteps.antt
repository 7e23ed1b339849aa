-- One event more in an order, and what is left where no event can go.
use Rattle.std.proofs.Common.{◌≡◌, ℕ, ◌+◌, ◌-◌, ◌<◌, ◌≤◌, Bool, true, false, IsTrue, cond, List, length, get_or, replicate, sum, refl, sym, ap, ◌∙◌, subst, inl, inr, ◌⊎◌, ◌↔◌, arith}
use Rattle.std.specs.Prelude.{nat_lt, nat_le, ◌&&◌, Option, Some, None, Contains, IfSome}
use Rattle.std.proofs.lemmas.Bool.{cases_lt, cases_eq, lt-ltb, le-ltb, le-leb, ltb-true, leb-true, and_from, and_parts}
use Rattle.std.proofs.lemmas.List.{get_or-replicate, length-replicate, get_or_past}
use Rattle.def_model.specs.Events.{Send, Computation, Place, place, IsEvent, event_count}
use Rattle.def_model.specs.Messages.{IsMessage, IsMessageList}
use Rattle.def_model.specs.Order.{LeadsTo, HappenedBefore, IsStuck}
use Rattle.def_model.specs.Cuts.{Includes, one_more, full_cut, total}
use Rattle.def_model.proofs.Chains.{same_place, happens_elim, event_from_kind, events_of_step}
use Rattle.def_model.proofs.Consistency.{process_in_range}
use Rattle.def_model.proofs.Counts.{length_more, more_same, more_other, sum_more, sum_le, length_full, full_at}
use Rattle.def_model.proofs.Stuck.{stuck_exactly}
use Rattle.pd_clock.specs.Orders.{IsDone, IsOrdered, CanGo, Waits, LeavesStuck, next_of}

-- the send of e's message, if it has one, is the one that was found
abbrev pub IsSendOf : Computation → Place → Option Place → Type 0
IsSendOf c e found = (send : Place) → IsMessage c send e ↔ (found ≡ Some send)

pub send_found : (c : Computation) (pairs : List (Place × Place)) (e : Place) (found : Option Place)
    → IsMessageList c pairs → ((send : Place) → Contains pairs (send, e) ↔ (found ≡ Some send)) → IsSendOf c e found
send_found c pairs e found messages look send =
    (λ m. (look send).0 ((messages.just send e).1 m), λ same. (messages.just send e).0 ((look send).1 same))

-- the same where the number before was read
pub next_found : (c : Computation) (pairs : List (Place × Place)) (done : List ℕ) (p n : ℕ) (found : Option Place)
    → IsMessageList c pairs → n ≡ get_or done p 0
    → ((send : Place) → Contains pairs (send, place p (n + 1)) ↔ (found ≡ Some send))
    → IsSendOf c (next_of done p) found
next_found c pairs done p n found messages read look =
    send_found c pairs (next_of done p) found messages (subst (λ (m : ℕ). (send : Place)
    → Contains pairs (send, place p (m + 1)) ↔ (found ≡ Some send)) read look)

pub send_event : (c : Computation) (send e : Place) → IsMessage c send e → IsEvent c send
send_event c send e message = event_from_kind c send (Send message.0) message.1

pub next_event : (c : Computation) (done : List ℕ) (p : ℕ) → get_or done p 0 < event_count c p
    → IsEvent c (next_of done p)
next_event c done p there = (omega arith, omega arith)

pub go_within : (c : Computation) (done : List ℕ) (p : ℕ) → CanGo c done p → p < length c
go_within c done p goes = process_in_range c (next_of done p) (next_event c done p goes.there)

-- the send of a next event that can go is an event of the order
pub sent_some : (c : Computation) (done : List ℕ) (p : ℕ) (found : Option Place) → CanGo c done p
    → IsSendOf c (next_of done p) found → IfSome found (λ e. Includes done e)
sent_some c done p None goes send = tt
sent_some c done p (Some s) goes send =
    ((send_event c s (next_of done p) ((send s).1 refl)).0, goes.sent s ((send s).1 refl))

-- an event of the order didn't happen before itself
pub no_cycle_in_order : (c : Computation) (done : List ℕ) (e : Place) → IsOrdered c done → IsDone done e
    → HappenedBefore c e e → ⊥
no_cycle_in_order c done e ordered in_order h =
    let w : IsDone done e × (ordered.rank e < ordered.rank e) =
    happens_elim c e (λ d. IsDone done d × (ordered.rank d < ordered.rank e)) (λ d s. ordered.before d e s in_order)
    more e h in
    let r : ordered.rank e < ordered.rank e = w.1 in
    omega arith
  where
    more : (d m : Place) → LeadsTo c d m → HappenedBefore c m e → IsDone done m × (ordered.rank m < ordered.rank e)
        → IsDone done d × (ordered.rank d < ordered.rank e)
    more d m s r (there, less) =
        let w : IsDone done d × (ordered.rank d < ordered.rank m) = ordered.before d m s there in
        let l : ordered.rank d < ordered.rank m = w.1 in
        (w.0, omega arith)

pub zeros_at : (done : List ℕ) (n p : ℕ) → done ≡ replicate n 0 → get_or done p 0 ≡ 0
zeros_at done n p none = go (cases_lt p n)
  where
    go : (p < n) ⊎ (n ≤ p) → get_or done p 0 ≡ 0
    go (inl lt) = ap (λ (xs : List ℕ). get_or xs p 0) none ∙ get_or-replicate n p 0 0 lt
    go (inr le) = let l : length done ≡ n = ap length none ∙ length-replicate n 0 in get_or_past done p 0 (omega arith)

pub none_ordered : (c : Computation) (done : List ℕ) (n : ℕ) → n ≡ length c → done ≡ replicate n 0 → IsOrdered c done
none_ordered c done n many none = record {
  one_each = ap length none ∙ (length-replicate n 0 ∙ many);
  within = λ p. let z : get_or done p 0 ≡ 0 = zero_at p in omega arith;
  rank = λ e. 0;
  top = 1;
  below_top = λ e. omega arith;
  before = λ d e s in_order. let z : get_or done e.process 0 ≡ 0 = zero_at e.process in let some : 1 ≤ e.number =
      (events_of_step c d e s).1.0 in absurd (omega arith);
}
  where
    zero_at : (p : ℕ) → get_or done p 0 ≡ 0
    zero_at p = zeros_at done n p none

module _ (c : Computation) (done : List ℕ) (p : ℕ) (ordered : IsOrdered c done) (goes : CanGo c done p) where
  pub in_list : p < length done
  in_list = let l : length done ≡ length c = ordered.one_each in let w : p < length c = go_within c done p goes in
      omega arith

  pub more_here : get_or (one_more done p) p 0 ≡ get_or done p 0 + 1
  more_here = more_same done p in_list

  -- what is in the longer order is in the shorter one, or is the next event
  pub old_or_next : (e : Place) → IsDone (one_more done p) e
      → IsDone done e ⊎ ((get_or done e.process 0 < e.number) × (e ≡ next_of done p))
  old_or_next e in_order = go (cases_lt (get_or done e.process 0) e.number) (cases_eq e.process p)
    where
      go : (get_or done e.process 0 < e.number) ⊎ (e.number ≤ get_or done e.process 0) → (e.process ≡ p)
          ⊎ (e.process ≡ p → ⊥) → IsDone done e ⊎ ((get_or done e.process 0 < e.number) × (e ≡ next_of done p))
      go (inr le) other = inl le
      go (inl lt) (inr other) =
          let same : get_or (one_more done p) e.process 0 ≡ get_or done e.process 0 =
          more_other done p e.process other in
          absurd (omega arith)
      go (inl lt) (inl here) =
          let now : get_or (one_more done p) e.process 0 ≡ get_or (one_more done p) p 0 =
          ap (λ (q : ℕ). get_or (one_more done p) q 0) here in
          let was : get_or done e.process 0 ≡ get_or done p 0 = ap (λ (q : ℕ). get_or done q 0) here in
          let more : get_or (one_more done p) p 0 ≡ get_or done p 0 + 1 = more_here in
          inr (lt, same_place e (next_of done p) here (omega arith))

  pub grown : (q : ℕ) → get_or done q 0 ≤ get_or (one_more done p) q 0
  grown q = go (cases_eq q p)
    where
      go : (q ≡ p) ⊎ (q ≡ p → ⊥) → get_or done q 0 ≤ get_or (one_more done p) q 0
      go (inl here) = rw here (let more : get_or (one_more done p) p 0 ≡ get_or done p 0 + 1 = more_here in omega arith)
      go (inr other) = let same : get_or (one_more done p) q 0 ≡ get_or done q 0 = more_other done p q other in
          omega arith

  pub within_more : (q : ℕ) → get_or (one_more done p) q 0 ≤ event_count c q
  within_more q = go (cases_eq q p)
    where
      go : (q ≡ p) ⊎ (q ≡ p → ⊥) → get_or (one_more done p) q 0 ≤ event_count c q
      go (inl here) = rw here (let more : get_or (one_more done p) p 0 ≡ get_or done p 0 + 1 =
          more_here in let t : get_or done p 0 < event_count c p = goes.there in omega arith)
      go (inr other) = let same : get_or (one_more done p) q 0 ≡ get_or done q 0 = more_other done p q other in
          let w : get_or done q 0 ≤ event_count c q = ordered.within q in omega arith

  -- what leads to the next event is in the order
  next_after : (d : Place) → LeadsTo c d (next_of done p) → IsDone done d
  next_after d (inr message) = goes.sent d message
  next_after d (inl (is, at, same, less)) =
      let here : get_or done d.process 0 ≡ get_or done p 0 = ap (λ (q : ℕ). get_or done q 0) same in omega arith

  -- the rank of what is left, and of the next event with it, is above the others
  new_rank : Place → ℕ
  new_rank e = cond (nat_lt (get_or done e.process 0) e.number) ordered.top (ordered.rank e)

  rank_old : (e : Place) → IsDone done e → new_rank e ≡ ordered.rank e
  unfolding new_rank
  rank_old e in_order = rw (le-ltb (get_or done e.process 0) e.number in_order) refl

  rank_new : (e : Place) → get_or done e.process 0 < e.number → new_rank e ≡ ordered.top
  unfolding new_rank
  rank_new e out = rw (lt-ltb (get_or done e.process 0) e.number out) refl

  rank_below : (e : Place) → new_rank e < ordered.top + 1
  rank_below e = go (cases_lt (get_or done e.process 0) e.number)
    where
      go : (get_or done e.process 0 < e.number) ⊎ (e.number ≤ get_or done e.process 0) → new_rank e < ordered.top + 1
      go (inl out) = let r : new_rank e ≡ ordered.top = rank_new e out in omega arith
      go (inr in_order) =
          let r : new_rank e ≡ ordered.rank e = rank_old e in_order in
          let b : ordered.rank e < ordered.top = ordered.below_top e in
          omega arith

  before_more : (d e : Place) → LeadsTo c d e → IsDone (one_more done p) e → IsDone (one_more done p) d
      × (new_rank d < new_rank e)
  before_more d e step in_order = go (old_or_next e in_order)
    where
      kept : IsDone done d → IsDone (one_more done p) d
      kept was = let g : get_or done d.process 0 ≤ get_or (one_more done p) d.process 0 = grown d.process in omega arith

      go : IsDone done e ⊎ ((get_or done e.process 0 < e.number) × (e ≡ next_of done p)) → IsDone (one_more done p) d
          × (new_rank d < new_rank e)
      go (inl old) =
          let w : IsDone done d × (ordered.rank d < ordered.rank e) = ordered.before d e step old in
          let a : new_rank d ≡ ordered.rank d = rank_old d w.0 in
          let b : new_rank e ≡ ordered.rank e = rank_old e old in
          let l : ordered.rank d < ordered.rank e = w.1 in
          (kept w.0, omega arith)
      go (inr (out, same)) =
          let was : IsDone done d = next_after d (subst (λ (x : Place). LeadsTo c d x) same step) in
          let a : new_rank d ≡ ordered.rank d = rank_old d was in
          let b : new_rank e ≡ ordered.top = rank_new e out in
          let l : ordered.rank d < ordered.top = ordered.below_top d in
          (kept was, omega arith)

  pub order_more : IsOrdered c (one_more done p)
  order_more = record {
    one_each = length_more done p ∙ ordered.one_each;
    within = within_more;
    rank = new_rank;
    top = ordered.top + 1;
    below_top = rank_below;
    before = before_more;
  }

  -- this many more events can come
  pub fewer_left : total c - sum (one_more done p) < total c - sum done
  fewer_left =
      let s : sum (one_more done p) ≡ sum done + 1 = sum_more done p in_list in
      let l : sum (one_more done p) ≤ total c =
      sum_le (one_more done p) (full_cut c) (λ q. rw full_at (within_more q)) (length_more done p
      ∙ (ordered.one_each ∙ sym (length_full c))) in
      omega arith

-- where each process waits, the stuck events are left
module _ (c : Computation) (done : List ℕ) (ordered : IsOrdered c done) (waits : (p : ℕ) → Waits c done p) where
  is_left : Place → Bool
  is_left e = nat_lt (get_or done e.process 0) e.number && nat_le e.number (event_count c e.process)

  left_from : (e : Place) → get_or done e.process 0 < e.number → e.number ≤ event_count c e.process → IsTrue (is_left e)
  unfolding is_left
  left_from e out there =
      and_from (nat_lt (get_or done e.process 0) e.number) (nat_le e.number (event_count c e.process))
      (lt-ltb (get_or done e.process 0) e.number out) (le-leb e.number (event_count c e.process) there)

  left_parts : (e : Place) → IsTrue (is_left e) → (get_or done e.process 0 < e.number)
      × (e.number ≤ event_count c e.process)
  unfolding is_left
  left_parts e left =
      let w : (nat_lt (get_or done e.process 0) e.number ≡ true) × (nat_le e.number (event_count c e.process) ≡ true) =
      and_parts (nat_lt (get_or done e.process 0) e.number) (nat_le e.number (event_count c e.process)) left in
      (ltb-true (get_or done e.process 0) e.number w.0, leb-true e.number (event_count c e.process) w.1)

  not_left : (e : Place) → IsDone done e → is_left e ≡ false
  unfolding is_left
  not_left e in_order = rw (le-ltb (get_or done e.process 0) e.number in_order) refl

  back : (e : Place) → IsTrue (is_left e) → (d : Place) × LeadsTo c d e × IsTrue (is_left d)
  back e left = go (cases_lt (get_or done e.process 0 + 1) e.number) (waits e.process)
    where
      out : get_or done e.process 0 < e.number
      out = (left_parts e left).0

      there : e.number ≤ event_count c e.process
      there = (left_parts e left).1

      go : (get_or done e.process 0 + 1 < e.number) ⊎ (e.number ≤ get_or done e.process 0 + 1) → Waits c done e.process
          → (d : Place) × LeadsTo c d e × IsTrue (is_left d)
      go (inl later) w =
          let o : e.number ≤ event_count c e.process = there in (
            next_of done e.process,
            inl ((omega arith, omega arith), (omega arith, there), refl, later),
            left_from (next_of done e.process) (omega arith) (omega arith),
          )
      go (inr first) (inl all) =
          let o : get_or done e.process 0 < e.number = out in
          let t : e.number ≤ event_count c e.process = there in
          absurd (omega arith)
      go (inr first) (inr (send, message, unsent)) =
          let o : get_or done e.process 0 < e.number = out in
          let same : next_of done e.process ≡ e = same_place (next_of done e.process) e refl (omega arith) in (
            send,
            inr (subst (λ (x : Place). IsMessage c send x) same message),
            left_from send unsent (send_event c send (next_of done e.process) message).1,
          )

  in_order : (d e : Place) → LeadsTo c d e → is_left e ≡ false → (is_left d ≡ false) × (ordered.rank d < ordered.rank e)
  in_order d e step kept = go (cases_lt (get_or done e.process 0) e.number)
    where
      go : (get_or done e.process 0 < e.number) ⊎ (e.number ≤ get_or done e.process 0) → (is_left d ≡ false)
          × (ordered.rank d < ordered.rank e)
      go (inl out) =
          let left : is_left e ≡ true = left_from e out (events_of_step c d e step).1.1 in absurd (cc)
      go (inr there) =
          let w : IsDone done d × (ordered.rank d < ordered.rank e) = ordered.before d e step there in
          (not_left d w.0, w.1)

  pub leaves_stuck : LeavesStuck c done
  leaves_stuck = record {
    one_each = ordered.one_each;
    within = ordered.within;
    left = λ e is. (λ out. (stuck e).0 (left_from e out is.1), λ s. (left_parts e ((stuck e).1 s)).0);
  }
    where
      stuck : (e : Place) → IsTrue (is_left e) ↔ IsStuck c e
      stuck = stuck_exactly c is_left ordered.rank back in_order
