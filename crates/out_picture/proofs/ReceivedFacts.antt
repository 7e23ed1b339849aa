-- What the marks of received sends say, message by message.
use Rattle.std.proofs.Common.{◌≡◌, ◌≢◌, ℕ, zero, suc, ◌-◌, ◌+◌, ◌<◌, ◌≤◌, List, [], ◌∷◌, length, get_or, set, take, replicate, Bool, true, false, not, refl, sym, ap, ◌∙◌, subst, inl, inr, ◌⊎◌, arith}
use Rattle.std.specs.Prelude.{◌&&◌, ◌||◌, ◌==◌, Option, Some, None, Vec, slice_get}
use Rattle.std.specs.Global.{Global}
use Rattle.std.proofs.Math.Bool.{or-false, or-true}
use Rattle.std.proofs.lemmas.Bool.{cases_lt, cases_eq, false≢true}
use Rattle.std.proofs.lemmas.List.{get_or-replicate, get_or-set_other, get_or-set_same, length-replicate, length-set}
use Rattle.std.proofs.lemmas.Option.{slice_get_past, slice_get_read}
use Rattle.def_model.specs.Events.{Computation, Place, Kind, Send, IsEvent, event_count, kind_at}
use Rattle.def_model.proofs.Chains.{event_from_kind, same_place}
use Rattle.def_model.proofs.Consistency.{process_in_range}
use Rattle.pd_match.specs.declared.place.Place.{Place as MatchedPlace}
use Rattle.pd_match.specs.Views.{place_view}
use Rattle.out_picture.specs.Flights.{is_flight, is_received, is_send}
use Rattle.out_picture.specs.Received.{AreReceived, HasMark, is_unmarked_send, mark_at, marks_in, marks_of, with_mark}
use Rattle.out_picture.proofs.FlightFacts.{here_sent, is_send_some, is_sent_at, received_at, sent_here}

-- ---- a row

pub mark_within : (marks : List Bool) (number : ℕ) → 0 < number → set marks (number - 1) true ≡ with_mark marks number
mark_within marks zero some = absurd (omega arith)
mark_within marks (suc n) some = let same : suc n - 1 ≡ n = omega arith in ap (λ (i : ℕ). set marks i true) same

set_past : (marks : List Bool) (n : ℕ) → length marks ≤ n → set marks n true ≡ marks
set_past [] n past = refl
set_past (mark ∷ marks) zero past = absurd (omega arith)
set_past (mark ∷ marks) (suc n) past = ap (λ (rest : List Bool). mark ∷ rest) (set_past marks n (omega arith))

pub mark_past : (marks : List Bool) (number : ℕ) → length marks < number → marks ≡ with_mark marks number
mark_past marks zero past = absurd (omega arith)
mark_past marks (suc n) past = sym (set_past marks n (omega arith))

pub length_marked : (marks : List Bool) (number : ℕ) → length (with_mark marks number) ≡ length marks
length_marked marks zero = refl
length_marked marks (suc n) = length-set marks n true

marked_here : (marks : List Bool) (number : ℕ) → 1 ≤ number → number ≤ length marks
    → get_or (with_mark marks number) (number - 1) false ≡ true
marked_here marks zero some within = absurd (omega arith)
marked_here marks (suc n) some within =
    let same : suc n - 1 ≡ n = omega arith in
    ap (λ (k : ℕ). get_or (set marks n true) k false) same ∙ get_or-set_same marks n true false (omega arith)

marked_other : (marks : List Bool) (number other : ℕ) → 1 ≤ other → other ≢ number
    → get_or (with_mark marks number) (other - 1) false ≡ get_or marks (other - 1) false
marked_other marks zero other some apart = refl
marked_other marks (suc n) other some apart =
    get_or-set_other marks n (other - 1) true false (λ e. apart (omega arith))

-- ---- a row of the table

get_set_same : {A : Type 0} (xs : List A) (p : ℕ) (x : A) → p < length xs → slice_get (set xs p x) p ≡ Some x
get_set_same [] p x lt = absurd (omega arith)
get_set_same (y ∷ xs) zero x lt = refl
get_set_same (y ∷ xs) (suc p) x lt = get_set_same xs p x (omega arith)

get_set_other : {A : Type 0} (xs : List A) (p q : ℕ) (x : A) → q ≢ p → slice_get (set xs p x) q ≡ slice_get xs q
get_set_other [] p q x other = refl
get_set_other (y ∷ xs) zero zero x other = absurd (other refl)
get_set_other (y ∷ xs) zero (suc q) x other = refl
get_set_other (y ∷ xs) (suc p) zero x other = refl
get_set_other (y ∷ xs) (suc p) (suc q) x other = get_set_other xs p q x (λ e. other (ap suc e))

pub row_written : (rows : List (Vec Bool Global)) (p : ℕ) (row : Vec Bool Global) → p < length rows
    → marks_of (set rows p row) p ≡ row.items
row_written rows p row lt = ap marks_in (get_set_same rows p row lt)

pub row_kept : (rows : List (Vec Bool Global)) (p : ℕ) (row : Vec Bool Global) (q : ℕ) → q ≢ p
    → marks_of (set rows p row) q ≡ marks_of rows q
row_kept rows p row q other = ap marks_in (get_set_other rows p q row other)

pub row_read : (rows : List (Vec Bool Global)) (p : ℕ) (row : Vec Bool Global) → p < length rows
    → row ≡ get_or rows p row → marks_of rows p ≡ row.items
row_read rows p row lt is = ap marks_in (slice_get_read rows (length rows) p row refl lt is)

pub row_past : (rows : List (Vec Bool Global)) (p : ℕ) → length rows ≤ p → marks_of rows p ≡ []
row_past rows p past = ap marks_in (slice_get_past rows p past)

pub none_marked : (number : ℕ) → with_mark [] number ≡ []
none_marked zero = refl
none_marked (suc n) = refl

-- ---- the table

-- no mark is set, and no message is there
pub none_received : (c : Computation) (rows : List (Vec Bool Global)) → length rows ≡ length c
    → ((p : ℕ) → p < length c → marks_of rows p ≡ replicate (event_count c p) false) → AreReceived c [] rows
none_received c rows each unset = record {
  whole = λ e is.
      let row : length (marks_of rows e.process) ≡ event_count c e.process =
      ap length (unset e.process (process_in_range c e is)) ∙ length-replicate (event_count c e.process) false in
      let last : e.number ≤ event_count c e.process = is.1 in
      (is.0, omega arith);
  right = λ e has. right e has (cases_lt e.process (length c));
}
  where
    right : (e : Place) → HasMark rows e → (e.process < length c) ⊎ (length c ≤ e.process) → mark_at rows e ≡ false
    right e has (inl within) =
        let row : marks_of rows e.process ≡ replicate (event_count c e.process) false = unset e.process within in
        let long : length (marks_of rows e.process) ≡ event_count c e.process =
        ap length row ∙ length-replicate (event_count c e.process) false in
        let some : 1 ≤ e.number = has.0 in
        let last : e.number ≤ length (marks_of rows e.process) = has.1 in
        ap (λ (marks : List Bool). get_or marks (e.number - 1) false) row
        ∙ get_or-replicate (event_count c e.process) (e.number - 1) false false (omega arith)
    right e has (inr past) =
        let none : length (marks_of rows e.process) ≡ 0 = ap length (row_past rows e.process (omega arith)) in
        let some : 1 ≤ e.number = has.0 in
        let last : e.number ≤ length (marks_of rows e.process) = has.1 in
        absurd (omega arith)

-- one message more, whose send is marked
module _ (c : Computation) (messages : List (MatchedPlace × MatchedPlace)) (i : ℕ)
    (message d : MatchedPlace × MatchedPlace) (is : get_or messages i d ≡ message) (within : i < length messages)
    (rows after : List (Vec Bool Global))
    (here : marks_of after message.0.process ≡ with_mark (marks_of rows message.0.process) message.0.number)
    (others : (p : ℕ) → p ≢ message.0.process → marks_of after p ≡ marks_of rows p) where
  length_kept : (p : ℕ) → length (marks_of after p) ≡ length (marks_of rows p)
  length_kept p = go (cases_eq p message.0.process)
    where
      go : (p ≡ message.0.process) ⊎ (p ≢ message.0.process) → length (marks_of after p) ≡ length (marks_of rows p)
      go (inl same) =
          subst (λ (q : ℕ). length (marks_of after q) ≡ length (marks_of rows q)) (sym same)
          (ap length here ∙ length_marked (marks_of rows message.0.process) message.0.number)
      go (inr other) = ap length (others p other)

  send_marked : (e : Place) → place_view message.0 ≡ e → HasMark rows e → mark_at after e ≡ true
  send_marked e same has =
      let p : message.0.process ≡ e.process = ap (λ (d : Place). d.process) same in
      let n : message.0.number ≡ e.number = ap (λ (d : Place). d.number) same in
      let there : marks_of after e.process ≡ with_mark (marks_of rows e.process) e.number =
      subst (λ (d : Place). marks_of after d.process ≡ with_mark (marks_of rows d.process) d.number) same here in
      ap (λ (marks : List Bool). get_or marks (e.number - 1) false) there
      ∙ marked_here (marks_of rows e.process) e.number has.0 has.1

  other_kept : (e : Place) → (place_view message.0 ≡ e → ⊥) → HasMark rows e → mark_at after e ≡ mark_at rows e
  other_kept e apart has = go (cases_eq e.process message.0.process)
    where
      go : (e.process ≡ message.0.process) ⊎ (e.process ≢ message.0.process) → mark_at after e ≡ mark_at rows e
      go (inl same) =
          let there : marks_of after e.process ≡ with_mark (marks_of rows e.process) message.0.number =
          subst (λ (q : ℕ). marks_of after q ≡ with_mark (marks_of rows q) message.0.number) (sym same) here in
          ap (λ (marks : List Bool). get_or marks (e.number - 1) false) there
          ∙ marked_other (marks_of rows e.process) message.0.number e.number has.0
          (λ equal. apart (same_place (place_view message.0) e (sym same) (sym equal)))
      go (inr other) = ap (λ (marks : List Bool). get_or marks (e.number - 1) false) (others e.process other)

  mark_more : (e : Place) → HasMark rows e → mark_at after e ≡ (mark_at rows e || is_sent_at e message)
  mark_more e has = go (is_sent_at e message) refl
    where
      go : (b : Bool) → is_sent_at e message ≡ b → mark_at after e ≡ (mark_at rows e || is_sent_at e message)
      go true sent =
          send_marked e (sent_here e message sent) has
          ∙ (sym (or-true (mark_at rows e)) ∙ ap (λ (b : Bool). mark_at rows e || b) (sym sent))
      go false elsewhere =
          other_kept e (λ same. false≢true (sym elsewhere ∙ here_sent e message same)) has
          ∙ (sym (or-false (mark_at rows e)) ∙ ap (λ (b : Bool). mark_at rows e || b) (sym elsewhere))

  more_received : (e : Place)
      → is_received (take (i + 1) messages) e ≡ (is_received (take i messages) e || is_sent_at e message)
  more_received e =
      received_at messages e i d within
      ∙ ap (λ (m : MatchedPlace × MatchedPlace). is_received (take i messages) e || is_sent_at e m) is

  pub one_received : AreReceived c (take i messages) rows → AreReceived c (take (i + 1) messages) after
  one_received old = record {
    whole = λ e event. let has : HasMark rows e = old.whole e event in
        let many : length (marks_of after e.process) ≡ length (marks_of rows e.process) = length_kept e.process in
        let last : e.number ≤ length (marks_of rows e.process) = has.1 in
        (has.0, omega arith);
    right = λ e has. let many : length (marks_of after e.process) ≡ length (marks_of rows e.process) =
        length_kept e.process in
        let last : e.number ≤ length (marks_of after e.process) = has.1 in
        let had : HasMark rows e = (has.0, omega arith) in
        mark_more e had ∙ (ap (λ (b : Bool). b || is_sent_at e message) (old.right e had) ∙ sym (more_received e));
  }

-- ---- what the marks are for

-- an event that sends and isn't marked is one that sends and that none of the messages is sent at
unmarked_is : (c : Computation) (messages : List (MatchedPlace × MatchedPlace)) (rows : List (Vec Bool Global))
    → AreReceived c messages rows → (e : Place) → is_unmarked_send c rows e ≡ is_flight c messages e
unmarked_is c messages rows are e = go (is_send (kind_at c e)) refl
  where
    go : (b : Bool) → is_send (kind_at c e) ≡ b → is_unmarked_send c rows e ≡ is_flight c messages e
    go false other =
        ap (λ (b : Bool). b && not (mark_at rows e)) other
        ∙ sym (ap (λ (b : Bool). b && not (is_received messages e)) other)
    go true send =
        let kind : (id : List ℕ) × (kind_at c e ≡ Some (Send id)) = is_send_some (kind_at c e) send in
        let event : IsEvent c e = event_from_kind c e (Send kind.0) kind.1 in
        ap (λ (b : Bool). is_send (kind_at c e) && not b) (are.right e (are.whole e event))

pub unmarked_are : (c : Computation) (messages : List (MatchedPlace × MatchedPlace)) (rows : List (Vec Bool Global))
    → AreReceived c messages rows → is_unmarked_send c rows ≡ is_flight c messages
unmarked_are c messages rows are = λ i e. unmarked_is c messages rows are e i
