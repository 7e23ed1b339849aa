-- The test of flights is what it is to be in flight.
use Rattle.std.proofs.Common.{◌≡◌, ℕ, zero, suc, ◌+◌, ◌<◌, length, get_or, take, Bool, true, false, not, IsTrue, List, [], ◌∷◌, refl, sym, ap, ◌∙◌, subst, ◌↔◌, arith}
use Rattle.std.specs.Prelude.{◌&&◌, ◌||◌, ◌==◌, Option, Some, None, Contains, slice_index_or}
use Rattle.std.proofs.lemmas.List.Elements.{Contains-append_right}
use Rattle.std.proofs.lemmas.List.Folds.{list_any_more}
use Rattle.std.proofs.lemmas.Bool.{and_from, and_parts, eqb-true, eq-eqb}
use Rattle.def_model.specs.Events.{Computation, Place, Kind, Local, Send, Receive, kind_at}
use Rattle.def_model.specs.Messages.{IsMessageList}
use Rattle.def_model.proofs.Chains.{same_place}
use Rattle.pd_match.specs.Views.{pairs_view, place_view}
use Rattle.pd_match.specs.declared.place.Place.{Place as MatchedPlace}
use Rattle.out_picture.specs.Flights.{is_flight, is_received, is_send}
use Rattle.out_picture.specs.Pictures.{IsInFlight}

pub is_send_some : (kind : Option Kind) → is_send kind ≡ true → (id : List ℕ) × (kind ≡ Some (Send id))
is_send_some None fails = absurd (cc)
is_send_some (Some Local) fails = absurd (cc)
is_send_some (Some (Send id)) holds = (id, refl)
is_send_some (Some (Receive id)) fails = absurd (cc)

-- whether the message is sent at this place
pub is_sent_at : Place → MatchedPlace × MatchedPlace → Bool
is_sent_at e message = message.0.process == e.process && message.0.number == e.number

received_more : (e : Place) (message : MatchedPlace × MatchedPlace) (rest : List (MatchedPlace × MatchedPlace))
    → is_received (message ∷ rest) e ≡ (is_sent_at e message || is_received rest e)
unfolding is_sent_at
received_more e message rest = refl

-- the same of one message more
pub received_at : (messages : List (MatchedPlace × MatchedPlace)) (e : Place) (i : ℕ)
    (d : MatchedPlace × MatchedPlace) → i < length messages
    → is_received (take (i + 1) messages) e
    ≡ (is_received (take i messages) e || is_sent_at e (get_or messages i d))
unfolding is_sent_at
received_at messages e i d lt = list_any_more (is_sent_at e) messages i d lt

pub sent_here : (e : Place) (message : MatchedPlace × MatchedPlace) → is_sent_at e message ≡ true
    → place_view message.0 ≡ e
unfolding is_sent_at
sent_here e message holds =
    let w : ((message.0.process == e.process) ≡ true) × ((message.0.number == e.number) ≡ true) =
    and_parts (message.0.process == e.process) (message.0.number == e.number) holds in
    same_place (place_view message.0) e (eqb-true message.0.process e.process w.0)
    (eqb-true message.0.number e.number w.1)

pub here_sent : (e : Place) (message : MatchedPlace × MatchedPlace) → place_view message.0 ≡ e
    → is_sent_at e message ≡ true
unfolding is_sent_at
here_sent e message same =
    let p : message.0.process ≡ e.process = ap (λ (d : Place). d.process) same in
    let n : message.0.number ≡ e.number = ap (λ (d : Place). d.number) same in
    and_from (message.0.process == e.process) (message.0.number == e.number)
    (eq-eqb message.0.process e.process p) (eq-eqb message.0.number e.number n)

received_some : (messages : List (MatchedPlace × MatchedPlace)) (e : Place) → is_received messages e ≡ true
    → (receipt : Place) × Contains (pairs_view messages) (e, receipt)
received_some [] e fails = absurd (cc)
received_some (message ∷ rest) e holds =
    go (received_some rest e) (is_sent_at e message) refl (sym (received_more e message rest) ∙ holds)
  where
    go : (is_received rest e ≡ true → (receipt : Place) × Contains (pairs_view rest) (e, receipt)) → (b : Bool)
        → is_sent_at e message ≡ b → (is_sent_at e message || is_received rest e) ≡ true
        → (receipt : Place) × Contains (pairs_view (message ∷ rest)) (e, receipt)
    go later true here any =
        let same : place_view message.0 ≡ e = sent_here e message here in (
          place_view message.1,
          (0, omega arith, ap (λ (d : Place). (d, place_view message.1)) same),
        )
    go later false other any =
        let w : (receipt : Place) × Contains (pairs_view rest) (e, receipt) = later (or_right other any) in (
          w.0,
          Contains-append_right ((place_view message.0, place_view message.1) ∷ []) (pairs_view rest) (e, w.0) w.1,
        )
      where
        or_right : is_sent_at e message ≡ false → (is_sent_at e message || is_received rest e) ≡ true
            → is_received rest e ≡ true
        or_right fails one =
            subst (λ (b : Bool). (b || is_received rest e) ≡ true) fails one

received_from : (messages : List (MatchedPlace × MatchedPlace)) (e receipt : Place) (k : ℕ)
    → k < length (pairs_view messages) → slice_index_or (pairs_view messages) k (e, receipt) ≡ (e, receipt)
    → is_received messages e ≡ true
received_from [] e receipt k lt is = absurd (omega arith)
received_from (message ∷ rest) e receipt zero lt is =
    let here : is_sent_at e message ≡ true = here_sent e message (ap (λ (pair : Place × Place). pair.0) is) in
    received_more e message rest ∙ ap (λ (b : Bool). b || is_received rest e) here
received_from (message ∷ rest) e receipt (suc k) lt is =
    received_more e message rest
    ∙ or_any (is_sent_at e message) (received_from rest e receipt k (omega arith) is)
  where
    or_any : (b : Bool) → is_received rest e ≡ true → (b || is_received rest e) ≡ true
    or_any true later = refl
    or_any false later = later

pub flights_are : (c : Computation) (messages : List (MatchedPlace × MatchedPlace))
    → IsMessageList c (pairs_view messages) → (e : Place) → IsTrue (is_flight c messages e) ↔ IsInFlight c e
flights_are c messages are e = (there, back)
  where
    there : IsTrue (is_flight c messages e) → IsInFlight c e
    there holds =
        let w : (is_send (kind_at c e) ≡ true) × (not (is_received messages e) ≡ true) =
        and_parts (is_send (kind_at c e)) (not (is_received messages e)) holds in (
          is_send_some (kind_at c e) w.0,
          λ receipt message. none (is_received messages e) w.1 (
              let at : Contains (pairs_view messages) (e, receipt) = (are.just e receipt).1 message in
              received_from messages e receipt at.0 at.1 at.2
              ),
        )
      where
        none : (b : Bool) → not b ≡ true → b ≡ true → ⊥
        none true fails holds = absurd (cc)
        none false fails holds = absurd (cc)

    back : IsInFlight c e → IsTrue (is_flight c messages e)
    back ((id, sends), lost) =
        and_from (is_send (kind_at c e)) (not (is_received messages e)) (ap is_send sends)
        (none (is_received messages e) refl)
      where
        none : (b : Bool) → is_received messages e ≡ b → not (is_received messages e) ≡ true
        none false fails = ap not fails
        none true holds =
            let w : (receipt : Place) × Contains (pairs_view messages) (e, receipt) = received_some messages e holds in
            absurd (lost w.0 ((are.just e w.0).0 w.1))
