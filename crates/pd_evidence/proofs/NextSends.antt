-- The next event of a process, added, gives a consistent cut where its send, if it has one, is counted.
use Rattle.std.proofs.Common.{◌≡◌, ℕ, ◌<◌, ◌≤◌, List, length, get_or, refl, subst, ◌↔◌}
use Rattle.std.specs.Prelude.{Some, None, IsTrue, nat_le}
use Rattle.std.proofs.lemmas.Bool.{leb-true, le-leb}
use Rattle.std.proofs.lemmas.Option.{same_Some, none-some}
use Rattle.def_model.specs.Cuts.{IsConsistent, one_more}
use Rattle.def_model.specs.Events as events
use Rattle.def_model.specs.Events.{Computation, Send, event_count}
use Rattle.def_model.specs.Messages.{IsMessage}
use Rattle.def_model.proofs.AddedEvents.{HasSend, added, one_more_exactly}
use Rattle.def_model.proofs.Chains.{event_from_kind}
use Rattle.def_model.proofs.Consistency.{process_in_range}
use Rattle.pd_match.specs.Views.{place_view}
use Rattle.pd_match.specs.declared.place.Place.{Place}
use Rattle.pd_clock.specs.Senders.{IsSender}

-- the send that was found is of a process that is there
pub send_within : (c : Computation) (e : events.Place) (send : Place) → IsSender c e (Some send)
    → send.process < length c
send_within c e send sender =
    let message : IsMessage c (place_view send) e = (sender (place_view send)).0 refl in
    process_in_range c (place_view send) (event_from_kind c (place_view send) (Send message.0) message.1)

module _ (c : Computation) (counts : List ℕ) (p : ℕ) (ok : IsConsistent c counts) (within : p < length c)
    (room : get_or counts p 0 < event_count c p) where
  exact : HasSend c counts (added counts p) ↔ IsConsistent c (one_more counts p)
  exact = one_more_exactly c counts p ok within room

  pub some_decides : (send : Place) → IsSender c (added counts p) (Some send)
      → IsTrue (nat_le send.number (get_or counts send.process 0)) ↔ IsConsistent c (one_more counts p)
  some_decides send sender =
      (λ passes. exact.0 (has passes), λ more. le-leb send.number (get_or counts send.process 0) (below (exact.1 more)))
    where
      has : IsTrue (nat_le send.number (get_or counts send.process 0)) → HasSend c counts (added counts p)
      has passes other message =
          let le : send.number ≤ get_or counts send.process 0 =
          leb-true send.number (get_or counts send.process 0) passes in
          let same : place_view send ≡ other = same_Some (place_view send) other ((sender other).1 message) in
          subst (λ (x : events.Place). x.number ≤ get_or counts x.process 0) same le

      below : HasSend c counts (added counts p) → send.number ≤ get_or counts send.process 0
      below sent = sent (place_view send) ((sender (place_view send)).0 refl)

  pub none_decides : IsSender c (added counts p) None → IsConsistent c (one_more counts p)
  none_decides sender = exact.0 (λ other message. absurd (none-some other ((sender other).1 message)))
