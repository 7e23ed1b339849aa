-- The messages of a run that is made of the kept events of another one are lawful.
use Rattle.std.proofs.Common.{◌≡◌, ℕ, ◌<◌, inl, inr, List, Some, option_map, sym, ap, ◌∙◌, subst, arith}
use Rattle.def_model.specs.Events.{Computation, Event, IsBefore, Place, Receive, Send, events_of, numbered}
use Rattle.def_model.specs.Messages.{HasLawfulMessages, IsBadReceipt, IsSentAgain, Two, orphan, self_message, received_again}
use Rattle.def_model.specs.Predicates.{Recorded}
use Rattle.def_orders.proofs.KeptImages.{listed}
use Rattle.judge_reduced.specs.Plans.{IsReducedRun, message_id}
use Rattle.judge_reduced.proofs.MessageIds.{same_message}
use Rattle.judge_reduced.proofs.Messages.{ReceivesAt, SendsAt, image_sends, in_places, receipt_at, sender_is_listed}

module _ (r : Recorded) (named numbers : List (List ℕ)) (c : Computation) (places : List (List ℕ))
    (is : IsReducedRun r named numbers c places) where
  sent_twice : (e : Place) → IsSentAgain c e → ⊥
  sent_twice e (id, d, sends_e, sends_d, before) =
      go (sender_is_listed r named numbers c places is e id sends_e)
      (sender_is_listed r named numbers c places is d id sends_d)
    where
      go : SendsAt r named numbers c places is e id
          → SendsAt r named numbers c places is d id → ⊥
      go (i, in_e, at_e, of_e) (j, in_d, at_d, of_d) = pick before
        where
          pair : (e.process ≡ d.process) × (i ≡ j)
          pair = same_message e.process i d.process j (sym of_e ∙ of_d)

          same : e ≡ d
          same =
              sym at_e ∙ (ap (λ (s : ℕ). listed places s i) pair.0 ∙ (ap (λ (k : ℕ). listed places d.process k) pair.1
              ∙ at_d))

          pick : IsBefore d e → ⊥
          pick (inl lt) = let p : e.process ≡ d.process = pair.0 in omega arith
          pick (inr lt) =
              let l : d.number < e.number = lt.1 in
              let n : e.number ≡ d.number = ap (λ (x : Place). x.number) same in omega arith

  bad_receipt : (e : Place) → IsBadReceipt Two c e → ⊥
  bad_receipt e (orphan (id, receives, none)) = go (receipt_at r named numbers c places is e id receives)
    where
      go : ReceivesAt r named numbers c places is e id → ⊥
      go (event, receipt, from) =
          none (listed places receipt.process receipt.rank)
          (image_sends r named numbers c places is receipt.process receipt.rank
          (in_places r named numbers c places is receipt.process receipt.rank receipt.there)
          ∙ ap (λ (x : List ℕ). Some (Send x)) (sym from))
  bad_receipt e (self_message (id, d, receives, sends, same)) =
      go (receipt_at r named numbers c places is e id receives)
      (sender_is_listed r named numbers c places is d id sends)
    where
      go : ReceivesAt r named numbers c places is e id
          → SendsAt r named numbers c places is d id → ⊥
      go (event, receipt, from) (i, in_d, at, of_d) =
          receipt.other
          ((same_message receipt.process receipt.rank d.process i (sym from ∙ of_d)).0 ∙ same)
  bad_receipt e (received_again (id, d, receives, receives_d, before, same)) =
      go (receipt_at r named numbers c places is e id receives)
    where
      go : ReceivesAt r named numbers c places is e id → ⊥
      go (event, receipt, from) = pick before
        where
          here : option_map (λ (x : Event). x.kind) (numbered (events_of c e.process) d.number)
              ≡ Some (Receive (message_id receipt.process receipt.rank))
          here =
              subst (λ (s : ℕ). option_map (λ (x : Event). x.kind) (numbered (events_of c s) d.number)
              ≡ Some (Receive (message_id receipt.process receipt.rank))) same
              (receives_d ∙ ap (λ (x : List ℕ). Some (Receive x)) from)

          pick : IsBefore d e → ⊥
          pick (inl lt) = let p : d.process ≡ e.process = same in omega arith
          pick (inr lt) = receipt.once d.number lt.1 (d.number, omega arith, here)

  pub lawful : HasLawfulMessages Two c
  lawful = record { sent_once = sent_twice; received_well = bad_receipt }
