-- The messages of a run that is made of the kept events of another one: none orders more, each latest event's is there,
-- and all are lawful.
use Rattle.std.proofs.Common.{◌≡◌, ℕ, ◌<◌, ◌≤◌, ◌⊎◌, inl, inr, List, [], length, get_or, Option, None, Some, Contains, option_map, refl, sym, ap, ◌∙◌, subst}
use Rattle.std.proofs.lemmas.Bool.{cases_lt}
use Rattle.std.proofs.lemmas.List.{get_or_default}
use Rattle.def_model.specs.Events.{Computation, Event, IsEvent, Kind, Place, Receive, Send, event_at, events_of, kind_at, numbered, place}
use Rattle.def_model.specs.Messages.{Receives, Sends}
use Rattle.def_model.specs.Order.{HappenedBefore}
use Rattle.def_model.specs.Predicates.{Recorded}
use Rattle.def_model.proofs.Chains.{event_from_kind, step_happens}
use Rattle.def_long.specs.Kept.{IsKept}
use Rattle.def_long.specs.MadeMessages.{AreNeighbors, SendsTo}
use Rattle.def_long.specs.Windows.{whole}
use Rattle.def_orders.proofs.KeptImages.{is_listed, listed}
use Rattle.judge_reduced.specs.Plans.{HasNoneBetween, IsImage, IsReceipt, IsReducedRun, message_id}
use Rattle.judge_reduced.proofs.MessageIds.{same_message}
use Rattle.judge_reduced.specs.Planned.{AreListed}
use Rattle.judge_reduced.proofs.Listed.{cases_listed, listed_is_kept, of_listed}

send_of_receive : (id id' : List ℕ) → Send id ≡ Receive id' → ⊥
send_of_receive id id' same = cc

same_send : (id id' : List ℕ) → Send id ≡ Send id' → id ≡ id'
same_send id id' same = cc

same_receive : (id id' : List ℕ) → Receive id ≡ Receive id' → id ≡ id'
same_receive id id' same = cc

-- the kind of an event that is there
kind_is : (o : Option Event) (event : Event) (k : Kind) → o ≡ Some event
    → option_map (λ (e : Event). e.kind) o ≡ Some k → event.kind ≡ k
kind_is o event k at has = cc

some_event : (o : Option Event) (k : Kind) → option_map (λ (e : Event). e.kind) o ≡ Some k
    → (event : Event) × (o ≡ Some event)
some_event None k has = absurd (cc)
some_event (Some event) k has = (event, refl)

module _ (r : Recorded) (named numbers : List (List ℕ)) (c : Computation) (places : List (List ℕ))
    (is : IsReducedRun r named numbers c places) where
  pub numbers_listed : AreListed r.events numbers
  numbers_listed = record { ascend = λ p. (is.kept p).ascend; events = λ p. (is.kept p).events }

  pub as_many : (p : ℕ) → length (get_or numbers p []) ≡ length (get_or places p [])
  as_many p = sym (is.each p).as_many

  pub in_places : (p i : ℕ) → i < length (get_or numbers p []) → i < length (get_or places p [])
  in_places p i within = subst (λ (n : ℕ). i < n) (as_many p) within

  in_numbers : (p i : ℕ) → i < length (get_or places p []) → i < length (get_or numbers p [])
  in_numbers p i within = subst (λ (n : ℕ). i < n) (is.each p).as_many within

  -- the image of a kept event sends its message
  pub image_sends : (p i : ℕ) → i < length (get_or places p []) → Sends c (listed places p i) (message_id p i)
  image_sends p i within = go ((is.each p).images i within)
    where
      go : (event : Event) × (numbered (events_of c p) (get_or (get_or places p []) i 0) ≡ Some event)
          × IsImage r (get_or named p []) numbers p i event
          → Sends c (listed places p i) (message_id p i)
      go (event, at, image) = ap (option_map (λ (e : Event). e.kind)) at ∙ ap Some image.sends

  pub places_listed : AreListed c places
  places_listed = record {
    ascend = λ p. (is.each p).ascend;
    events = λ p i d within.
        subst (λ (n : ℕ). IsEvent c (place p n)) (get_or_default (get_or places p []) i 0 d within)
        (event_from_kind c (listed places p i) (Send (message_id p i)) (image_sends p i within));
  }

  -- the event at the place is a receipt
  abbrev pub IsReceiptAt : Place → Event → Type 0
  IsReceiptAt e event =
      IsReceipt r numbers e.process (events_of c e.process) (get_or places e.process []) e.number event

  -- a receipt of this message stands at the place
  abbrev pub ReceivesAt : Place → List ℕ → Type 0
  ReceivesAt e id =
      (event : Event) × (receipt : IsReceiptAt e event) × (id ≡ message_id receipt.process receipt.rank)

  -- the place is that of the image of some kept event, whose message this is
  abbrev pub SendsAt : Place → List ℕ → Type 0
  SendsAt e id =
      (i : ℕ) × (i < length (get_or places e.process [])) × (listed places e.process i ≡ e)
      × (id ≡ message_id e.process i)

  -- an event of the run is an image, or a receipt
  pub image_or_receipt : (e : Place) (k : Kind) → kind_at c e ≡ Some k
      → IsKept (whole c) (is_listed places) e
      ⊎ ((event : Event) × (event_at c e ≡ Some event)
      × IsReceiptAt e event)
  image_or_receipt e k has = go (cases_listed c places places_listed e (event_from_kind c e k has))
    where
      found : (Contains (get_or places e.process []) e.number → ⊥)
          → (event : Event) × (event_at c e ≡ Some event) → (event : Event) × (event_at c e ≡ Some event)
          × IsReceiptAt e event
      found out (event, at) = (event, at, (is.each e.process).receipts e.number event at out)

      go : IsKept (whole c) (is_listed places) e ⊎ (Contains (get_or places e.process []) e.number → ⊥)
          → IsKept (whole c) (is_listed places) e
          ⊎ ((event : Event) × (event_at c e ≡ Some event)
          × IsReceiptAt e event)
      go (inl kept) = inl kept
      go (inr out) = inr (found out (some_event (event_at c e) k has))

  -- what sends is an image
  pub sender_is_image : (e : Place) (id : List ℕ) → Sends c e id → IsKept (whole c) (is_listed places) e
  sender_is_image e id sends = go (image_or_receipt e (Send id) sends)
    where
      go : IsKept (whole c) (is_listed places) e
          ⊎ ((event : Event) × (event_at c e ≡ Some event)
          × IsReceiptAt e event)
          → IsKept (whole c) (is_listed places) e
      go (inl kept) = kept
      go (inr (event, at, receipt)) =
          absurd (send_of_receive id (message_id receipt.process receipt.rank)
          (sym (kind_is (event_at c e) event (Send id) at sends) ∙ receipt.receives))

  -- of the kept event whose message it is
  pub sender_is_listed : (e : Place) (id : List ℕ) → Sends c e id → SendsAt e id
  sender_is_listed e id sends =
      of_listed c places places_listed
      (λ x. Sends c x id → (i : ℕ) × (i < length (get_or places x.process [])) × (listed places x.process i ≡ x)
      × (id ≡ message_id x.process i))
      (λ p i within sends. (
        i,
        within,
        refl,
        let both : Some (Send id) ≡ Some (Send (message_id p i)) = sym sends ∙ image_sends p i within in
            same_send id (message_id p i) (cc),
      )) e (sender_is_image e id sends) sends

  -- what receives is a receipt
  pub receipt_at : (e : Place) (id : List ℕ) → Receives c e id → ReceivesAt e id
  receipt_at e id receives = go (image_or_receipt e (Receive id) receives)
    where
      no_image : (x : Place) → IsKept (whole c) (is_listed places) x → Receives c x id → ⊥
      no_image =
          of_listed c places places_listed (λ x. Receives c x id → ⊥)
          (λ p i within has. let both : Some (Receive id) ≡ Some (Send (message_id p i)) =
          sym has ∙ image_sends p i within in
          send_of_receive (message_id p i) id (cc))

      go : IsKept (whole c) (is_listed places) e
          ⊎ ((event : Event) × (event_at c e ≡ Some event)
          × IsReceiptAt e event)
          → ReceivesAt e id
      go (inl kept) = absurd (no_image e kept receives)
      go (inr (event, at, receipt)) = (
        event,
        receipt,
        same_receive id (message_id receipt.process receipt.rank)
            (sym (kind_is (event_at c e) event (Receive id) at receives) ∙ receipt.receives),
      )

  -- ---- the order

  -- a message orders only what is ordered
  pub in_order : (p i q j : ℕ) → i < length (get_or numbers p []) → j < length (get_or numbers q [])
      → SendsTo c (listed places p i) (listed places q j)
      → HappenedBefore r.events (listed numbers p i) (listed numbers q j)
  in_order p i q j in_p in_q (e, (id, sends, receives, apart), same, le) = go (receipt_at e id receives)
    where
      is_id : id ≡ message_id p i
      is_id = let both : Some (Send id) ≡ Some (Send (message_id p i)) =
          sym sends ∙ image_sends p i (in_places p i in_p) in same_send id (message_id p i) (cc)

      go : ReceivesAt e id
          → HappenedBefore r.events (listed numbers p i) (listed numbers q j)
      go (event, receipt, from) =
          let pair : (p ≡ receipt.process) × (i ≡ receipt.rank) =
          same_message p i receipt.process receipt.rank (sym is_id ∙ from) in
          let before : HappenedBefore r.events (listed numbers receipt.process receipt.rank)
          (listed numbers e.process j) =
          receipt.before j (subst (λ (s : ℕ). j < length (get_or numbers s [])) (sym same) in_q)
          (λ there. subst (λ (s : ℕ). e.number ≤ get_or (get_or places s []) j 0) (sym same) le) in
          subst (λ (s : ℕ). HappenedBefore r.events (listed numbers p i) (listed numbers s j)) same
          (subst (λ (s : ℕ). HappenedBefore r.events (listed numbers s i) (listed numbers e.process j)) (sym pair.0)
          (subst (λ (k : ℕ). HappenedBefore r.events (listed numbers receipt.process k) (listed numbers e.process j))
          (sym pair.1) before))

  -- each neighbor gets a message
  pub to_neighbor : (p i q j : ℕ) → i < length (get_or numbers p []) → j < length (get_or numbers q [])
      → AreNeighbors (whole r.events) (is_listed numbers) (listed numbers p i) (listed numbers q j)
      → (p ≡ q → ⊥) → SendsTo c (listed places p i) (listed places q j)
  to_neighbor p i q j in_p in_q near apart =
      go ((is.each q).needed j p i (in_places q j in_q) apart in_p near.before last none)
    where
      later : (k : ℕ) → i < k → k < length (get_or numbers p [])
          → HappenedBefore r.events (listed numbers p i) (listed numbers p k)
      later k lt in_k =
          step_happens r.events (listed numbers p i) (listed numbers p k)
          (inl (
            numbers_listed.events p i 0 in_p,
            numbers_listed.events p k 0 in_k,
            refl,
            numbers_listed.ascend p i k 0 lt in_k,
          ))

      none : HasNoneBetween r numbers p i q j
      none s m in_s first second =
          near.none_between (listed numbers s m) (listed_is_kept r.events numbers numbers_listed s m in_s) first second

      last : (k : ℕ) → k < length (get_or numbers p [])
          → HappenedBefore r.events (listed numbers p k) (listed numbers q j) → k ≤ i
      last k in_k before = pick (cases_lt i k)
        where
          pick : (i < k) ⊎ (k ≤ i) → k ≤ i
          pick (inr le) = le
          pick (inl lt) =
              absurd (near.none_between (listed numbers p k)
              (listed_is_kept r.events numbers numbers_listed p k in_k) (later k lt in_k) before)

      go : (m : ℕ) × (m ≤ get_or (get_or places q []) j 0)
          × (option_map (λ (event : Event). event.kind) (numbered (events_of c q) m) ≡ Some (Receive (message_id p i)))
          → SendsTo c (listed places p i) (listed places q j)
      go (m, le, received) =
          (place q m, (message_id p i, image_sends p i (in_places p i in_p), received, apart), refl, le)
