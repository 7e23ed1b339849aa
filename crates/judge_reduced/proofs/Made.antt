-- A run that consists of a reduction's events is made of the kept events of the run that is reduced.
use Rattle.std.proofs.Common.{◌≡◌, ℕ, zero, suc, ◌+◌, ◌<◌, ◌≤◌, ◌⊎◌, inl, inr, false, List, [], ◌∷◌, length, get_or, Some, Contains, refl, sym, ap, ◌∙◌, subst, arith, add-one}
use Rattle.std.proofs.lemmas.Bool.{cases_lt, eq-eqb, false≢true}
use Rattle.std.proofs.lemmas.List.{get_or_past}
use Rattle.def_model.specs.Cuts.{empty_cut, full_cut}
use Rattle.def_model.specs.Events.{Computation, Event, IsEvent, Place, event_count, events_of, numbered, place}
use Rattle.def_model.specs.Order.{HappenedBefore, HasNoCycle}
use Rattle.def_model.specs.Predicates.{Predicate, Recorded}
use Rattle.def_model.proofs.Counts.{empty_at}
use Rattle.def_long.specs.Kept.{IsKept}
use Rattle.def_long.specs.MadeMessages.{AreNeighbors, KeepsOrderByMessages, SendsTo}
use Rattle.def_long.specs.MadeRuns.{IsMadeOf}
use Rattle.def_long.specs.Renamed.{SeesTheSameIn, renamed}
use Rattle.def_long.specs.Views.{OthersAreUnseen, SeesTheSame, value_after}
use Rattle.def_long.specs.Windows.{whole}
use Rattle.def_long.proofs.MadeOrder.{messages_make_no_cycle}
use Rattle.def_long.proofs.WindowCuts.{run_is_window}
use Rattle.def_orders.specs.Orders.{IsOver}
use Rattle.def_orders.proofs.KeptImages.{image_in, is_listed, listed}
use Rattle.def_orders.proofs.Ranks.{last_of_contained, last_up_to}
use Rattle.judge_reduced.specs.Plans.{IsImage, IsReducedRun}
use Rattle.judge_reduced.specs.Reductions.{identity_names}
use Rattle.judge_reduced.specs.Planned.{AreListed}
use Rattle.judge_reduced.proofs.Listed.{image_is_kept, image_of_listed, of_listed, origin_of_image, same_turn}
use Rattle.judge_reduced.proofs.Messages.{as_many, in_order, in_places, numbers_listed, places_listed, sender_is_image, to_neighbor}
use Rattle.judge_reduced.proofs.Seen.{same_predicate, sees, sees_in}
use Rattle.judge_reduced.proofs.Values.{first_value, value_is_set, value_of_values, value_stays}

-- what isn't listed isn't one of the numbers
not_contained : (c : Computation) (numbers : List (List ℕ)) → AreListed c numbers → (p n : ℕ)
    → is_listed numbers (place p n) ≡ false → Contains (get_or numbers p []) n → ⊥
not_contained c numbers are p n out has =
    false≢true (sym out
    ∙ eq-eqb (last_up_to (get_or numbers p []) n) n (last_of_contained (get_or numbers p []) (are.ascend p) n has))

-- an event that is there
event_there : (xs : List Event) (n : ℕ) → n < length xs → (event : Event) × (numbered xs (suc n) ≡ Some event)
event_there [] n lt = absurd (omega arith)
event_there (x ∷ xs) zero lt = (x, refl)
event_there (x ∷ xs) (suc n) lt = event_there xs n (omega arith)

module _ (r r' : Recorded) (named numbers places : List (List ℕ)) (initial : r.initial ≡ r'.initial)
    (is : IsReducedRun r named numbers r'.events places) where
  abbrev Numbers : AreListed r.events numbers
  Numbers = numbers_listed r named numbers r'.events places is

  abbrev Places : AreListed r'.events places
  Places = places_listed r named numbers r'.events places is

  abbrev Many : (p : ℕ) → length (get_or numbers p []) ≡ length (get_or places p [])
  Many = as_many r named numbers r'.events places is

  in_other_place : (p i : ℕ) → i < length (get_or numbers p []) → i < length (get_or places p [])
  in_other_place p i within = in_places r named numbers r'.events places is p i within

  -- ---- the order

  neighbors : (e f : Place) → IsKept (whole r.events) (is_listed numbers) e
      → IsKept (whole r.events) (is_listed numbers) f → AreNeighbors (whole r.events) (is_listed numbers) e f
      → (e.process ≡ f.process → ⊥) → SendsTo r'.events (image_in numbers places e) (image_in numbers places f)
  neighbors e f is_e is_f =
      of_listed r.events numbers Numbers
      (λ x. AreNeighbors (whole r.events) (is_listed numbers) x f → (x.process ≡ f.process → ⊥)
      → SendsTo r'.events (image_in numbers places x) (image_in numbers places f))
      (λ p i in_p. of_listed r.events numbers Numbers
      (λ y. AreNeighbors (whole r.events) (is_listed numbers) (listed numbers p i) y → (p ≡ y.process → ⊥)
      → SendsTo r'.events (image_in numbers places (listed numbers p i)) (image_in numbers places y))
      (λ q j in_q near apart.
      subst (λ (x : Place). SendsTo r'.events x (image_in numbers places (listed numbers q j)))
      (sym (image_of_listed r.events numbers Numbers places p i in_p))
      (subst (SendsTo r'.events (listed places p i)) (sym (image_of_listed r.events numbers Numbers places q j in_q))
      (to_neighbor r named numbers r'.events places is p i q j in_p in_q near apart))) f is_f) e is_e

  ordered : (e f : Place) → IsKept (whole r.events) (is_listed numbers) e
      → IsKept (whole r.events) (is_listed numbers) f
      → SendsTo r'.events (image_in numbers places e) (image_in numbers places f) → HappenedBefore r.events e f
  ordered e f is_e is_f =
      of_listed r.events numbers Numbers
      (λ x. SendsTo r'.events (image_in numbers places x) (image_in numbers places f) → HappenedBefore r.events x f)
      (λ p i in_p. of_listed r.events numbers Numbers
      (λ y. SendsTo r'.events (image_in numbers places (listed numbers p i)) (image_in numbers places y)
      → HappenedBefore r.events (listed numbers p i) y)
      (λ q j in_q sent. in_order r named numbers r'.events places is p i q j in_p in_q
      (subst (λ (x : Place). SendsTo r'.events x (listed places q j))
      (image_of_listed r.events numbers Numbers places p i in_p)
      (subst (SendsTo r'.events (image_in numbers places (listed numbers p i)))
      (image_of_listed r.events numbers Numbers places q j in_q) sent))) f is_f) e is_e

  order_is_kept : KeepsOrderByMessages (whole r.events) (is_listed numbers) (whole r'.events) (is_listed places)
  order_is_kept = record {
    image = image_in numbers places;
    origin = image_in places numbers;
    image_kept = image_is_kept r.events r'.events numbers places Numbers Places Many;
    origin_kept = image_is_kept r'.events r.events places numbers Places Numbers (λ p. sym (Many p));
    origin_of_image = origin_of_image r.events r'.events numbers places Numbers Places Many;
    image_of_origin = origin_of_image r'.events r.events places numbers Places Numbers (λ p. sym (Many p));
    same_process = λ e f is_e is_f. (λ same. same, λ same. same);
    same_turn = same_turn r.events r'.events numbers places Numbers Places Many;
    message_to_neighbor = neighbors;
    message_in_order = ordered;
    sender_is_kept = λ send receipt message out there.
        sender_is_image r named numbers r'.events places is send message.0 message.1;
  }

  -- ---- what is seen

  -- a process of some event has a list of what is seen
  is_there : (p n : ℕ) → n < event_count r'.events p → p < length named
  is_there p n lt = go (cases_lt p (length named))
    where
      go : (p < length named) ⊎ (length named ≤ p) → p < length named
      go (inl low) = low
      go (inr past) =
          let many : length r'.events ≡ length r.events = is.as_many in
          let all : length named ≡ length r.events = is.all_named in
          let none : event_count r'.events p ≡ 0 = ap length (get_or_past r'.events p [] (omega arith)) in
          absurd (omega arith)

  is_there' : (p n : ℕ) → n < event_count r.events p → p < length named
  is_there' p n lt = go (cases_lt p (length named))
    where
      go : (p < length named) ⊎ (length named ≤ p) → p < length named
      go (inl low) = low
      go (inr past) =
          let all : length named ≡ length r.events = is.all_named in
          let none : event_count r.events p ≡ 0 = ap length (get_or_past r.events p [] (omega arith)) in
          absurd (omega arith)

  unseen : (predicate : Predicate) → IsOver named predicate → OthersAreUnseen r predicate (is_listed numbers)
  unseen predicate over p n lt out =
      sees r named p n (n + 1)
      (λ v is_named. value_of_values r p (get_or named p []) n (n + 1) v (is_named (is_there' p n lt))
      ((is.kept p).others n lt (not_contained r.events numbers Numbers p (n + 1) out))) predicate over

  -- a receipt sets nothing
  receipt_sets_nothing : (p n : ℕ) → n < event_count r'.events p → is_listed places (place p (n + 1)) ≡ false
      → (v : ℕ) → value_after r' n p v ≡ value_after r' (n + 1) p v
  receipt_sets_nothing p n lt out v = go (event_there (events_of r'.events p) n lt)
    where
      go : (event : Event) × (numbered (events_of r'.events p) (suc n) ≡ Some event)
          → value_after r' n p v ≡ value_after r' (n + 1) p v
      go (event, at) =
          let here : numbered (events_of r'.events p) (n + 1) ≡ Some event =
          subst (λ (m : ℕ). numbered (events_of r'.events p) m ≡ Some event) (sym (add-one n)) at in
          value_stays r' p n v event here
          ((is.each p).receipts (n + 1) event here (not_contained r'.events places Places p (n + 1) out)).sets_nothing

  unseen' : (predicate : Predicate) → IsOver named predicate
      → OthersAreUnseen r' (renamed identity_names predicate) (is_listed places)
  unseen' predicate over p n lt out =
      subst (SeesTheSame r' p n (n + 1)) (sym (same_predicate predicate))
      (sees r' named p n (n + 1) (λ v is_named. receipt_sets_nothing p n lt out v) predicate over)

  first_view : (predicate : Predicate) → IsOver named predicate → (p : ℕ)
      → SeesTheSameIn r (get_or (empty_cut r.events) p 0) r' 0 identity_names p predicate
  first_view predicate over p =
      subst (λ (m : ℕ). SeesTheSameIn r m r' 0 identity_names p predicate) (sym (empty_at r.events p))
      (sees_in r r' named p 0 0 (λ v is_named. first_value r r' initial p v) predicate over)

  image_value : (p i v : ℕ) → i < length (get_or places p []) → Contains (get_or named p []) v
      → value_after r (listed numbers p i).number p v ≡ value_after r' (listed places p i).number p v
  image_value p i v within has = go ((is.each p).images i within)
    where
      go : (event : Event) × (numbered (events_of r'.events p) (get_or (get_or places p []) i 0) ≡ Some event)
          × IsImage r (get_or named p []) numbers p i event
          → value_after r (listed numbers p i).number p v ≡ value_after r' (listed places p i).number p v
      go (event, at, image) =
          value_is_set r r' initial p (listed numbers p i).number (listed places p i).number v event at
          (λ old. image.values v old has)

  views : (predicate : Predicate) → IsOver named predicate → (e : Place)
      → IsKept (whole r.events) (is_listed numbers) e
      → SeesTheSameIn r e.number r' (image_in numbers places e).number identity_names e.process predicate
  views predicate over =
      of_listed r.events numbers Numbers
      (λ e. SeesTheSameIn r e.number r' (image_in numbers places e).number identity_names e.process predicate)
      (λ p i in_p. subst (λ (x : Place). SeesTheSameIn r (listed numbers p i).number r' x.number identity_names p
      predicate) (sym (image_of_listed r.events numbers Numbers places p i in_p))
      (sees_in r r' named p (listed numbers p i).number (listed places p i).number
      (λ v is_named. image_value p i v (in_other_place p i in_p) (is_named (low p i in_p))) predicate over))
    where
      low : (p i : ℕ) → i < length (get_or numbers p []) → p < length named
      low p i in_p =
          let event : IsEvent r.events (listed numbers p i) = (is.kept p).events i 0 in_p in
          let some : 1 ≤ get_or (get_or numbers p []) i 0 = event.0 in
          let most : get_or (get_or numbers p []) i 0 ≤ event_count r.events p = event.1 in
          is_there' p 0 (omega arith)

  pub is_made : (predicate : Predicate) → IsOver named predicate
      → IsMadeOf r (empty_cut r.events) (full_cut r.events) (is_listed numbers) predicate r' (is_listed places)
      identity_names
  unfolding order_is_kept
  is_made predicate over = record {
    order = order_is_kept;
    processes = λ e is_e. refl;
    one_place = λ p q same. same;
    unseen = unseen predicate over;
    unseen' = unseen' predicate over;
    first_view = first_view predicate over;
    views = views predicate over;
  }

  -- no event happened before itself
  pub has_no_cycle : HasNoCycle r.events → HasNoCycle r'.events
  has_no_cycle acyclic =
      messages_make_no_cycle (whole r.events) r'.events (is_listed numbers) (is_listed places)
      (run_is_window r.events acyclic) order_is_kept
