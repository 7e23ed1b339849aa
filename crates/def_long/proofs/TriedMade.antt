-- The example of a run that is made of another one.
use Rattle.std.proofs.Common.{◌≡◌, ℕ, zero, suc, ◌<◌, true, List, [], ◌∷◌, get_or, Some, refl, sym, ◌∙◌, subst, inl, inr, ◌⊎◌, ◌↔◌, arith, lit≤}
use Rattle.std.proofs.lemmas.Bool.{false≢true}
use Rattle.def_model.specs.Events.{Send, Place, place, IsBefore, kind_at}
use Rattle.def_model.specs.Order.{HappenedBefore}
use Rattle.def_model.specs.Cuts.{empty_cut}
use Rattle.def_model.specs.Examples.{one_message, zeros}
use Rattle.def_long.specs.Windows.{whole}
use Rattle.def_long.specs.Kept.{IsKept}
use Rattle.def_long.specs.MadeMessages.{AreNeighbors, KeepsOrderByMessages, SendsTo}
use Rattle.def_long.specs.Renamed.{SeesTheSameIn}
use Rattle.def_long.specs.Examples.{relayed, relay, early, setting, names_of_two, place_of_process, RelayIsMade}
use Rattle.def_long.proofs.Tried.{by_second, image, image_kept, image_of_origin, one_event, one_receives, one_sends, origin, origin_kept, origin_of_image, relayed_before, send_kept, setting_is, setting_is_seen}

abbrev Kept : Place → Type 0
Kept = IsKept (whole relayed) setting

-- what holds of the two events, each with each, holds of all
of_both : (P : Place → Place → Type 0) → P (place 0 1) (place 0 1) → P (place 0 1) (place 2 2)
    → P (place 2 2) (place 0 1) → P (place 2 2) (place 2 2) → (e f : Place) → Kept e → Kept f → P e f
of_both P a b c d e f is_e is_f = go (setting_is e is_e.is_kept) (setting_is f is_f.is_kept)
  where
    at : (x y : Place) → P x y → e ≡ x → f ≡ y → P e f
    at x y h is_x is_y = subst (λ (z : Place). P z f) (sym is_x) (subst (P x) (sym is_y) h)

    go : (e ≡ place 0 1) ⊎ (e ≡ place 2 2) → (f ≡ place 0 1) ⊎ (f ≡ place 2 2) → P e f
    go (inl x) (inl y) = at (place 0 1) (place 0 1) a x y
    go (inl x) (inr y) = at (place 0 1) (place 2 2) b x y
    go (inr x) (inl y) = at (place 2 2) (place 0 1) c x y
    go (inr x) (inr y) = at (place 2 2) (place 2 2) d x y

first_sends : (p n : ℕ) (id : List ℕ) → kind_at one_message (place p n) ≡ Some (Send id) → place p n ≡ place 0 1
first_sends zero zero id e = cc
first_sends zero (suc zero) id e = refl
first_sends zero (suc (suc n)) id e = cc
first_sends (suc zero) zero id e = cc
first_sends (suc zero) (suc zero) id e = cc
first_sends (suc zero) (suc (suc n)) id e = cc
first_sends (suc (suc p)) zero id e = cc
first_sends (suc (suc p)) (suc n) id e = cc

-- the message is received by the second process
sent_to_second : (e f : Place) → SendsTo one_message e f → (e.process ≡ 0) × (f.process ≡ 1)
sent_to_second e f (receipt, (id, sends, receives, apart), same, le) =
    (one_sends e.process e.number id sends, sym same ∙ one_receives receipt.process receipt.number id receives)

order_is_by_message : KeepsOrderByMessages (whole relayed) setting (whole one_message) (λ e. true)
order_is_by_message = record {
  image = image;
  origin = origin;
  image_kept = λ e k. image_kept e (setting_is e k.is_kept);
  origin_kept = λ e k. origin_kept e (one_event e k);
  origin_of_image = λ e k. origin_of_image e (setting_is e k.is_kept);
  image_of_origin = λ e k. image_of_origin e (one_event e k);
  same_process =
      of_both (λ e f. (e.process ≡ f.process) ↔ ((image e).process ≡ (image f).process)) (λ h. refl, λ h. refl)
      (λ h. absurd (omega arith), λ h. absurd (omega arith))
      (λ h. absurd (omega arith), λ h. absurd (omega arith)) (λ h. refl, λ h. refl);
  same_turn =
      of_both (λ e f. e.process ≡ f.process → e.number < f.number → (image e).number < (image f).number)
      (λ h lt. absurd (omega arith)) (λ h lt. absurd (omega arith)) (λ h lt. absurd (omega arith))
      (λ h lt. absurd (omega arith));
  message_to_neighbor =
      of_both (λ e f. AreNeighbors (whole relayed) setting e f → (e.process ≡ f.process → ⊥)
      → SendsTo one_message (image e) (image f)) (λ near apart. absurd (apart refl))
      (λ near apart. (place 1 1, (109 ∷ [], refl, refl, λ e. omega arith), refl, lit≤ tt))
      (λ near apart. absurd (back (relayed_before (place 2 2) (place 0 1) near.before)))
      (λ near apart. absurd (apart refl));
  message_in_order =
      of_both (λ e f. SendsTo one_message (image e) (image f) → HappenedBefore relayed e f)
      (λ m. absurd (let at : 0 ≡ 1 = (sent_to_second (place 0 1) (place 0 1) m).1 in omega arith))
      (λ m. by_second)
      (λ m. absurd (let at : 1 ≡ 0 = (sent_to_second (place 1 1) (place 0 1) m).0 in omega arith))
      (λ m. absurd (let at : 1 ≡ 0 = (sent_to_second (place 1 1) (place 1 1) m).0 in omega arith));
  sender_is_kept = λ send receipt m out in_run. subst (IsKept (whole one_message) (λ e. true))
      (sym (first_sends send.process send.number m.0 m.1)) send_kept;
}
  where
    back : IsBefore (place 2 2) (place 0 1) → ⊥
    back (inl lt) = omega arith
    back (inr lt) = omega (arith, lt.0)

places_apart : (p q : ℕ) → place_of_process p ≡ place_of_process q → p ≡ q
places_apart zero zero h = refl
places_apart zero (suc zero) h = absurd (omega arith)
places_apart zero (suc (suc zero)) h = absurd (omega arith)
places_apart zero (suc (suc (suc q))) h = absurd (omega arith)
places_apart (suc zero) zero h = absurd (omega arith)
places_apart (suc zero) (suc zero) h = refl
places_apart (suc zero) (suc (suc zero)) h = absurd (omega arith)
places_apart (suc zero) (suc (suc (suc q))) h = absurd (omega arith)
places_apart (suc (suc zero)) zero h = absurd (omega arith)
places_apart (suc (suc zero)) (suc zero) h = absurd (omega arith)
places_apart (suc (suc zero)) (suc (suc zero)) h = refl
places_apart (suc (suc zero)) (suc (suc (suc q))) h = absurd (omega arith)
places_apart (suc (suc (suc p))) zero h = absurd (omega arith)
places_apart (suc (suc (suc p))) (suc zero) h = absurd (omega arith)
places_apart (suc (suc (suc p))) (suc (suc zero)) h = absurd (omega arith)
places_apart (suc (suc (suc p))) (suc (suc (suc q))) h = h

pub relay_is_made : RelayIsMade
unfolding order_is_by_message
relay_is_made = (
  record {
    order = order_is_by_message;
    processes = λ e k. processes e (setting_is e k.is_kept);
    one_place = places_apart;
    unseen = setting_is_seen;
    unseen' = λ p n lt out. absurd (false≢true (sym out));
    first_view = first_view;
    views = λ e k. views e (setting_is e k.is_kept);
  },
  refl,
)
  where
    processes : (e : Place) → (e ≡ place 0 1) ⊎ (e ≡ place 2 2)
        → (image e).process ≡ place_of_process e.process
    processes e (inl at) =
        subst (λ (x : Place). (image x).process ≡ place_of_process x.process) (sym at) refl
    processes e (inr at) =
        subst (λ (x : Place). (image x).process ≡ place_of_process x.process) (sym at) refl

    first_view : (p : ℕ) → SeesTheSameIn relay (get_or (empty_cut relayed) p 0)
        (record { initial = zeros; events = one_message }) 0 names_of_two p early
    first_view zero = (inr ((λ e. refl, tt), (tt, tt)), inr ((λ e. absurd (omega arith), tt), (tt, tt)))
    first_view (suc zero) =
        (inr ((λ e. absurd (omega arith), tt), (tt, tt)), inr ((λ e. absurd (omega arith), tt), (tt, tt)))
    first_view (suc (suc zero)) = (inr ((λ e. absurd (omega arith), tt), (tt, tt)), inr ((λ e. refl, tt), (tt, tt)))
    first_view (suc (suc (suc p))) =
        (inr ((λ e. absurd (omega arith), tt), (tt, tt)), inr ((λ e. absurd (omega arith), tt), (tt, tt)))

    views : (e : Place) → (e ≡ place 0 1) ⊎ (e ≡ place 2 2) → SeesTheSameIn relay e.number
        (record { initial = zeros; events = one_message }) (image e).number names_of_two e.process early
    views e (inl at) =
        subst (λ (x : Place). SeesTheSameIn relay x.number (record { initial = zeros; events = one_message })
        (image x).number names_of_two x.process early) (sym at)
        (inr ((λ e. refl, tt), (tt, tt)), inr ((λ e. absurd (omega arith), tt), (tt, tt)))
    views e (inr at) =
        subst (λ (x : Place). SeesTheSameIn relay x.number (record { initial = zeros; events = one_message })
        (image x).number names_of_two x.process early) (sym at)
        (inr ((λ e. absurd (omega arith), tt), (tt, tt)), inr ((λ e. refl, tt), (tt, tt)))
