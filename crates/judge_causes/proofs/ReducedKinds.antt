-- What the events of a reduced computation are.
use Rattle.std.proofs.Common.{◌≡◌, ℕ, zero, suc, ◌+◌, Bool, true, false, List, [], ◌∷◌, length, map, Option, Some, None, refl, ap, sym, ◌∙◌, arith, ℤ}
use Rattle.std.specs.Prelude.{slice_get, slice_index_or, option_map}
use Rattle.def_model.specs.Events.{Kind, Local, Send, Receive, Event, Computation, Place, place, events_of, event_count, kind_at}
use Rattle.def_model.specs.Messages.{IsMessage, Receives, Sends}
use Rattle.judge_causes.specs.Enough.{HasSettingsOf}
use Rattle.judge_causes.specs.Reduced.{event_if, kind_if, reduced, reduced_from, reduced_processes}

-- ---- the events of a process

step_index : (n k : ℕ) → suc n + k ≡ n + suc k
step_index n k = omega arith

pub get_reduced : (is_kept : Place → Bool) (p n k : ℕ) (events : List Event)
    → slice_get (reduced_from is_kept p n events) k
    ≡ option_map (event_if (is_kept (place p (suc (n + k))))) (slice_get events k)
get_reduced is_kept p n k [] = refl
get_reduced is_kept p n zero (event ∷ rest) =
    let e : n + 0 ≡ n = omega arith in
    ap (λ (m : ℕ). Some (event_if (is_kept (place p (suc m))) event)) (sym e)
get_reduced is_kept p n (suc k) (event ∷ rest) =
    get_reduced is_kept p (suc n) k rest
    ∙ ap (λ (m : ℕ). option_map (event_if (is_kept (place p (suc m)))) (slice_get rest k)) (step_index n k)

pub events_reduced : (is_kept : Place → Bool) (q p : ℕ) (c : Computation)
    → slice_index_or (reduced_processes is_kept q c) p [] ≡ reduced_from is_kept (q + p) 0 (slice_index_or c p [])
events_reduced is_kept q p [] = refl
events_reduced is_kept q zero (events ∷ rest) =
    let e : q + 0 ≡ q = omega arith in ap (λ (m : ℕ). reduced_from is_kept m 0 events) (sym e)
events_reduced is_kept q (suc p) (events ∷ rest) =
    events_reduced is_kept (suc q) p rest
    ∙ ap (λ (m : ℕ). reduced_from is_kept m 0 (slice_index_or rest p [])) (step_index q p)

-- the events of a process
pub events_of_reduced : (is_kept : Place → Bool) (p : ℕ) (c : Computation)
    → events_of (reduced is_kept c) p ≡ reduced_from is_kept p 0 (events_of c p)
events_of_reduced is_kept p c =
    let e : 0 + p ≡ p = omega arith in
    events_reduced is_kept 0 p c ∙ ap (λ (m : ℕ). reduced_from is_kept m 0 (events_of c p)) e

event_reduced : (is_kept : Place → Bool) (p n : ℕ) (c : Computation)
    → slice_get (events_of (reduced is_kept c) p) n
    ≡ option_map (event_if (is_kept (place p (suc n)))) (slice_get (events_of c p) n)
event_reduced is_kept p n c =
    let e : 0 + n ≡ n = omega arith in
    ap (λ (events : List Event). slice_get events n) (events_of_reduced is_kept p c)
    ∙ get_reduced is_kept p 0 n (events_of c p)
    ∙ ap (λ (m : ℕ). option_map (event_if (is_kept (place p (suc m)))) (slice_get (events_of c p) n)) e

-- ---- how many there are

pub length_reduced : (is_kept : Place → Bool) (p n : ℕ) (events : List Event)
    → length (reduced_from is_kept p n events) ≡ length events
length_reduced is_kept p n [] = refl
length_reduced is_kept p n (event ∷ rest) = ap suc (length_reduced is_kept p (suc n) rest)

pub count_reduced : (is_kept : Place → Bool) (p : ℕ) (c : Computation)
    → event_count (reduced is_kept c) p ≡ event_count c p
count_reduced is_kept p c =
    ap (λ (events : List Event). length events) (events_of_reduced is_kept p c)
    ∙ length_reduced is_kept p 0 (events_of c p)

processes_from : (is_kept : Place → Bool) (p : ℕ) (c : Computation)
    → length (reduced_processes is_kept p c) ≡ length c
processes_from is_kept p [] = refl
processes_from is_kept p (events ∷ rest) = ap suc (processes_from is_kept (suc p) rest)

pub processes_reduced : (is_kept : Place → Bool) (c : Computation) → length (reduced is_kept c) ≡ length c
processes_reduced is_kept c = processes_from is_kept 0 c

-- ---- what they set

sets_in : (is_kept : Place → Bool) (p n : ℕ) (events : List Event)
    → map (λ (event : Event). event.sets) (reduced_from is_kept p n events)
    ≡ map (λ (event : Event). event.sets) events
sets_in is_kept p n [] = refl
sets_in is_kept p n (event ∷ rest) =
    ap (λ (sets : List (List (ℕ × ℤ))). event.sets ∷ sets) (sets_in is_kept p (suc n) rest)

pub same_settings : (is_kept : Place → Bool) (c : Computation) → HasSettingsOf c (reduced is_kept c)
same_settings is_kept c = record {
  one_each = processes_reduced is_kept c;
  settings = λ p.
      ap (λ (events : List Event). map (λ (event : Event). event.sets) events) (events_of_reduced is_kept p c)
      ∙ sets_in is_kept p 0 (events_of c p);
}

-- ---- kinds

kind_mapped : (is_kept : Bool) (found : Option Event)
    → option_map (λ (event : Event). event.kind) (option_map (event_if is_kept) found)
    ≡ option_map (kind_if is_kept) (option_map (λ (event : Event). event.kind) found)
kind_mapped is_kept None = refl
kind_mapped is_kept (Some event) = refl

-- an event has its kind, and a receipt that isn't kept is local
kind_numbered : (is_kept : Place → Bool) (c : Computation) (p n : ℕ)
    → kind_at (reduced is_kept c) (place p n) ≡ option_map (kind_if (is_kept (place p n))) (kind_at c (place p n))
kind_numbered is_kept c p zero = refl
kind_numbered is_kept c p (suc n) =
    ap (λ (found : Option Event). option_map (λ (event : Event). event.kind) found) (event_reduced is_kept p n c)
    ∙ kind_mapped (is_kept (place p (suc n))) (slice_get (events_of c p) n)

pub kind_reduced : (is_kept : Place → Bool) (c : Computation) (e : Place)
    → kind_at (reduced is_kept c) e ≡ option_map (kind_if (is_kept e)) (kind_at c e)
kind_reduced is_kept c e = kind_numbered is_kept c e.process e.number

-- ---- messages

send_back : (is_kept : Bool) (found : Option Kind) (id : List ℕ) → option_map (kind_if is_kept) found ≡ Some (Send id)
    → found ≡ Some (Send id)
send_back is_kept None id h = absurd (cc)
send_back is_kept (Some Local) id h = absurd (cc)
send_back is_kept (Some (Send other)) id h = h
send_back true (Some (Receive other)) id h = absurd (cc)
send_back false (Some (Receive other)) id h = absurd (cc)

receive_back : (is_kept : Bool) (found : Option Kind) (id : List ℕ)
    → option_map (kind_if is_kept) found ≡ Some (Receive id) → (found ≡ Some (Receive id)) × (is_kept ≡ true)
receive_back is_kept None id h = absurd (cc)
receive_back is_kept (Some Local) id h = absurd (cc)
receive_back is_kept (Some (Send other)) id h = absurd (cc)
receive_back true (Some (Receive other)) id h = (h, refl)
receive_back false (Some (Receive other)) id h = absurd (cc)

module _ (is_kept : Place → Bool) (c : Computation) where
  pub sends_back : (e : Place) (id : List ℕ) → Sends (reduced is_kept c) e id → Sends c e id
  sends_back e id h = send_back (is_kept e) (kind_at c e) id (sym (kind_reduced is_kept c e) ∙ h)

  pub receives_back : (e : Place) (id : List ℕ) → Receives (reduced is_kept c) e id
      → Receives c e id × (is_kept e ≡ true)
  receives_back e id h = receive_back (is_kept e) (kind_at c e) id (sym (kind_reduced is_kept c e) ∙ h)

  pub sends_on : (e : Place) (id : List ℕ) → Sends c e id → Sends (reduced is_kept c) e id
  sends_on e id h = kind_reduced is_kept c e ∙ ap (λ (found : Option Kind). option_map (kind_if (is_kept e)) found) h

  pub receives_on : (e : Place) (id : List ℕ) → Receives c e id → is_kept e ≡ true
      → Receives (reduced is_kept c) e id
  receives_on e id h kept =
      kind_reduced is_kept c e ∙ ap (λ (found : Option Kind). option_map (kind_if (is_kept e)) found) h
      ∙ ap (λ (b : Bool). Some (kind_if b (Receive id))) kept

  -- the messages are those whose receipts are kept
  pub message_back : (send receipt : Place) → IsMessage (reduced is_kept c) send receipt
      → IsMessage c send receipt × (is_kept receipt ≡ true)
  message_back send receipt m =
      ((m.0, sends_back send m.0 m.1, (receives_back receipt m.0 m.2).0, m.3), (receives_back receipt m.0 m.2).1)

  pub message_on : (send receipt : Place) → IsMessage c send receipt → is_kept receipt ≡ true
      → IsMessage (reduced is_kept c) send receipt
  message_on send receipt m kept = (m.0, sends_on send m.0 m.1, receives_on receipt m.0 m.2 kept, m.3)
