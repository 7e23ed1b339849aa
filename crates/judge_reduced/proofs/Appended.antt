-- What one event more changes of what is received.
use Rattle.std.proofs.Common.{◌≡◌, ℕ, zero, suc, ◌+◌, ◌<◌, ◌≤◌, ◌⊎◌, inl, inr, List, [], ◌∷◌, ◌++◌, length, length-append, Option, None, Some, option_map, refl, ap, ◌∙◌, arith}
use Rattle.def_model.specs.Events.{Event, Kind, Receive, numbered}
use Rattle.def_model.specs.Predicates.{Recorded}
use Rattle.judge_reduced.specs.Plans.{IsReceipt, IsReceivedUpTo, message_id}

pub one_longer : {A : Type 0} (xs : List A) (x : A) → length (xs ++ x ∷ []) ≡ length xs + 1
one_longer xs x = length-append xs (x ∷ [])

pub numbered_new : (xs : List Event) (e : Event) → numbered (xs ++ e ∷ []) (suc (length xs)) ≡ Some e
numbered_new [] e = refl
numbered_new (x ∷ xs) e = numbered_new xs e

pub numbered_stays : (xs : List Event) (e : Event) (n : ℕ) (event : Event) → numbered xs n ≡ Some event
    → numbered (xs ++ e ∷ []) n ≡ Some event
numbered_stays xs e zero event at = at
numbered_stays [] e (suc n) event at = absurd (cc)
numbered_stays (x ∷ xs) e (suc zero) event at = at
numbered_stays (x ∷ xs) e (suc (suc n)) event at = numbered_stays xs e (suc n) event at

-- an event was there, or it is the one that was added
pub numbered_more : (xs : List Event) (e : Event) (n : ℕ) (event : Event) → numbered (xs ++ e ∷ []) n ≡ Some event
    → ((n ≤ length xs) × (numbered xs n ≡ Some event)) ⊎ ((n ≡ suc (length xs)) × (e ≡ event))
numbered_more xs e zero event at = absurd (cc)
numbered_more [] e (suc zero) event at = inr (refl, cc)
numbered_more [] e (suc (suc n)) event at = absurd (cc)
numbered_more (x ∷ xs) e (suc zero) event at = inl (omega arith, at)
numbered_more (x ∷ xs) e (suc (suc n)) event at = go (numbered_more xs e (suc n) event at)
  where
    go : ((suc n ≤ length xs) × (numbered xs (suc n) ≡ Some event)) ⊎ ((suc n ≡ suc (length xs)) × (e ≡ event))
        → ((suc (suc n) ≤ suc (length xs)) × (numbered xs (suc n) ≡ Some event))
        ⊎ ((suc (suc n) ≡ suc (suc (length xs))) × (e ≡ event))
    go (inl old) = let le : suc n ≤ length xs = old.0 in inl (omega arith, old.1)
    go (inr new) = inr (ap suc new.0, new.1)

some_at : (o : Option Event) (k : Kind) → option_map (λ (event : Event). event.kind) o ≡ Some k
    → (event : Event) × (o ≡ Some event) × (event.kind ≡ k)
some_at None k has = absurd (cc)
some_at (Some event) k has = (event, refl, cc)

pub received_stays : (xs : List Event) (e : Event) (n : ℕ) (id : List ℕ) → IsReceivedUpTo xs n id
    → IsReceivedUpTo (xs ++ e ∷ []) n id
received_stays xs e n id (m, le, has) = go (some_at (numbered xs m) (Receive id) has)
  where
    go : (event : Event) × (numbered xs m ≡ Some event) × (event.kind ≡ Receive id)
        → IsReceivedUpTo (xs ++ e ∷ []) n id
    go (event, at, kind) =
        (m, le, ap (option_map (λ (x : Event). x.kind)) (numbered_stays xs e m event at) ∙ ap Some kind)

pub received_later : (xs : List Event) (m n : ℕ) (id : List ℕ) → m ≤ n → IsReceivedUpTo xs m id
    → IsReceivedUpTo xs n id
received_later xs m n id le (k, low, has) = (k, omega arith, has)

pub received_new : (xs : List Event) (e : Event) (id : List ℕ) → e.kind ≡ Receive id
    → IsReceivedUpTo (xs ++ e ∷ []) (suc (length xs)) id
received_new xs e id kind =
    (suc (length xs), omega arith, ap (option_map (λ (x : Event). x.kind)) (numbered_new xs e) ∙ ap Some kind)

-- what is received was received before, or by the event that was added
pub received_more : (xs : List Event) (e : Event) (n : ℕ) (id : List ℕ) → IsReceivedUpTo (xs ++ e ∷ []) n id
    → IsReceivedUpTo xs (length xs) id × IsReceivedUpTo xs n id ⊎ ((suc (length xs) ≤ n) × (e.kind ≡ Receive id))
received_more xs e n id (m, le, has) = go (some_at (numbered (xs ++ e ∷ []) m) (Receive id) has)
  where
    pick : (event : Event) → event.kind ≡ Receive id
        → ((m ≤ length xs) × (numbered xs m ≡ Some event)) ⊎ ((m ≡ suc (length xs)) × (e ≡ event))
        → IsReceivedUpTo xs (length xs) id × IsReceivedUpTo xs n id ⊎ ((suc (length xs) ≤ n) × (e.kind ≡ Receive id))
    pick event kind (inl (low, at)) =
        let here : option_map (λ (x : Event). x.kind) (numbered xs m) ≡ Some (Receive id) =
        ap (option_map (λ (x : Event). x.kind)) at ∙ ap Some kind in
        inl ((m, low, here), (m, le, here))
    pick event kind (inr (at, same)) = inr (omega arith, ap (λ (x : Event). x.kind) same ∙ kind)

    go : (event : Event) × (numbered (xs ++ e ∷ []) m ≡ Some event) × (event.kind ≡ Receive id)
        → IsReceivedUpTo xs (length xs) id × IsReceivedUpTo xs n id ⊎ ((suc (length xs) ≤ n) × (e.kind ≡ Receive id))
    go (event, at, kind) = pick event kind (numbered_more xs e m event at)

-- a receipt stays one
pub receipt_stays : (r : Recorded) (numbers : List (List ℕ)) (p : ℕ) (xs : List Event) (e : Event) (places : List ℕ)
    (n : ℕ) (event : Event) → n ≤ length xs → IsReceipt r numbers p xs places n event
    → IsReceipt r numbers p (xs ++ e ∷ []) places n event
receipt_stays r numbers p xs e places n event low receipt = record {
  process = receipt.process;
  rank = receipt.rank;
  there = receipt.there;
  other = receipt.other;
  receives = receipt.receives;
  sets_nothing = receipt.sets_nothing;
  before = receipt.before;
  once = λ m lt has. go m lt (received_more xs e m (message_id receipt.process receipt.rank) has);
}
  where
    go : (m : ℕ) → m < n → IsReceivedUpTo xs (length xs) (message_id receipt.process receipt.rank)
        × IsReceivedUpTo xs m (message_id receipt.process receipt.rank)
        ⊎ ((suc (length xs) ≤ m) × (e.kind ≡ Receive (message_id receipt.process receipt.rank))) → ⊥
    go m lt (inl has) = receipt.once m lt has.1
    go m lt (inr (high, kind)) = omega arith
