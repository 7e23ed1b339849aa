-- Runs in which what happened before an event is at an earlier place, since messages go to later processes.
use Rattle.std.proofs.Common.{◌≡◌, ℕ, ◌<◌, List, Some, ap, ◌∙◌, inl, inr, arith}
use Rattle.def_model.specs.Events.{Send, Receive, Computation, Place, place, IsBefore, kind_at, event_count}
use Rattle.def_model.specs.Order.{LeadsTo, HappenedBefore, HasNoCycle, IsClock, IsUpTo}
use Rattle.def_model.proofs.Chains.{happens_from_earlier, happens_least}

before_onward : (d e f : Place) → IsBefore d e → IsBefore e f → IsBefore d f
before_onward d e f (inl a) (inl b) = inl (omega arith)
before_onward d e f (inl a) (inr b) = let same : e.process ≡ f.process = b.0 in inl (omega arith)
before_onward d e f (inr a) (inl b) = let same : d.process ≡ e.process = a.0 in inl (omega arith)
before_onward d e f (inr a) (inr b) =
    let low : d.number < e.number = a.1 in let high : e.number < f.number = b.1 in inr (a.0 ∙ b.0, omega arith)

abbrev pub HappensOnward : Computation → Type 0
HappensOnward c = (e f : Place) → HappenedBefore c e f → IsBefore e f

-- It does if sends are of the first process, and receipts of the second.
pub messages_onward : (c : Computation)
    → ((p n : ℕ) (id : List ℕ) → kind_at c (place p n) ≡ Some (Send id) → p ≡ 0)
    → ((p n : ℕ) (id : List ℕ) → kind_at c (place p n) ≡ Some (Receive id) → p ≡ 1) → HappensOnward c
messages_onward c of_sends of_receipts = happens_least c IsBefore step before_onward
  where
    step : (e f : Place) → LeadsTo c e f → IsBefore e f
    step e f (inl later) = inr (later.2, later.3)
    step e f (inr (id, sends, receives, apart)) =
        inl (omega (arith, of_sends e.process e.number id sends, of_receipts f.process f.number id receives))

pub no_cycle_onward : (c : Computation) → HappensOnward c → HasNoCycle c
no_cycle_onward c onward e h = go (onward e e h)
  where
    go : IsBefore e e → ⊥
    go (inl lt) = omega arith
    go (inr (same, lt)) = omega arith

-- of a later process no event happened before this one
pub none_known : (c : Computation) → HappensOnward c → (p n q : ℕ) → p < q → IsClock c (place p n) q 0
none_known c onward p n q later = record {
  within = omega arith;
  past = λ m low high. (λ le. absurd (omega arith), λ up. absurd (out m up));
}
  where
    before : (m : ℕ) → IsBefore (place q m) (place p n) → ⊥
    before m (inl lt) = omega arith
    before m (inr (same, lt)) = omega arith

    out : (m : ℕ) → IsUpTo c (place q m) (place p n) → ⊥
    out m (inl same) = let at : q ≡ p = ap (λ (x : Place). x.process) same in omega arith
    out m (inr h) = before m (onward (place q m) (place p n) h)

-- of a process of which the last event did, all
pub all_known : (c : Computation) (p n q k : ℕ) → event_count c q ≡ k → HappenedBefore c (place q k) (place p n)
    → IsClock c (place p n) q k
all_known c p n q k last sent = record {
  within = omega arith;
  past = λ m low high. (
    λ le. inr (happens_from_earlier c (place q k) (place p n) m sent le (low, high)),
    λ up. omega arith,
  );
}
