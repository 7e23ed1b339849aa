-- Clocks, and consistency by them.
use Rattle.std.proofs.Common.{◌≡◌, ℕ, ◌<◌, ◌≤◌, List, get_or, ap, inl, inr, ◌⊎◌, ◌↔◌, arith}
use Rattle.std.proofs.lemmas.Bool.{cases_lt}
use Rattle.def_model.specs.Events.{Computation, Place, place, IsEvent, event_count}
use Rattle.def_model.specs.Order.{HappenedBefore, IsUpTo, IsClock}
use Rattle.def_model.specs.Cuts.{Includes, FitsProcesses, IsConsistent}
use Rattle.def_model.proofs.Chains.{happens_before_later, events_of_happens}
use Rattle.def_model.proofs.CutsAndCounts.{same_bound}

pub one_clock : (c : Computation) (e : Place) (q m n : ℕ) → IsClock c e q m → IsClock c e q n → m ≡ n
one_clock c e q m n a b =
    same_bound m n (event_count c q) a.within b.within (λ k low high h. (b.past k low high).1 ((a.past k low high).0 h))
    (λ k low high h. (a.past k low high).1 ((b.past k low high).0 h))

pub clocks_decide : (c : Computation) (clock : Place → ℕ → ℕ)
    → ((e : Place) (q : ℕ) → IsEvent c e → IsClock c e q (clock e q)) → (counts : List ℕ) → FitsProcesses c counts
    → IsConsistent c counts ↔ ((p q : ℕ) → 0 < get_or counts p 0
    → clock (place p (get_or counts p 0)) q ≤ get_or counts q 0)
clocks_decide c clock is counts fits = (to, from)
  where
    there : (p : ℕ) → 0 < get_or counts p 0 → IsEvent c (place p (get_or counts p 0))
    there p has = let w : get_or counts p 0 ≤ event_count c p = fits.within p in (omega arith, w)

    to : IsConsistent c counts → (p q : ℕ) → 0 < get_or counts p 0
        → clock (place p (get_or counts p 0)) q ≤ get_or counts q 0
    to ok p q has = go (cases_lt (get_or counts q 0) (clock (place p (get_or counts p 0)) q))
      where
        go : (get_or counts q 0 < clock (place p (get_or counts p 0)) q)
            ⊎ (clock (place p (get_or counts p 0)) q ≤ get_or counts q 0)
            → clock (place p (get_or counts p 0)) q ≤ get_or counts q 0
        go (inr le) = le
        go (inl lt) =
            past (((is (place p (get_or counts p 0)) q (there p has)).past (clock (place p (get_or counts p 0)) q)
            (omega arith) (is (place p (get_or counts p 0)) q (there p has)).within).0 (omega arith))
          where
            past : IsUpTo c (place q (clock (place p (get_or counts p 0)) q)) (place p (get_or counts p 0))
                → clock (place p (get_or counts p 0)) q ≤ get_or counts q 0
            past (inr h) =
                (ok.closed (place q (clock (place p (get_or counts p 0)) q)) (place p (get_or counts p 0)) h (
                  has,
                  omega arith,
                )).1
            past (inl e) =
                let same : q ≡ p = ap (λ (x : Place). x.process) e in
                let n : clock (place p (get_or counts p 0)) q ≡ get_or counts p 0 = ap (λ (x : Place). x.number) e in
                let m : get_or counts q 0 ≡ get_or counts p 0 = ap (λ (r : ℕ). get_or counts r 0) same in
                omega arith

    from : ((p q : ℕ) → 0 < get_or counts p 0 → clock (place p (get_or counts p 0)) q ≤ get_or counts q 0)
        → IsConsistent c counts
    from below = record { fits = fits; closed = closed }
      where
        closed : (e f : Place) → HappenedBefore c e f → Includes counts f → Includes counts e
        closed e f h (low, high) =
            let has : 0 < get_or counts f.process 0 = omega arith in
            let last : HappenedBefore c e (place f.process (get_or counts f.process 0)) =
            happens_before_later c e f (get_or counts f.process 0) h high (there f.process has) in
            let at : IsEvent c e = (events_of_happens c e f h).0 in
            let k : IsClock c (place f.process (get_or counts f.process 0)) e.process
            (clock (place f.process (get_or counts f.process 0)) e.process) =
            is (place f.process (get_or counts f.process 0)) e.process (there f.process has) in
            let a : e.number ≤ clock (place f.process (get_or counts f.process 0)) e.process =
            (k.past e.number at.0 at.1).1 (inr last) in
            let b : clock (place f.process (get_or counts f.process 0)) e.process ≤ get_or counts e.process 0 =
            below f.process e.process has in
            (at.0, omega arith)
