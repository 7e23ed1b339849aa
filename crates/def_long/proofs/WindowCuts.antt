-- Cuts in a window: the whole run, the least and greatest of two, and walks.
use Rattle.std.proofs.Common.{◌≡◌, ℕ, ◌+◌, ◌<◌, ◌≤◌, max, Bool, List, get_or, ap, ◌↔◌, inl, inr, ◌⊎◌, arith}
use Rattle.std.proofs.lemmas.Bool.{cases_eq, cases_lt}
use Rattle.def_model.specs.Events.{Computation, IsEvent, Place, place}
use Rattle.def_model.specs.Order.{HasNoCycle}
use Rattle.def_model.specs.Cuts.{Includes, IsConsistent, empty_cut, full_cut, one_less}
use Rattle.def_model.specs.Lattice.{IsWithin, meet, join}
use Rattle.def_model.specs.Observations.{Possibly}
use Rattle.def_model.proofs.Chains.{events_of_happens, same_place}
use Rattle.def_model.proofs.Counts.{empty_at, full_at, length_full, less_le, less_other, less_same}
use Rattle.def_model.proofs.MeetAndJoin.{meet_consistent, join_consistent, meet_within_left, join_above_left, join_above_right, meet_at, join_at}
use Rattle.def_model.proofs.Steps.{empty_consistent}
use Rattle.def_model.proofs.Undoing.{within_less}
use Rattle.def_long.specs.Windows.{Window, whole, IsCutIn, IsWindow, PossiblyIn}

-- ---- the whole run

pub full_consistent : (c : Computation) → IsConsistent c (full_cut c)
full_consistent c = record {
  fits = record { one_each = length_full c; within = λ p. rw full_at (omega arith) };
  closed = λ e f h i. let is : IsEvent c e = (events_of_happens c e f h).0 in (is.0, rw full_at is.1);
}

pub in_whole : (c : Computation) (cut : List ℕ) → IsConsistent c cut → IsCutIn (whole c) cut
in_whole c cut ok = record {
  consistent = ok;
  above = λ p. rw empty_at (omega arith);
  below = λ p. rw full_at (ok.fits.within p);
}

pub run_is_window : (c : Computation) → HasNoCycle c → IsWindow (whole c)
run_is_window c acyclic = record {
  no_cycle = acyclic;
  first = in_whole c (empty_cut c) (empty_consistent c);
  last = in_whole c (full_cut c) (full_consistent c);
}

pub possibly_in_whole : (c : Computation) (test : List ℕ → Bool) → Possibly c test ↔ PossiblyIn (whole c) test
possibly_in_whole c test =
    (λ w. (w.0, in_whole c w.0 w.1, w.2), λ w. let i : IsCutIn (whole c) w.0 = w.1 in (w.0, i.consistent, w.2))

-- ---- the least and the greatest of two cuts

pub meet_in : (w : Window) (a b : List ℕ) → IsCutIn w a → IsCutIn w b → IsCutIn w (meet a b)
meet_in w a b in_a in_b = record {
  consistent = meet_consistent w.run a b in_a.consistent in_b.consistent;
  above = λ p. let i : get_or w.from p 0 ≤ get_or a p 0 = in_a.above p in
      let j : get_or w.from p 0 ≤ get_or b p 0 = in_b.above p in rw meet_at (omega arith);
  below = λ p. let i : get_or (meet a b) p 0 ≤ get_or a p 0 = meet_within_left a b p in
      let j : get_or a p 0 ≤ get_or w.to p 0 = in_a.below p in omega arith;
}

pub join_in : (w : Window) (a b : List ℕ) → IsCutIn w a → IsCutIn w b → IsCutIn w (join a b)
join_in w a b in_a in_b = record {
  consistent = join_consistent w.run a b in_a.consistent in_b.consistent;
  above = λ p. let i : get_or a p 0 ≤ get_or (join a b) p 0 = join_above_left a b p in
      let j : get_or w.from p 0 ≤ get_or a p 0 = in_a.above p in omega arith;
  below = λ p. let i : get_or a p 0 ≤ get_or w.to p 0 = in_a.below p in
      let j : get_or b p 0 ≤ get_or w.to p 0 = in_b.below p in rw join_at (omega arith);
}

-- ---- what cuts include

pub cases_includes : (cut : List ℕ) (e : Place) → Includes cut e ⊎ (Includes cut e → ⊥)
cases_includes cut e = go (cases_lt 0 e.number) (cases_lt (get_or cut e.process 0) e.number)
  where
    go : (0 < e.number) ⊎ (e.number ≤ 0) → (get_or cut e.process 0 < e.number) ⊎ (e.number ≤ get_or cut e.process 0)
        → Includes cut e ⊎ (Includes cut e → ⊥)
    go (inl low) (inr high) = inl (omega arith, high)
    go (inl low) (inl out) = inr (λ i. let h : e.number ≤ get_or cut e.process 0 = i.1 in omega arith)
    go (inr none) other = inr (λ i. let l : 1 ≤ e.number = i.0 in omega arith)

pub includes_more : (a b : List ℕ) → IsWithin a b → (e : Place) → Includes a e → Includes b e
includes_more a b within e (low, high) =
    let more : get_or a e.process 0 ≤ get_or b e.process 0 = within e.process in (low, omega arith)

pub includes_meet : (a b : List ℕ) (e : Place) → Includes a e → Includes b e → Includes (meet a b) e
includes_meet a b e (low, in_a) (low', in_b) =
    (low, rw meet_at (omega arith))

pub meet_includes_left : (a b : List ℕ) (e : Place) → Includes (meet a b) e → Includes a e
meet_includes_left a b e = includes_more (meet a b) a (meet_within_left a b) e

pub join_includes_left : (a b : List ℕ) (e : Place) → Includes a e → Includes (join a b) e
join_includes_left a b e = includes_more a (join a b) (join_above_left a b) e

pub join_includes_right : (a b : List ℕ) (e : Place) → Includes b e → Includes (join a b) e
join_includes_right a b e = includes_more b (join a b) (join_above_right a b) e

pub join_cases : (a b : List ℕ) (e : Place) → Includes (join a b) e → Includes a e ⊎ Includes b e
join_cases a b e (low, high) = go (cases_lt (get_or a e.process 0) e.number)
  where
    go : (get_or a e.process 0 < e.number) ⊎ (e.number ≤ get_or a e.process 0) → Includes a e ⊎ Includes b e
    go (inr within) = inl (low, within)
    go (inl out) =
        let is : get_or (join a b) e.process 0 ≡ max (get_or a e.process 0) (get_or b e.process 0) =
        join_at a b e.process in
        inr (low, omega arith)

-- the last event of a process isn't among the others
pub includes_less : (cut : List ℕ) (p : ℕ) (e : Place) → 0 < get_or cut p 0 → Includes cut e
    → (e ≡ place p (get_or cut p 0) → ⊥) → Includes (one_less cut p) e
includes_less cut p e has (low, high) apart = (low, go (cases_eq e.process p))
  where
    go : (e.process ≡ p) ⊎ (e.process ≡ p → ⊥) → e.number ≤ get_or (one_less cut p) e.process 0
    go (inr other) = let t : get_or (one_less cut p) e.process 0 ≡ get_or cut e.process 0 =
        less_other cut p e.process other in omega arith
    go (inl same) = last (cases_eq e.number (get_or cut p 0))
      where
        here : get_or (one_less cut p) e.process 0 ≡ get_or (one_less cut p) p 0
        here = ap (λ (q : ℕ). get_or (one_less cut p) q 0) same

        was : get_or cut e.process 0 ≡ get_or cut p 0
        was = ap (λ (q : ℕ). get_or cut q 0) same

        last : (e.number ≡ get_or cut p 0) ⊎ (e.number ≡ get_or cut p 0 → ⊥)
            → e.number ≤ get_or (one_less cut p) e.process 0
        last (inl at) = absurd (apart (same_place e (place p (get_or cut p 0)) same at))
        last (inr off) =
            let t : get_or (one_less cut p) p 0 + 1 ≡ get_or cut p 0 = less_same cut p has in
            omega (arith, here, was)

-- one event less leaves a cut above the window's first one, if it isn't of that one
pub less_in : (w : Window) (cut : List ℕ) (p : ℕ) → IsCutIn w cut → get_or w.from p 0 < get_or cut p 0
    → IsConsistent w.run (one_less cut p) → IsCutIn w (one_less cut p)
less_in w cut p in_w more ok = record {
  consistent = ok;
  above = within_less w.from cut p in_w.above more;
  below = λ q. let i : get_or (one_less cut p) q 0 ≤ get_or cut q 0 = less_le cut p q (omega arith) in
      let j : get_or cut q 0 ≤ get_or w.to q 0 = in_w.below q in omega arith;
}
