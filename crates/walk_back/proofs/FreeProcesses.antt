-- Which processes are free, before and after an event is undone: a process is free if its last event can be undone.
use Rattle.std.proofs.Common.{◌≡◌, ◌≢◌, ℕ, ◌+◌, ◌<◌, ◌≤◌, List, get_or, sym, ap, ◌∙◌, subst, inl, inr, ◌⊎◌, ◌↔◌, arith}
use Rattle.std.proofs.lemmas.Bool.{cases_eq, cases_lt}
use Rattle.def_model.specs.Cuts.{Includes, IsConsistent, one_less}
use Rattle.def_model.specs.Events.{Computation, Place, place}
use Rattle.def_model.specs.Messages.{IsMessage}
use Rattle.def_model.specs.Order.{LeadsTo}
use Rattle.def_model.proofs.Chains.{closed_from_steps, same_place, step_happens}
use Rattle.def_model.proofs.Counts.{less_le, less_other, less_same}
use Rattle.def_model.proofs.Steps.{fits_less}
use Rattle.walk_back.specs.Ways.{LeavesConsistent}

-- The counts without the last events of p and r include an event exactly if those without the one and those without the
-- other do.
module _ (cut : List ℕ) (p r : ℕ) (apart : r ≢ p) (some : 0 < get_or cut r 0) where
  some_left : 0 < get_or (one_less cut p) r 0
  some_left = let t : get_or (one_less cut p) r 0 ≡ get_or cut r 0 = less_other cut p r apart in omega arith

  same_count : get_or (one_less (one_less cut p) r) r 0 ≡ get_or (one_less cut r) r 0
  same_count =
      let t : get_or (one_less cut p) r 0 ≡ get_or cut r 0 = less_other cut p r apart in
      let u : get_or (one_less (one_less cut p) r) r 0 + 1 ≡ get_or (one_less cut p) r 0 =
      less_same (one_less cut p) r some_left in
      let v : get_or (one_less cut r) r 0 + 1 ≡ get_or cut r 0 = less_same cut r some in
      omega arith

  in_first : 0 < get_or cut p 0 → (e : Place) → Includes (one_less (one_less cut p) r) e
      → Includes (one_less cut p) e
  in_first has e (one, most) =
      let t : get_or (one_less (one_less cut p) r) e.process 0 ≤ get_or (one_less cut p) e.process 0 =
      less_le (one_less cut p) r e.process some_left in
      (one, omega arith)

  in_second : 0 < get_or cut p 0 → (e : Place) → Includes (one_less (one_less cut p) r) e
      → Includes (one_less cut r) e
  in_second has e (one, most) = (one, go (cases_eq e.process r))
    where
      go : (e.process ≡ r) ⊎ (e.process ≡ r → ⊥) → e.number ≤ get_or (one_less cut r) e.process 0
      go (inl same) =
          let here : e.number ≤ get_or (one_less (one_less cut p) r) r 0 = rw same at most in
          let t : get_or (one_less (one_less cut p) r) r 0 ≡ get_or (one_less cut r) r 0 = same_count in
          rw same (omega arith)
      go (inr other) =
          let t : get_or (one_less (one_less cut p) r) e.process 0 ≤ get_or (one_less cut p) e.process 0 =
          less_le (one_less cut p) r e.process some_left in
          let u : get_or (one_less cut p) e.process 0 ≤ get_or cut e.process 0 = less_le cut p e.process has in
          let v : get_or (one_less cut r) e.process 0 ≡ get_or cut e.process 0 = less_other cut r e.process other in
          omega arith

  in_both : (e : Place) → Includes (one_less cut p) e → Includes (one_less cut r) e
      → Includes (one_less (one_less cut p) r) e
  in_both e (one, first) (_, second) = (one, go (cases_eq e.process r))
    where
      go : (e.process ≡ r) ⊎ (e.process ≡ r → ⊥) → e.number ≤ get_or (one_less (one_less cut p) r) e.process 0
      go (inl same) =
          let here : e.number ≤ get_or (one_less cut r) r 0 = rw same at second in
          let t : get_or (one_less (one_less cut p) r) r 0 ≡ get_or (one_less cut r) r 0 = same_count in
          rw same (omega arith)
      go (inr other) =
          let t : get_or (one_less (one_less cut p) r) e.process 0 ≡ get_or (one_less cut p) e.process 0 =
          less_other (one_less cut p) r e.process other in
          omega arith

module _ (c : Computation) (cut : List ℕ) (p r : ℕ) (ok : IsConsistent c cut) (leaves : LeavesConsistent c cut p)
    (apart : r ≢ p) where
  -- what could be undone still can be
  stays_free : LeavesConsistent c cut r → LeavesConsistent c (one_less cut p) r
  stays_free (some, left) =
      let t : get_or (one_less cut p) r 0 ≡ get_or cut r 0 = less_other cut p r apart in
      let some_left : 0 < get_or (one_less cut p) r 0 = omega arith in (
        some_left,
        record {
          fits = fits_less c (one_less cut p) r leaves.1.fits some_left;
          closed = λ e f before i.
              in_both cut p r apart some e
              (leaves.1.closed e f before (in_first cut p r apart some leaves.0 f i))
              (left.closed e f before (in_second cut p r apart some leaves.0 f i));
        },
      )

  -- Without the last events of both the cut is consistent. So the last event of r leads to none that is left but the
  -- last one of p, and to this one by a message alone.
  module _ (some : 0 < get_or cut r 0) (left : IsConsistent c (one_less (one_less cut p) r))
      (no_send : ¬ IsMessage c (place r (get_or cut r 0)) (place p (get_or cut p 0))) where
    leads_nowhere : (d f : Place) → LeadsTo c d f → Includes (one_less cut r) f → d ≡ place r (get_or cut r 0) → ⊥
    leads_nowhere d f step (one, most) is = go (cases_eq f.process p) (cases_lt f.number (get_or cut p 0))
      where
        -- to no event of the counts without both
        inside : f.number ≤ get_or (one_less cut p) f.process 0 → ⊥
        inside within =
            let i : Includes (one_less (one_less cut p) r) d =
            left.closed d f (step_happens c d f step) (in_both cut p r apart some f (one, within) (one, most)) in
            let high : d.number ≤ get_or (one_less (one_less cut p) r) d.process 0 = i.1 in
            let number : d.number ≡ get_or cut r 0 = ap (λ (x : Place). x.number) is in
            let process : d.process ≡ r = ap (λ (x : Place). x.process) is in
            let here : d.number ≤ get_or (one_less (one_less cut p) r) r 0 = rw process at high in
            let t : get_or (one_less (one_less cut p) r) r 0 ≡ get_or (one_less cut r) r 0 =
            same_count cut p r apart some in
            let u : get_or (one_less cut r) r 0 + 1 ≡ get_or cut r 0 = less_same cut r some in
            omega arith

        go : (f.process ≡ p) ⊎ (f.process ≡ p → ⊥) → (f.number < get_or cut p 0) ⊎ (get_or cut p 0 ≤ f.number) → ⊥
        go (inr other) _ =
            let t : get_or (one_less cut r) f.process 0 ≤ get_or cut f.process 0 = less_le cut r f.process some in
            let u : get_or (one_less cut p) f.process 0 ≡ get_or cut f.process 0 = less_other cut p f.process other in
            inside (omega arith)
        go (inl same) (inl lt) =
            let t : get_or (one_less cut p) p 0 + 1 ≡ get_or cut p 0 = less_same cut p leaves.0 in
            inside (rw same (omega arith))
        go (inl same) (inr ge) = last step
          where
            is_last : f ≡ place p (get_or cut p 0)
            is_last =
                let here : f.number ≤ get_or (one_less cut r) p 0 = rw same at most in
                let t : get_or (one_less cut r) p 0 ≤ get_or cut p 0 = less_le cut r p some in
                same_place f (place p (get_or cut p 0)) same (omega arith)

            last : LeadsTo c d f → ⊥
            last (inl (_, _, one_process, _)) =
                apart (sym (ap (λ (x : Place). x.process) is) ∙ (one_process ∙ same))
            last (inr message) =
                no_send (subst (λ (e : Place). IsMessage c e (place p (get_or cut p 0))) is
                (subst (λ (e : Place). IsMessage c d e) is_last message))

    -- so what is left without it is closed
    is_closed : (d f : Place) → LeadsTo c d f → Includes (one_less cut r) f → Includes (one_less cut r) d
    is_closed d f step i = (kept.0, go (cases_eq d.process r) (cases_lt d.number (get_or cut r 0)))
      where
        kept : Includes cut d
        kept =
            let t : get_or (one_less cut r) f.process 0 ≤ get_or cut f.process 0 = less_le cut r f.process some in
            let most : f.number ≤ get_or (one_less cut r) f.process 0 = i.1 in
            ok.closed d f (step_happens c d f step) (i.0, omega arith)

        go : (d.process ≡ r) ⊎ (d.process ≡ r → ⊥) → (d.number < get_or cut r 0) ⊎ (get_or cut r 0 ≤ d.number)
            → d.number ≤ get_or (one_less cut r) d.process 0
        go (inr other) _ =
            let t : get_or (one_less cut r) d.process 0 ≡ get_or cut d.process 0 = less_other cut r d.process other in
            let most : d.number ≤ get_or cut d.process 0 = kept.1 in
            omega arith
        go (inl same) (inl lt) =
            let t : get_or (one_less cut r) r 0 + 1 ≡ get_or cut r 0 = less_same cut r some in
            rw same (omega arith)
        go (inl same) (inr ge) =
            let most : d.number ≤ get_or cut d.process 0 = kept.1 in
            let here : d.number ≤ get_or cut r 0 = rw same at most in
            absurd (leads_nowhere d f step i (same_place d (place r (get_or cut r 0)) same (omega arith)))

  -- what can be undone could be before
  was_free : ¬ IsMessage c (place r (get_or cut r 0)) (place p (get_or cut p 0))
      → LeavesConsistent c (one_less cut p) r → LeavesConsistent c cut r
  was_free no_send (some_left, left) =
      let t : get_or (one_less cut p) r 0 ≡ get_or cut r 0 = less_other cut p r apart in
      let some : 0 < get_or cut r 0 = omega arith in (
        some,
        record {
          fits = fits_less c cut r ok.fits some;
          closed = closed_from_steps c (Includes (one_less cut r)) (is_closed some left no_send);
        },
      )

-- The law of the way back: the last event of r can be undone from the cut with p's last event undone exactly if it
-- could be before, unless r is p, or r's last event is the send of the undone one.
pub others_stay : (c : Computation) (cut : List ℕ) (p r : ℕ) → IsConsistent c cut → LeavesConsistent c cut p → r ≢ p
    → ¬ IsMessage c (place r (get_or cut r 0)) (place p (get_or cut p 0)) → LeavesConsistent c (one_less cut p) r
    ↔ LeavesConsistent c cut r
others_stay c cut p r ok leaves apart no_send =
    (was_free c cut p r ok leaves apart no_send, stays_free c cut p r ok leaves apart)
