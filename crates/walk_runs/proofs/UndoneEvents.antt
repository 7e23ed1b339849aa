-- When an event can be added to consistent counts, and what keeps one from being undone.
use Rattle.std.proofs.Common.{◌≡◌, ◌≢◌, ℕ, ◌+◌, ◌<◌, ◌≤◌, List, length, get_or, sym, ap, ◌∙◌, subst, inl, inr, ◌⊎◌, arith}
use Rattle.std.proofs.lemmas.Bool.{cases_eq, cases_lt}
use Rattle.def_model.specs.Events.{Computation, Place, place, IsEvent, IsBefore, event_count}
use Rattle.walk_runs.specs.Births.{HasOneSend, IsUndoable}
use Rattle.def_model.specs.Messages.{IsMessage}
use Rattle.def_model.specs.Cuts.{Includes, IsConsistent, one_more, one_less}
use Rattle.def_model.proofs.Chains.{same_place, step_happens}
use Rattle.def_model.proofs.Consistency.{closed_from_messages, dec_consistent, dec_message}
use Rattle.def_model.proofs.Counts.{more_same, more_other, less_more, less_same, less_other, less_le}
use Rattle.def_model.proofs.Steps.{fits_less, fits_more}

-- An event whose sends are in consistent counts can be added.
pub add_met : (c : Computation) (cut : List ℕ) (p : ℕ) → IsConsistent c cut → p < length cut
    → IsEvent c (place p (get_or cut p 0 + 1)) → ((send : Place) → IsMessage c send (place p (get_or cut p 0 + 1))
    → Includes cut send) → IsConsistent c (one_more cut p)
add_met c cut p ok lt is met =
    let room : get_or cut p 0 + 1 ≤ event_count c p = is.1 in
    record { fits = fits_more c cut p ok.fits (omega arith) lt; closed = closed_from_messages c (one_more cut p) keeps }
  where
    up : (e : Place) → Includes cut e → Includes (one_more cut p) e
    up e (low, high) = (low, pick (cases_eq e.process p))
      where
        pick : (e.process ≡ p) ⊎ (e.process ≡ p → ⊥) → e.number ≤ get_or (one_more cut p) e.process 0
        pick (inl same) =
            let a : get_or (one_more cut p) e.process 0 ≡ get_or (one_more cut p) p 0 =
            ap (λ (q : ℕ). get_or (one_more cut p) q 0) same in
            let b : get_or cut e.process 0 ≡ get_or cut p 0 = ap (λ (q : ℕ). get_or cut q 0) same in
            let t : get_or (one_more cut p) p 0 ≡ get_or cut p 0 + 1 = more_same cut p lt in
            omega arith
        pick (inr apart) = let t : get_or (one_more cut p) e.process 0 ≡ get_or cut e.process 0 =
            more_other cut p e.process apart in omega arith

    keeps : (s r : Place) → IsMessage c s r → Includes (one_more cut p) r → Includes (one_more cut p) s
    keeps s r m (low, high) = up s (was (cases_lt (get_or cut r.process 0) r.number))
      where
        was : (get_or cut r.process 0 < r.number) ⊎ (r.number ≤ get_or cut r.process 0) → Includes cut s
        was (inr old) = ok.closed s r (step_happens c s r (inr m)) (low, old)
        was (inl new) = met s (subst (λ (e : Place). IsMessage c s e) (is_new (cases_eq r.process p)) m)
          where
            is_new : (r.process ≡ p) ⊎ (r.process ≡ p → ⊥) → r ≡ place p (get_or cut p 0 + 1)
            is_new (inr apart) = let t : get_or (one_more cut p) r.process 0 ≡ get_or cut r.process 0 =
                more_other cut p r.process apart in absurd (omega arith)
            is_new (inl same) =
                let a : get_or (one_more cut p) r.process 0 ≡ get_or (one_more cut p) p 0 =
                ap (λ (q : ℕ). get_or (one_more cut p) q 0) same in
                let b : get_or cut r.process 0 ≡ get_or cut p 0 = ap (λ (q : ℕ). get_or cut q 0) same in
                let t : get_or (one_more cut p) p 0 ≡ get_or cut p 0 + 1 = more_same cut p lt in
                same_place r (place p (get_or cut p 0 + 1)) same (omega arith)

-- Where the last events of p and q can be undone one after the other, in this order, but q's alone can't, p's receives
-- what q's sends.
pub kept_by_message : (c : Computation) (cut : List ℕ) (p q : ℕ) → q ≢ p → IsConsistent c cut → 0 < get_or cut p 0
    → 0 < get_or cut q 0 → IsConsistent c (one_less (one_less cut p) q) → ¬ IsConsistent c (one_less cut q)
    → IsMessage c (place q (get_or cut q 0)) (place p (get_or cut p 0))
kept_by_message c cut p q apart ok has_p has_q both not_q =
    go (dec_message c (place q (get_or cut q 0)) (place p (get_or cut p 0)))
  where
    go : Dec (IsMessage c (place q (get_or cut q 0)) (place p (get_or cut p 0)))
        → IsMessage c (place q (get_or cut q 0)) (place p (get_or cut p 0))
    go (yes m) = m
    go (no none) = absurd (not_q (record {
      fits = fits_less c cut q ok.fits has_q;
      closed =
          closed_from_messages c (one_less cut q) keeps;
    }))
      where
        keeps : (s r : Place) → IsMessage c s r → Includes (one_less cut q) r → Includes (one_less cut q) s
        keeps s r m (low, high) =
            let down : get_or (one_less cut q) r.process 0 ≤ get_or cut r.process 0 = less_le cut q r.process has_q in
            let top : r.number ≤ get_or cut r.process 0 = omega arith in
            pick top (ok.closed s r (step_happens c s r (inr m)) (low, top)) (cases_eq s.process q)
          where
            pick : r.number ≤ get_or cut r.process 0 → Includes cut s → (s.process ≡ q) ⊎ (s.process ≡ q → ⊥)
                → Includes (one_less cut q) s
            pick top i (inr other) =
                let t : get_or (one_less cut q) s.process 0 ≡ get_or cut s.process 0 =
                less_other cut q s.process other in
                let n : s.number ≤ get_or cut s.process 0 = i.1 in
                (i.0, omega arith)
            pick top i (inl same) = (i.0, at (cases_lt s.number (get_or cut q 0)))
              where
                at : (s.number < get_or cut q 0) ⊎ (get_or cut q 0 ≤ s.number)
                    → s.number ≤ get_or (one_less cut q) s.process 0
                at (inl lt) =
                    let t : get_or (one_less cut q) q 0 + 1 ≡ get_or cut q 0 = less_same cut q has_q in
                    let u : get_or (one_less cut q) s.process 0 ≡ get_or (one_less cut q) q 0 =
                    ap (λ (x : ℕ). get_or (one_less cut q) x 0) same in
                    omega arith
                at (inr ge) = absurd (clash (cases_eq r.process p))
                  where
                    -- s is the last event of q
                    is_last : s ≡ place q (get_or cut q 0)
                    is_last =
                        let n : s.number ≤ get_or cut s.process 0 = i.1 in
                        let u : get_or cut s.process 0 ≡ get_or cut q 0 = ap (λ (x : ℕ). get_or cut x 0) same in
                        same_place s (place q (get_or cut q 0)) same (omega arith)

                    r_apart : r.process ≢ q
                    r_apart e = m.3 (same ∙ sym e)

                    -- so it would be in the lower cut, with r
                    lower : r.number ≤ get_or (one_less cut p) r.process 0 → ⊥
                    lower n =
                        let v : get_or (one_less (one_less cut p) q) r.process 0 ≡ get_or (one_less cut p) r.process 0 =
                        less_other (one_less cut p) q r.process r_apart in
                        let k : Includes (one_less (one_less cut p) q) s =
                        both.closed s r (step_happens c s r (inr m)) (low, omega arith) in
                        let x : s.number ≤ get_or (one_less (one_less cut p) q) s.process 0 = k.1 in
                        let y : get_or (one_less (one_less cut p) q) s.process 0 ≡ get_or (one_less (one_less cut p) q)
                        q 0 = ap (λ (z : ℕ). get_or (one_less (one_less cut p) q) z 0) same in
                        let o : get_or (one_less cut p) q 0 ≡ get_or cut q 0 = less_other cut p q apart in
                        let w : get_or (one_less (one_less cut p) q) q 0 + 1 ≡ get_or (one_less cut p) q 0 =
                        less_same (one_less cut p) q (omega arith) in
                        omega arith

                    clash : (r.process ≡ p) ⊎ (r.process ≡ p → ⊥) → ⊥
                    clash (inr other) =
                        let v : get_or (one_less cut p) r.process 0 ≡ get_or cut r.process 0 =
                        less_other cut p r.process other in
                        lower (omega arith)
                    clash (inl same_r) = last (cases_lt r.number (get_or cut p 0))
                      where
                        last : (r.number < get_or cut p 0) ⊎ (get_or cut p 0 ≤ r.number) → ⊥
                        last (inl lt) =
                            let v : get_or (one_less cut p) r.process 0 ≡ get_or (one_less cut p) p 0 =
                            ap (λ (z : ℕ). get_or (one_less cut p) z 0) same_r in
                            let w : get_or (one_less cut p) p 0 + 1 ≡ get_or cut p 0 = less_same cut p has_p in
                            lower (omega arith)
                        last (inr up) =
                            let u : get_or cut r.process 0 ≡ get_or cut p 0 = ap (λ (z : ℕ). get_or cut z 0) same_r in
                            let r_last : r ≡ place p (get_or cut p 0) =
                            same_place r (place p (get_or cut p 0)) same_r (omega arith) in
                            none (subst (λ (e : Place). IsMessage c (place q (get_or cut q 0)) e) r_last
                            (subst (λ (d : Place). IsMessage c d r) is_last m))

-- no event receives from two places
pub one_send : (c : Computation) → HasOneSend c → (s t r : Place) → IsMessage c s r → IsMessage c t r → ¬ IsBefore s t
one_send c single s t r m n before = never t (subst (λ (e : Place). IsBefore e t) (single s t r m n) before)
  where
    never : (e : Place) → ¬ IsBefore e e
    never e (inl lt) = absurd (omega arith)
    never e (inr (same, lt)) = absurd (omega arith)

-- an event that is added can be undone
pub added_undoable : (c : Computation) (cut : List ℕ) (p : ℕ) → IsConsistent c cut → p < length c
    → IsUndoable c (one_more cut p) p
added_undoable c cut p ok lt =
    let size : length cut ≡ length c = ok.fits.one_each in
    let at : get_or (one_more cut p) p 0 ≡ get_or cut p 0 + 1 = more_same cut p (omega arith) in
    record {
      within = lt;
      some = omega arith;
      less = subst (IsConsistent c) (sym (less_more cut p (omega arith))) ok;
    }

-- the last event of q still can be, if the event that is added doesn't receive what it sends
pub still_undoable : (c : Computation) (cut : List ℕ) (p q : ℕ) → q ≢ p → p < length cut → IsUndoable c cut q
    → IsConsistent c (one_more cut p)
    → ¬ IsMessage c (place q (get_or cut q 0)) (place p (get_or cut p 0 + 1)) → IsUndoable c (one_more cut p) q
still_undoable c cut p q apart lt is ok none =
    record { within = is.within; some = some; less = go (dec_consistent c (one_less (one_more cut p) q)) }
  where
    at_q : get_or (one_more cut p) q 0 ≡ get_or cut q 0
    at_q = more_other cut p q apart

    at_p : get_or (one_more cut p) p 0 ≡ get_or cut p 0 + 1
    at_p = more_same cut p lt

    some : 0 < get_or (one_more cut p) q 0
    some = let has : 0 < get_or cut q 0 = is.some in omega (arith, at_q)

    both : IsConsistent c (one_less (one_less (one_more cut p) p) q)
    both = subst (λ (xs : List ℕ). IsConsistent c (one_less xs q)) (sym (less_more cut p lt)) is.less

    go : Dec (IsConsistent c (one_less (one_more cut p) q)) → IsConsistent c (one_less (one_more cut p) q)
    go (yes less) = less
    go (no never) =
        let m : IsMessage c (place q (get_or (one_more cut p) q 0)) (place p (get_or (one_more cut p) p 0)) =
        kept_by_message c (one_more cut p) p q apart ok (omega (arith, at_p)) some both never in
        absurd (none (subst (λ (n : ℕ). IsMessage c (place q n) (place p (get_or cut p 0 + 1))) at_q
        (subst (λ (n : ℕ). IsMessage c (place q (get_or (one_more cut p) q 0)) (place p n)) at_p m)))
