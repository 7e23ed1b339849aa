-- Which events can be undone in consistent counts that stay above others.
use Rattle.std.proofs.Common.{◌≡◌, ◌≢◌, ℕ, zero, suc, ◌+◌, ◌-◌, ◌<◌, ◌≤◌, List, length, get_or, sum, sym, ap, ◌∙◌, subst, inl, inr, ◌⊎◌, arith}
use Rattle.std.proofs.lemmas.Bool.{cases_eq, cases_lt}
use Rattle.def_model.specs.Events.{Computation, Place, place, event_count}
use Rattle.def_model.specs.Order.{HappenedBefore, HasNoCycle}
use Rattle.def_model.specs.Cuts.{Includes, IsConsistent, IsOfLevel, one_less}
use Rattle.def_model.proofs.Decisions.{dec_both, dec_less, dec_some, extreme}
use Rattle.def_model.proofs.Counts.{in_range, less_same, less_other, less_le, same_or_below, sum_less}
use Rattle.def_model.proofs.Chains.{same_place, happens_transitive, happens_before_later}
use Rattle.def_model.proofs.Consistency.{dec_consistent}
use Rattle.def_model.proofs.Steps.{fits_less}
use Rattle.def_model.specs.Lattice.{IsWithin}

-- Where consistent counts have more events of process m than others have, its last one can be undone unless it happened
-- before the last one of another such process.
pub undo_at : (c : Computation) (low cut : List ℕ) (m : ℕ) → IsConsistent c low → IsConsistent c cut
    → get_or low m 0 < get_or cut m 0 → ((q : ℕ) → get_or low q 0 < get_or cut q 0
    → ¬ HappenedBefore c (place m (get_or cut m 0)) (place q (get_or cut q 0))) → IsConsistent c (one_less cut m)
undo_at c low cut m ok_low ok more none =
    let has : 0 < get_or cut m 0 = omega arith in
    record { fits = fits_less c cut m ok.fits has; closed = closed has }
  where
    closed : 0 < get_or cut m 0 → (e f : Place) → HappenedBefore c e f → Includes (one_less cut m) f
        → Includes (one_less cut m) e
    closed has e f h i =
        let down : get_or (one_less cut m) f.process 0 ≤ get_or cut f.process 0 = less_le cut m f.process has in
        let high : f.number ≤ get_or (one_less cut m) f.process 0 = i.1 in
        let top : f.number ≤ get_or cut f.process 0 = omega arith in
        let j : Includes cut e = ok.closed e f h (i.0, top) in
        (j.0, pick top j (cases_eq e.process m))
      where
        pick : f.number ≤ get_or cut f.process 0 → Includes cut e → (e.process ≡ m) ⊎ (e.process ≡ m → ⊥)
            → e.number ≤ get_or (one_less cut m) e.process 0
        pick top j (inr apart) =
            let t : get_or (one_less cut m) e.process 0 ≡ get_or cut e.process 0 = less_other cut m e.process apart in
            let u : e.number ≤ get_or cut e.process 0 = j.1 in
            omega arith
        pick top j (inl same) =
            let s : get_or (one_less cut m) e.process 0 ≡ get_or (one_less cut m) m 0 =
            ap (λ (q : ℕ). get_or (one_less cut m) q 0) same in
            let u : get_or cut e.process 0 ≡ get_or cut m 0 = ap (λ (q : ℕ). get_or cut q 0) same in
            let t : get_or (one_less cut m) m 0 + 1 ≡ get_or cut m 0 = less_same cut m has in
            let n : e.number ≤ get_or cut e.process 0 = j.1 in
            at (cases_lt e.number (get_or cut m 0))
          where
            at : (e.number < get_or cut m 0) ⊎ (get_or cut m 0 ≤ e.number)
                → e.number ≤ get_or (one_less cut m) e.process 0
            at (inl lt) =
                let s : get_or (one_less cut m) e.process 0 ≡ get_or (one_less cut m) m 0 =
                ap (λ (q : ℕ). get_or (one_less cut m) q 0) same in
                let t : get_or (one_less cut m) m 0 + 1 ≡ get_or cut m 0 = less_same cut m has in
                omega arith
            at (inr ge) = absurd (last (cases_lt (get_or low f.process 0) (get_or cut f.process 0)))
              where
                last : (get_or low f.process 0 < get_or cut f.process 0)
                    ⊎ (get_or cut f.process 0 ≤ get_or low f.process 0) → ⊥
                -- f's process is another such
                last (inl above) =
                    let u : get_or cut e.process 0 ≡ get_or cut m 0 = ap (λ (q : ℕ). get_or cut q 0) same in
                    let n : e.number ≤ get_or cut e.process 0 = j.1 in
                    let within : get_or cut f.process 0 ≤ event_count c f.process = ok.fits.within f.process in
                    let low_f : 1 ≤ f.number = i.0 in
                    let is_last : e ≡ place m (get_or cut m 0) =
                    same_place e (place m (get_or cut m 0)) same (omega arith) in
                    let later : HappenedBefore c e (place f.process (get_or cut f.process 0)) =
                    happens_before_later c e f (get_or cut f.process 0) h top (omega arith, within) in
                    none f.process above (subst (λ (g : Place).
                    HappenedBefore c g (place f.process (get_or cut f.process 0))) is_last later)
                -- or f is in the others
                last (inr below) =
                    let k : Includes low e = ok_low.closed e f h (i.0, omega arith) in
                    let x : e.number ≤ get_or low e.process 0 = k.1 in
                    let y : get_or low e.process 0 ≡ get_or low m 0 = ap (λ (q : ℕ). get_or low q 0) same in
                    omega arith

-- Where consistent counts have more events of some process than others have, one of them can be undone.
pub undo_some : (c : Computation) → HasNoCycle c → (low cut : List ℕ) → IsConsistent c low → IsConsistent c cut
    → (start : ℕ) → get_or low start 0 < get_or cut start 0 → (p : ℕ) × (get_or low p 0 < get_or cut p 0)
    × IsConsistent c (one_less cut p)
undo_some c acyclic low cut ok_low ok start above =
    go (dec_some (λ p. (get_or low p 0 < get_or cut p 0) × IsConsistent c (one_less cut p)) (λ p.
    dec_both (dec_less (get_or low p 0) (get_or cut p 0)) (dec_consistent c (one_less cut p))) (length cut))
  where
    there : (p : ℕ) → get_or low p 0 < get_or cut p 0 → p < length cut
    there p lt = in_range cut p (omega arith)

    go : Dec ((p : ℕ) × (p < length cut) × ((get_or low p 0 < get_or cut p 0) × IsConsistent c (one_less cut p)))
        → (p : ℕ) × (get_or low p 0 < get_or cut p 0) × IsConsistent c (one_less cut p)
    go (yes (p, lt, w)) = (p, w.0, w.1)
    go (no h) =
        absurd (extreme (λ p q. HappenedBefore c (place p (get_or cut p 0)) (place q (get_or cut q 0))) (λ p.
        get_or low p 0 < get_or cut p 0) (λ p. acyclic (place p (get_or cut p 0))) (λ p q r.
        happens_transitive c (place p (get_or cut p 0)) (place q (get_or cut q 0)) (place r (get_or cut r 0)))
        (length cut) start above (λ w. h (
          w.0,
          there w.0 w.1,
          (w.1, undo_at c low cut w.0 ok_low ok w.1 (λ q lt. w.2 q (there q lt) lt)),
        )))

-- Where a consistent cut is within another and differs, some event of the greater one outside it can be undone.
pub step_down : (c : Computation) → HasNoCycle c → (a b : List ℕ) → IsConsistent c a → IsConsistent c b → IsWithin a b
    → a ≢ b → (p : ℕ) × (p < length b) × (get_or a p 0 < get_or b p 0) × IsConsistent c (one_less b p)
step_down c acyclic a b oka okb within differ =
    let s : (p : ℕ) × (get_or a p 0 < get_or b p 0) =
    start (same_or_below a b (oka.fits.one_each ∙ sym okb.fits.one_each) within) in
    let w : (p : ℕ) × (get_or a p 0 < get_or b p 0) × IsConsistent c (one_less b p) =
    undo_some c acyclic a b oka okb s.0 s.1 in
    (w.0, in_range b w.0 (let t : get_or a w.0 0 < get_or b w.0 0 = w.1 in omega arith), w.1, w.2)
  where
    start : (a ≡ b) ⊎ ((p : ℕ) × (p < length a) × (get_or a p 0 < get_or b p 0))
        → (p : ℕ) × (get_or a p 0 < get_or b p 0)
    start (inl e) = absurd (differ e)
    start (inr (p, lt, less)) = (p, less)

-- the same where the sums differ
pub step_down_from_sum : (c : Computation) → HasNoCycle c → (a b : List ℕ) → IsConsistent c a → IsConsistent c b
    → IsWithin a b → sum a < sum b → (p : ℕ) × (p < length b) × (get_or a p 0 < get_or b p 0)
    × IsConsistent c (one_less b p)
step_down_from_sum c acyclic a b oka okb within less =
    step_down c acyclic a b oka okb within (λ e. let s : sum a ≡ sum b = ap sum e in omega arith)

-- the lesser cut is within what is left
pub within_less : (a b : List ℕ) (p : ℕ) → IsWithin a b → get_or a p 0 < get_or b p 0 → IsWithin a (one_less b p)
within_less a b p within outside q = go (cases_eq q p)
  where
    go : (q ≡ p) ⊎ (q ≡ p → ⊥) → get_or a q 0 ≤ get_or (one_less b p) q 0
    go (inl same) =
        let t : get_or (one_less b p) p 0 + 1 ≡ get_or b p 0 = less_same b p (omega arith) in rw same (omega arith)
    go (inr apart) =
        let t : get_or (one_less b p) q 0 ≡ get_or b q 0 = less_other b p q apart in
        let u : get_or a q 0 ≤ get_or b q 0 = within q in
        omega arith

-- n events can be undone from the greater cut, so that the lesser one stays within
pub down_by : (c : Computation) → HasNoCycle c → (a : List ℕ) → IsConsistent c a → (n : ℕ) (b : List ℕ)
    → IsConsistent c b → IsWithin a b → sum a + n ≤ sum b → (cut : List ℕ) × IsConsistent c cut × IsWithin a cut
    × IsWithin cut b × (sum cut + n ≡ sum b)
down_by c acyclic a oka zero b okb within room = (b, okb, within, λ p. omega arith, omega arith)
down_by c acyclic a oka (suc n) b okb within room =
    go (step_down_from_sum c acyclic a b oka okb within (omega arith)) (down_by c acyclic a oka n)
  where
    go : (p : ℕ) × (p < length b) × (get_or a p 0 < get_or b p 0) × IsConsistent c (one_less b p)
        → ((b : List ℕ) → IsConsistent c b → IsWithin a b → sum a + n ≤ sum b → (cut : List ℕ) × IsConsistent c cut
        × IsWithin a cut × IsWithin cut b × (sum cut + n ≡ sum b)) → (cut : List ℕ) × IsConsistent c cut
        × IsWithin a cut × IsWithin cut b × (sum cut + suc n ≡ sum b)
    go (p, lt, outside, undone) rest =
        let t : sum (one_less b p) + 1 ≡ sum b = fewer in
        found (rest (one_less b p) undone (within_less a b p within outside) (omega arith))
      where
        has : 0 < get_or b p 0
        has = omega arith

        fewer : sum (one_less b p) + 1 ≡ sum b
        fewer = sum_less b p has

        found : (cut : List ℕ) × IsConsistent c cut × IsWithin a cut × IsWithin cut (one_less b p)
            × (sum cut + n ≡ sum (one_less b p)) → (cut : List ℕ) × IsConsistent c cut × IsWithin a cut × IsWithin cut b
            × (sum cut + suc n ≡ sum b)
        found (cut, ok, above, below, e) = (
          cut,
          ok,
          above,
          λ q. let i : get_or cut q 0 ≤ get_or (one_less b p) q 0 = below q in
              let j : get_or (one_less b p) q 0 ≤ get_or b q 0 = less_le b p q has in
              omega arith,
          let t : sum (one_less b p) + 1 ≡ sum b = fewer in omega arith,
        )

pub cut_between : (c : Computation) → HasNoCycle c → (a b : List ℕ) → IsConsistent c a → IsConsistent c b → IsWithin a b
    → (k : ℕ) → sum a ≤ k → k ≤ sum b → (cut : List ℕ) × IsOfLevel c k cut × IsWithin a cut × IsWithin cut b
cut_between c acyclic a b oka okb within k low high =
    let w : (cut : List ℕ) × IsConsistent c cut × IsWithin a cut × IsWithin cut b × (sum cut + (sum b - k) ≡ sum b) =
    down_by c acyclic a oka (sum b - k) b okb within (omega arith) in
    (w.0, (w.1, let e : sum w.0 + (sum b - k) ≡ sum b = w.4 in omega arith), w.2, w.3)
