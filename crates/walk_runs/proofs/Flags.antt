-- A prefix is alive between two levels where it is, and how a level's flags come from the level before.
use Rattle.std.proofs.Common.{◌≡◌, ℕ, zero, suc, ◌+◌, ◌-◌, ◌<◌, ◌≤◌, List, [], ◌∷◌, length, get_or, sum, refl, sym, ap, ◌∙◌, subst, inl, inr, ◌⊎◌, ◌↔◌, arith}
use Rattle.std.proofs.lemmas.Bool.{cases_eq, cases_lt}
use Rattle.def_model.specs.Events.{Computation, Place, place, event_count}
use Rattle.def_model.specs.Messages.{IsMessage}
use Rattle.def_model.specs.Order.{HasNoCycle}
use Rattle.def_model.specs.Cuts.{Includes, IsConsistent, IsOfLevel, one_more}
use Rattle.def_model.proofs.Chains.{step_happens}
use Rattle.def_model.proofs.Counts.{length_more, more_same, more_other, sum_more}
use Rattle.walk_keys.specs.Neighbors.{cut_at}
use Rattle.walk_runs.specs.Runs.{IsInterval}
use Rattle.walk_runs.specs.Births.{IsInInterval, IsAlive, IsYoung, IsGreatest, IsLeast, IsTop, IsLow, IsMetAt, IsReceivedBelow, IsCandidate, from_young, from_top, from_low, next_of}
use Rattle.walk_runs.proofs.UndoneEvents.{add_met}
use Rattle.walk_runs.proofs.Ends.{at_prefix, at_x, at_y, length_at, sum_at, more_x, more_y, more_prefix, others_x, others_y, undo_two, same_cut}
use Rattle.walk_runs.proofs.Born.{same_prefix}

-- one of two is less where the sum is
fewer : (x y z w : ℕ) → x + y < z + w → (x < z) ⊎ (y < w)
fewer x y z w more = go (cases_lt x z)
  where
    go : (x < z) ⊎ (z ≤ x) → (x < z) ⊎ (y < w)
    go (inl lt) = inl lt
    go (inr ge) = inr (omega arith)

-- one level down, not below a level where it is alive
alive_below : (c : Computation) → HasNoCycle c → (i k : ℕ) (prefix : List ℕ) → i ≤ k → IsAlive c i prefix
    → IsAlive c (k + 1) prefix → IsAlive c k prefix
alive_below c acyclic i k prefix le (x, (y, (ok_low, level_low))) (z, (w, (ok, level))) =
    let s : sum (cut_at prefix x y) ≡ sum prefix + (x + y) = sum_at prefix x y in
    let t : sum (cut_at prefix z w) ≡ sum prefix + (z + w) = sum_at prefix z w in
    let more : x + y < z + w = omega arith in
    down (undo_two c acyclic prefix prefix z w x y refl (λ q. omega arith) ok ok_low (fewer x y z w more))
  where
    down : ((x < z) × IsConsistent c (cut_at prefix (z - 1) w)) ⊎ ((y < w) × IsConsistent c (cut_at prefix z (w - 1)))
        → IsAlive c k prefix
    down (inl (h, less)) =
        let t : sum (cut_at prefix z w) ≡ sum prefix + (z + w) = sum_at prefix z w in
        let u : sum (cut_at prefix (z - 1) w) ≡ sum prefix + ((z - 1) + w) = sum_at prefix (z - 1) w in
        (z - 1, (w, (less, omega arith)))
    down (inr (h, less)) =
        let t : sum (cut_at prefix z w) ≡ sum prefix + (z + w) = sum_at prefix z w in
        let u : sum (cut_at prefix z (w - 1)) ≡ sum prefix + (z + (w - 1)) = sum_at prefix z (w - 1) in
        (z, (w - 1, (less, omega arith)))

pub alive_between : (c : Computation) → HasNoCycle c → (i j k : ℕ) (prefix : List ℕ) → i ≤ j → j ≤ k
    → IsAlive c i prefix → IsAlive c k prefix → IsAlive c j prefix
alive_between c acyclic i j k prefix ij jk low high =
    let e : k ≡ j + (k - j) = omega arith in
    down (k - j) (subst (λ (n : ℕ). IsAlive c n prefix) e high)
  where
    down : (d : ℕ) → IsAlive c (j + d) prefix → IsAlive c j prefix
    down zero alive = let e : j + 0 ≡ j = omega arith in subst (λ (n : ℕ). IsAlive c n prefix) e alive
    down (suc d) alive =
        let e : j + suc d ≡ (j + d) + 1 = omega arith in
        down d (alive_below c acyclic i (j + d) prefix (omega arith) low
        (subst (λ (n : ℕ). IsAlive c n prefix) e alive))

pub young_at_first : (c : Computation) → HasNoCycle c → (j k : ℕ) (prefix : List ℕ) → IsYoung c k prefix → j < k
    → ¬ IsAlive c j prefix
young_at_first c acyclic j k prefix young lt alive =
    young.before (k - 1) (omega arith) (alive_between c acyclic j (k - 1) k prefix (omega arith) (omega arith) alive
    young.alive)

pub top_flag : (c : Computation) → HasNoCycle c → (k : ℕ) (prefix : List ℕ) (hi y new : ℕ) → IsGreatest c k prefix hi
    → IsOfLevel c k (cut_at prefix hi y) → IsTop c (k + 1) prefix new
    ↔ ((new ≡ hi + 1) × IsMetAt c (cut_at prefix hi y) (place (length prefix) (hi + 1))
    × IsReceivedBelow c (length prefix) (place (length prefix) (hi + 1)))
top_flag c acyclic k prefix hi y new greatest (ok, level) = (to, from)
  where
    to : IsTop c (k + 1) prefix new → (new ≡ hi + 1) × IsMetAt c (cut_at prefix hi y) (place (length prefix) (hi + 1))
        × IsReceivedBelow c (length prefix) (place (length prefix) (hi + 1))
    to top = (
      is,
      met (subst (λ (n : ℕ). IsInInterval c (k + 1) prefix n) is top.greatest.inside),
      subst (λ (n : ℕ). IsReceivedBelow c (length prefix) (place (length prefix) n)) is top.sends,
    )
      where
        is : new ≡ hi + 1
        is = go top.before
          where
            go : (j x : ℕ) × (j + 1 ≡ k + 1) × (x + 1 ≡ new) × IsGreatest c j prefix x → new ≡ hi + 1
            go (j, x, e, f, g) =
                let same : j ≡ k = omega arith in
                let a : x ≤ hi = greatest.most x (subst (λ (n : ℕ). IsInInterval c n prefix x) same g.inside) in
                let b : hi ≤ x = g.most hi (subst (λ (n : ℕ). IsInInterval c n prefix hi) (sym same) greatest.inside) in
                omega arith

        met : IsInInterval c (k + 1) prefix (hi + 1) → IsMetAt c (cut_at prefix hi y) (place (length prefix) (hi + 1))
        met (w, (ok_new, level_new)) =
            let at : get_or (cut_at prefix (hi + 1) w) (length prefix) 0 ≡ hi + 1 =
            at_x prefix (hi + 1) w (length prefix) refl in
            let room : get_or (cut_at prefix (hi + 1) w) (length prefix) 0 ≤ event_count c (length prefix) =
            ok_new.fits.within (length prefix) in
            ((omega arith, omega arith), sends)
          where
            sends : (send : Place) → IsMessage c send (place (length prefix) (hi + 1))
                → Includes (cut_at prefix hi y) send
            sends send m =
                let at : get_or (cut_at prefix (hi + 1) w) (length prefix) 0 ≡ hi + 1 =
                at_x prefix (hi + 1) w (length prefix) refl in
                let s : sum (cut_at prefix hi y) ≡ sum prefix + (hi + y) = sum_at prefix hi y in
                let t : sum (cut_at prefix (hi + 1) w) ≡ sum prefix + ((hi + 1) + w) = sum_at prefix (hi + 1) w in
                let i : Includes (cut_at prefix (hi + 1) w) send =
                ok_new.closed send (place (length prefix) (hi + 1))
                (step_happens c send (place (length prefix) (hi + 1)) (inr m)) (omega arith, omega arith) in
                let n : send.number ≤ get_or (cut_at prefix (hi + 1) w) send.process 0 = i.1 in
                let o : get_or (cut_at prefix (hi + 1) w) send.process 0 ≤ get_or (cut_at prefix hi y) send.process 0 =
                others_x prefix (hi + 1) w hi y (omega arith) send.process m.3 in
                (i.0, omega arith)

    from : (new ≡ hi + 1) × IsMetAt c (cut_at prefix hi y) (place (length prefix) (hi + 1))
        × IsReceivedBelow c (length prefix) (place (length prefix) (hi + 1)) → IsTop c (k + 1) prefix new
    from (is, met, sent) =
        subst (λ (n : ℕ). IsTop c (k + 1) prefix n) (sym is) (record {
          greatest =
              record { inside = (y, (ok_new, level_new)); most = most };
          before = (k, hi, refl, refl, greatest);
          sends =
              sent;
        })
      where
        at : get_or (cut_at prefix hi y) (length prefix) 0 + 1 ≡ hi + 1
        at = ap (λ (n : ℕ). n + 1) (at_x prefix hi y (length prefix) refl)

        ok_new : IsConsistent c (cut_at prefix (hi + 1) y)
        ok_new =
            let l : length (cut_at prefix hi y) ≡ length prefix + 2 = length_at prefix hi y in
            let met' : IsMetAt c (cut_at prefix hi y)
            (place (length prefix) (get_or (cut_at prefix hi y) (length prefix) 0 + 1)) =
            subst (λ (n : ℕ). IsMetAt c (cut_at prefix hi y) (place (length prefix) n)) (sym at) met in
            subst (IsConsistent c) (more_x prefix hi y)
            (add_met c (cut_at prefix hi y) (length prefix) ok (omega arith) met'.0 met'.1)

        level_new : sum (cut_at prefix (hi + 1) y) ≡ k + 1
        level_new = omega (arith, sum_at prefix hi y, sum_at prefix (hi + 1) y, level)

        most : (z : ℕ) → IsInInterval c (k + 1) prefix z → z ≤ hi + 1
        most z (w, other) = go (same_prefix c acyclic k prefix z w (hi, (y, (ok, level))) other)
          where
            go : ((0 < z) × IsOfLevel c k (cut_at prefix (z - 1) w))
                ⊎ ((0 < w) × IsOfLevel c k (cut_at prefix z (w - 1))) → z ≤ hi + 1
            go (inl (has, less)) = let t : z - 1 ≤ hi = greatest.most (z - 1) (w, less) in omega arith
            go (inr (has, less)) = let t : z ≤ hi = greatest.most z (w - 1, less) in omega arith

pub low_flag : (c : Computation) → HasNoCycle c → (k : ℕ) (prefix : List ℕ) (lo y new beside : ℕ)
    → IsLeast c k prefix lo → IsOfLevel c k (cut_at prefix lo y) → IsLow c (k + 1) prefix new beside
    ↔ ((new ≡ lo) × (beside ≡ y + 1) × IsMetAt c (cut_at prefix lo y) (place (suc (length prefix)) (y + 1))
    × IsReceivedBelow c (length prefix) (place (suc (length prefix)) (y + 1)))
low_flag c acyclic k prefix lo y new beside least (ok, level) = (to, from)
  where
    to : IsLow c (k + 1) prefix new beside → (new ≡ lo) × (beside ≡ y + 1)
        × IsMetAt c (cut_at prefix lo y) (place (suc (length prefix)) (y + 1))
        × IsReceivedBelow c (length prefix) (place (suc (length prefix)) (y + 1))
    to low = (
      is,
      height,
      met,
      subst (λ (n : ℕ). IsReceivedBelow c (length prefix) (place (suc (length prefix)) n)) height
          low.sends,
    )
      where
        is : new ≡ lo
        is = go low.before
          where
            go : (j : ℕ) × (j + 1 ≡ k + 1) × IsLeast c j prefix new → new ≡ lo
            go (j, e, g) =
                let same : j ≡ k = omega arith in
                let a : lo ≤ new = least.least new (subst (λ (n : ℕ). IsInInterval c n prefix new) same g.inside) in
                let b : new ≤ lo = g.least lo (subst (λ (n : ℕ). IsInInterval c n prefix lo) (sym same) least.inside) in
                omega arith

        height : beside ≡ y + 1
        height =
            let e : new ≡ lo = is in
            let l : sum (cut_at prefix new beside) ≡ k + 1 = low.beside.1 in
            omega (arith, sum_at prefix lo y, sum_at prefix new beside, level)

        ok_new : IsConsistent c (cut_at prefix lo (y + 1))
        ok_new = subst (λ (n : ℕ). IsConsistent c (cut_at prefix lo n)) height
            (subst (λ (n : ℕ). IsConsistent c (cut_at prefix n beside)) is low.beside.0)

        at : get_or (cut_at prefix lo (y + 1)) (suc (length prefix)) 0 ≡ y + 1
        at = at_y prefix lo (y + 1) (length prefix) refl

        met : IsMetAt c (cut_at prefix lo y) (place (suc (length prefix)) (y + 1))
        met =
            let a : get_or (cut_at prefix lo (y + 1)) (suc (length prefix)) 0 ≡ y + 1 = at in
            let room : get_or (cut_at prefix lo (y + 1)) (suc (length prefix)) 0 ≤ event_count c (suc (length prefix)) =
            ok_new.fits.within (suc (length prefix)) in
            ((omega arith, omega arith), sends)
          where
            sends : (send : Place) → IsMessage c send (place (suc (length prefix)) (y + 1))
                → Includes (cut_at prefix lo y) send
            sends send m =
                let a : get_or (cut_at prefix lo (y + 1)) (suc (length prefix)) 0 ≡ y + 1 = at in
                let i : Includes (cut_at prefix lo (y + 1)) send =
                ok_new.closed send (place (suc (length prefix)) (y + 1))
                (step_happens c send (place (suc (length prefix)) (y + 1)) (inr m)) (omega arith, omega arith) in
                let n : send.number ≤ get_or (cut_at prefix lo (y + 1)) send.process 0 = i.1 in
                let o : get_or (cut_at prefix lo (y + 1)) send.process 0 ≤ get_or (cut_at prefix lo y) send.process 0 =
                others_y prefix lo (y + 1) lo y (omega arith) send.process m.3 in
                (i.0, omega arith)

    from : (new ≡ lo) × (beside ≡ y + 1) × IsMetAt c (cut_at prefix lo y) (place (suc (length prefix)) (y + 1))
        × IsReceivedBelow c (length prefix) (place (suc (length prefix)) (y + 1)) → IsLow c (k + 1) prefix new beside
    from (is, height, met, sent) =
        subst (λ (n : ℕ). IsLow c (k + 1) prefix n beside) (sym is)
        (subst (λ (n : ℕ). IsLow c (k + 1) prefix lo n) (sym height) (record {
          beside = (ok_new, level_new);
          least =
              record { inside = (y + 1, (ok_new, level_new)); least = least_new };
          before = (k, refl, least);
          sends =
              sent;
        }))
      where
        at : get_or (cut_at prefix lo y) (suc (length prefix)) 0 + 1 ≡ y + 1
        at = ap (λ (n : ℕ). n + 1) (at_y prefix lo y (length prefix) refl)

        ok_new : IsConsistent c (cut_at prefix lo (y + 1))
        ok_new =
            let l : length (cut_at prefix lo y) ≡ length prefix + 2 = length_at prefix lo y in
            let met' : IsMetAt c (cut_at prefix lo y)
            (place (suc (length prefix)) (get_or (cut_at prefix lo y) (suc (length prefix)) 0 + 1)) =
            subst (λ (n : ℕ). IsMetAt c (cut_at prefix lo y) (place (suc (length prefix)) n)) (sym at) met in
            subst (IsConsistent c) (more_y prefix lo y)
            (add_met c (cut_at prefix lo y) (suc (length prefix)) ok (omega arith) met'.0 met'.1)

        level_new : sum (cut_at prefix lo (y + 1)) ≡ k + 1
        level_new = omega (arith, sum_at prefix lo y, sum_at prefix lo (y + 1), level)

        least_new : (z : ℕ) → IsInInterval c (k + 1) prefix z → lo ≤ z
        least_new z (w, other) = go (same_prefix c acyclic k prefix z w (lo, (y, (ok, level))) other)
          where
            go : ((0 < z) × IsOfLevel c k (cut_at prefix (z - 1) w))
                ⊎ ((0 < w) × IsOfLevel c k (cut_at prefix z (w - 1))) → lo ≤ z
            go (inl (has, less)) = let t : lo ≤ z - 1 = least.least (z - 1) (w, less) in omega arith
            go (inr (has, less)) = least.least z (w - 1, less)

-- the prefix has one event more, so is above
above_more : (prefix : List ℕ) (p : ℕ) → p < length prefix → (q : ℕ)
    → get_or prefix q 0 ≤ get_or (one_more prefix p) q 0
above_more prefix p lt q = go (cases_eq q p)
  where
    go : (q ≡ p) ⊎ (q ≡ p → ⊥) → get_or prefix q 0 ≤ get_or (one_more prefix p) q 0
    go (inl e) = rw e (let t : get_or (one_more prefix p) p 0 ≡ get_or prefix p 0 + 1 = more_same prefix p lt in
        omega arith)
    go (inr n) = let t : get_or (one_more prefix p) q 0 ≡ get_or prefix q 0 = more_other prefix p q n in omega arith

module _ (c : Computation) (acyclic : HasNoCycle c) (k : ℕ) (prefix : List ℕ) (x y p : ℕ)
    (at : IsOfLevel c k (cut_at prefix x y)) (lt : p < length prefix) where
  -- beside a cut of the prefix with one event more and of the same level, one of the last two can be undone
  undo_beside : (z w : ℕ) → IsOfLevel c k (cut_at (one_more prefix p) z w) → (z < x) ⊎ (w < y)
      → ((z < x) × IsOfLevel c (k - 1) (cut_at prefix (x - 1) y))
      ⊎ ((w < y) × IsOfLevel c (k - 1) (cut_at prefix x (y - 1)))
  undo_beside z w other some =
      go (undo_two c acyclic prefix (one_more prefix p) x y z w (length_more prefix p) (above_more prefix p lt) at.0
      other.0 some)
    where
      go : ((z < x) × IsConsistent c (cut_at prefix (x - 1) y)) ⊎ ((w < y) × IsConsistent c (cut_at prefix x (y - 1)))
          → ((z < x) × IsOfLevel c (k - 1) (cut_at prefix (x - 1) y))
          ⊎ ((w < y) × IsOfLevel c (k - 1) (cut_at prefix x (y - 1)))
      go (inl (h, less)) = inl (h, (less, omega (arith, at.1, sum_at prefix x y, sum_at prefix (x - 1) y)))
      go (inr (h, less)) = inr (h, (less, omega (arith, at.1, sum_at prefix x y, sum_at prefix x (y - 1))))

  -- it has fewer of the last two
  fewer_beside : (z w : ℕ) → IsOfLevel c k (cut_at (one_more prefix p) z w) → z + w < x + y
  fewer_beside z w other =
      omega (arith, at.1, other.1, sum_at prefix x y, sum_at (one_more prefix p) z w, sum_more prefix p lt)

  not_young : IsYoung c k prefix → ¬ IsAlive c k (one_more prefix p)
  not_young young (z, (w, other)) =
      let s : z + w < x + y = fewer_beside z w other in
      let positive : (k - 1) + 1 ≡ k = omega (arith, at.1, sum_at prefix x y) in
      go positive (undo_beside z w other (fewer z w x y s))
    where
      go : (k - 1) + 1 ≡ k → ((z < x) × IsOfLevel c (k - 1) (cut_at prefix (x - 1) y))
          ⊎ ((w < y) × IsOfLevel c (k - 1) (cut_at prefix x (y - 1))) → ⊥
      go e (inl (h, less)) = young.before (k - 1) e (x - 1, (y, less))
      go e (inr (h, less)) = young.before (k - 1) e (x, (y - 1, less))

  -- a send in the cut whose receipt is p's next event is in each cut that has that event
  sent_beside : (z w q n : ℕ) → IsOfLevel c k (cut_at (one_more prefix p) z w)
      → IsMessage c (place q n) (next_of (cut_at prefix x y) p) → n ≤ get_or (cut_at (one_more prefix p) z w) q 0
  sent_beside z w q n other m =
      let l : length (one_more prefix p) ≡ length prefix = length_more prefix p in
      let a : get_or (cut_at (one_more prefix p) z w) p 0 ≡ get_or (one_more prefix p) p 0 =
      at_prefix (one_more prefix p) z w p (omega arith) in
      let b : get_or (one_more prefix p) p 0 ≡ get_or prefix p 0 + 1 = more_same prefix p lt in
      let d : get_or (cut_at prefix x y) p 0 ≡ get_or prefix p 0 = at_prefix prefix x y p lt in
      (other.0.closed (place q n) (next_of (cut_at prefix x y) p)
      (step_happens c (place q n) (next_of (cut_at prefix x y) p) (inr m)) (omega arith, omega arith)).1

  not_top : IsTop c k prefix x → IsMessage c (place (length prefix) x) (next_of (cut_at prefix x y) p)
      → ¬ IsAlive c k (one_more prefix p)
  not_top top m (z, (w, other)) =
      let s : z + w < x + y = fewer_beside z w other in
      let a : x ≤ get_or (cut_at (one_more prefix p) z w) (length prefix) 0 =
      sent_beside z w (length prefix) x other m in
      let b : get_or (cut_at (one_more prefix p) z w) (length prefix) 0 ≡ z =
      at_x (one_more prefix p) z w (length prefix) (length_more prefix p) in
      let le : x ≤ z = omega arith in
      go le top.before (undo_beside z w other (inr (omega arith)))
    where
      go : x ≤ z → (j u : ℕ) × (j + 1 ≡ k) × (u + 1 ≡ x) × IsGreatest c j prefix u
          → ((z < x) × IsOfLevel c (k - 1) (cut_at prefix (x - 1) y))
          ⊎ ((w < y) × IsOfLevel c (k - 1) (cut_at prefix x (y - 1))) → ⊥
      go le before (inl (h, less)) = omega arith
      go le (j, u, e, f, g) (inr (h, less)) =
          let same : k - 1 ≡ j = omega arith in
          let t : x ≤ u = g.most x (y - 1, subst (λ (n : ℕ). IsOfLevel c n (cut_at prefix x (y - 1))) same less) in
          omega arith

  not_low : IsLow c k prefix x y → IsMessage c (place (suc (length prefix)) y) (next_of (cut_at prefix x y) p)
      → ¬ IsAlive c k (one_more prefix p)
  not_low low m (z, (w, other)) =
      let s : z + w < x + y = fewer_beside z w other in
      let a : y ≤ get_or (cut_at (one_more prefix p) z w) (suc (length prefix)) 0 =
      sent_beside z w (suc (length prefix)) y other m in
      let b : get_or (cut_at (one_more prefix p) z w) (suc (length prefix)) 0 ≡ w =
      at_y (one_more prefix p) z w (length prefix) (length_more prefix p) in
      let le : y ≤ w = omega arith in
      go le low.before (undo_beside z w other (inl (omega arith)))
    where
      go : y ≤ w → (j : ℕ) × (j + 1 ≡ k) × IsLeast c j prefix x
          → ((z < x) × IsOfLevel c (k - 1) (cut_at prefix (x - 1) y))
          ⊎ ((w < y) × IsOfLevel c (k - 1) (cut_at prefix x (y - 1))) → ⊥
      go le before (inr (h, less)) = omega arith
      go le (j, e, g) (inl (h, less)) =
          let same : k - 1 ≡ j = omega arith in
          let t : x ≤ x - 1 = g.least (x - 1) (
            y,
            subst (λ (n : ℕ). IsOfLevel c n (cut_at prefix (x - 1) y)) same
                less,
          ) in
          omega arith

-- the prefix of one event more
moved : (prefix old : List ℕ) (x y u v p : ℕ) → p < length old → cut_at prefix x y ≡ one_more (cut_at old u v) p
    → one_more old p ≡ prefix
moved prefix old x y u v p lt is = sym (same_cut prefix (one_more old p) x y u v (is ∙ more_prefix old u v p lt))

pub none_skipped : (c : Computation) → HasNoCycle c → (k : ℕ) (prefix : List ℕ) (x y : ℕ)
    → IsCandidate c k (cut_at prefix x y) → ¬ IsAlive c k prefix
none_skipped c acyclic k prefix x y (from_young old u v p young at lt met is) =
    subst (λ (xs : List ℕ). ¬ IsAlive c k xs) (moved prefix old x y u v p lt is)
    (not_young c acyclic k old u v p at lt young)
none_skipped c acyclic k prefix x y (from_top old u v p top at lt m is) =
    subst (λ (xs : List ℕ). ¬ IsAlive c k xs) (moved prefix old x y u v p lt is)
    (not_top c acyclic k old u v p at lt top m)
none_skipped c acyclic k prefix x y (from_low old u v p low lt m is) =
    subst (λ (xs : List ℕ). ¬ IsAlive c k xs) (moved prefix old x y u v p lt is)
    (not_low c acyclic k old u v p low.beside lt low m)

has_prefix_from : (cut : List ℕ) → 2 ≤ length cut → (prefix : List ℕ) × (x y : ℕ) × (cut ≡ cut_at prefix x y)
has_prefix_from [] h = absurd (omega arith)
has_prefix_from (x ∷ []) h = absurd (omega arith)
has_prefix_from (x ∷ y ∷ []) h = ([], x, y, refl)
has_prefix_from (x ∷ y ∷ z ∷ rest) h =
    let r : (prefix : List ℕ) × (u v : ℕ) × (y ∷ z ∷ rest ≡ cut_at prefix u v) =
    has_prefix_from (y ∷ z ∷ rest) (omega arith) in
    (x ∷ r.0, r.1, r.2, ap (λ (ys : List ℕ). x ∷ ys) r.3)

pub has_prefix : (c : Computation) (cut : List ℕ) → IsConsistent c cut → 2 ≤ length c → (prefix : List ℕ) × (x y : ℕ)
    × (cut ≡ cut_at prefix x y)
has_prefix c cut ok two =
    let l : length cut ≡ length c = ok.fits.one_each in has_prefix_from cut (omega arith)

pub first_is_young : (c : Computation) (prefix : List ℕ) (x y : ℕ) → IsOfLevel c 0 (cut_at prefix x y)
    → IsYoung c 0 prefix × (x ≡ 0) × (y ≡ 0)
first_is_young c prefix x y at = (
  record { alive = (x, (y, at)); before = λ j e alive. omega arith },
  omega (arith, at.1, sum_at prefix x y),
  omega (arith, at.1, sum_at prefix x y),
)

pub ends_of_interval : (c : Computation) (k s : ℕ) (prefix : List ℕ) (lo hi : ℕ) → sum prefix + s ≡ k → lo ≤ hi
    → IsInterval c prefix s lo hi → IsLeast c k prefix lo × IsOfLevel c k (cut_at prefix lo (s - lo))
    × IsGreatest c k prefix hi × IsOfLevel c k (cut_at prefix hi (s - hi))
ends_of_interval c k s prefix lo hi level le interval = (
  record { inside = (s - lo, at lo (omega arith) le); least = λ x i. (inside x i).0 },
  at lo (omega arith) le,
  record { inside = (s - hi, at hi le (omega arith)); most = λ x i. (inside x i).1 },
  at hi le (omega arith),
)
  where
    at : (x : ℕ) → lo ≤ x → x ≤ hi → IsOfLevel c k (cut_at prefix x (s - x))
    at x above below =
        let w : hi ≤ s = interval.within in
        ((interval.just x (s - x) (omega arith)).1 (above, below), omega (arith, sum_at prefix x (s - x)))

    inside : (x : ℕ) → IsInInterval c k prefix x → (lo ≤ x) × (x ≤ hi)
    inside x (y, (ok, l)) = (interval.just x y (omega (arith, sum_at prefix x y))).0 ok
