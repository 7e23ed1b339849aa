-- Births: each is single, is made by an event of the prefix, and is found at a young run or a flagged end.
use Rattle.std.proofs.Common.{◌≡◌, ℕ, suc, ◌+◌, ◌-◌, ◌<◌, ◌≤◌, List, length, get_or, sum, refl, sym, ap, ◌∙◌, subst, inl, inr, ◌⊎◌, arith}
use Rattle.std.proofs.lemmas.Bool.{cases_lt}
use Rattle.def_model.specs.Events.{Send, Receive, Computation, Place, place, IsEvent, event_count}
use Rattle.walk_keys.specs.Neighbors.{cut_at}
use Rattle.walk_runs.specs.Births.{HasOneSend}
use Rattle.def_model.specs.Messages.{IsMessage}
use Rattle.def_model.specs.Order.{HasNoCycle}
use Rattle.walk_runs.specs.Births.{IsWalkable}
use Rattle.def_model.specs.Cuts.{Includes, IsConsistent, IsOfLevel, one_more, one_less}
use Rattle.def_model.proofs.Chains.{event_from_kind, step_happens}
use Rattle.def_model.proofs.Consistency.{dec_consistent}
use Rattle.def_model.proofs.Counts.{length_more, length_less, more_same, more_other, less_more, more_less, sum_more}
use Rattle.def_model.proofs.Decisions.{dec_both, dec_less}
use Rattle.def_model.proofs.Steps.{can_undo}
use Rattle.walk_runs.specs.Births.{IsInInterval, IsAlive, IsYoung, IsTop, IsLow, IsMetAt, IsCandidate, from_young, from_top, from_low, next_of}
use Rattle.walk_runs.proofs.UndoneEvents.{add_met, kept_by_message, one_send}
use Rattle.walk_runs.proofs.Ends.{which, at_prefix, at_x, at_y, at_past, length_at, sum_at, less_x, less_y, less_prefix, more_prefix, undo_x, undo_y}

-- the process whose event makes a candidate
abbrev pub process_of : (c : Computation) (k : ℕ) (new : List ℕ) → IsCandidate c k new → ℕ
process_of c k new (from_young prefix x y p young at lt met is) = p
process_of c k new (from_top prefix x y p top at lt message is) = p
process_of c k new (from_low prefix x y p low lt message is) = p

pub same_prefix : (c : Computation) → HasNoCycle c → (k : ℕ) (prefix : List ℕ) (x y : ℕ) → IsAlive c k prefix
    → IsOfLevel c (k + 1) (cut_at prefix x y) → ((0 < x) × IsOfLevel c k (cut_at prefix (x - 1) y))
    ⊎ ((0 < y) × IsOfLevel c k (cut_at prefix x (y - 1)))
same_prefix c acyclic k prefix x y (z, (w, (ok_low, level_low))) (ok, level) =
    let s : sum (cut_at prefix x y) ≡ sum prefix + (x + y) = sum_at prefix x y in
    let t : sum (cut_at prefix z w) ≡ sum prefix + (z + w) = sum_at prefix z w in
    let e : x + y ≡ z + w + 1 = omega arith in
    go s e (cases_lt z x)
  where
    go : sum (cut_at prefix x y) ≡ sum prefix + (x + y) → x + y ≡ z + w + 1 → (z < x) ⊎ (x ≤ z)
        → ((0 < x) × IsOfLevel c k (cut_at prefix (x - 1) y)) ⊎ ((0 < y) × IsOfLevel c k (cut_at prefix x (y - 1)))
    go s e (inl lt) =
        let t : sum (cut_at prefix (x - 1) y) ≡ sum prefix + ((x - 1) + y) = sum_at prefix (x - 1) y in
        inl (omega arith, (undo_x c acyclic prefix x y z w ok ok_low lt (omega arith), omega arith))
    go s e (inr le) =
        let t : sum (cut_at prefix x (y - 1)) ≡ sum prefix + (x + (y - 1)) = sum_at prefix x (y - 1) in
        inr (omega arith, (undo_y c acyclic prefix x y z w ok ok_low le (omega arith), omega arith))

-- where the prefix isn't alive one level before, neither of the last two processes can be undone
dead_x : (c : Computation) (k : ℕ) (prefix : List ℕ) (x y : ℕ) → ¬ IsAlive c k prefix
    → IsOfLevel c (k + 1) (cut_at prefix x y) → 0 < x → ¬ IsConsistent c (cut_at prefix (x - 1) y)
dead_x c k prefix x y dead (ok, level) has less =
    let s : sum (cut_at prefix x y) ≡ sum prefix + (x + y) = sum_at prefix x y in
    let t : sum (cut_at prefix (x - 1) y) ≡ sum prefix + ((x - 1) + y) = sum_at prefix (x - 1) y in
    dead (x - 1, (y, (less, omega arith)))

dead_y : (c : Computation) (k : ℕ) (prefix : List ℕ) (x y : ℕ) → ¬ IsAlive c k prefix
    → IsOfLevel c (k + 1) (cut_at prefix x y) → 0 < y → ¬ IsConsistent c (cut_at prefix x (y - 1))
dead_y c k prefix x y dead (ok, level) has less =
    let s : sum (cut_at prefix x y) ≡ sum prefix + (x + y) = sum_at prefix x y in
    let t : sum (cut_at prefix x (y - 1)) ≡ sum prefix + (x + (y - 1)) = sum_at prefix x (y - 1) in
    dead (x, (y - 1, (less, omega arith)))

pub born_single : (c : Computation) → HasNoCycle c → (k : ℕ) (prefix : List ℕ) (x y z w : ℕ) → ¬ IsAlive c k prefix
    → IsOfLevel c (k + 1) (cut_at prefix x y) → IsOfLevel c (k + 1) (cut_at prefix z w) → (x ≡ z) × (y ≡ w)
born_single c acyclic k prefix x y z w dead at other =
    let s : sum (cut_at prefix x y) ≡ sum prefix + (x + y) = sum_at prefix x y in
    let t : sum (cut_at prefix z w) ≡ sum prefix + (z + w) = sum_at prefix z w in
    let l : sum (cut_at prefix x y) ≡ k + 1 = at.1 in
    let m : sum (cut_at prefix z w) ≡ k + 1 = other.1 in
    let e : x + y ≡ z + w = omega arith in
    go e (cases_lt x z) (cases_lt z x)
  where
    go : x + y ≡ z + w → (x < z) ⊎ (z ≤ x) → (z < x) ⊎ (x ≤ z) → (x ≡ z) × (y ≡ w)
    go e (inl lt) r = absurd (dead_y c k prefix x y dead at (omega arith)
        (undo_y c acyclic prefix x y z w at.0 other.0 (omega arith) (omega arith)))
    go e (inr ge) (inl lt) = absurd (dead_x c k prefix x y dead at (omega arith)
        (undo_x c acyclic prefix x y z w at.0 other.0 lt (omega arith)))
    go e (inr ge) (inr le) = (omega arith, omega arith)

pub born_by_prefix : (c : Computation) (k : ℕ) (prefix : List ℕ) (x y p : ℕ) → ¬ IsAlive c k prefix
    → IsOfLevel c (k + 1) (cut_at prefix x y) → 0 < get_or (cut_at prefix x y) p 0
    → IsConsistent c (one_less (cut_at prefix x y) p) → p < length prefix
born_by_prefix c k prefix x y p dead at has less = go (which (length prefix) p)
  where
    go : (p < length prefix) ⊎ ((p ≡ length prefix) ⊎ ((p ≡ suc (length prefix)) ⊎ (suc (length prefix) < p)))
        → p < length prefix
    go (inl lt) = lt
    go (inr (inl e)) =
        let v : get_or (cut_at prefix x y) p 0 ≡ x = at_x prefix x y p (sym e) in
        absurd (dead_x c k prefix x y dead at (omega arith) (subst (IsConsistent c) (less_x prefix x y p (sym e)) less))
    go (inr (inr (inl e))) =
        let a : get_or (cut_at prefix x y) p 0 ≡ get_or (cut_at prefix x y) (suc (length prefix)) 0 =
        ap (λ (q : ℕ). get_or (cut_at prefix x y) q 0) e in
        let v : get_or (cut_at prefix x y) (suc (length prefix)) 0 ≡ y = at_y prefix x y (length prefix) refl in
        let f : one_less (cut_at prefix x y) p ≡ cut_at prefix x (y - 1) =
        ap (λ (q : ℕ). one_less (cut_at prefix x y) q) e ∙ less_y prefix x y (length prefix) refl in
        absurd (dead_y c k prefix x y dead at (omega arith) (subst (IsConsistent c) f less))
    go (inr (inr (inr lt))) = let v : get_or (cut_at prefix x y) p 0 ≡ 0 = at_past prefix x y p lt in
        absurd (omega arith)

-- From here on, a cut that has the event of process p of the prefix beside the cut (prefix, x, y) of level k, where its
-- own prefix isn't alive at level k.
module _ (c : Computation) (well : IsWalkable c) (k : ℕ) (prefix : List ℕ) (x y p : ℕ) (lt : p < length prefix)
    (ok : IsConsistent c (cut_at prefix x y)) (new : IsOfLevel c (k + 1) (cut_at (one_more prefix p) x y))
    (dead : ¬ IsAlive c k (one_more prefix p)) where
  new_is : one_more (cut_at prefix x y) p ≡ cut_at (one_more prefix p) x y
  new_is = more_prefix prefix x y p lt

  same_length : length (one_more prefix p) ≡ length prefix
  same_length = length_more prefix p

  level : sum (cut_at prefix x y) ≡ k
  level =
      let l : length (cut_at prefix x y) ≡ length prefix + 2 = length_at prefix x y in
      let a : sum (one_more (cut_at prefix x y) p) ≡ sum (cut_at prefix x y) + 1 =
      sum_more (cut_at prefix x y) p (omega arith) in
      let b : sum (one_more (cut_at prefix x y) p) ≡ k + 1 = ap sum new_is ∙ new.1 in
      omega arith

  -- what event p's next one is
  next_is : get_or (cut_at (one_more prefix p) x y) p 0 ≡ get_or (cut_at prefix x y) p 0 + 1
  next_is =
      let l : length (one_more prefix p) ≡ length prefix = same_length in
      let a : get_or (cut_at (one_more prefix p) x y) p 0 ≡ get_or (one_more prefix p) p 0 =
      at_prefix (one_more prefix p) x y p (omega arith) in
      let b : get_or (one_more prefix p) p 0 ≡ get_or prefix p 0 + 1 = more_same prefix p lt in
      let d : get_or (cut_at prefix x y) p 0 ≡ get_or prefix p 0 = at_prefix prefix x y p lt in
      omega arith

  back : one_less (cut_at (one_more prefix p) x y) p ≡ cut_at prefix x y
  back =
      let l : length (one_more prefix p) ≡ length prefix = same_length in
      less_prefix (one_more prefix p) x y p (omega arith) ∙ ap (λ (xs : List ℕ). cut_at xs x y) (less_more prefix p lt)

  -- where the last process but one can be undone, p's event receives what its last one sends
  kept_x : 0 < x → IsConsistent c (cut_at prefix (x - 1) y)
      → IsMessage c (place (length prefix) x) (next_of (cut_at prefix x y) p)
  kept_x has less =
      let a : get_or (cut_at (one_more prefix p) x y) (length prefix) 0 ≡ x =
      at_x (one_more prefix p) x y (length prefix) same_length in
      let n : get_or (cut_at (one_more prefix p) x y) p 0 ≡ get_or (cut_at prefix x y) p 0 + 1 = next_is in
      let e : one_less (one_less (cut_at (one_more prefix p) x y) p) (length prefix) ≡ cut_at prefix (x - 1) y =
      ap (λ (xs : List ℕ). one_less xs (length prefix)) back ∙ less_x prefix x y (length prefix) refl in
      let f : one_less (cut_at (one_more prefix p) x y) (length prefix) ≡ cut_at (one_more prefix p) (x - 1) y =
      less_x (one_more prefix p) x y (length prefix) same_length in
      let m : IsMessage c (place (length prefix) (get_or (cut_at (one_more prefix p) x y) (length prefix) 0))
      (place p (get_or (cut_at (one_more prefix p) x y) p 0)) =
      kept_by_message c (cut_at (one_more prefix p) x y) p (length prefix) (λ same. omega arith) new.0 (omega arith)
      (omega arith) (subst (IsConsistent c) (sym e) less) (λ w.
      dead_x c k (one_more prefix p) x y dead new has (subst (IsConsistent c) f w)) in
      subst (λ (d : Place). IsMessage c d (next_of (cut_at prefix x y) p)) (ap (place (length prefix)) a)
      (subst (λ (r : Place). IsMessage c (place (length prefix)
      (get_or (cut_at (one_more prefix p) x y) (length prefix) 0)) r) (ap (place p) n) m)

  kept_y : 0 < y → IsConsistent c (cut_at prefix x (y - 1))
      → IsMessage c (place (suc (length prefix)) y) (next_of (cut_at prefix x y) p)
  kept_y has less =
      let a : get_or (cut_at (one_more prefix p) x y) (suc (length prefix)) 0 ≡ y =
      at_y (one_more prefix p) x y (length prefix) same_length in
      let n : get_or (cut_at (one_more prefix p) x y) p 0 ≡ get_or (cut_at prefix x y) p 0 + 1 = next_is in
      let e : one_less (one_less (cut_at (one_more prefix p) x y) p) (suc (length prefix)) ≡ cut_at prefix x (y - 1) =
      ap (λ (xs : List ℕ). one_less xs (suc (length prefix))) back ∙ less_y prefix x y (length prefix) refl in
      let f : one_less (cut_at (one_more prefix p) x y) (suc (length prefix)) ≡ cut_at (one_more prefix p) x (y - 1) =
      less_y (one_more prefix p) x y (length prefix) same_length in
      let m : IsMessage c (place (suc (length prefix))
      (get_or (cut_at (one_more prefix p) x y) (suc (length prefix)) 0))
      (place p (get_or (cut_at (one_more prefix p) x y) p 0)) =
      kept_by_message c (cut_at (one_more prefix p) x y) p (suc (length prefix)) (λ same. omega arith) new.0
      (omega arith) (omega arith) (subst (IsConsistent c) (sym e) less) (λ w.
      dead_y c k (one_more prefix p) x y dead new has (subst (IsConsistent c) f w)) in
      subst (λ (d : Place). IsMessage c d (next_of (cut_at prefix x y) p)) (ap (place (suc (length prefix))) a)
      (subst (λ (r : Place). IsMessage c (place (suc (length prefix))
      (get_or (cut_at (one_more prefix p) x y) (suc (length prefix)) 0)) r) (ap (place p) n) m)

  -- not both
  not_both : (0 < x) × IsConsistent c (cut_at prefix (x - 1) y) → (0 < y) × IsConsistent c (cut_at prefix x (y - 1)) → ⊥
  not_both (has_x, less_x) (has_y, less_y) =
      one_send c well.one_send (place (length prefix) x) (place (suc (length prefix)) y) (next_of (cut_at prefix x y) p)
      (kept_x has_x less_x) (kept_y has_y less_y) (inl (omega arith))

  top : (0 < x) × IsConsistent c (cut_at prefix (x - 1) y) → IsTop c k prefix x
  top (has, less) =
      let s : sum (cut_at prefix x y) ≡ sum prefix + (x + y) = sum_at prefix x y in
      let t : sum (cut_at prefix (x - 1) y) ≡ sum prefix + ((x - 1) + y) = sum_at prefix (x - 1) y in
      let l : sum (cut_at prefix x y) ≡ k = level in
      record {
        greatest = record { inside = (y, (ok, level)); most = most s };
        before = (
          k - 1,
          x - 1,
          omega arith,
          omega arith,
          record {
            inside = (y, (less, omega arith));
            most =
                most_before s;
          },
        );
        sends = (p, get_or (cut_at prefix x y) p 0 + 1, lt, kept_x has less);
      }
    where
      -- no cut of the prefix has as many events there and fewer of the last process
      none : (z w : ℕ) → x ≤ z → w < y → ¬ IsConsistent c (cut_at prefix z w)
      none z w le fewer other = not_both (has, less) (
        omega arith,
        undo_y c well.no_cycle prefix x y z w ok other le fewer,
      )

      most : sum (cut_at prefix x y) ≡ sum prefix + (x + y) → (z : ℕ) → IsInInterval c k prefix z → z ≤ x
      most s z (w, (other, at)) = go (cases_lt x z)
        where
          go : (x < z) ⊎ (z ≤ x) → z ≤ x
          go (inr le) = le
          go (inl more) =
              let t : sum (cut_at prefix z w) ≡ sum prefix + (z + w) = sum_at prefix z w in
              let l : sum (cut_at prefix x y) ≡ k = level in
              absurd (none z w (omega arith) (omega arith) other)

      most_before : sum (cut_at prefix x y) ≡ sum prefix + (x + y) → (z : ℕ) → IsInInterval c (k - 1) prefix z
          → z ≤ x - 1
      most_before s z (w, (other, at)) = go (cases_lt z x)
        where
          go : (z < x) ⊎ (x ≤ z) → z ≤ x - 1
          go (inl fewer) = omega arith
          go (inr le) =
              let t : sum (cut_at prefix z w) ≡ sum prefix + (z + w) = sum_at prefix z w in
              let l : sum (cut_at prefix x y) ≡ k = level in
              absurd (none z w le (omega arith) other)

  low : (0 < y) × IsConsistent c (cut_at prefix x (y - 1)) → IsLow c k prefix x y
  low (has, less) =
      let s : sum (cut_at prefix x y) ≡ sum prefix + (x + y) = sum_at prefix x y in
      let t : sum (cut_at prefix x (y - 1)) ≡ sum prefix + (x + (y - 1)) = sum_at prefix x (y - 1) in
      let l : sum (cut_at prefix x y) ≡ k = level in
      record {
        beside = (ok, level);
        least = record { inside = (y, (ok, level)); least = least s };
        before = (k - 1, omega arith, record { inside = (y - 1, (less, omega arith)); least = least_before s });
        sends = (p, get_or (cut_at prefix x y) p 0 + 1, lt, kept_y has less);
      }
    where
      -- no cut of the prefix has fewer events there and as many of the last process
      none : (z w : ℕ) → z < x → y ≤ w → ¬ IsConsistent c (cut_at prefix z w)
      none z w fewer le other = not_both (omega arith, undo_x c well.no_cycle prefix x y z w ok other fewer le) (
        has,
        less,
      )

      least : sum (cut_at prefix x y) ≡ sum prefix + (x + y) → (z : ℕ) → IsInInterval c k prefix z → x ≤ z
      least s z (w, (other, at)) = go (cases_lt z x)
        where
          go : (z < x) ⊎ (x ≤ z) → x ≤ z
          go (inr le) = le
          go (inl fewer) =
              let t : sum (cut_at prefix z w) ≡ sum prefix + (z + w) = sum_at prefix z w in
              let l : sum (cut_at prefix x y) ≡ k = level in
              absurd (none z w fewer (omega arith) other)

      least_before : sum (cut_at prefix x y) ≡ sum prefix + (x + y) → (z : ℕ) → IsInInterval c (k - 1) prefix z → x ≤ z
      least_before s z (w, (other, at)) = go (cases_lt z x)
        where
          go : (z < x) ⊎ (x ≤ z) → x ≤ z
          go (inr le) = le
          go (inl fewer) =
              let t : sum (cut_at prefix z w) ≡ sum prefix + (z + w) = sum_at prefix z w in
              let l : sum (cut_at prefix x y) ≡ k = level in
              absurd (none z w fewer (omega arith) other)

  young : ¬ ((0 < x) × IsConsistent c (cut_at prefix (x - 1) y))
      → ¬ ((0 < y) × IsConsistent c (cut_at prefix x (y - 1))) → IsYoung c k prefix
  young not_x not_y =
      record {
        alive = (x, (y, (ok, level)));
        before =
            λ j e alive. clash (same_prefix c well.no_cycle j prefix x y alive (ok, level ∙ sym e));
      }
    where
      clash : {j : ℕ} → ((0 < x) × IsOfLevel c j (cut_at prefix (x - 1) y))
          ⊎ ((0 < y) × IsOfLevel c j (cut_at prefix x (y - 1))) → ⊥
      clash (inl (has, less)) = not_x (has, less.0)
      clash (inr (has, less)) = not_y (has, less.0)

  -- p's event may happen
  met : IsMetAt c (cut_at prefix x y) (next_of (cut_at prefix x y) p)
  met = (is, sends)
    where
      is : IsEvent c (next_of (cut_at prefix x y) p)
      is =
          let n : get_or (cut_at (one_more prefix p) x y) p 0 ≡ get_or (cut_at prefix x y) p 0 + 1 = next_is in
          let w : get_or (cut_at (one_more prefix p) x y) p 0 ≤ event_count c p = new.0.fits.within p in
          (omega arith, omega arith)

      sends : (send : Place) → IsMessage c send (next_of (cut_at prefix x y) p) → Includes (cut_at prefix x y) send
      sends send m =
          let n : get_or (cut_at (one_more prefix p) x y) p 0 ≡ get_or (cut_at prefix x y) p 0 + 1 = next_is in
          let i : Includes (cut_at (one_more prefix p) x y) send =
          new.0.closed send (next_of (cut_at prefix x y) p)
          (step_happens c send (next_of (cut_at prefix x y) p) (inr m)) (omega arith, omega arith) in
          let a : send.number ≤ get_or (cut_at (one_more prefix p) x y) send.process 0 = i.1 in
          let b : get_or (cut_at (one_more prefix p) x y) send.process 0 ≡ get_or (cut_at prefix x y) send.process 0 =
          ap (λ (xs : List ℕ). get_or xs send.process 0) (sym new_is)
          ∙ more_other (cut_at prefix x y) p send.process m.3 in
          (i.0, omega arith)

  candidate : (new : IsCandidate c k (cut_at (one_more prefix p) x y))
      × (process_of c k (cut_at (one_more prefix p) x y) new ≡ p)
  candidate =
      go (dec_both (dec_less 0 x) (dec_consistent c (cut_at prefix (x - 1) y)))
      (dec_both (dec_less 0 y) (dec_consistent c (cut_at prefix x (y - 1))))
    where
      go : Dec ((0 < x) × IsConsistent c (cut_at prefix (x - 1) y))
          → Dec ((0 < y) × IsConsistent c (cut_at prefix x (y - 1)))
          → (new : IsCandidate c k (cut_at (one_more prefix p) x y))
          × (process_of c k (cut_at (one_more prefix p) x y) new ≡ p)
      go (yes u) d = (from_top prefix x y p (top u) (ok, level) lt (kept_x u.0 u.1) (sym new_is), refl)
      go (no h) (yes u) = (from_low prefix x y p (low u) lt (kept_y u.0 u.1) (sym new_is), refl)
      go (no g) (no h) = (from_young prefix x y p (young g h) (ok, level) lt met (sym new_is), refl)

-- it is one by each process whose last event can be undone
pub candidate_by : (c : Computation) → IsWalkable c → (k : ℕ) (prefix : List ℕ) (x y p : ℕ) → ¬ IsAlive c k prefix
    → IsOfLevel c (k + 1) (cut_at prefix x y) → 0 < get_or (cut_at prefix x y) p 0
    → IsConsistent c (one_less (cut_at prefix x y) p)
    → (new : IsCandidate c k (cut_at prefix x y)) × (process_of c k (cut_at prefix x y) new ≡ p)
candidate_by c well k prefix x y p dead at has less =
    let lt : p < length prefix = born_by_prefix c k prefix x y p dead at has less in
    let n : get_or (cut_at prefix x y) p 0 ≡ get_or prefix p 0 = at_prefix prefix x y p lt in
    let e : one_more (one_less prefix p) p ≡ prefix = more_less prefix p (omega arith) in
    let l : length (one_less prefix p) ≡ length prefix = length_less prefix p in
    subst (λ (xs : List ℕ). (new : IsCandidate c k (cut_at xs x y)) × (process_of c k (cut_at xs x y) new ≡ p)) e
    (candidate c well k (one_less prefix p) x y p (omega arith)
    (subst (IsConsistent c) (less_prefix prefix x y p lt) less)
    (subst (λ (xs : List ℕ). IsOfLevel c (k + 1) (cut_at xs x y)) (sym e) at)
    (subst (λ (xs : List ℕ). ¬ IsAlive c k xs) (sym e) dead))

pub no_birth_missed : (c : Computation) → IsWalkable c → (k : ℕ) (prefix : List ℕ) (x y : ℕ) → ¬ IsAlive c k prefix
    → IsOfLevel c (k + 1) (cut_at prefix x y) → IsCandidate c k (cut_at prefix x y)
no_birth_missed c well k prefix x y dead at =
    let l : sum (cut_at prefix x y) ≡ k + 1 = at.1 in
    go (can_undo c well.no_cycle (cut_at prefix x y) at.0 (omega arith))
  where
    go : (p : ℕ) × (0 < get_or (cut_at prefix x y) p 0) × IsConsistent c (one_less (cut_at prefix x y) p)
        → IsCandidate c k (cut_at prefix x y)
    go (p, has, less) = (candidate_by c well k prefix x y p dead at has less).0

-- an event whose send is the last event of its process in the cut has its need met there
pub met_by_last : (c : Computation) → HasOneSend c → (cut : List ℕ) (q n : ℕ) (e : Place) → get_or cut q 0 ≡ n
    → IsMessage c (place q n) e → IsMetAt c cut e
met_by_last c single cut q n e at m = (
  event_from_kind c e (Receive m.0) m.2,
  λ send other.
      subst (Includes cut) (single (place q n) send e m other) (there.0, omega arith),
)
  where
    there : IsEvent c (place q n)
    there = event_from_kind c (place q n) (Send m.0) m.1

add_next : (c : Computation) (k : ℕ) (prefix : List ℕ) (x y p : ℕ) (new : List ℕ) → IsOfLevel c k (cut_at prefix x y)
    → p < length prefix → IsMetAt c (cut_at prefix x y) (next_of (cut_at prefix x y) p)
    → new ≡ one_more (cut_at prefix x y) p → IsOfLevel c (k + 1) new
add_next c k prefix x y p new (ok, level) lt met is =
    let l : length (cut_at prefix x y) ≡ length prefix + 2 = length_at prefix x y in
    let there : p < length (cut_at prefix x y) = omega arith in
    let s : sum (one_more (cut_at prefix x y) p) ≡ sum (cut_at prefix x y) + 1 = sum_more (cut_at prefix x y) p there in
    subst (IsOfLevel c (k + 1)) (sym is) (add_met c (cut_at prefix x y) p ok there met.0 met.1, omega arith)

pub candidates_are_cuts : (c : Computation) → IsWalkable c → (k : ℕ) (new : List ℕ) → IsCandidate c k new
    → IsOfLevel c (k + 1) new
candidates_are_cuts c well k new (from_young prefix x y p young at lt met is) =
    add_next c k prefix x y p new at lt met is
candidates_are_cuts c well k new (from_top prefix x y p top at lt m is) =
    add_next c k prefix x y p new at lt (met_by_last c well.one_send (cut_at prefix x y) (length prefix) x
    (next_of (cut_at prefix x y) p) (at_x prefix x y (length prefix) refl) m) is
candidates_are_cuts c well k new (from_low prefix x y p low lt m is) =
    add_next c k prefix x y p new low.beside lt (met_by_last c well.one_send (cut_at prefix x y) (suc (length prefix)) y
    (next_of (cut_at prefix x y) p) (at_y prefix x y (length prefix) refl) m) is
