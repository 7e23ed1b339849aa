-- The interval of a prefix: it is there where the prefix is alive, it is one, and where it begins.
use Rattle.std.proofs.Common.{◌≡◌, ℕ, suc, ◌+◌, ◌-◌, ◌<◌, ◌≤◌, Bool, true, cond, List, length, sum, sym, ap, ◌∙◌, subst, inl, inr, ◌⊎◌, ◌↔◌, arith}
use Rattle.std.proofs.lemmas.Bool.{cases_lt}
use Rattle.def_model.specs.Events.{Computation}
use Rattle.def_model.specs.Order.{HasNoCycle}
use Rattle.def_model.specs.Cuts.{IsConsistent, IsOfLevel, one_more, empty_cut}
use Rattle.def_model.proofs.Decisions.{dec_both, dec_less, least_from}
use Rattle.def_model.proofs.Consistency.{dec_consistent}
use Rattle.def_model.proofs.Steps.{empty_consistent}
use Rattle.walk_keys.specs.Neighbors.{cut_at}
use Rattle.walk_runs.specs.Runs.{IsAliveAtSum, IsInterval}
use Rattle.walk_runs.proofs.RunCuts.{length_cut, sum_cut, more_x, more_y}
use Rattle.walk_runs.proofs.Neighbors.{moved, no_gap}
use Rattle.walk_runs.proofs.EndPoints.{end_points}

-- a prefix is alive exactly where its interval isn't empty
pub alive_exactly : (c : Computation) (prefix : List ℕ) (s lo hi : ℕ) → IsInterval c prefix s lo hi
    → IsAliveAtSum c prefix s ↔ (lo ≤ hi)
alive_exactly c prefix s lo hi interval = (to, from)
  where
    to : IsAliveAtSum c prefix s → lo ≤ hi
    to (x, y, e, ok) = let w : (lo ≤ x) × (x ≤ hi) = (interval.just x y e).0 ok in omega arith

    from : lo ≤ hi → IsAliveAtSum c prefix s
    from some =
        let within : hi ≤ s = interval.within in
        (lo, s - lo, omega arith, (interval.just lo (s - lo) (omega arith)).1 (omega arith, some))

-- an interval that isn't empty has one pair of end points
pub one_interval : (c : Computation) (prefix : List ℕ) (s lo hi low high : ℕ) → IsInterval c prefix s lo hi
    → IsInterval c prefix s low high → lo ≤ hi → (lo ≡ low) × (hi ≡ high)
one_interval c prefix s lo hi low high first second some =
    let i : hi ≤ s = first.within in
    let j : high ≤ s = second.within in
    let at_lo : (low ≤ lo) × (lo ≤ high) = (second.just lo (s - lo) (omega arith)).0
    ((first.just lo (s - lo) (omega arith)).1 (omega arith, some)) in
    let at_hi : (low ≤ hi) × (hi ≤ high) = (second.just hi (s - hi) (omega arith)).0
    ((first.just hi (s - hi) (omega arith)).1 (some, omega arith)) in
    let at_low : (lo ≤ low) × (low ≤ hi) = (first.just low (s - low) (omega arith)).0
    ((second.just low (s - low) (omega arith)).1 (omega arith, omega arith)) in
    let at_high : (lo ≤ high) × (high ≤ hi) = (first.just high (s - high) (omega arith)).0
    ((second.just high (s - high) (omega arith)).1 (omega arith, omega arith)) in
    (omega arith, omega arith)

-- where the prefix is alive there is one
pub some_interval : (c : Computation) → HasNoCycle c → (prefix : List ℕ) (s : ℕ) → IsAliveAtSum c prefix s
    → (lo : ℕ) × (hi : ℕ) × (lo ≤ hi) × IsInterval c prefix s lo hi
some_interval c acyclic prefix s (x, y, e, ok) =
    go (least_from (λ n. (n < s + 1) × IsConsistent c (cut_at prefix n (s - n))) (λ n.
    dec_both (dec_less n (s + 1)) (dec_consistent c (cut_at prefix n (s - n)))) x (
      omega arith,
      moved c prefix x y x (s - x) (omega arith) (omega arith) ok,
    ))
    (least_from (λ n. (n < s + 1) × IsConsistent c (cut_at prefix (s - n) n)) (λ n.
    dec_both (dec_less n (s + 1)) (dec_consistent c (cut_at prefix (s - n) n))) y (
      omega arith,
      moved c prefix x y (s - y) y (omega arith) (omega arith) ok,
    ))
  where
    go : (lo : ℕ) × ((lo < s + 1) × IsConsistent c (cut_at prefix lo (s - lo)))
        × ((n : ℕ) → n < lo → ¬ ((n < s + 1) × IsConsistent c (cut_at prefix n (s - n))))
        → (top : ℕ) × ((top < s + 1) × IsConsistent c (cut_at prefix (s - top) top))
        × ((n : ℕ) → n < top → ¬ ((n < s + 1) × IsConsistent c (cut_at prefix (s - n) n)))
        → (lo : ℕ) × (hi : ℕ) × (lo ≤ hi) × IsInterval c prefix s lo hi
    go (lo, (lo_in, lo_ok), lo_least) (top, (top_in, top_ok), top_least) = (
      lo,
      s - top,
      lo_low (s - top) top (omega arith) top_ok,
      record {
        within = omega arith;
        just =
            λ u v f. (to u v f, from u v f);
      },
    )
      where
        lo_low : (u v : ℕ) → u + v ≡ s → IsConsistent c (cut_at prefix u v) → lo ≤ u
        lo_low u v f ok' = pick (cases_lt u lo)
          where
            pick : (u < lo) ⊎ (lo ≤ u) → lo ≤ u
            pick (inr le) = le
            pick (inl lt) = absurd (lo_least u lt (
              omega arith,
              moved c prefix u v u (s - u) (omega arith) (omega arith) ok',
            ))

        top_low : (u v : ℕ) → u + v ≡ s → IsConsistent c (cut_at prefix u v) → top ≤ v
        top_low u v f ok' = pick (cases_lt v top)
          where
            pick : (v < top) ⊎ (top ≤ v) → top ≤ v
            pick (inr le) = le
            pick (inl lt) = absurd (top_least v lt (
              omega arith,
              moved c prefix u v (s - v) v (omega arith) (omega arith) ok',
            ))

        to : (u v : ℕ) → u + v ≡ s → IsConsistent c (cut_at prefix u v) → (lo ≤ u) × (u ≤ s - top)
        to u v f ok' = let t : top ≤ v = top_low u v f ok' in (lo_low u v f ok', omega arith)

        from : (u v : ℕ) → u + v ≡ s → (lo ≤ u) × (u ≤ s - top) → IsConsistent c (cut_at prefix u v)
        from u v f (low, high) =
            no_gap c acyclic prefix s lo (s - lo) (s - top) u v top (omega arith) (omega arith) f low high lo_ok top_ok

-- the first level: the empty cut alone
pub first_interval : (c : Computation) (prefix : List ℕ) → cut_at prefix 0 0 ≡ empty_cut c → IsInterval c prefix 0 0 0
first_interval c prefix e =
    record {
      within = omega arith;
      just = λ x y f. (
        λ ok. (omega arith, omega arith),
        λ w.
            moved c prefix 0 0 x y (omega arith) (omega arith) (subst (IsConsistent c) (sym e) (empty_consistent c)),
      );
    }

-- the same as `end_points`, by the tests whether one more event of the last process, or of the last but one, leaves a
-- cut
pub end_points_by_steps : (c : Computation) → HasNoCycle c → (prefix : List ℕ) (s lo hi : ℕ)
    → IsInterval c prefix s lo hi → lo ≤ hi → (p q : ℕ) → length c ≡ p + 2 → length c ≡ q + 1 → (a b : Bool)
    → (a ≡ true) ↔ IsConsistent c (one_more (cut_at prefix lo (s - lo)) q)
    → (b ≡ true) ↔ IsConsistent c (one_more (cut_at prefix hi (s - hi)) p)
    → IsInterval c prefix (s + 1) (cond a lo (lo + 1)) (cond b (hi + 1) hi)
end_points_by_steps c acyclic prefix s lo hi interval some p q is_p is_q a b is_a is_b =
    end_points c acyclic prefix s lo hi interval some a b
    (subst (λ (cut : List ℕ). (a ≡ true) ↔ IsConsistent c cut) (ap (one_more (cut_at prefix lo (s - lo))) at_y
    ∙ more_y prefix lo (s - lo)) is_a) (subst (λ (cut : List ℕ). (b ≡ true)
    ↔ IsConsistent c cut) (ap (one_more (cut_at prefix hi (s - hi))) at_x ∙ more_x prefix hi (s - hi)) is_b)
  where
    size : length prefix + 2 ≡ length c
    size = let w : IsAliveAtSum c prefix s = (alive_exactly c prefix s lo hi interval).1 some in
        sym (length_cut prefix w.0 w.1) ∙ w.3.fits.one_each

    at_x : p ≡ length prefix
    at_x = let l : length prefix + 2 ≡ length c = size in omega arith

    at_y : q ≡ suc (length prefix)
    at_y = let l : length prefix + 2 ≡ length c = size in omega arith

-- the level of a cut of the prefix
pub level_of_cut : (c : Computation) (prefix : List ℕ) (s x y : ℕ) → IsOfLevel c (sum prefix + s) (cut_at prefix x y)
    ↔ (IsConsistent c (cut_at prefix x y) × (x + y ≡ s))
level_of_cut c prefix s x y = (
  λ w. (
    w.0,
    let e : sum (cut_at prefix x y) ≡ sum prefix + s = w.1 in
        let t : sum (cut_at prefix x y) ≡ sum prefix + (x + y) = sum_cut prefix x y in omega arith,
  ),
  λ w. (
    w.0,
    let e : x + y ≡ s = w.1 in let t : sum (cut_at prefix x y) ≡ sum prefix + (x + y) = sum_cut prefix x y in
        omega arith,
  ),
)
