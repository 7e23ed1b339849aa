-- Which cuts avoid: one event can be undone in them, and all of them avoid while none satisfies.
use Rattle.std.proofs.Common.{◌≡◌, ℕ, zero, suc, ◌+◌, ◌<◌, Bool, false, List, length, get_or, sum, sym, subst, ◌↔◌, arith, add-one}
use Rattle.def_model.specs.Answers.{LeavesAvoiding}
use Rattle.def_model.specs.Events.{Computation}
use Rattle.def_model.specs.Order.{HasNoCycle}
use Rattle.def_model.specs.Cuts.{IsConsistent, IsOfLevel, AddsEvent, one_less}
use Rattle.def_model.specs.Observations.{IsAvoiding}
use Rattle.def_model.specs.Walks.{NoneBelow}
use Rattle.def_model.proofs.Counts.{step_back, step_from_less, sum_less, empty_from_sum}
use Rattle.def_model.proofs.Walks.{reached_from_avoiding, reached_fails, avoiding_from_reached}
use Rattle.def_model.proofs.Paths.{next_level_of, next_avoiding, avoiding_level}

-- an avoiding cut doesn't satisfy
pub avoiding_fails : (c : Computation) (test : List ℕ → Bool) (k : ℕ) (cut : List ℕ) → IsAvoiding c test k cut
    → test cut ≡ false
avoiding_fails c test k cut a = reached_fails c test k cut (reached_from_avoiding c test k cut a)

module _ (c : Computation) (acyclic : HasNoCycle c) (test : List ℕ → Bool) where
  -- where none below satisfies, what doesn't satisfy avoids
  pub all_reached : (k : ℕ) → NoneBelow c test k → (cut : List ℕ) → IsOfLevel c k cut → test cut ≡ false
      → IsAvoiding c test k cut
  all_reached zero none cut (ok, s) fails =
      avoiding_from_reached c test 0 cut (ok, fails, empty_from_sum c cut ok.fits.one_each s)
  all_reached (suc k) none cut level fails =
      let u : (old : List ℕ) × IsOfLevel c k old × AddsEvent old cut =
      next_level_of c acyclic k cut (subst (λ (n : ℕ). IsOfLevel c n cut) (sym (add-one k)) level) in
      let below : IsAvoiding c test k u.0 = all_reached k (λ j other lt at. none j other (omega arith) at) u.0 u.1
      (none k u.0 (omega arith) u.1) in
      subst (λ (n : ℕ). IsAvoiding c test n cut) (add-one k)
      ((next_avoiding c test k cut).1 (level.0, fails, (u.0, below, u.2)))

  pub avoid_at_first_hit : (k : ℕ) → NoneBelow c test k → (cut : List ℕ) → IsAvoiding c test k cut
      ↔ (IsOfLevel c k cut × (test cut ≡ false))
  avoid_at_first_hit k none cut =
      (λ a. (avoiding_level c test k cut a, avoiding_fails c test k cut a), λ w. all_reached k none cut w.0 w.1)

  pub all_avoid : (k : ℕ) → NoneBelow c test (k + 1) → (cut : List ℕ) → IsAvoiding c test k cut ↔ IsOfLevel c k cut
  all_avoid k none cut = (
    avoiding_level c test k cut,
    λ level. all_reached k (λ j other lt at. none j other (omega arith) at) cut level
        (none k cut (omega arith) level),
  )

pub avoid_by_undoing : (c : Computation) (test : List ℕ → Bool) (k : ℕ) (cut : List ℕ) → IsAvoiding c test (k + 1) cut
    ↔ (IsOfLevel c (k + 1) cut × (test cut ≡ false)
    × ((p : ℕ) × (p < length cut) × (0 < get_or cut p 0) × IsAvoiding c test k (one_less cut p)))
avoid_by_undoing c test k cut = (to, from)
  where
    to : IsAvoiding c test (k + 1) cut → IsOfLevel c (k + 1) cut × (test cut ≡ false)
        × ((p : ℕ) × (p < length cut) × (0 < get_or cut p 0) × IsAvoiding c test k (one_less cut p))
    to a =
        let w : IsConsistent c cut × (test cut ≡ false)
        × ((old : List ℕ) × IsAvoiding c test k old × AddsEvent old cut) = (next_avoiding c test k cut).0 a in
        let b : (p : ℕ) × (p < length cut) × (0 < get_or cut p 0) × (w.2.0 ≡ one_less cut p) =
        step_back w.2.0 cut w.2.2 in (
          avoiding_level c test (k + 1) cut a,
          w.1,
          (
            b.0,
            b.1,
            b.2,
            subst (λ (x : List ℕ). IsAvoiding c test k x) b.3 w.2.1,
          ),
        )

    from : IsOfLevel c (k + 1) cut × (test cut ≡ false)
        × ((p : ℕ) × (p < length cut) × (0 < get_or cut p 0) × IsAvoiding c test k (one_less cut p))
        → IsAvoiding c test (k + 1) cut
    from (level, fails, (p, lt, has, below)) =
        (next_avoiding c test k cut).1 (level.0, fails, (one_less cut p, below, step_from_less cut p has))

-- a cut that doesn't satisfy avoids if some event can be undone so that an avoiding cut is left
pub avoiding_more : (c : Computation) (test : List ℕ → Bool) (cut : List ℕ) (p : ℕ) → IsConsistent c cut
    → test cut ≡ false → LeavesAvoiding c test cut p → IsAvoiding c test (sum cut) cut
avoiding_more c test cut p ok fails (has, below) =
    let s : sum (one_less cut p) + 1 ≡ sum cut = sum_less cut p has in
    subst (λ (n : ℕ). IsAvoiding c test n cut) s
    ((next_avoiding c test (sum (one_less cut p)) cut).1 (ok, fails, (one_less cut p, below, step_from_less cut p has)))
