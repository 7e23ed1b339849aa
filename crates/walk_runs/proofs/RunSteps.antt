-- A run one level on, as it is kept.
use Rattle.std.proofs.Common.{◌≡◌, ℕ, suc, ◌+◌, ◌-◌, ◌<◌, ◌≤◌, Bool, true, false, cond, List, length, refl, sym, ap, ◌∙◌, subst, ◌↔◌, arith}
use Rattle.walk_keys.specs.Keys.{digits}
use Rattle.walk_keys.proofs.Keys.{length-digits}
use Rattle.def_model.specs.Events.{Computation, event_count, place}
use Rattle.def_model.specs.Cuts.{IsConsistent, one_more}
use Rattle.walk_keys.specs.Neighbors.{cut_at}
use Rattle.walk_runs.specs.Births.{IsReceivedBelow}
use Rattle.walk_runs.specs.WholeLevels.{Run, rest_at, IsRunOf, IsMovedTo}
use Rattle.walk_runs.specs.KeptRuns.{run_view, level_of, IsMoved}
use Rattle.walk_runs.specs.Kept.{KeyedRun}
use Rattle.walk_runs.proofs.RunCuts.{x_at, y_at, more_x, more_y}
use Rattle.walk_runs.proofs.RunFlags.{Ends, ends_of_run}

pub rest_is : (n : ℕ) (run : KeyedRun) → rest_at (level_of n run) (run_view n run) ≡ run.rest
rest_is n run = omega arith

-- the counts of a consistent cut by its prefix are those of events
pub last_counts : (c : Computation) → 2 ≤ length c → (key x y : ℕ)
    → IsConsistent c (cut_at (digits (length c - 2) key) x y)
    → (x ≤ event_count c (length c - 2)) × (y ≤ event_count c (length c - 1))
last_counts c two key x y ok =
    let prefix : List ℕ = digits (length c - 2) key in
    let many : length (digits (length c - 2) key) ≡ length c - 2 = length-digits (length c - 2) key in
    let last : suc (length (digits (length c - 2) key)) ≡ length c - 1 = omega arith in (
      subst (λ (p : ℕ). x ≤ event_count c p) many
          (subst (λ (v : ℕ). v ≤ event_count c (length (digits (length c - 2) key)))
          (x_at (digits (length c - 2) key) x y) (ok.fits.within (length (digits (length c - 2) key)))),
      subst (λ (p : ℕ). y ≤ event_count c p) last
          (subst (λ (v : ℕ). v ≤ event_count c (suc (length (digits (length c - 2) key))))
          (y_at (digits (length c - 2) key) x y) (ok.fits.within (suc (length (digits (length c - 2) key))))),
    )

-- the ends of a run
pub record KeptEnds (c : Computation) (run : KeyedRun) : Type 0 where
  pub some : run.lo ≤ run.hi
  pub within : run.hi ≤ run.rest
  pub least : IsConsistent c (cut_at (digits (length c - 2) run.key) run.lo (run.rest - run.lo))
  pub greatest : IsConsistent c (cut_at (digits (length c - 2) run.key) run.hi (run.rest - run.hi))

pub kept_ends : (c : Computation) (run : KeyedRun)
    → IsRunOf c (level_of (length c - 2) run) (run_view (length c - 2) run) → KeptEnds c run
kept_ends c run r =
    let e : rest_at (level_of (length c - 2) run) (run_view (length c - 2) run) ≡ run.rest =
    rest_is (length c - 2) run in
    let ends : Ends c (level_of (length c - 2) run) (run_view (length c - 2) run) =
    ends_of_run c (level_of (length c - 2) run) (run_view (length c - 2) run) r in
    record {
      some = r.some;
      within = subst (λ (s : ℕ). run.hi ≤ s) e r.interval.within;
      least = subst (λ (s : ℕ). IsConsistent c (cut_at (digits (length c - 2) run.key) run.lo (s - run.lo))) e
          ends.1.0;
      greatest = subst (λ (s : ℕ). IsConsistent c (cut_at (digits (length c - 2) run.key) run.hi (s - run.hi))) e
          ends.3.0;
    }

-- one more event of each of the last two processes
pub more_last : (c : Computation) → 2 ≤ length c → (key x y q : ℕ) → q ≡ length c - 1
    → one_more (cut_at (digits (length c - 2) key) x y) q ≡ cut_at (digits (length c - 2) key) x (y + 1)
more_last c two key x y q e =
    let many : length (digits (length c - 2) key) ≡ length c - 2 = length-digits (length c - 2) key in
    let at : q ≡ suc (length (digits (length c - 2) key)) = omega arith in
    ap (one_more (cut_at (digits (length c - 2) key) x y)) at ∙ more_y (digits (length c - 2) key) x y

pub more_last_but_one : (c : Computation) → 2 ≤ length c → (key x y p : ℕ) → p ≡ length c - 2
    → one_more (cut_at (digits (length c - 2) key) x y) p ≡ cut_at (digits (length c - 2) key) (x + 1) y
more_last_but_one c two key x y p e =
    let many : length (digits (length c - 2) key) ≡ length c - 2 = length-digits (length c - 2) key in
    let at : p ≡ length (digits (length c - 2) key) = omega arith in
    ap (one_more (cut_at (digits (length c - 2) key) x y)) at ∙ more_x (digits (length c - 2) key) x y

module _ (c : Computation) (two : 2 ≤ length c) (run : KeyedRun) (p q : ℕ) (p_is : p ≡ length c - 2)
    (q_is : q ≡ length c - 1) (a b : Bool)
    (goes_y : (a ≡ true) ↔ IsConsistent c (one_more (cut_at (digits (length c - 2) run.key) run.lo (run.rest - run.lo))
    q))
    (goes_x : (b ≡ true) ↔ IsConsistent c (one_more (cut_at (digits (length c - 2) run.key) run.hi (run.rest - run.hi))
    p))
  where
    k : ℕ
    k = level_of (length c - 2) run

    sum_is : rest_at (level_of (length c - 2) run) (run_view (length c - 2) run) ≡ run.rest
    sum_is = rest_is (length c - 2) run

    stays : (a ≡ true) ↔ IsConsistent c (cut_at (digits (length c - 2) run.key) run.lo
        (rest_at (level_of (length c - 2) run) (run_view (length c - 2) run) - run.lo + 1))
    stays =
        let e : one_more (cut_at (digits (length c - 2) run.key) run.lo (run.rest - run.lo)) q
        ≡ cut_at (digits (length c - 2) run.key) run.lo (run.rest - run.lo + 1) =
        more_last c two run.key run.lo (run.rest - run.lo) q q_is in
        let f : one_more (cut_at (digits (length c - 2) run.key) run.lo (run.rest - run.lo)) q
        ≡ cut_at (digits (length c - 2) run.key) run.lo
        (rest_at (level_of (length c - 2) run) (run_view (length c - 2) run) - run.lo + 1) =
        e ∙ ap (λ (s : ℕ). cut_at (digits (length c - 2) run.key) run.lo (s - run.lo + 1)) (sym sum_is) in
        subst (λ (cut : List ℕ). (a ≡ true) ↔ IsConsistent c cut) f goes_y

    goes : (b ≡ true) ↔ IsConsistent c (cut_at (digits (length c - 2) run.key) (run.hi + 1)
        (rest_at (level_of (length c - 2) run) (run_view (length c - 2) run) - run.hi))
    goes =
        let e : one_more (cut_at (digits (length c - 2) run.key) run.hi (run.rest - run.hi)) p
        ≡ cut_at (digits (length c - 2) run.key) (run.hi + 1) (run.rest - run.hi) =
        more_last_but_one c two run.key run.hi (run.rest - run.hi) p p_is in
        let f : one_more (cut_at (digits (length c - 2) run.key) run.hi (run.rest - run.hi)) p
        ≡ cut_at (digits (length c - 2) run.key) (run.hi + 1)
        (rest_at (level_of (length c - 2) run) (run_view (length c - 2) run) - run.hi) =
        e ∙ ap (λ (s : ℕ). cut_at (digits (length c - 2) run.key) (run.hi + 1) (s - run.hi)) (sym sum_is) in
        subst (λ (cut : List ℕ). (b ≡ true) ↔ IsConsistent c cut) f goes_x

    pub is_moved : (lo hi : ℕ) → lo ≡ cond a run.lo (run.lo + 1) → hi ≡ cond b (run.hi + 1) run.hi → lo ≤ hi
        → (top low : Bool) → (b ≡ true → IsReceivedBelow c (length c - 2) (place (length c - 2) hi) → top ≡ true)
        → (a ≡ true → IsReceivedBelow c (length c - 2) (place (length c - 1) (run.rest + 1 - lo)) → low ≡ true)
        → IsMoved c run (record { key = run.key; lo = lo; hi = hi; rest = run.rest + 1 }) top low
    is_moved lo hi lo_is hi_is some top low if_top if_low =
        record {
          same = refl;
          rest = refl;
          moved = record {
            same = refl;
            a = a;
            b = b;
            goes_y = stays;
            goes_x = goes;
            low = lo_is;
            high = hi_is;
          };
          some = some;
          top = if_top;
          low = if_low;
        }

    same_test : {P : Type 0} (d e : Bool) → (d ≡ true) ↔ P → (e ≡ true) ↔ P → d ≡ e
    same_test true true s t = refl
    same_test false false s t = refl
    same_test true false s t = sym (t.1 (s.0 refl))
    same_test false true s t = s.1 (t.0 refl)

    pub never_moved : (lo hi : ℕ) → lo ≡ cond a run.lo (run.lo + 1) → hi ≡ cond b (run.hi + 1) run.hi → hi < lo
        → (new : Run) → IsMovedTo c (level_of (length c - 2) run) (run_view (length c - 2) run) new
        → ¬ (new.lo ≤ new.hi)
    never_moved lo hi lo_is hi_is none new m le =
        let same_a : m.a ≡ a = same_test m.a a m.goes_y stays in
        let same_b : m.b ≡ b = same_test m.b b m.goes_x goes in
        let low : new.lo ≡ lo =
        m.low ∙ (ap (λ (d : Bool). cond d run.lo (run.lo + 1)) same_a ∙ sym lo_is) in
        let high : new.hi ≡ hi =
        m.high ∙ (ap (λ (d : Bool). cond d (run.hi + 1) run.hi) same_b ∙ sym hi_is) in
        absurd (omega arith)
