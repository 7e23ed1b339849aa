-- The runs of level 0, and those of the next level.
use Rattle.std.proofs.Common.{◌≡◌, ℕ, ◌+◌, ◌-◌, ◌≤◌, Bool, true, false, cond, List, [], ◌∷◌, sum, Contains, refl, sym, ap, ◌∙◌, subst, inl, inr, ◌⊎◌, ◌↔◌, arith}
use Rattle.std.proofs.lemmas.Bool.{false≢true}
use Rattle.def_model.specs.Events.{Computation}
use Rattle.def_model.specs.Order.{HasNoCycle}
use Rattle.walk_keys.specs.Neighbors.{cut_at}
use Rattle.walk_runs.specs.Births.{IsWalkable}
use Rattle.def_model.specs.Cuts.{IsConsistent, IsOfLevel, empty_cut}
use Rattle.def_model.proofs.Counts.{empty_from_sum, sum_empty}
use Rattle.def_model.proofs.Consistency.{dec_consistent}
use Rattle.def_model.proofs.Decisions.{dec_list}
use Rattle.walk_runs.specs.Runs.{IsInterval}
use Rattle.walk_runs.proofs.RunCuts.{sum_cut, same_parts}
use Rattle.walk_runs.proofs.Neighbors.{moved}
use Rattle.walk_runs.proofs.EndPoints.{end_points}
use Rattle.walk_runs.proofs.RunIntervals.{first_interval}
use Rattle.walk_runs.specs.Births.{IsAlive}
use Rattle.walk_runs.proofs.Born.{born_single, no_birth_missed}
use Rattle.walk_runs.specs.WholeLevels.{Run, IsRunOf, HasRun, IsWhole, IsMovedTo, IsBornBeside, IsNextRuns}
use Rattle.walk_runs.proofs.Ascending.{nothing_in_empty, in_cons, in_rest, in_head}

pub first_whole : (c : Computation) (prefix : List ℕ) → cut_at prefix 0 0 ≡ empty_cut c
    → IsWhole c 0 (record { prefix = prefix; lo = 0; hi = 0 } ∷ [])
first_whole c prefix e = record { ascending = tt; each = λ run has. each run (in_cons first run [] has); alive = alive }
  where
    first : Run
    first = record { prefix = prefix; lo = 0; hi = 0 }

    nothing : sum prefix ≡ 0
    nothing =
        let t : sum (cut_at prefix 0 0) ≡ sum prefix + (0 + 0) = sum_cut prefix 0 0 in
        let u : sum (cut_at prefix 0 0) ≡ 0 = ap sum e ∙ sum_empty c in
        omega arith

    is_run : IsRunOf c 0 first
    is_run =
        let z : sum prefix ≡ 0 = nothing in
        let s : 0 ≡ 0 - sum prefix = omega arith in
        record {
          below = omega arith;
          some = omega arith;
          interval = subst (λ (n : ℕ). IsInterval c prefix n 0 0) s (first_interval c prefix e);
        }

    each : (run : Run) → (first ≡ run) ⊎ Contains [] run → IsRunOf c 0 run
    each run (inl same) = subst (λ (r : Run). IsRunOf c 0 r) same is_run
    each run (inr has) = absurd (nothing_in_empty run has)

    alive : (p : List ℕ) (x y : ℕ) → IsOfLevel c 0 (cut_at p x y) → HasRun (first ∷ []) p
    alive p x y (ok, s) =
        let f : cut_at p x y ≡ cut_at prefix 0 0 = empty_from_sum c (cut_at p x y) ok.fits.one_each s ∙ sym e in
        let w : (p ≡ prefix) × (x ≡ 0) × (y ≡ 0) = same_parts p prefix x y 0 0 f in
        (first, in_head first [], sym w.0)

-- a prefix has a run in a list, or not
pub has_run_or_not : (runs : List Run) (prefix : List ℕ) → HasRun runs prefix ⊎ ¬ HasRun runs prefix
has_run_or_not [] prefix = inr (λ w. nothing_in_empty w.0 w.1)
has_run_or_not (first ∷ rest) prefix = go (dec_list first.prefix prefix) (has_run_or_not rest prefix)
  where
    go : Dec (first.prefix ≡ prefix) → HasRun rest prefix ⊎ ¬ HasRun rest prefix → HasRun (first ∷ rest) prefix
        ⊎ ¬ HasRun (first ∷ rest) prefix
    go (yes e) later = inl (first, in_head first rest, e)
    go (no apart) (inl w) = inl (w.0, in_rest first w.0 rest w.1, w.2)
    go (no apart) (inr none) = inr (λ w. pick w (in_cons first w.0 rest w.1))
      where
        pick : (w : HasRun (first ∷ rest) prefix) → (first ≡ w.0) ⊎ Contains rest w.0 → ⊥
        pick w (inl same) = apart (ap (λ (r : Run). r.prefix) same ∙ w.2)
        pick w (inr later) = none (w.0, later, w.2)

decide : {P : Type 0} → Dec P → (b : Bool) × ((b ≡ true) ↔ P)
decide (yes p) = (true, (λ e. p, λ q. refl))
decide (no h) = (false, (λ e. absurd (false≢true e), λ q. absurd (h q)))

-- each run can be moved
move : (c : Computation) (k : ℕ) (run : Run) → (new : Run) × IsMovedTo c k run new
move c k run =
    go (decide (dec_consistent c (cut_at run.prefix run.lo ((k - sum run.prefix) - run.lo + 1))))
    (decide (dec_consistent c (cut_at run.prefix (run.hi + 1) ((k - sum run.prefix) - run.hi))))
  where
    go : (a : Bool) × ((a ≡ true) ↔ IsConsistent c (cut_at run.prefix run.lo ((k - sum run.prefix) - run.lo + 1)))
        → (b : Bool) × ((b ≡ true) ↔ IsConsistent c (cut_at run.prefix (run.hi + 1) ((k - sum run.prefix) - run.hi)))
        → (new : Run) × IsMovedTo c k run new
    go (a, is_a) (b, is_b) = (
      record { prefix = run.prefix; lo = cond a run.lo (run.lo + 1); hi = cond b (run.hi + 1) run.hi },
      record { same = refl; a = a; b = b; goes_y = is_a; goes_x = is_b; low = refl; high = refl },
    )

interval_of : (c : Computation) (prefix other : List ℕ) (s t lo low hi high : ℕ) → prefix ≡ other → s ≡ t → lo ≡ low
    → hi ≡ high → IsInterval c prefix s lo hi → IsInterval c other t low high
interval_of c prefix other s t lo low hi high p e l h interval =
    subst (λ (n : ℕ). IsInterval c other t low n) h
    (subst (λ (n : ℕ). IsInterval c other t n hi) l
    (subst (λ (n : ℕ). IsInterval c other n lo hi) e (subst (λ (q : List ℕ). IsInterval c q s lo hi) p interval)))

-- and is then the interval one level on
pub moved_interval : (c : Computation) → HasNoCycle c → (k : ℕ) (run new : Run) → IsRunOf c k run
    → IsMovedTo c k run new → (sum new.prefix ≤ k) × IsInterval c new.prefix ((k + 1) - sum new.prefix) new.lo new.hi
moved_interval c acyclic k run new r m =
    let below : sum run.prefix ≤ k = r.below in
    let f : sum new.prefix ≡ sum run.prefix = ap sum m.same in
    let i : IsInterval c run.prefix ((k - sum run.prefix) + 1) (cond m.a run.lo (run.lo + 1))
    (cond m.b (run.hi + 1) run.hi) = end_points c acyclic run.prefix (k - sum run.prefix) run.lo run.hi r.interval
    r.some m.a m.b m.goes_y m.goes_x in (
      omega arith,
      interval_of c run.prefix new.prefix ((k - sum run.prefix) + 1) ((k + 1) - sum new.prefix)
          (cond m.a run.lo (run.lo + 1)) new.lo (cond m.b (run.hi + 1) run.hi) new.hi (sym m.same) (omega arith)
          (sym m.low) (sym m.high) i,
    )

pub dead_without_run : (c : Computation) (k : ℕ) (runs : List Run) → IsWhole c k runs → (prefix : List ℕ)
    → ¬ HasRun runs prefix → ¬ IsAlive c k prefix
dead_without_run c k runs whole prefix none (x, (y, level)) = none (whole.alive prefix x y level)

born_run : (c : Computation) → HasNoCycle c → (k : ℕ) (runs : List Run) → IsWhole c k runs → (new : Run)
    → IsBornBeside c k runs new → IsRunOf c (k + 1) new
born_run c acyclic k runs whole new born =
    record {
      below = let l : sum new.prefix + (new.lo + born.beside) ≡ k + 1 = level in omega arith;
      some = let e : new.lo ≡ new.hi = born.single in omega arith;
      interval = record {
        within = let l : sum new.prefix + (new.lo + born.beside) ≡ k + 1 = level in let e : new.lo ≡ new.hi =
            born.single in omega arith;
        just = λ x y e. (to x y e, from x y e);
      };
    }
  where
    level : sum new.prefix + (new.lo + born.beside) ≡ k + 1
    level =
        let t : sum (cut_at new.prefix new.lo born.beside) ≡ sum new.prefix + (new.lo + born.beside) =
        sum_cut new.prefix new.lo born.beside in
        let u : sum (cut_at new.prefix new.lo born.beside) ≡ k + 1 = born.level.1 in
        omega arith

    to : (x y : ℕ) → x + y ≡ (k + 1) - sum new.prefix → IsConsistent c (cut_at new.prefix x y)
        → (new.lo ≤ x) × (x ≤ new.hi)
    to x y e ok =
        let l : sum new.prefix + (new.lo + born.beside) ≡ k + 1 = level in
        let h : new.lo ≡ new.hi = born.single in
        let t : sum (cut_at new.prefix x y) ≡ sum new.prefix + (x + y) = sum_cut new.prefix x y in
        let w : (new.lo ≡ x) × (born.beside ≡ y) = born_single c acyclic k new.prefix new.lo born.beside x y
        (dead_without_run c k runs whole new.prefix born.new_prefix) born.level (ok, omega arith) in
        (omega arith, omega arith)

    from : (x y : ℕ) → x + y ≡ (k + 1) - sum new.prefix → (new.lo ≤ x) × (x ≤ new.hi)
        → IsConsistent c (cut_at new.prefix x y)
    from x y e (low, high) =
        let l : sum new.prefix + (new.lo + born.beside) ≡ k + 1 = level in
        let h : new.lo ≡ new.hi = born.single in
        moved c new.prefix new.lo born.beside x y (omega arith) (omega arith) born.level.0

pub next_whole : (c : Computation) → IsWalkable c → (k : ℕ) (runs next : List Run) → IsWhole c k runs
    → IsNextRuns c k runs next → IsWhole c (k + 1) next
next_whole c well k runs next whole made =
    record { ascending = made.ascending; each = λ new has. each new (made.each new has); alive = alive }
  where
    each : (new : Run) → ((run : Run) × Contains runs run × IsMovedTo c k run new × (new.lo ≤ new.hi))
        ⊎ IsBornBeside c k runs new → IsRunOf c (k + 1) new
    each new (inl (run, has, m, some)) =
        let w : (sum new.prefix ≤ k) × IsInterval c new.prefix ((k + 1) - sum new.prefix) new.lo new.hi =
        moved_interval c well.no_cycle k run new (whole.each run has) m in
        record { below = omega arith; some = some; interval = w.1 }
    each new (inr born) = born_run c well.no_cycle k runs whole new born

    alive : (prefix : List ℕ) (x y : ℕ) → IsOfLevel c (k + 1) (cut_at prefix x y) → HasRun next prefix
    alive prefix x y level = go (has_run_or_not runs prefix)
      where
        go : HasRun runs prefix ⊎ ¬ HasRun runs prefix → HasRun next prefix
        go (inr none) =
            made.born prefix x y (no_birth_missed c well k prefix x y (dead_without_run c k runs whole prefix none)
            level)
        go (inl (run, has, e)) =
            let m : (new : Run) × IsMovedTo c k run new = move c k run in
            let same : m.0.prefix ≡ prefix = m.1.same ∙ e in
            let f : sum m.0.prefix ≡ sum prefix = ap sum same in
            let w : (sum m.0.prefix ≤ k) × IsInterval c m.0.prefix ((k + 1) - sum m.0.prefix) m.0.lo m.0.hi =
            moved_interval c well.no_cycle k run m.0 (whole.each run has) m.1 in
            let t : sum (cut_at prefix x y) ≡ sum prefix + (x + y) = sum_cut prefix x y in
            let s : sum (cut_at prefix x y) ≡ k + 1 = level.1 in
            let v : (m.0.lo ≤ x) × (x ≤ m.0.hi) = (w.1.just x y (omega arith)).0
            (subst (λ (p : List ℕ). IsConsistent c (cut_at p x y)) (sym same) level.0) in
            let there : HasRun next m.0.prefix = made.moved run m.0 has m.1 (omega arith) in
            (there.0, there.1, there.2 ∙ same)
