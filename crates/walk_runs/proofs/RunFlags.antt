-- The flags of runs, and the candidates that they lead to.
use Rattle.std.proofs.Common.{◌≡◌, ℕ, zero, suc, ◌+◌, ◌-◌, ◌<◌, ◌≤◌, Bool, true, false, cond, List, length, sum, Contains, refl, sym, ap, ◌∙◌, subst, ◌↔◌, arith, add-one}
use Rattle.def_model.specs.Events.{Computation, place}
use Rattle.def_model.specs.Messages.{IsMessage}
use Rattle.def_model.specs.Order.{HasNoCycle}
use Rattle.def_model.specs.Cuts.{IsOfLevel, one_more}
use Rattle.walk_keys.specs.Neighbors.{cut_at}
use Rattle.walk_runs.proofs.RunCuts.{sum_cut}
use Rattle.walk_runs.specs.Births.{IsAlive, IsYoung, IsGreatest, IsLeast, IsTop, IsLow, IsReceivedBelow, IsMetAt, IsUndoable, IsWalkable, next_of, IsCandidate, from_young, from_top, from_low}
use Rattle.walk_runs.proofs.Born.{born_single, candidate_by, candidates_are_cuts, process_of}
use Rattle.walk_runs.proofs.Flags.{first_is_young, ends_of_interval, has_prefix, none_skipped}
use Rattle.walk_runs.specs.WholeLevels.{Run, IsRunOf, IsWhole, IsMovedTo, IsBornBeside, IsMadeAt, if_young, if_top, if_low, least_cut, greatest_cut}
use Rattle.walk_runs.proofs.LevelCuts.{run_of_cut}
use Rattle.walk_runs.proofs.NextRuns.{moved_interval, dead_without_run}

-- the ends of a run
abbrev pub Ends : Computation → ℕ → Run → Type 0
Ends c k run =
    IsLeast c k run.prefix run.lo × IsOfLevel c k (least_cut k run) × IsGreatest c k run.prefix run.hi
    × IsOfLevel c k (greatest_cut k run)

pub ends_of_run : (c : Computation) (k : ℕ) (run : Run) → IsRunOf c k run → Ends c k run
ends_of_run c k run r =
    let below : sum run.prefix ≤ k = r.below in
    ends_of_interval c k (k - sum run.prefix) run.prefix run.lo run.hi (omega arith) r.some (record {
      within =
          r.interval.within;
      just = r.interval.just;
    })

one_greatest : (c : Computation) (k : ℕ) (prefix : List ℕ) (x z : ℕ) → IsGreatest c k prefix x → IsGreatest c k prefix z
    → x ≡ z
one_greatest c k prefix x z a b =
    let l : x ≤ z = b.most x a.inside in let m : z ≤ x = a.most z b.inside in omega arith

one_least : (c : Computation) (k : ℕ) (prefix : List ℕ) (x z : ℕ) → IsLeast c k prefix x → IsLeast c k prefix z → x ≡ z
one_least c k prefix x z a b =
    let l : x ≤ z = a.least z b.inside in let m : z ≤ x = b.least x a.inside in omega arith

module _ (c : Computation) (acyclic : HasNoCycle c) (k : ℕ) (run new : Run) (r : IsRunOf c k run)
    (m : IsMovedTo c k run new) (some : new.lo ≤ new.hi) where
  new_run : IsRunOf c (k + 1) new
  new_run =
      let w : (sum new.prefix ≤ k) × _ = moved_interval c acyclic k run new r m in
      record { below = omega arith; some = some; interval = w.1 }

  new_ends : Ends c (k + 1) new
  new_ends = ends_of_run c (k + 1) new new_run

  old_least : IsLeast c k new.prefix run.lo
  old_least = subst (λ (p : List ℕ). IsLeast c k p run.lo) (sym m.same) (ends_of_run c k run r).0

  old_greatest : IsGreatest c k new.prefix run.hi
  old_greatest = subst (λ (p : List ℕ). IsGreatest c k p run.hi) (sym m.same) (ends_of_run c k run r).2

  not_young : ¬ IsYoung c (k + 1) new.prefix
  not_young young = young.before k refl (run.hi, old_greatest.inside)

  top : IsTop c (k + 1) new.prefix new.hi ↔ ((m.b ≡ true)
      × IsReceivedBelow c (length new.prefix) (place (length new.prefix) new.hi))
  top = (to, from)
    where
      to : IsTop c (k + 1) new.prefix new.hi → (m.b ≡ true)
          × IsReceivedBelow c (length new.prefix) (place (length new.prefix) new.hi)
      to t = (went m.b refl, t.sends)
        where
          moved : new.hi ≡ run.hi + 1
          moved =
              let j : ℕ = t.before.0 in
              let e : t.before.0 ≡ k = let f : t.before.0 + 1 ≡ k + 1 = t.before.2 in omega arith in
              let g : IsGreatest c k new.prefix t.before.1 =
              subst (λ (n : ℕ). IsGreatest c n new.prefix t.before.1) e t.before.4 in
              let h : t.before.1 ≡ run.hi = one_greatest c k new.prefix t.before.1 run.hi g old_greatest in
              let i : t.before.1 + 1 ≡ new.hi = t.before.3 in
              omega arith

          went : (b : Bool) → m.b ≡ b → m.b ≡ true
          went true e = e
          went false e =
              let f : new.hi ≡ run.hi = m.high ∙ ap (λ (b : Bool). cond b (run.hi + 1) run.hi) e in
              let g : new.hi ≡ run.hi + 1 = moved in
              absurd (omega arith)

      from : (m.b ≡ true) × IsReceivedBelow c (length new.prefix) (place (length new.prefix) new.hi)
          → IsTop c (k + 1) new.prefix new.hi
      from (e, sends) =
          let f : new.hi ≡ run.hi + 1 = m.high ∙ ap (λ (b : Bool). cond b (run.hi + 1) run.hi) e in
          record { greatest = new_ends.2; before = (k, run.hi, refl, sym f, old_greatest); sends = sends }

  low : (y : ℕ) → IsLow c (k + 1) new.prefix new.lo y
      ↔ ((m.a ≡ true) × (sum new.prefix + (new.lo + y) ≡ k + 1)
      × IsReceivedBelow c (length new.prefix) (place (suc (length new.prefix)) y))
  low y = (to, from)
    where
      to : IsLow c (k + 1) new.prefix new.lo y → (m.a ≡ true) × (sum new.prefix + (new.lo + y) ≡ k + 1)
          × IsReceivedBelow c (length new.prefix) (place (suc (length new.prefix)) y)
      to l =
          let t : sum (cut_at new.prefix new.lo y) ≡ sum new.prefix + (new.lo + y) = sum_cut new.prefix new.lo y in
          let s : sum (cut_at new.prefix new.lo y) ≡ k + 1 = l.beside.1 in
          (stayed m.a refl, omega arith, l.sends)
        where
          same : new.lo ≡ run.lo
          same =
              let e : l.before.0 ≡ k = let f : l.before.0 + 1 ≡ k + 1 = l.before.1 in omega arith in
              one_least c k new.prefix new.lo run.lo (subst (λ (n : ℕ). IsLeast c n new.prefix new.lo) e l.before.2)
              old_least

          stayed : (a : Bool) → m.a ≡ a → m.a ≡ true
          stayed true e = e
          stayed false e =
              let f : new.lo ≡ run.lo + 1 = m.low ∙ ap (λ (a : Bool). cond a run.lo (run.lo + 1)) e in
              let g : new.lo ≡ run.lo = same in
              absurd (omega arith)

      from : (m.a ≡ true) × (sum new.prefix + (new.lo + y) ≡ k + 1)
          × IsReceivedBelow c (length new.prefix) (place (suc (length new.prefix)) y)
          → IsLow c (k + 1) new.prefix new.lo y
      from (e, s, sends) =
          let f : new.lo ≡ run.lo = m.low ∙ ap (λ (a : Bool). cond a run.lo (run.lo + 1)) e in
          let y_is : ((k + 1) - sum new.prefix) - new.lo ≡ y = omega arith in
          record {
            beside = subst (λ (n : ℕ). IsOfLevel c (k + 1) (cut_at new.prefix new.lo n)) y_is new_ends.1;
            least = new_ends.0;
            before = (k, refl, subst (λ (n : ℕ). IsLeast c k new.prefix n) (sym f) old_least);
            sends = sends;
          }

  pub flags_of_moved : (¬ IsYoung c (k + 1) new.prefix)
      × (IsTop c (k + 1) new.prefix new.hi ↔ ((m.b ≡ true)
      × IsReceivedBelow c (length new.prefix) (place (length new.prefix) new.hi)))
      × ((y : ℕ) → IsLow c (k + 1) new.prefix new.lo y
      ↔ ((m.a ≡ true) × (sum new.prefix + (new.lo + y) ≡ k + 1)
      × IsReceivedBelow c (length new.prefix) (place (suc (length new.prefix)) y)))
  flags_of_moved = (not_young, top, low)

pub flags_of_born : (c : Computation) (k : ℕ) (runs : List Run) → IsWhole c k runs → (new : Run)
    → IsBornBeside c k runs new → IsYoung c (k + 1) new.prefix × ((x : ℕ) → ¬ IsTop c (k + 1) new.prefix x)
    × ((x y : ℕ) → ¬ IsLow c (k + 1) new.prefix x y)
flags_of_born c k runs whole new born = (young, no_top, no_low)
  where
    dead : (j : ℕ) → j + 1 ≡ k + 1 → ¬ IsAlive c j new.prefix
    dead j e alive =
        let f : j ≡ k = omega arith in
        dead_without_run c k runs whole new.prefix born.new_prefix (subst (λ (n : ℕ). IsAlive c n new.prefix) f alive)

    young : IsYoung c (k + 1) new.prefix
    young = record { alive = (new.lo, (born.beside, born.level)); before = dead }

    no_top : (x : ℕ) → ¬ IsTop c (k + 1) new.prefix x
    no_top x t = dead t.before.0 t.before.2 (t.before.1, t.before.4.inside)

    no_low : (x y : ℕ) → ¬ IsLow c (k + 1) new.prefix x y
    no_low x y l = dead l.before.0 l.before.1 (x, l.before.2.inside)

-- a young prefix has one cut
young_single : (c : Computation) → HasNoCycle c → (k : ℕ) (prefix : List ℕ) (x y z w : ℕ) → IsYoung c k prefix
    → IsOfLevel c k (cut_at prefix x y) → IsOfLevel c k (cut_at prefix z w) → x ≡ z
young_single c acyclic zero prefix x y z w young a b =
    (first_is_young c prefix x y a).1 ∙ sym (first_is_young c prefix z w b).1
young_single c acyclic (suc j) prefix x y z w young a b =
    (born_single c acyclic j prefix x y z w (young.before j (add-one j))
    (subst (λ (n : ℕ). IsOfLevel c n (cut_at prefix x y)) (sym (add-one j)) a)
    (subst (λ (n : ℕ). IsOfLevel c n (cut_at prefix z w)) (sym (add-one j)) b)).0

at_parts : (F : List ℕ → ℕ → ℕ → Type 0) (prefix other : List ℕ) (x u y v : ℕ) → prefix ≡ other → x ≡ u → y ≡ v
    → F prefix x y → F other u v
at_parts F prefix other x u y v p e f h =
    subst (λ (n : ℕ). F other u n) f (subst (λ (n : ℕ). F other n y) e (subst (λ (q : List ℕ). F q x y) p h))

-- a candidate that process p makes at one of the runs
abbrev pub IsMadeBy : Computation → ℕ → List Run → List ℕ → ℕ → Type 0
IsMadeBy c k runs new p = (run : Run) × Contains runs run × (p < length run.prefix) × IsMadeAt c k run p new

module _ (c : Computation) (acyclic : HasNoCycle c) (k : ℕ) (runs : List Run) (whole : IsWhole c k runs) (new : List ℕ)
  where
    abbrev Made : Type 0
    Made = (run : Run) × Contains runs run × ((p : ℕ) × (p < length run.prefix) × IsMadeAt c k run p new)

    abbrev Young : ℕ → List ℕ → ℕ → ℕ → Type 0
    Young p prefix x y =
        IsYoung c k prefix × IsOfLevel c k (cut_at prefix x y) × (p < length prefix)
        × IsMetAt c (cut_at prefix x y) (next_of (cut_at prefix x y) p) × (new ≡ one_more (cut_at prefix x y) p)

    abbrev Top : ℕ → List ℕ → ℕ → ℕ → Type 0
    Top p prefix x y =
        IsTop c k prefix x × (p < length prefix) × IsMessage c (place (length prefix) x) (next_of (cut_at prefix x y) p)
        × (new ≡ one_more (cut_at prefix x y) p)

    abbrev Low : ℕ → List ℕ → ℕ → ℕ → Type 0
    Low p prefix x y =
        IsLow c k prefix x y × (p < length prefix) × IsMessage c (place (suc (length prefix)) y)
        (next_of (cut_at prefix x y) p) × (new ≡ one_more (cut_at prefix x y) p)

    pub made : (candidate : IsCandidate c k new) → IsMadeBy c k runs new (process_of c k new candidate)
    made (from_young prefix x y p young level lt met e) = go (run_of_cut c k runs whole prefix x y level)
      where
        go : (sum prefix + (x + y) ≡ k) × ((run : Run) × Contains runs run × (run.prefix ≡ prefix) × (run.lo ≤ x)
            × (x ≤ run.hi)) → IsMadeBy c k runs new p
        go (s, (run, has, same, low, high)) =
            let ends : Ends c k run = ends_of_run c k run (whole.each run has) in
            let total : sum run.prefix ≡ sum prefix = ap sum same in
            let a : x ≡ run.lo = young_single c acyclic k prefix x y run.lo ((k - sum run.prefix) - run.lo) young level
            (subst (λ (q : List ℕ). IsOfLevel c k (cut_at q run.lo ((k - sum run.prefix) - run.lo))) same ends.1) in
            let b : x ≡ run.hi = young_single c acyclic k prefix x y run.hi ((k - sum run.prefix) - run.hi) young level
            (subst (λ (q : List ℕ). IsOfLevel c k (cut_at q run.hi ((k - sum run.prefix) - run.hi))) same ends.3) in
            let w : Young p run.prefix run.lo ((k - sum run.prefix) - run.lo) =
            at_parts (Young p) prefix run.prefix x run.lo y ((k - sum run.prefix) - run.lo) (sym same) a (omega arith)
            (young, level, lt, met, e) in
            (run, has, w.2, if_young w.0 (sym a ∙ b) w.3 w.4)
    made (from_top prefix x y p top level lt message e) = go (run_of_cut c k runs whole prefix x y level)
      where
        go : (sum prefix + (x + y) ≡ k) × ((run : Run) × Contains runs run × (run.prefix ≡ prefix) × (run.lo ≤ x)
            × (x ≤ run.hi)) → IsMadeBy c k runs new p
        go (s, (run, has, same, low, high)) =
            let ends : Ends c k run = ends_of_run c k run (whole.each run has) in
            let total : sum run.prefix ≡ sum prefix = ap sum same in
            let a : x ≡ run.hi = one_greatest c k prefix x run.hi top.greatest
            (subst (λ (q : List ℕ). IsGreatest c k q run.hi) same ends.2) in
            let w : Top p run.prefix run.hi ((k - sum run.prefix) - run.hi) =
            at_parts (Top p) prefix run.prefix x run.hi y ((k - sum run.prefix) - run.hi) (sym same) a (omega arith)
            (top, lt, message, e) in
            (run, has, w.1, if_top w.0 w.2 w.3)
    made (from_low prefix x y p low lt message e) = go (run_of_cut c k runs whole prefix x y low.beside)
      where
        go : (sum prefix + (x + y) ≡ k) × ((run : Run) × Contains runs run × (run.prefix ≡ prefix) × (run.lo ≤ x)
            × (x ≤ run.hi)) → IsMadeBy c k runs new p
        go (s, (run, has, same, least, most)) =
            let ends : Ends c k run = ends_of_run c k run (whole.each run has) in
            let total : sum run.prefix ≡ sum prefix = ap sum same in
            let a : x ≡ run.lo = one_least c k prefix x run.lo low.least
            (subst (λ (q : List ℕ). IsLeast c k q run.lo) same ends.0) in
            let w : Low p run.prefix run.lo ((k - sum run.prefix) - run.lo) =
            at_parts (Low p) prefix run.prefix x run.lo y ((k - sum run.prefix) - run.lo) (sym same) a (omega arith)
            (low, lt, message, e) in
            (run, has, w.1, if_low w.0 w.2 w.3)

    unmade : (run : Run) (p : ℕ) → Contains runs run → p < length run.prefix → IsMadeAt c k run p new
        → IsCandidate c k new
    unmade run p has lt (if_young young single met e) =
        from_young run.prefix run.lo ((k - sum run.prefix) - run.lo) p young
        (ends_of_run c k run (whole.each run has)).1
        lt met e
    unmade run p has lt (if_top top message e) =
        from_top run.prefix run.hi ((k - sum run.prefix) - run.hi) p top (ends_of_run c k run (whole.each run has)).3 lt
        message e
    unmade run p has lt (if_low low message e) =
        from_low run.prefix run.lo ((k - sum run.prefix) - run.lo) p low lt message e

    pub candidates_in_runs : IsCandidate c k new ↔ Made
    candidates_in_runs = (
      λ candidate.
          let w : IsMadeBy c k runs new (process_of c k new candidate) = made candidate in
          (w.0, w.1, (process_of c k new candidate, w.2, w.3)),
      λ w. unmade w.0 w.2.0 w.1 w.2.1 w.2.2,
    )

-- it is made by each process whose last event can be undone
pub made_by_each : (c : Computation) → IsWalkable c → 2 ≤ length c → (k : ℕ) (runs : List Run) → IsWhole c k runs
    → (cut : List ℕ) → IsCandidate c k cut → (q : ℕ) → IsUndoable c cut q → IsMadeBy c k runs cut q
made_by_each c well two k runs whole cut candidate q is =
    let at : IsOfLevel c (k + 1) cut = candidates_are_cuts c well k cut candidate in
    go at (has_prefix c cut at.0 two)
  where
    go : IsOfLevel c (k + 1) cut → (prefix : List ℕ) × (x y : ℕ) × (cut ≡ cut_at prefix x y)
        → IsMadeBy c k runs cut q
    go at (prefix, x, y, e) =
        let undo : IsUndoable c (cut_at prefix x y) q = subst (λ (xs : List ℕ). IsUndoable c xs q) e is in
        let w : (new : IsCandidate c k (cut_at prefix x y)) × (process_of c k (cut_at prefix x y) new ≡ q) =
        candidate_by c well k prefix x y q
        (none_skipped c well.no_cycle k prefix x y (subst (IsCandidate c k) e candidate))
        (subst (IsOfLevel c (k + 1)) e at) undo.some undo.less in
        subst (λ (xs : List ℕ). IsMadeBy c k runs xs q) (sym e)
        (subst (λ (p : ℕ). IsMadeBy c k runs (cut_at prefix x y) p) w.1
        (made c well.no_cycle k runs whole (cut_at prefix x y) w.0))
