-- What is pushed where a run is moved or born.
use Rattle.std.proofs.Common.{◌≡◌, ℕ, suc, ◌+◌, ◌-◌, ◌<◌, ◌≤◌, Bool, true, List, length, get_or, sum, Contains, sym, ap, ◌∙◌, subst, inl, inr, ◌⊎◌, ◌↔◌, arith}
use Rattle.std.specs.Prelude.{Some, None}
use Rattle.walk_keys.specs.Keys.{digits}
use Rattle.walk_keys.proofs.Keys.{length-digits}
use Rattle.def_model.specs.Events.{Computation, place}
use Rattle.def_model.specs.Messages.{IsMessage}
use Rattle.def_model.specs.Order.{HasNoCycle}
use Rattle.def_model.specs.Cuts.{IsConsistent, IsOfLevel, one_more}
use Rattle.def_model.proofs.Counts.{sum_more}
use Rattle.walk_keys.specs.Neighbors.{cut_at}
use Rattle.walk_runs.specs.Births.{IsYoung, IsTop, IsLow, IsMetAt, IsReceivedBelow, IsUndoable, next_of}
use Rattle.walk_runs.specs.Runs.{IsInterval}
use Rattle.walk_runs.specs.Points.{IsFound, IsWanted, GrowsBy, GrowsIf, birth_of}
use Rattle.walk_runs.specs.WholeLevels.{rest_at, IsRunOf, IsMadeAt, if_young, if_top, if_low}
use Rattle.walk_runs.specs.KeptRuns.{run_view, level_of, IsBirth, IsMoved, GrowsAtEnds, AddsBirths}
use Rattle.walk_runs.specs.Kept.{KeyedBirth, KeyedRun}
use Rattle.walk_runs.proofs.Growing.{found_more}
use Rattle.walk_runs.proofs.NextRuns.{moved_interval}
use Rattle.walk_runs.proofs.RunCuts.{length_cut, sum_cut, x_at, y_at}
use Rattle.walk_runs.proofs.RunFlags.{flags_of_moved}
use Rattle.walk_runs.proofs.RunSteps.{rest_is, KeptEnds, kept_ends}
use Rattle.walk_runs.proofs.UndoneEvents.{add_met}

-- a moved run is a run of the next level
pub moved_level : (c : Computation) (old new : KeyedRun) (top low : Bool) → IsMoved c old new top low
    → level_of (length c - 2) new ≡ level_of (length c - 2) old + 1
moved_level c old new top low m =
    let keys : sum (digits (length c - 2) new.key) ≡ sum (digits (length c - 2) old.key) =
    ap (λ (k : ℕ). sum (digits (length c - 2) k)) m.same in
    let rest : new.rest ≡ old.rest + 1 = m.rest in
    omega arith

pub moved_run : (c : Computation) → HasNoCycle c → (old new : KeyedRun) (top low : Bool)
    → IsRunOf c (level_of (length c - 2) old) (run_view (length c - 2) old) → IsMoved c old new top low
    → IsRunOf c (level_of (length c - 2) old + 1) (run_view (length c - 2) new)
moved_run c acyclic old new top low r m =
    let w : (sum (digits (length c - 2) new.key) ≤ level_of (length c - 2) old) × IsInterval c
    (digits (length c - 2) new.key) (level_of (length c - 2) old + 1 - sum (digits (length c - 2) new.key)) new.lo
    new.hi = moved_interval c acyclic (level_of (length c - 2) old) (run_view (length c - 2) old)
    (run_view (length c - 2) new) r m.moved in
    record { below = omega arith; some = m.some; interval = w.1 }

pub moved_ends : (c : Computation) → HasNoCycle c → (old new : KeyedRun) (top low : Bool)
    → IsRunOf c (level_of (length c - 2) old) (run_view (length c - 2) old) → IsMoved c old new top low
    → KeptEnds c new
moved_ends c acyclic old new top low r m =
    kept_ends c new (subst (λ (k : ℕ). IsRunOf c k (run_view (length c - 2) new))
    (sym (moved_level c old new top low m)) (moved_run c acyclic old new top low r m))

-- one more event makes a cut of the next level
more_level : (c : Computation) (run : KeyedRun) (p x : ℕ) → 2 ≤ length c → p < length c - 2 → x ≤ run.rest
    → IsConsistent c (one_more (cut_at (digits (length c - 2) run.key) x (run.rest - x)) p)
    → IsOfLevel c (level_of (length c - 2) run + 1)
    (one_more (cut_at (digits (length c - 2) run.key) x (run.rest - x)) p)
more_level c run p x two lt le ok =
    let many : length (digits (length c - 2) run.key) ≡ length c - 2 = length-digits (length c - 2) run.key in
    let size : length (cut_at (digits (length c - 2) run.key) x (run.rest - x))
    ≡ length (digits (length c - 2) run.key) + 2 =
    length_cut (digits (length c - 2) run.key) x (run.rest - x) in
    let more : sum (one_more (cut_at (digits (length c - 2) run.key) x (run.rest - x)) p)
    ≡ sum (cut_at (digits (length c - 2) run.key) x (run.rest - x)) + 1 =
    sum_more (cut_at (digits (length c - 2) run.key) x (run.rest - x)) p (omega arith) in
    let total : sum (cut_at (digits (length c - 2) run.key) x (run.rest - x))
    ≡ sum (digits (length c - 2) run.key) + (x + (run.rest - x)) =
    sum_cut (digits (length c - 2) run.key) x (run.rest - x) in
    (ok, omega arith)

module _ (c : Computation) (acyclic : HasNoCycle c) (two : 2 ≤ length c) (old new : KeyedRun) (at_top at_low : Bool)
    (r : IsRunOf c (level_of (length c - 2) old) (run_view (length c - 2) old))
    (m : IsMoved c old new at_top at_low) (born new_born : List KeyedBirth)
    (g : GrowsAtEnds c new at_top at_low born new_born) where
  prefix_size : length (digits (length c - 2) new.key) ≡ length c - 2
  prefix_size = length-digits (length c - 2) new.key

  rest_of : rest_at (level_of (length c - 2) old + 1) (run_view (length c - 2) new) ≡ new.rest
  rest_of =
      ap (λ (k : ℕ). rest_at k (run_view (length c - 2) new)) (sym (moved_level c old new at_top at_low m))
      ∙ rest_is (length c - 2) new

  flags : (¬ IsYoung c (level_of (length c - 2) old + 1) (digits (length c - 2) new.key))
      × (IsTop c (level_of (length c - 2) old + 1) (digits (length c - 2) new.key) new.hi
      ↔ ((m.moved.b ≡ true) × IsReceivedBelow c (length (digits (length c - 2) new.key))
      (place (length (digits (length c - 2) new.key)) new.hi)))
      × ((y : ℕ) → IsLow c (level_of (length c - 2) old + 1) (digits (length c - 2) new.key) new.lo y
      ↔ ((m.moved.a ≡ true) × (sum (digits (length c - 2) new.key) + (new.lo + y) ≡ level_of (length c - 2) old + 1)
      × IsReceivedBelow c (length (digits (length c - 2) new.key))
      (place (suc (length (digits (length c - 2) new.key))) y)))
  flags =
      flags_of_moved c acyclic (level_of (length c - 2) old) (run_view (length c - 2) old)
      (run_view (length c - 2) new) r m.moved m.some

  just : (z : KeyedBirth) → Contains new_born z
      → Contains born z ⊎ IsBirth c (level_of (length c - 2) old + 1 + 1) z
  just z has = go (g.just z has)
    where
      go : Contains born z ⊎ ((p x : ℕ) × (p < length c - 2) × (x ≤ new.rest)
          × IsConsistent c (one_more (cut_at (digits (length c - 2) new.key) x (new.rest - x)) p)
          × IsUndoable c (one_more (cut_at (digits (length c - 2) new.key) x (new.rest - x)) p) p
          × (z ≡ birth_of (one_more (cut_at (digits (length c - 2) new.key) x (new.rest - x)) p) p))
          → Contains born z ⊎ IsBirth c (level_of (length c - 2) old + 1 + 1) z
      go (inl there) = inl there
      go (inr (p, x, lt, le, ok, undo, is)) =
          inr (
            one_more (cut_at (digits (length c - 2) new.key) x (new.rest - x)) p,
            subst (λ (k : ℕ). IsOfLevel c (k + 1) (one_more (cut_at (digits (length c - 2) new.key) x (new.rest - x))
                p))
                (moved_level c old new at_top at_low m) (more_level c new p x two lt le ok),
            ap (λ (birth : KeyedBirth). birth.cut) is,
            subst (λ (birth : KeyedBirth). IsUndoable c
                (one_more (cut_at (digits (length c - 2) new.key) x (new.rest - x)) p) birth.by) (sym is) undo,
          )

  all : (p : ℕ) (cut : List ℕ) → p < length c - 2
      → IsMadeAt c (level_of (length c - 2) old + 1) (run_view (length c - 2) new) p cut
      → IsFound c new_born cut p
  all p cut lt (if_young young single met is) = absurd (flags.0 young)
  all p cut lt (if_top top message is) =
      let w = flags.1.0 top in
      let sends : IsReceivedBelow c (length c - 2) (place (length c - 2) new.hi) =
      subst (λ (n : ℕ). IsReceivedBelow c n (place n new.hi)) prefix_size w.1 in
      let same : cut_at (digits (length c - 2) new.key) new.hi
      (rest_at (level_of (length c - 2) old + 1) (run_view (length c - 2) new) - new.hi)
      ≡ cut_at (digits (length c - 2) new.key) new.hi (new.rest - new.hi) =
      ap (λ (s : ℕ). cut_at (digits (length c - 2) new.key) new.hi (s - new.hi)) rest_of in
      let count : get_or (cut_at (digits (length c - 2) new.key) new.hi (new.rest - new.hi)) (length c - 2) 0
      ≡ new.hi =
      ap (λ (q : ℕ). get_or (cut_at (digits (length c - 2) new.key) new.hi (new.rest - new.hi)) q 0)
      (sym prefix_size) ∙ x_at (digits (length c - 2) new.key) new.hi (new.rest - new.hi) in
      let here : IsMessage c (place (length (digits (length c - 2) new.key)) new.hi)
      (next_of (cut_at (digits (length c - 2) new.key) new.hi (new.rest - new.hi)) p) =
      subst (λ (at : List ℕ). IsMessage c (place (length (digits (length c - 2) new.key)) new.hi) (next_of at p)) same
      message in
      let wanted : IsWanted c (cut_at (digits (length c - 2) new.key) new.hi (new.rest - new.hi))
      (Some (length c - 2)) p =
      subst (λ (v : ℕ). IsMessage c (place (length c - 2) v)
      (next_of (cut_at (digits (length c - 2) new.key) new.hi (new.rest - new.hi)) p)) (sym count)
      (subst (λ (q : ℕ). IsMessage c (place q new.hi)
      (next_of (cut_at (digits (length c - 2) new.key) new.hi (new.rest - new.hi)) p)) prefix_size here) in
      subst (λ (at : List ℕ). IsFound c new_born at p) (sym (is ∙ ap (λ (at : List ℕ). one_more at p) same))
      (g.top (m.top w.0 sends) p lt wanted)
  all p cut lt (if_low low message is) =
      let w = (flags.2 (rest_at (level_of (length c - 2) old + 1) (run_view (length c - 2) new) - new.lo)).0 low in
      let last : suc (length (digits (length c - 2) new.key)) ≡ length c - 1 = omega (arith, prefix_size) in
      let beside : rest_at (level_of (length c - 2) old + 1) (run_view (length c - 2) new) - new.lo
      ≡ new.rest - new.lo = ap (λ (s : ℕ). s - new.lo) rest_of in
      let sends : IsReceivedBelow c (length c - 2) (place (length c - 1) (new.rest - new.lo)) =
      subst (λ (y : ℕ). IsReceivedBelow c (length c - 2) (place (length c - 1) y)) beside
      (subst (λ (q : ℕ). IsReceivedBelow c (length c - 2) (place q
      (rest_at (level_of (length c - 2) old + 1) (run_view (length c - 2) new) - new.lo))) last
      (subst (λ (n : ℕ). IsReceivedBelow c n (place (suc (length (digits (length c - 2) new.key)))
      (rest_at (level_of (length c - 2) old + 1) (run_view (length c - 2) new) - new.lo))) prefix_size w.2)) in
      let same : cut_at (digits (length c - 2) new.key) new.lo
      (rest_at (level_of (length c - 2) old + 1) (run_view (length c - 2) new) - new.lo)
      ≡ cut_at (digits (length c - 2) new.key) new.lo (new.rest - new.lo) =
      ap (λ (y : ℕ). cut_at (digits (length c - 2) new.key) new.lo y) beside in
      let count : get_or (cut_at (digits (length c - 2) new.key) new.lo (new.rest - new.lo)) (length c - 1) 0
      ≡ new.rest - new.lo =
      ap (λ (q : ℕ). get_or (cut_at (digits (length c - 2) new.key) new.lo (new.rest - new.lo)) q 0)
      (sym last) ∙ y_at (digits (length c - 2) new.key) new.lo (new.rest - new.lo) in
      let here : IsMessage c (place (suc (length (digits (length c - 2) new.key))) (new.rest - new.lo))
      (next_of (cut_at (digits (length c - 2) new.key) new.lo (new.rest - new.lo)) p) =
      subst (λ (at : List ℕ). IsMessage c (place (suc (length (digits (length c - 2) new.key))) (new.rest - new.lo))
      (next_of at p)) same
      (subst (λ (y : ℕ). IsMessage c (place (suc (length (digits (length c - 2) new.key))) y)
      (next_of (cut_at (digits (length c - 2) new.key) new.lo
      (rest_at (level_of (length c - 2) old + 1) (run_view (length c - 2) new) - new.lo)) p)) beside message) in
      let wanted : IsWanted c (cut_at (digits (length c - 2) new.key) new.lo (new.rest - new.lo))
      (Some (length c - 1)) p =
      subst (λ (v : ℕ). IsMessage c (place (length c - 1) v)
      (next_of (cut_at (digits (length c - 2) new.key) new.lo (new.rest - new.lo)) p)) (sym count)
      (subst (λ (q : ℕ). IsMessage c (place q (new.rest - new.lo))
      (next_of (cut_at (digits (length c - 2) new.key) new.lo (new.rest - new.lo)) p)) last here) in
      subst (λ (at : List ℕ). IsFound c new_born at p) (sym (is ∙ ap (λ (at : List ℕ). one_more at p) same))
      (g.low (m.low w.0 sends) p lt wanted)

  pub births_of_moved : AddsBirths c (level_of (length c - 2) old + 1) new born new_born
  births_of_moved = record { kept = g.kept; just = just; all = all }

-- the births at both ends of a run
pub grow_ends : (c : Computation) (run : KeyedRun) (at_top at_low : Bool) (p q : ℕ) → p ≡ length c - 2
    → q ≡ length c - 1 → run.lo ≤ run.hi → run.hi ≤ run.rest → (old mid new : List KeyedBirth)
    → GrowsIf c (cut_at (digits (length c - 2) run.key) run.hi (run.rest - run.hi)) at_top p (length c - 2) old mid
    → GrowsIf c (cut_at (digits (length c - 2) run.key) run.lo (run.rest - run.lo)) at_low q (length c - 2) mid new
    → GrowsAtEnds c run at_top at_low old new
grow_ends c run at_top at_low p q p_is q_is some within old mid new first second = record {
  kept = λ z has. second.kept z (first.kept z has);
  just = λ z has. from z (second.just z has);
  top = λ is r lt wanted. found_more c mid new
      (one_more (cut_at (digits (length c - 2) run.key) run.hi (run.rest - run.hi)) r) r second.kept
      (first.all is r lt (subst (λ (s : ℕ).
      IsWanted c (cut_at (digits (length c - 2) run.key) run.hi (run.rest - run.hi)) (Some s) r) (sym p_is) wanted));
  low = λ is r lt wanted. second.all is r lt (subst (λ (s : ℕ).
      IsWanted c (cut_at (digits (length c - 2) run.key) run.lo (run.rest - run.lo)) (Some s) r) (sym q_is) wanted);
}
  where
    Made : KeyedBirth → Type 0
    Made z =
        (r x : ℕ) × (r < length c - 2) × (x ≤ run.rest)
        × IsConsistent c (one_more (cut_at (digits (length c - 2) run.key) x (run.rest - x)) r)
        × IsUndoable c (one_more (cut_at (digits (length c - 2) run.key) x (run.rest - x)) r) r
        × (z ≡ birth_of (one_more (cut_at (digits (length c - 2) run.key) x (run.rest - x)) r) r)

    earlier : (z : KeyedBirth) → Contains old z
        ⊎ ((r : ℕ) × (r < length c - 2)
        × IsConsistent c (one_more (cut_at (digits (length c - 2) run.key) run.hi (run.rest - run.hi)) r)
        × IsUndoable c (one_more (cut_at (digits (length c - 2) run.key) run.hi (run.rest - run.hi)) r) r
        × (z ≡ birth_of (one_more (cut_at (digits (length c - 2) run.key) run.hi (run.rest - run.hi)) r) r))
        → Contains old z ⊎ Made z
    earlier z (inl has) = inl has
    earlier z (inr (r, lt, ok, undo, is)) = inr (r, run.hi, lt, within, ok, undo, is)

    from : (z : KeyedBirth) → Contains mid z
        ⊎ ((r : ℕ) × (r < length c - 2)
        × IsConsistent c (one_more (cut_at (digits (length c - 2) run.key) run.lo (run.rest - run.lo)) r)
        × IsUndoable c (one_more (cut_at (digits (length c - 2) run.key) run.lo (run.rest - run.lo)) r) r
        × (z ≡ birth_of (one_more (cut_at (digits (length c - 2) run.key) run.lo (run.rest - run.lo)) r) r))
        → Contains old z ⊎ Made z
    from z (inl has) = earlier z (first.just z has)
    from z (inr (r, lt, ok, undo, is)) = inr (r, run.lo, lt, omega arith, ok, undo, is)

-- the births of a run that is born itself
pub births_of_born : (c : Computation) → 2 ≤ length c → (k key x y : ℕ)
    → IsConsistent c (cut_at (digits (length c - 2) key) x y)
    → sum (cut_at (digits (length c - 2) key) x y) ≡ k → IsYoung c k (digits (length c - 2) key)
    → (old new : List KeyedBirth) → GrowsBy c (cut_at (digits (length c - 2) key) x y) None (length c - 2) old new
    → AddsBirths c k (record { key = key; lo = x; hi = x; rest = x + y }) old new
births_of_born c two k key x y ok level young old new g = record {
  kept = g.kept;
  just = λ z has. just z (g.just z has);
  all = all;
}
  where
    run : KeyedRun
    run = record { key = key; lo = x; hi = x; rest = x + y }

    total : sum (digits (length c - 2) key) + (x + y) ≡ k
    total = sym (sum_cut (digits (length c - 2) key) x y) ∙ level

    just : (z : KeyedBirth) → Contains old z
        ⊎ ((p : ℕ) × (p < length c - 2) × IsConsistent c (one_more (cut_at (digits (length c - 2) key) x y) p)
        × IsUndoable c (one_more (cut_at (digits (length c - 2) key) x y) p) p
        × (z ≡ birth_of (one_more (cut_at (digits (length c - 2) key) x y) p) p))
        → Contains old z ⊎ IsBirth c (k + 1) z
    just z (inl has) = inl has
    just z (inr (p, lt, more, undo, is)) =
        let y_is : x + y - x ≡ y = omega arith in
        let same : cut_at (digits (length c - 2) key) x (x + y - x) ≡ cut_at (digits (length c - 2) key) x y =
        ap (λ (v : ℕ). cut_at (digits (length c - 2) key) x v) y_is in
        let made : IsOfLevel c (level_of (length c - 2) run + 1)
        (one_more (cut_at (digits (length c - 2) key) x (x + y - x)) p) =
        more_level c run p x two lt (omega arith)
        (subst (λ (cut : List ℕ). IsConsistent c (one_more cut p)) (sym same) more) in
        inr (
          one_more (cut_at (digits (length c - 2) key) x y) p,
          subst (λ (cut : List ℕ). IsOfLevel c (k + 1) (one_more cut p)) same
              (subst (λ (j : ℕ). IsOfLevel c (j + 1) (one_more (cut_at (digits (length c - 2) key) x (x + y - x)) p))
              total
              made),
          ap (λ (birth : KeyedBirth). birth.cut) is,
          subst (λ (birth : KeyedBirth). IsUndoable c (one_more (cut_at (digits (length c - 2) key) x y) p) birth.by)
              (sym is) undo,
        )

    all : (p : ℕ) (cut : List ℕ) → p < length c - 2
        → IsMadeAt c k (run_view (length c - 2) (record { key = key; lo = x; hi = x; rest = x + y })) p cut
        → IsFound c new cut p
    all p cut lt (if_young _ single met is) =
        let many : length (digits (length c - 2) key) ≡ length c - 2 = length-digits (length c - 2) key in
        let size : length (cut_at (digits (length c - 2) key) x y) ≡ length (digits (length c - 2) key) + 2 =
        length_cut (digits (length c - 2) key) x y in
        let y_is : k - sum (digits (length c - 2) key) - x ≡ y = omega (arith, total) in
        let same : cut_at (digits (length c - 2) key) x (k - sum (digits (length c - 2) key) - x)
        ≡ cut_at (digits (length c - 2) key) x y =
        ap (λ (v : ℕ). cut_at (digits (length c - 2) key) x v) y_is in
        let met' : IsMetAt c (cut_at (digits (length c - 2) key) x y)
        (next_of (cut_at (digits (length c - 2) key) x y) p) =
        subst (λ (at : List ℕ). IsMetAt c at (next_of at p)) same met in
        let more : IsConsistent c (one_more (cut_at (digits (length c - 2) key) x y) p) =
        add_met c (cut_at (digits (length c - 2) key) x y) p ok (omega arith) met'.0 met'.1 in
        subst (λ (at : List ℕ). IsFound c new at p) (sym (is ∙ ap (λ (at : List ℕ). one_more at p) same))
        (g.all p lt more)
    all p cut lt (if_top t message is) = absurd (young.before t.before.0 t.before.2 (t.before.1, t.before.4.inside))
    all p cut lt (if_low l message is) = absurd (young.before l.before.0 l.before.1 (x, l.before.2.inside))
