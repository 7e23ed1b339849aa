-- The births of a level: each candidate is among them, though those that a later process makes, too, are left out.
use Rattle.std.proofs.Common.{◌≡◌, ℕ, zero, suc, ◌+◌, ◌-◌, ◌^◌, ◌<◌, ◌≤◌, List, length, map, Contains, refl, sym, ap, ◌∙◌, subst, inl, inr, arith}
use Rattle.def_format.specs.Limits.{event_limit}
use Rattle.walk_keys.specs.Keys.{count_base, digits, key_of}
use Rattle.walk_keys.proofs.Keys.{length-digits}
use Rattle.def_model.specs.Events.{Computation, event_count}
use Rattle.def_model.specs.Cuts.{IsConsistent, IsOfLevel}
use Rattle.walk_runs.specs.Births.{IsCandidate, IsUndoable, IsWalkable}
use Rattle.walk_runs.specs.Kept.{KeyedBirth, KeyedRun, cuts_of}
use Rattle.walk_runs.specs.KeptRuns.{IsBirth, run_view}
use Rattle.walk_runs.specs.Levels.{IsWholeLevel, runs_view, whole_view}
use Rattle.walk_runs.specs.Points.{IsFound, birth_of}
use Rattle.walk_runs.specs.WholeLevels.{IsMadeAt, IsWhole, Run}
use Rattle.walk_runs.proofs.Born.{candidates_are_cuts}
use Rattle.walk_runs.proofs.CutKeys.{cut_back, cut_below}
use Rattle.walk_runs.proofs.KeyLists.{from_map, in_map}
use Rattle.walk_runs.proofs.RunFlags.{IsMadeBy, candidates_in_runs, made_by_each}

module _ (c : Computation) (small : (q : ℕ) → event_count c q ≤ event_limit) (well : IsWalkable c) (two : 2 ≤ length c)
    (k : ℕ) (runs : List KeyedRun) (whole : IsWhole c k (runs_view (length c - 2) runs)) (born : List KeyedBirth)
    (just : (z : KeyedBirth) → Contains born z → IsBirth c (k + 1) z)
    (each : (run : KeyedRun) → Contains runs run → (p : ℕ) (cut : List ℕ) → p < length c - 2
    → IsMadeAt c k (run_view (length c - 2) run) p cut → IsFound c born cut p)
  where
    abbrev MadeBy : List ℕ → ℕ → Type 0
    MadeBy cut p = IsMadeBy c k (runs_view (length c - 2) runs) cut p

    -- the run where it is made
    run_of : (cut : List ℕ) (p : ℕ) → MadeBy cut p → (p < length c - 2) × IsFound c born cut p
    run_of cut p (run, has, lt, made) =
        let w : (r : KeyedRun) × Contains runs r × (run_view (length c - 2) r ≡ run) =
        from_map (run_view (length c - 2)) runs run has in
        let size : length (digits (length c - 2) w.0.key) ≡ length c - 2 = length-digits (length c - 2) w.0.key in
        let same : length run.prefix ≡ length (digits (length c - 2) w.0.key) =
        ap (λ (r : Run). length r.prefix) (sym w.2) in
        let within : p < length c - 2 = omega arith in (
          within,
          each w.0 w.1 p cut within (subst (λ (r : Run). IsMadeAt c k r p cut) (sym w.2) made),
        )

    -- of the processes from p on that make it, the last one's birth is there
    last_maker : (cut : List ℕ) → IsCandidate c k cut → (n p : ℕ) → length c - 2 ≤ n + p → MadeBy cut p
        → (q : ℕ) × Contains born (birth_of cut q)
    last_maker cut candidate zero p le made =
        let lt : p < length c - 2 = (run_of cut p made).0 in absurd (omega arith)
    last_maker cut candidate (suc n) p le made =
        go (λ q above undo. last_maker cut candidate n q (omega arith)
        (made_by_each c well two k (runs_view (length c - 2) runs) whole cut candidate q undo)) (run_of cut p made).1
      where
        go : ((q : ℕ) → p < q → IsUndoable c cut q → (r : ℕ) × Contains born (birth_of cut r))
            → IsFound c born cut p → (q : ℕ) × Contains born (birth_of cut q)
        go later (inl has) = (p, has)
        go later (inr (q, above, undo)) = later q above undo

    found : (cut : List ℕ) → IsCandidate c k cut → (q : ℕ) × Contains born (birth_of cut q)
    found cut candidate =
        let w = (candidates_in_runs c well.no_cycle k (runs_view (length c - 2) runs) whole cut).0 candidate in
        last_maker cut candidate (length c - 2) w.2.0 (omega arith) (w.0, w.1, w.2.1, w.2.2)

    all : (cut : List ℕ) → IsCandidate c k cut → Contains (map (digits (length c)) (cuts_of born)) cut
    all cut candidate =
        let f : (q : ℕ) × Contains born (birth_of cut q) = found cut candidate in
        let ok : IsConsistent c cut = (candidates_are_cuts c well k cut candidate).0 in
        subst (λ (other : List ℕ). Contains (map (digits (length c)) (cuts_of born)) other) (cut_back c cut small ok)
        (in_map (digits (length c)) (cuts_of born) (key_of cut)
        (in_map (λ (birth : KeyedBirth). birth.cut) born (birth_of cut f.0) f.1))

    -- a birth by the number of its cut
    cut_of : (z : ℕ) → Contains (cuts_of born) z → (birth : KeyedBirth) × Contains born birth × (birth.cut ≡ z)
    cut_of z has = from_map (λ (birth : KeyedBirth). birth.cut) born z has

    same_cut : (birth : KeyedBirth) (cut : List ℕ) → IsConsistent c cut → birth.cut ≡ key_of cut
        → digits (length c) birth.cut ≡ cut
    same_cut birth cut ok is = ap (digits (length c)) is ∙ cut_back c cut small ok

    cuts : (cut : List ℕ) → Contains (map (digits (length c)) (cuts_of born)) cut → IsOfLevel c (k + 1) cut
    cuts cut has =
        let v : (z : ℕ) × Contains (cuts_of born) z × (digits (length c) z ≡ cut) =
        from_map (digits (length c)) (cuts_of born) cut has in
        let b : (birth : KeyedBirth) × Contains born birth × (birth.cut ≡ v.0) = cut_of v.0 v.1 in
        let w : IsBirth c (k + 1) b.0 = just b.0 b.1 in
        let same : digits (length c) b.0.cut ≡ cut = ap (digits (length c)) b.2 ∙ v.2 in
        subst (IsOfLevel c (k + 1)) (sym (same_cut b.0 w.0 w.1.0 w.2) ∙ same) w.1

    undoable : (birth : KeyedBirth) → Contains born birth → IsUndoable c (digits (length c) birth.cut) birth.by
    undoable birth has =
        let w : IsBirth c (k + 1) birth = just birth has in
        subst (λ (cut : List ℕ). IsUndoable c cut birth.by) (sym (same_cut birth w.0 w.1.0 w.2)) w.3

    pub level_with_births : IsWholeLevel c (whole_view (length c) k runs born)
    level_with_births = record {
      processes = refl;
      two = two;
      whole = whole;
      born = cuts;
      all = all;
      undoable = undoable;
    }

    pub births_below : (z : ℕ) → Contains (cuts_of born) z → z < count_base ^ length c
    births_below z has =
        let b : (birth : KeyedBirth) × Contains born birth × (birth.cut ≡ z) = cut_of z has in
        let w : IsBirth c (k + 1) b.0 = just b.0 b.1 in
        subst (λ (x : ℕ). x < count_base ^ length c) (sym w.2 ∙ b.2) (cut_below c w.0 small w.1.0)
