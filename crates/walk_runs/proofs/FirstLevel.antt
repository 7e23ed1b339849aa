-- Level 0, which has the run of the empty cut alone.
use Rattle.std.proofs.Common.{◌≡◌, ℕ, zero, suc, ◌+◌, ◌-◌, ◌<◌, ◌≤◌, List, [], ◌∷◌, length, sum, Contains, sym, ap, ◌∙◌, subst, inl, inr, ◌⊎◌, arith}
use Rattle.std.specs.Prelude.{None}
use Rattle.def_format.specs.Limits.{event_limit}
use Rattle.walk_keys.specs.Keys.{digits}
use Rattle.walk_keys.proofs.Keys.{digits-empty, weight_pos}
use Rattle.def_model.specs.Events.{Computation, event_count}
use Rattle.def_model.specs.Cuts.{IsConsistent, empty_cut}
use Rattle.def_model.proofs.Counts.{sum_empty}
use Rattle.def_model.proofs.Steps.{empty_consistent}
use Rattle.walk_keys.specs.Neighbors.{cut_at}
use Rattle.walk_runs.specs.Births.{IsWalkable}
use Rattle.walk_runs.specs.Points.{GrowsBy, IsFound}
use Rattle.walk_runs.specs.WholeLevels.{IsWhole, IsMadeAt}
use Rattle.walk_runs.specs.KeptRuns.{run_view, AddsBirths, IsBirth, IsKept}
use Rattle.walk_runs.specs.Levels.{IsKeptLevel, IsWholeLevel, whole_view, runs_view}
use Rattle.walk_runs.specs.Kept.{KeyedBirth, KeyedRun, cuts_of}
use Rattle.walk_runs.proofs.Ascending.{nothing_in_empty}
use Rattle.walk_runs.proofs.Flags.{first_is_young}
use Rattle.walk_runs.proofs.LastMakers.{births_below, level_with_births}
use Rattle.walk_runs.proofs.NextRuns.{first_whole}
use Rattle.walk_runs.proofs.PointFacts.{split_digits}
use Rattle.walk_runs.proofs.Pushing.{births_of_born}
use Rattle.walk_runs.proofs.RunCuts.{sum_cut}

pub first_cut : (c : Computation) → 2 ≤ length c → cut_at (digits (length c - 2) 0) 0 0 ≡ empty_cut c
first_cut c two =
    let e : length c - 2 + 2 ≡ length c = omega arith in
    (split_digits (length c - 2) 0 (weight_pos (length c - 2 + 2))).1
    ∙ (ap (λ (m : ℕ). digits m 0) e ∙ digits-empty c)

pub first_consistent : (c : Computation) → 2 ≤ length c → IsConsistent c (cut_at (digits (length c - 2) 0) 0 0)
first_consistent c two = subst (IsConsistent c) (sym (first_cut c two)) (empty_consistent c)

abbrev pub first_run : KeyedRun
first_run = record { key = 0; lo = 0; hi = 0; rest = 0 }

only_run : (run : KeyedRun) → Contains (first_run ∷ []) run → first_run ≡ run
only_run run (zero, lt, at) = at
only_run run (suc k, lt, at) = absurd (omega arith)

module _ (c : Computation) (small : (q : ℕ) → event_count c q ≤ event_limit) (walkable : IsWalkable c)
    (two : 2 ≤ length c) (born : List KeyedBirth)
    (grown : GrowsBy c (cut_at (digits (length c - 2) 0) 0 0) None (length c - 2) [] born)
  where
    no_sum : sum (cut_at (digits (length c - 2) 0) 0 0) ≡ 0
    no_sum = ap sum (first_cut c two) ∙ sum_empty c

    adds : AddsBirths c 0 first_run [] born
    adds =
        births_of_born c two 0 0 0 0 (first_consistent c two) no_sum
        (first_is_young c (digits (length c - 2) 0) 0 0 (first_consistent c two, no_sum)).0 [] born grown

    whole : IsWhole c 0 (runs_view (length c - 2) (first_run ∷ []))
    whole = first_whole c (digits (length c - 2) 0) (first_cut c two)

    just : (z : KeyedBirth) → Contains born z → IsBirth c (0 + 1) z
    just z has = go (adds.just z has)
      where
        go : Contains [] z ⊎ IsBirth c (0 + 1) z → IsBirth c (0 + 1) z
        go (inl none) = absurd (nothing_in_empty z none)
        go (inr w) = w

    each : (run : KeyedRun) → Contains (first_run ∷ []) run → (p : ℕ) (cut : List ℕ) → p < length c - 2
        → IsMadeAt c 0 (run_view (length c - 2) run) p cut → IsFound c born cut p
    each run has p cut lt made =
        adds.all p cut lt (subst (λ (r : KeyedRun). IsMadeAt c 0 (run_view (length c - 2) r) p cut)
        (sym (only_run run has)) made)

    pub first_level : IsWholeLevel c (whole_view (length c) 0 (first_run ∷ []) born)
    first_level =
        level_with_births c small walkable two 0 (first_run ∷ []) whole born just each

    pub first_kept : (room : ℕ) → length c ≤ room → IsKeptLevel room (length c) 0 (first_run ∷ []) (cuts_of born)
    first_kept room few = record {
      few = few;
      two = two;
      keys = λ i j lt in_. absurd (omega arith);
      kept = λ run has. subst (λ (r : KeyedRun). IsKept (length c - 2) 0 r) (only_run run has) record {
        below = weight_pos (length c - 2);
        level = let t : sum (cut_at (digits (length c - 2) 0) 0 0) ≡ sum (digits (length c - 2) 0) + (0 + 0) =
            sum_cut (digits (length c - 2) 0) 0 0 in let s : sum (cut_at (digits (length c - 2) 0) 0 0) ≡ 0 = no_sum in
            omega arith;
      };
      some = λ run has. subst (λ (r : KeyedRun). r.lo ≤ r.hi) (only_run run has) (omega arith);
      below = births_below c small walkable two 0 (first_run ∷ []) whole born just each;
    }
