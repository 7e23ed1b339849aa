-- Level 0 is kept as one run with its births.
use Rattle.std.proofs.Common.{◌≡◌, ℕ, ◌+◌, ◌-◌, ◌^◌, ◌<◌, List, [], ◌∷◌, ◌++◌, length, sym, ap, ◌∙◌, subst, arith}
use Rattle.std.specs.Prelude.{None}
use Rattle.walk_keys.specs.Keys.{count_base, digits}
use Rattle.walk_keys.proofs.Keys.{weight_pos}
use Rattle.def_model.specs.Cuts.{IsConsistent}
use Rattle.walk_keys.specs.Neighbors.{cut_at}
use Rattle.walk_runs.specs.Levels.{IsKeptLevel, IsWholeLevel, cut_count, runs_view, whole_view}
use Rattle.walk_runs.specs.Points.{GrowsBy}
use Rattle.walk_runs.specs.Kept.{KeyedBirth, KeyedRun, cuts_of}
use Rattle.walk_runs.proofs.FirstLevel.{first_consistent, first_run, first_level, first_kept}
use Rattle.walk_runs.proofs.whole.Whole.first.Goals as goal

pub add_births-requires-clause-few : goal.add_births-requires-clause-few
add_births-requires-clause-few g c = g.met.K.Key.fits_room (length c.args.steps.now) c.requires

pub add_births-requires-clause-below : goal.add_births-requires-clause-below
add_births-requires-clause-below g c =
    subst (λ (key : ℕ). key < count_base ^ (length c.args.steps.now - 2)) (sym c.none-2.ensures)
    (weight_pos (length c.args.steps.now - 2))

pub add_births-requires-clause-cut : goal.add_births-requires-clause-cut
add_births-requires-clause-cut g c =
    subst (λ (key : ℕ). IsConsistent c.args.steps.now (cut_at (digits (length c.args.steps.now - 2) key) 0 0))
    (sym c.none-2.ensures) (first_consistent c.args.steps.now c.limits.ensures.two)

pub add_births-requires-clause-latest : goal.add_births-requires-clause-latest
add_births-requires-clause-latest g c = λ lt. absurd (omega arith)

pub invariant_of-result : goal.invariant_of-result
invariant_of-result g c =
    let e : length c.args.steps.now ≡ c.prefix-others.result + 2 =
    omega (arith, c.prefix-others.ensures, c.limits.ensures.two) in
    let runs : c.push.new.self.items ≡ first_run ∷ [] =
    c.in_ok-push.ensures.items
    ∙ ap (λ (key : ℕ). c.in_ok-runs.runs.items ++ (record { key = key; lo = 0; hi = 0; rest = 0 }) ∷ []) c.none.ensures
    ∙ ap (λ (rs : List KeyedRun). rs ++ first_run ∷ []) c.in_ok-runs.ensures.items in
    let grown : GrowsBy c.args.steps.now (cut_at (digits (length c.args.steps.now - 2) 0) 0 0) None
    (length c.args.steps.now - 2) [] c.add_births.new.born =
    subst (λ (old : List KeyedBirth).
    GrowsBy c.args.steps.now (cut_at (digits (length c.args.steps.now - 2) 0) 0 0) None
    (length c.args.steps.now - 2) old c.add_births.new.born) c.new-born.ensures
    (subst (λ (key : ℕ). GrowsBy c.args.steps.now (cut_at (digits (length c.args.steps.now - 2) key) 0 0) None
    (length c.args.steps.now - 2) c.new-born.result c.add_births.new.born) c.none-2.ensures
    c.in_ok-add_births.ensures) in
    let born : List KeyedBirth = c.add_births.new.born in
    let kept : IsKeptLevel g.K.Key.room (length c.args.steps.now) 0 (first_run ∷ []) (cuts_of born) =
    first_kept c.args.steps.now c.limits.ensures.short c.limits.ensures.walkable c.limits.ensures.two
    born grown g.K.Key.room (g.met.K.Key.fits_room (length c.args.steps.now) c.requires) in (
      subst (λ (rs : List KeyedRun). IsKeptLevel g.K.Key.room (c.prefix-others.result + 2) 0 rs (cuts_of born))
          (sym runs)
          (subst (λ (m : ℕ). IsKeptLevel g.K.Key.room m 0 (first_run ∷ []) (cuts_of born)) e kept),
      subst (λ (rs : List KeyedRun). 1 ≡ cut_count (runs_view (c.prefix-others.result + 2 - 2) rs)) (sym runs)
          (omega arith),
      subst g.K.Key.fits e c.requires,
    )

pub returns-clause-level : goal.returns-clause-level
returns-clause-level g c =
    let e : length c.args.steps.now ≡ c.prefix-others.result + 2 =
    omega (arith, c.prefix-others.ensures, c.limits.ensures.two) in
    let runs : c.push.new.self.items ≡ first_run ∷ [] =
    c.in_ok-push.ensures.items
    ∙ ap (λ (key : ℕ). c.in_ok-runs.runs.items ++ (record { key = key; lo = 0; hi = 0; rest = 0 }) ∷ []) c.none.ensures
    ∙ ap (λ (rs : List KeyedRun). rs ++ first_run ∷ []) c.in_ok-runs.ensures.items in
    let grown : GrowsBy c.args.steps.now (cut_at (digits (length c.args.steps.now - 2) 0) 0 0) None
    (length c.args.steps.now - 2) [] c.add_births.new.born =
    subst (λ (old : List KeyedBirth).
    GrowsBy c.args.steps.now (cut_at (digits (length c.args.steps.now - 2) 0) 0 0) None
    (length c.args.steps.now - 2) old c.add_births.new.born) c.new-born.ensures
    (subst (λ (key : ℕ). GrowsBy c.args.steps.now (cut_at (digits (length c.args.steps.now - 2) key) 0 0) None
    (length c.args.steps.now - 2) c.new-born.result c.add_births.new.born) c.none-2.ensures
    c.in_ok-add_births.ensures) in
    let born : List KeyedBirth = c.add_births.new.born in
    subst (λ (rs : List KeyedRun). IsWholeLevel c.args.steps.now (whole_view (c.prefix-others.result + 2) 0 rs born))
    (sym runs)
    (subst (λ (m : ℕ). IsWholeLevel c.args.steps.now (whole_view m 0 (first_run ∷ []) born)) e
    (first_level c.args.steps.now c.limits.ensures.short
    c.limits.ensures.walkable c.limits.ensures.two born grown))
