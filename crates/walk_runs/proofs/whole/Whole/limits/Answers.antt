-- The counts of each prefix are the digits of the key that is kept.
use Rattle.std.proofs.Common.{◌≡◌, ◌-◌, ◌≤◌, ℕ, zero, suc, List, [], ◌∷◌, refl, Contains, subst, arith}
use Rattle.def_format.specs.Limits.{process_limit}
use Rattle.walk_keys.specs.Keys.{AreDigits}
use Rattle.walk_runs.specs.KeptRuns.{run_view}
use Rattle.walk_runs.specs.Levels.{WholeLevel, runs_view}
use Rattle.walk_runs.specs.WholeLevels.{Run}
use Rattle.walk_runs.specs.Kept.{KeyedRun}
use Rattle.walk_keys.proofs.Keys.{digits_are}
use Rattle.walk_runs.proofs.whole.Whole.limits.Goals as goal

in_view : (n : ℕ) (runs : List KeyedRun) (run : Run) → Contains (runs_view n runs) run
    → (kept : KeyedRun) × Contains runs kept × (run_view n kept ≡ run)
in_view n [] run (k, lt, at) = absurd (omega arith)
in_view n (first ∷ runs) run (zero, lt, at) = (first, (0, omega arith, refl), at)
in_view n (first ∷ runs) run (suc k, lt, at) =
    let w : (kept : KeyedRun) × Contains runs kept × (run_view n kept ≡ run) =
    in_view n runs run (k, omega arith, at) in
    (w.0, (suc w.1.0, omega (arith, w.1.1), w.1.2), w.2)

pub returns-clause-digits : goal.returns-clause-digits
returns-clause-digits g c =
    subst (λ (l : WholeLevel). (run : Run) → Contains l.runs run → AreDigits run.prefix) c.self.view_is
    (λ run has.
    let w : (kept : KeyedRun) × Contains c.self.inside.runs.items kept
    × (run_view (c.self.inside.processes - 2) kept ≡ run) =
    in_view (c.self.inside.processes - 2) c.self.inside.runs.items run has in
    subst (λ (r : Run). AreDigits r.prefix) w.2
    (digits_are (c.self.inside.processes - 2) w.0.key (c.self.invariant.0.kept w.0 w.1).below))

pub returns-clause-fits : goal.returns-clause-fits
returns-clause-fits g c =
    subst (λ (l : WholeLevel). g.K.Key.fits l.processes) c.self.view_is c.self.invariant.2

pub returns-clause-rows : goal.returns-clause-rows
returns-clause-rows g c =
    subst (λ (l : WholeLevel). l.processes ≤ process_limit) c.self.view_is
    (omega (arith, c.self.invariant.0.few, g.met.K.Key.few))
