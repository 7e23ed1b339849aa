-- The key of a run's prefix, with two digits more.
use Rattle.std.proofs.Common.{◌≡◌, ℕ, ◌+◌, ◌-◌, ◌*◌, ◌^◌, ◌<◌, ◌≤◌, List, length, get_or, sym, ap, subst, arith}
use Rattle.std.specs.Prelude.{Some, slice_get, Contains}
use Rattle.std.proofs.lemmas.List.{length-map}
use Rattle.std.proofs.lemmas.List.Elements.{Contains-get_or}
use Rattle.walk_keys.specs.Keys.{count_base, digits, key_of}
use Rattle.walk_keys.proofs.Keys.{weight_le, key-digits}
use Rattle.walk_keys.specs.Neighbors.{cut_at}
use Rattle.walk_runs.specs.KeptRuns.{run_view}
use Rattle.walk_runs.specs.Levels.{WholeLevel, runs_view}
use Rattle.walk_runs.specs.WholeLevels.{Run}
use Rattle.walk_runs.specs.Kept.{KeyedRun}
use Rattle.walk_runs.proofs.KeyLists.{run_read}
use Rattle.walk_runs.proofs.PointFacts.{key_of_two}
use Rattle.walk_runs.proofs.whole.Whole.key.Goals as goal

there : (runs : List KeyedRun) (i : ℕ) (run : KeyedRun) → i < length runs → run ≡ get_or runs i run → Contains runs run
there runs i run lt is = subst (λ (r : KeyedRun). Contains runs r) (sym is) (Contains-get_or runs i run lt)

pub with_two-requires-clause-few : goal.with_two-requires-clause-few
with_two-requires-clause-few g c =
    let same : runs_view (c.self.inside.processes - 2) c.self.inside.runs.items ≡ c.args.self.now.runs =
    ap (λ (l : WholeLevel). l.runs) c.self.view_is in
    let size : length (runs_view (c.self.inside.processes - 2) c.self.inside.runs.items)
    ≡ length c.self.inside.runs.items =
    length-map c.self.inside.runs.items (run_view (c.self.inside.processes - 2)) in
    let lt : c.args.i < length c.self.inside.runs.items = omega (arith, ap length same, c.requires) in
    let key : g.K.Key.number c.run.inside.key ≡ c.index-run.result.now.key =
    ap (λ (r : KeyedRun). r.key) c.run.view_is in
    let below : c.index-run.result.now.key < count_base ^ (c.self.inside.processes - 2) =
    (c.self.invariant.0.kept c.index-run.result.now
    (there c.self.inside.runs.items c.args.i c.index-run.result.now lt c.index-run.ensures)).below in
    let most : count_base ^ (c.self.inside.processes - 2) ≤ count_base ^ (g.K.Key.room - 2) =
    weight_le (c.self.inside.processes - 2) (g.K.Key.room - 2) (omega (arith, c.self.invariant.0.few)) in
    omega arith

pub returns : goal.returns
returns g c =
    let same : runs_view (c.self.inside.processes - 2) c.self.inside.runs.items ≡ c.args.self.now.runs =
    ap (λ (l : WholeLevel). l.runs) c.self.view_is in
    let size : length (runs_view (c.self.inside.processes - 2) c.self.inside.runs.items)
    ≡ length c.self.inside.runs.items =
    length-map c.self.inside.runs.items (run_view (c.self.inside.processes - 2)) in
    let lt : c.args.i < length c.self.inside.runs.items = omega (arith, ap length same, c.requires) in
    let below : c.index-run.result.now.key < count_base ^ (c.self.inside.processes - 2) =
    (c.self.invariant.0.kept c.index-run.result.now
    (there c.self.inside.runs.items c.args.i c.index-run.result.now lt c.index-run.ensures)).below in
    let read : slice_get c.args.self.now.runs c.args.i
    ≡ Some (run_view (c.self.inside.processes - 2) c.index-run.result.now) =
    subst (λ (rs : List Run). slice_get rs c.args.i
    ≡ Some (run_view (c.self.inside.processes - 2) c.index-run.result.now)) same
    (run_read (c.self.inside.processes - 2) c.self.inside.runs.items c.args.i c.index-run.result.now lt
    c.index-run.ensures) in
    let key : key_of (digits (c.self.inside.processes - 2) c.index-run.result.now.key) ≡ c.index-run.result.now.key =
    key-digits (c.self.inside.processes - 2) c.index-run.result.now.key below in
    let two : key_of (cut_at (digits (c.self.inside.processes - 2) c.index-run.result.now.key) 0 0)
    ≡ (key_of (digits (c.self.inside.processes - 2) c.index-run.result.now.key) * count_base + 0) * count_base + 0 =
    key_of_two (digits (c.self.inside.processes - 2) c.index-run.result.now.key) 0 0 in
    let key_is : g.K.Key.number c.run.inside.key ≡ c.index-run.result.now.key =
    ap (λ (r : KeyedRun). r.key) c.run.view_is in
    let made : g.K.Key.number c.with_two.result
    ≡ key_of (cut_at (digits (c.self.inside.processes - 2) c.index-run.result.now.key) 0 0) =
    omega (arith, c.with_two.ensures) in
    rw read made
