-- The cuts of one run after another.
use Rattle.std.proofs.Common.{◌≡◌, ℕ, suc, ◌+◌, ◌-◌, ◌<◌, ◌≤◌, List, [], ◌∷◌, ◌++◌, length, get_or, take, ap, ◌∙◌, subst, arith}
use Rattle.std.proofs.lemmas.List.{take_more, take_all}
use Rattle.std.proofs.lemmas.List.Elements.{Contains-get_or}
use Rattle.walk_runs.specs.Levels.{cut_count, runs_view}
use Rattle.walk_runs.specs.KeptRuns.{run_view}
use Rattle.walk_runs.specs.WholeLevels.{Run, count_of_runs}
use Rattle.walk_runs.specs.Kept.{KeyedRun}
use Rattle.walk_runs.proofs.KeyLists.{get_or_default, map_push}
use Rattle.walk_runs.proofs.whole.cuts_in.Goals as goal

abbrev none : KeyedRun
none = record { key = 0; lo = 0; hi = 0; rest = 0 }

count_push : (runs : List Run) (run : Run) → count_of_runs (runs ++ run ∷ []) ≡ count_of_runs runs
    + (suc run.hi - run.lo)
count_push [] run = omega arith
count_push (first ∷ runs) run =
    let rest : count_of_runs (runs ++ run ∷ []) ≡ count_of_runs runs + (suc run.hi - run.lo) = count_push runs run in
    omega arith

one_run : (n i : ℕ) (runs : List KeyedRun) → i < length runs
    → count_of_runs (runs_view n (take (i + 1) runs))
    ≡ count_of_runs (runs_view n (take i runs)) + (suc (get_or runs i none).hi - (get_or runs i none).lo)
one_run n i runs lt =
    ap (λ (rs : List KeyedRun). count_of_runs (runs_view n rs)) (take_more runs i none lt)
    ∙ (ap count_of_runs (map_push (run_view n) (take i runs) (get_or runs i none))
    ∙ count_push (runs_view n (take i runs)) (run_view n (get_or runs i none)))

pub overflow_sub-run-inside : goal.overflow_sub-run-inside
overflow_sub-run-inside g c =
    let is : c.index-runs-i.result ≡ get_or c.args.runs.now c.loop-i.i none =
    c.index-runs-i.is ∙ get_or_default c.args.runs.now c.loop-i.i c.index-runs-i.result none c.loop-i-test.true in
    let lo_is : c.run.inside.lo ≡ (get_or c.args.runs.now c.loop-i.i none).lo =
    ap (λ (r : KeyedRun). r.lo) c.run.view_is ∙ ap (λ (r : KeyedRun). r.lo) is in
    let hi_is : c.run.inside.hi ≡ (get_or c.args.runs.now c.loop-i.i none).hi =
    ap (λ (r : KeyedRun). r.hi) c.run.view_is ∙ ap (λ (r : KeyedRun). r.hi) is in
    let some : (get_or c.args.runs.now c.loop-i.i none).lo ≤ (get_or c.args.runs.now c.loop-i.i none).hi =
    c.requires (get_or c.args.runs.now c.loop-i.i none)
    (Contains-get_or c.args.runs.now c.loop-i.i none c.loop-i-test.true) in
    omega arith

pub loop-i-preserved : goal.loop-i-preserved
loop-i-preserved g c = λ n.
    let is : c.index-runs-i.result ≡ get_or c.args.runs.now c.loop-i.i none =
    c.index-runs-i.is ∙ get_or_default c.args.runs.now c.loop-i.i c.index-runs-i.result none c.loop-i-test.true in
    let lo_is : c.run.inside.lo ≡ (get_or c.args.runs.now c.loop-i.i none).lo =
    ap (λ (r : KeyedRun). r.lo) c.run.view_is ∙ ap (λ (r : KeyedRun). r.lo) is in
    let hi_is : c.run.inside.hi ≡ (get_or c.args.runs.now c.loop-i.i none).hi =
    ap (λ (r : KeyedRun). r.hi) c.run.view_is ∙ ap (λ (r : KeyedRun). r.hi) is in
    let before : c.loop-i.cuts ≡ cut_count (runs_view n (take c.loop-i.i c.args.runs.now)) = c.loop-i.invariant n in
    let more : count_of_runs (runs_view n (take (c.loop-i.i + 1) c.args.runs.now))
    ≡ count_of_runs (runs_view n (take c.loop-i.i c.args.runs.now))
    + (suc (get_or c.args.runs.now c.loop-i.i none).hi - (get_or c.args.runs.now c.loop-i.i none).lo) =
    one_run n c.loop-i.i c.args.runs.now c.loop-i-test.true in
    let some : (get_or c.args.runs.now c.loop-i.i none).lo ≤ (get_or c.args.runs.now c.loop-i.i none).hi =
    c.requires (get_or c.args.runs.now c.loop-i.i none)
    (Contains-get_or c.args.runs.now c.loop-i.i none c.loop-i-test.true) in
    omega (arith, c.saturating_add-cuts.ensures, c.from.ensures)

pub returns : goal.returns
returns g c = λ n.
    let all : take c.loop-i.i c.args.runs.now ≡ c.args.runs.now = take_all c.loop-i.i c.args.runs.now (omega arith) in
    subst (λ (rs : List KeyedRun). c.loop-i.cuts ≡ cut_count (runs_view n rs)) all (c.loop-i.invariant n)
