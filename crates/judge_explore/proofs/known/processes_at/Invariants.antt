-- What is known of the processes so far, and then of the others.
use Rattle.std.proofs.Common.{◌≡◌, ◌++◌, drop, map}
use Rattle.out_json.specs.Known.{process_view}
use Rattle.pd_pred.specs.Trees.{tree_view}
use Rattle.judge_explore.specs.Known.{processes_at}
use Rattle.out_page.specs.Views.{sources_view}
use Rattle.judge_explore.proofs.known.processes_at.Given as goal

abbrev pub invariant-loop-p : goal.invariant-loop-p
invariant-loop-p g l =
    map process_view l.known.items
    ++ processes_at (tree_view l.tree) (g.V.Values.state l.values) (sources_view l.sources) l.counts l.p
    (drop l.p l.names)
    ≡ processes_at (tree_view l.tree) (g.V.Values.state l.values) (sources_view l.sources) l.counts 0 l.names
