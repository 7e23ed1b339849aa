-- The values so far.
use Rattle.std.proofs.Common.{◌≡◌, map}
use Rattle.std.specs.Prelude.{string_bytes}
use Rattle.pd_pred.specs.Trees.{tree_view}
use Rattle.judge_draw.specs.Values.{item_at, items_text}
use Rattle.judge_draw.proofs.values.process_values.Given as goal

abbrev pub invariant-loop-v : goal.invariant-loop-v
invariant-loop-v g l = string_bytes l.text
    ≡ items_text (item_at (map string_bytes l.vars) (g.V.Values.state l.values) (tree_view l.tree) l.process) l.v
