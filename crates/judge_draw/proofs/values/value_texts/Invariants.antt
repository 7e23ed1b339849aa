-- The texts of the processes so far.
use Rattle.std.proofs.Common.{◌≡◌, length, [], ◌∷◌}
use Rattle.def_format.specs.Names.{vars_of}
use Rattle.out_picture.specs.Layout.{upto}
use Rattle.out_picture.specs.Pictures.{texts_view}
use Rattle.pd_pred.specs.Trees.{tree_view}
use Rattle.judge_draw.specs.Values.{item_at, items_text}
use Rattle.judge_draw.proofs.values.value_texts.Given as goal

abbrev pub invariant-loop-p : goal.invariant-loop-p
invariant-loop-p g l = texts_view l.texts.items
    ≡ upto (λ p. items_text (item_at (vars_of l.names p) (g.V.Values.state l.values) (tree_view l.tree) p)
    (length (vars_of l.names p)) ∷ []) l.p
