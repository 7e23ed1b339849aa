-- The bits are as many as the avoiding cuts.
use Rattle.std.proofs.Common.{◌≡◌, ℕ, List, length, sym, ap, ◌∙◌}
use Rattle.def_model.specs.Answers.{IsListOf}
use Rattle.def_model.specs.Observations.{IsAvoiding}
use Rattle.walk_marks.specs.Marks.{Marking}
use Rattle.walk_marks.proofs.MarkCounts.{counted_list}
use Rattle.walk_marks.proofs.marks.Marks.count.Goals as goal

pub returns : goal.returns
returns c events test level whole is =
    let same : c.args.self.now.count ≡ c.self.inside.count =
    ap (λ (m : Marking). m.count) (sym c.self.view_is) in
    let w : (cuts : List (List ℕ)) × IsListOf (IsAvoiding events test level.number) cuts
    × (length cuts ≡ c.args.self.now.count) =
    counted_list events test level c.args.self.now whole is in
    (w.0, w.1, w.2 ∙ same)
