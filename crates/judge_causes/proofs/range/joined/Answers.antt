-- The first candidates, and those that are kept.
use Rattle.std.proofs.Common.{ap, ◌∙◌, ◌++◌, take}
use Rattle.judge_causes.proofs.SearchSteps.{joined_view}
use Rattle.judge_causes.proofs.range.joined.Goals as goal

pub returns : goal.returns
returns c =
    joined_view c.args.candidates.now c.args.kept.now c.extend_from_slice-2.new.self.items c.args.count
    (c.in_ok-extend_from_slice-2.ensures.items
    ∙ ap (λ list. list ++ c.args.kept.now)
    (c.in_ok-extend_from_slice.ensures.items
    ∙ ap (λ list. list ++ take c.args.count c.args.candidates.now) c.in_ok-made.ensures.items))
