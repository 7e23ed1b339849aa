-- One event more.
use Rattle.std.proofs.Common.{◌∙◌, List, ℕ, [], ◌∷◌, ◌++◌, ap}
use Rattle.pd_report.proofs.Places.{one_more_named}
use Rattle.pd_report.proofs.path.Path.push.Goals as goal

pub returns : goal.returns
returns c =
    rw c.in_ok-push.ensures.items
    (one_more_named c.self.inside.names.items c.place_of.new.names.items c.self.inside.steps.items c.in_ok-step.step
    c.args.name.now c.in_ok-step.ensures.more c.self.invariant c.in_ok-step.ensures.place.1
    ∙ ap (λ (path : List (List ℕ)). path ++ c.args.name.now ∷ []) c.self.view_is)
