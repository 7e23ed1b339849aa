-- The name is what comes of the bundle, whatever its streams are.
use Rattle.std.proofs.Common.{ℕ, List, [], ◌∷◌, subst, sym}
use Rattle.judge_bundles.specs.BundleRuns.{IsOutcomeOfRead}
use Rattle.judge_runs.specs.Runs.{Unnamed}
use Rattle.judge_bundles.proofs.BundleContents.{unnamed_held}
use Rattle.judge_bundles.proofs.contents.unnamed_contents.Goals as goal

pub returns-clause-contents : goal.returns-clause-contents
returns-clause-contents g c = λ input options wishes document read is lacks has.
    let left = c.in_ok-read_rest.ensures.parts input (document ∷ []) has in
    subst (λ (name : List ℕ). IsOutcomeOfRead options wishes input (Unnamed name)) (sym c.in_ok-name.ensures.ok)
    (unnamed_held input options wishes document left.0 read c.args.name.now is lacks left.1)
