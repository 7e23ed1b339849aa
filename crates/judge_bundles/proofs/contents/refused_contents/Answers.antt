-- The refusal is what comes of the bundle, whatever its streams are.
use Rattle.std.proofs.Common.{[], ◌∷◌}
use Rattle.pd_report.specs.Views.{refusal_view}
use Rattle.judge_bundles.proofs.BundleContents.{refused_held}
use Rattle.judge_bundles.proofs.contents.refused_contents.Goals as goal

pub returns-clause-contents : goal.returns-clause-contents
returns-clause-contents g c = λ input options wishes document is has.
    let left = c.in_ok-read_rest.ensures.parts input (document ∷ []) has in
    refused_held input options wishes document left.0 c.args.fault (refusal_view c.in_ok-refusal.refusal)
    c.one_document.ensures.not_refused c.judgement_is_true.ensures is c.in_ok-refusal.ensures left.1
