-- The parts that were left are the streams.
use Rattle.std.proofs.Common.{[], ◌∷◌}
use Rattle.judge_bundles.proofs.contents.session_contents.Goals as goal

pub returns-clause-contents : goal.returns-clause-contents
returns-clause-contents g c = λ input options wishes is named has. record {
  is_document = is;
  has_wished = named;
  are_streams = c.in_ok-gathered.ensures.read input (c.args.document.items ∷ []) has;
}
