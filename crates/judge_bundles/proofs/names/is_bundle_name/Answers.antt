-- What `ends_with` says, by the name.
use Rattle.judge_bundles.proofs.BundleNames.{named_as_bundle, not_named_as_bundle}
use Rattle.judge_bundles.proofs.names.is_bundle_name.Goals as goal

pub returns-clause-yes : goal.returns-clause-yes
returns-clause-yes c = named_as_bundle c.ends_with.result c.args.name.now c.ends_with.ensures.cases

pub returns-clause-no : goal.returns-clause-no
returns-clause-no c = not_named_as_bundle c.ends_with.result c.args.name.now c.ends_with.ensures.cases
