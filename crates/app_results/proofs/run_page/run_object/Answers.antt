-- The form is an object.
use Rattle.std.proofs.Common.{refl}
use Rattle.app_explore.specs.Explorations.{AskedObject}
use Rattle.app_results.proofs.run_page.run_object.Goals as goal

pub returns-clause-made : goal.returns-clause-made
returns-clause-made g c =
    c.run_text.ensures.made AskedObject refl

pub returns-clause-line : goal.returns-clause-line
returns-clause-line g c =
    c.run_text.ensures.line refl
