-- What is found of the results is found of the streams that were read.
use Rattle.std.proofs.Common.{map}
use Rattle.pd_gather.specs.Views.{results_view}
use Rattle.pd_spec.specs.Views.{document_view, options_view}
use Rattle.def_format.specs.Documents.{inquiry_of}
use Rattle.judge_shared.proofs.RunInputs.{inputs_run_report}
use Rattle.judge_shared.proofs.sessions.session_found.Goals as goal

pub returns-in-Ok-clause-found : goal.returns-in-Ok-clause-found
returns-in-Ok-clause-found g c =
    λ sound. (
      document_view c.in_ok-spec.spec,
      c.in_ok-gathered.gathered.streams,
      results_view c.in_ok-gathered.gathered.readings.items,
      c.in-Ok.ensures.found (options_view c.args.options.now) c.in_ok-spec.ensures.read sound,
      inputs_run_report c.judgement_is_true.ensures
          (inquiry_of (options_view c.args.options.now) c.args.document.now)
          (map g.R.ByteSource.left c.args.readers.items) (document_view c.in_ok-spec.spec)
          c.in_ok-gathered.gathered.streams (results_view c.in_ok-gathered.gathered.readings.items)
          c.in_ok-spec.ensures.read c.in_ok-gathered.ensures.given,
    )
