-- The report of the streams that were read is the bundle's.
use Rattle.std.proofs.Common.{[], ◌∷◌}
use Rattle.pd_gather.specs.Views.{results_view}
use Rattle.pd_report.specs.Views.{report_view}
use Rattle.pd_spec.specs.Views.{document_view}
use Rattle.pd_engine.proofs.BundleReads.{streams_read}
use Rattle.pd_engine.proofs.bundle_judges.streams_report_of.Goals as goal

pub returns-clause-report : goal.returns-clause-report
returns-clause-report g c = λ input document is parts.
    streams_read input document (document_view c.args.spec.now) c.in_ok-gathered.gathered.streams
    (results_view c.in_ok-gathered.gathered.readings.items) (report_view c.in_ok-report.report) is
    (c.in_ok-gathered.ensures.read input (document ∷ []) parts) c.in_ok-report.ensures.report
