-- What is found of a run is found of it with no answers kept.
use Rattle.std.proofs.Common.{ℕ, List, subst, None}
use Rattle.std.proofs.lemmas.Result.{IfOk-weaker}
use Rattle.def_format.specs.Documents.{Document, Options}
use Rattle.def_format.specs.Sessions.{StreamResult}
use Rattle.pd_report.specs.Views.{report_view}
use Rattle.judge_shared.specs.Sharing.{IsFound, IsFresh}
use Rattle.judge_shared.proofs.finals.final_report.Goals as goal

pub returns-in-None-answers : goal.returns-in-None-answers
returns-in-None-answers c =
    IfOk-weaker c.unknown_report.result _ _ (λ _ given options of streams outcomes sound found.
    given options of streams outcomes sound found.is_report (fresh options of streams outcomes found))
    c.unknown_report.ensures
  where
    fresh : (options : Options) (of : Document) (streams : ℕ) (outcomes : List StreamResult)
        → IsFound options c.args.document.items of streams outcomes c.args.found
        → IsFresh options c.args.document.items of streams outcomes (report_view c.args.found.report)
        (record { order = c.in-Some.field-0.order; answers = None })
    fresh options of streams outcomes found =
        subst (λ kept. IsFresh options c.args.document.items of streams outcomes
        (report_view c.args.found.report) (record { order = c.in-Some.field-0.order; answers = kept }))
        c.in-None-answers.is (rw c.in-Some.is at found.fresh)
