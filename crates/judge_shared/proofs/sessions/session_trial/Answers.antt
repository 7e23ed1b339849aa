-- The refusal is what comes of the run, whatever its streams are.
use Rattle.std.proofs.Common.{ℕ, List, map, refl, subst}
use Rattle.def_format.specs.Documents.{inquiry_of}
use Rattle.def_format.specs.Reports.{Refused}
use Rattle.def_judgement.specs.Judgements.{IsJudgement, RawStream}
use Rattle.pd_report.specs.Views.{refusal_view}
use Rattle.pd_spec.specs.Views.{options_view}
use Rattle.judge_shared.specs.Trials.{IsFoundOfInputs}
use Rattle.judge_shared.proofs.RunInputs.{refused_run_report}
use Rattle.judge_shared.proofs.sessions.session_trial.Goals as goal

pub returns-in-Ok-clause-trial : goal.returns-in-Ok-clause-trial
returns-in-Ok-clause-trial g c =
    λ sound.
    let options = options_view c.args.options.now in
    let inputs = map g.R.ByteSource.left c.args.readers.items in
    let found : IsFoundOfInputs options c.args.document.items inputs c.in-Ok.found =
    subst (λ (bytes : List ℕ). IsFoundOfInputs options bytes inputs c.in-Ok.found) c.deref.ensures.value
    (c.in-Ok.ensures.found sound) in
    (found.0, found.1, found.2, found.3, λ report right. (report, refl, found.4 report right))

pub returns-in-Refused-clause-trial : goal.returns-in-Refused-clause-trial
returns-in-Refused-clause-trial g c =
    λ sound.
    let options = options_view c.args.options.now in
    let report = Refused (refusal_view c.in-Refused.refusal) in (
      report,
      refl,
      refused_run_report c.judgement_is_true.ensures (inquiry_of options c.args.document.items)
          (map g.R.ByteSource.left c.args.readers.items) report
          (subst (λ (bytes : List ℕ). (raw : List RawStream) → IsJudgement (inquiry_of options bytes) raw report)
          c.deref.ensures.value (rw c.in-Refused.is at c.in-Err.ensures.refused)),
    )
