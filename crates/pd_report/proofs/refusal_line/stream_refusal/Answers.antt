-- A refused stream, of the words after `stream`.
use Rattle.std.proofs.Common.{◌∷◌, refl, ap}
use Rattle.std.specs.Prelude.{codes}
use Rattle.def_format.specs.RefusalKinds.{StreamKind}
use Rattle.def_format.specs.Reports.{refusal_words, Stream}
use Rattle.pd_report.specs.Reading.{IsOfKind}
use Rattle.pd_report.specs.Remaining.{words_left}
use Rattle.pd_report.specs.Views.{refusal_view}
use Rattle.pd_report.proofs.Lists.{refused_there}
use Rattle.pd_report.proofs.RefusalKinds.{no_stream}
use Rattle.pd_report.proofs.refusal_line.stream_refusal.Goals as goal

pub returns-in_default : goal.returns-in_default
returns-in_default c = no_stream (words_left c.args.rest) (rw c.in_default.is at c.in_ok-stream.ensures)

pub returns-in_err-stream : goal.returns-in_err-stream
returns-in_err-stream c =
    let there = c.in_err-stream.ensures in
    let rest = words_left c.args.rest in
    refused_there refusal_view refusal_words (IsOfKind StreamKind) (codes "stream" ∷ rest) c.from_residual.result
    c.from_residual.ensures.0 (
      Stream there.0.0 there.0.1 there.0.2,
      (there.1, refl),
      ap (λ words. codes "stream" ∷ words) there.2,
    )
