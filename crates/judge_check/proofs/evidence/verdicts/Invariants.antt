-- The verdicts so far.
use Rattle.std.proofs.Common.{map, take}
use Rattle.std.specs.Prelude.{zip}
use Rattle.std.specs.List.{AllZip}
use Rattle.pd_report.specs.Views.{answer_view}
use Rattle.pd_spec.specs.Named.{named_view}
use Rattle.pd_spec.specs.Views.{document_view}
use Rattle.judge_check.specs.Views.{checked_view}
use Rattle.judge_check.specs.Verdicts.{IsCheckedBy}
use Rattle.judge_check.proofs.evidence.verdicts.Given as goal

abbrev pub invariant-loop-i : goal.invariant-loop-i
invariant-loop-i l =
    AllZip (IsCheckedBy (document_view l.spec).names l.computation)
    (zip (map named_view (take l.i l.asked)) (map answer_view (take l.i l.answers)))
    (map checked_view l.verdicts.items)
