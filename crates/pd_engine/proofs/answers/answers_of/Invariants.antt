-- The answers so far.
use Rattle.std.proofs.Common.{map, take}
use Rattle.std.specs.List.{AllZip}
use Rattle.pd_report.specs.Views as views
use Rattle.def_judgement.specs.Judgements.{IsAnswered}
use Rattle.pd_spec.specs.Named.{named_view}
use Rattle.pd_spec.specs.Views.{document_view}
use Rattle.pd_engine.proofs.answers.answers_of.Given as goal

abbrev pub invariant-loop-i : goal.invariant-loop-i
invariant-loop-i g l =
    AllZip (IsAnswered (document_view l.spec) l.computation) (map named_view (take l.i l.asked))
    (map views.answer_view l.answers.items)
