-- The evidence is good, and the picture shows it.
use Rattle.std.proofs.Common.{List, sym, subst, map, refl}
use Rattle.def_model.specs.Predicates.{Recorded}
use Rattle.def_format.specs.Names.{ProcessNames}
use Rattle.pd_gather.specs.Views.{traces_view}
use Rattle.def_judgement.specs.Judgements.{recorded_of}
use Rattle.pd_match.specs.Views.{pairs_view}
use Rattle.pd_report.specs.Views as views
use Rattle.pd_spec.specs.Named.{named_view}
use Rattle.pd_spec.specs.Views.{document_view}
use Rattle.judge_draw.specs.Drawn.{ShowsPredicate}
use Rattle.judge_draw.specs.Exhibits.{HasGoodEvidence, Shows}
use Rattle.judge_draw.proofs.Pictured.{pictured, seen_at}
use Rattle.judge_draw.proofs.drawn.draw_predicate.Goals as goal

pub evidence_of-requires-clause-good : goal.evidence_of-requires-clause-good
evidence_of-requires-clause-good c =
    let asked = named_view c.index-predicates-i.result in
    let answer = views.answer_view c.index-answers-i.result in
    subst (λ (names : List ProcessNames). HasGoodEvidence names c.args.run.now.computation.now asked.predicate answer)
    (sym c.names.ensures) (c.requires.good.good asked answer
    (seen_at named_view c.predicates.result.now (document_view c.args.run.now.spec.now).predicates c.args.i
    c.index-predicates-i.result c.predicates.ensures c.requires.good.asked_there c.index-predicates-i.is)
    (seen_at views.answer_view c.args.answers.now (map views.answer_view c.args.answers.now) c.args.i
    c.index-answers-i.result refl c.requires.good.answer_there c.index-answers-i.is))

pub returns : goal.returns
returns c =
    let document = document_view c.args.run.now.spec.now in
    let traces = traces_view c.args.run.now.traces.now in
    let answers = map views.answer_view c.args.answers.now in
    let asked = named_view c.index-predicates-i.result in
    let answer = views.answer_view c.index-answers-i.result in
    let evidence = c.in_ok-evidence.evidence in
    let kind = c.args.scope.now.kind in
    let shows : Shows kind document.names (recorded_of document traces) asked.predicate answer evidence =
    subst (λ (names : List ProcessNames). Shows kind names (recorded_of document traces) asked.predicate answer
    evidence)
    c.names.ensures (subst (λ (r : Recorded). Shows kind c.names.result.now r asked.predicate answer evidence)
    c.requires.read.recorded c.in_ok-evidence.ensures) in
    pictured document traces (pairs_view c.args.run.now.pairs.now) c.args.run.now.computation.now
    (ShowsPredicate kind document traces answers c.args.i) c.run_picture.result evidence c.deref-2.result.now
    c.args.scope.now.extent
    c.requires.read.recorded
    (record {
      asked = asked;
      is_asked = seen_at named_view c.predicates.result.now document.predicates c.args.i c.index-predicates-i.result
          c.predicates.ensures c.requires.good.asked_there c.index-predicates-i.is;
      answer = answer;
      is_answer = seen_at views.answer_view c.args.answers.now answers c.args.i c.index-answers-i.result refl
          c.requires.good.answer_there c.index-answers-i.is;
      shows = shows;
      is_title = rw (c.deref-2.ensures, c.in_ok-title.ensures, c.deref.ensures) refl;
    })
    c.run_picture.ensures
