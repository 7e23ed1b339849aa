-- A path by its names.
use Rattle.std.proofs.Common.{◌↔◌, IsTrue, List, ℕ, sym, subst}
use Rattle.std.proofs.lemmas.Result.{IfOk-weaker}
use Rattle.def_model.specs.Answers.{IsAvoidingObservation}
use Rattle.def_model.specs.Predicates.{test_of}
use Rattle.pd_pred.specs.Views.{predicate_view}
use Rattle.def_format.specs.Names.{ProcessNames}
use Rattle.def_judgement.specs.Findings.{IsGoodPath}
use Rattle.judge_check.specs.Verdicts.{AreNamed}
use Rattle.judge_check.proofs.PathNames.{only_path, without_path}
use Rattle.judge_check.proofs.evidence.avoids.Goals as goal

pub returns-in-Some : goal.returns-in-Some
returns-in-Some c =
    let names : List ProcessNames = c.args.names.now in
    let reported : List (List ℕ) = c.args.reported.now in
    let named : AreNamed names reported c.deref.result.now =
    subst (AreNamed names reported) (sym c.deref.ensures.value) (rw c.in-Some.is at c.in_ok-path.ensures) in
    IfOk-weaker c.check_path.result (λ good. IsTrue good
    ↔ IsAvoidingObservation c.args.computation.now.events
    (test_of c.args.computation.now (predicate_view c.args.pred.now)) c.deref.result.now) (λ good. IsTrue good
    ↔ IsGoodPath names c.args.computation.now.events
    (test_of c.args.computation.now (predicate_view c.args.pred.now)) reported)
    (λ good exact. only_path names c.args.computation.now.events
    (test_of c.args.computation.now (predicate_view c.args.pred.now)) reported c.deref.result.now good
    c.differ.ensures c.requires named exact)
    c.check_path.ensures

pub returns-in-None : goal.returns-in-None
returns-in-None c =
    without_path c.args.names.now c.args.computation.now.events
    (test_of c.args.computation.now (predicate_view c.args.pred.now)) c.args.reported.now
    c.requires
    (rw c.in-None.is at c.in_ok-path.ensures)
