-- The observation of these names, and that there is one.
use Rattle.std.proofs.Common.{List, ℕ, sym}
use Rattle.std.proofs.lemmas.Bool.{false≢true}
use Rattle.def_model.specs.Predicates.{test_of}
use Rattle.pd_pred.specs.Views.{predicate_view}
use Rattle.def_format.specs.Names.{ProcessNames}
use Rattle.judge_check.specs.Verdicts.{AreNamed}
use Rattle.judge_check.proofs.PathNames.{path_avoids, without_path}
use Rattle.judge_draw.proofs.exhibit.observation_of.Goals as goal

pub returns-in-Some : goal.returns-in-Some
returns-in-Some c =
    let names : List ProcessNames = c.args.names.now in
    let reported : List (List ℕ) = c.args.reported.now in
    let named : AreNamed names reported c.in-Some.path.items = rw c.in-Some.is at c.in_ok-path.ensures in (
      sym named.1,
      path_avoids names c.args.computation.now.events
          (test_of c.args.computation.now (predicate_view c.args.pred.now)) reported c.in-Some.path.items
          c.differ.ensures c.requires.one_each named c.requires.good,
    )

pub returns-in-None : goal.returns-in-None
returns-in-None c =
    let none : (path : List ℕ) → ¬ AreNamed c.args.names.now c.args.reported.now path =
    rw c.in-None.is at c.in_ok-path.ensures in
    false≢true ((without_path c.args.names.now c.args.computation.now.events
    (test_of c.args.computation.now (predicate_view c.args.pred.now)) c.args.reported.now
    c.requires.one_each none).1 c.requires.good)
