-- All cuts lie between the ends of the level.
use Rattle.std.proofs.lemmas.Result.{IfOk-weaker}
use Rattle.def_model.specs.Answers.{IsListOf}
use Rattle.def_model.specs.Cuts.{IsNextOf}
use Rattle.pd_level.specs.Levels.{Levelled}
use Rattle.pd_level.proofs.Levels.{IsNextBetween, whole_list}
use Rattle.pd_level.proofs.level.Level.successors.Goals as goal

pub returns-clause-list : goal.returns-clause-list
returns-clause-list c =
    let events = c.args.computation.now.events in
    let cuts = c.args.level.now.cuts in
    IfOk-weaker c.successors_between.result
    (λ (next : Levelled). IsListOf (IsNextBetween events cuts 0 c.len.result) next.cuts)
    (λ (next : Levelled). IsListOf (IsNextOf events cuts) next.cuts)
    (λ next list. whole_list events cuts next.cuts c.len.result c.len.ensures list) c.successors_between.ensures.list
