-- What the search comes to is final, or tells a level, or nothing is found.
use Rattle.std.proofs.Common.{subst}
use Rattle.pd_pred.specs.Views.{predicate_view}
use Rattle.wide_back.specs.Ways.{IsWay}
use Rattle.wide_back.specs.declared.way.Way.{Way}
use Rattle.wide.proofs.SearchedBack.{end_is_late, none_is_found, path_is_final}
use Rattle.wide.proofs.back.search_back.Goals as goal

pub returns-in-Avoided : goal.returns-in-Avoided
returns-in-Avoided c =
    let r = c.args.computation.now in
    let predicate = predicate_view c.args.pred.now in
    path_is_final r predicate c.args.width c.in-Avoided.path c.requires.undecided
    (subst (λ (way : Way). IsWay r predicate c.args.width way) c.in-Avoided.is c.in_ok-way.ensures)

pub returns-in-Passed : goal.returns-in-Passed
returns-in-Passed c =
    let r = c.args.computation.now in
    let predicate = predicate_view c.args.pred.now in
    end_is_late r predicate c.args.width c.requires.undecided c.requires.no_gate
    (subst (λ (way : Way). IsWay r predicate c.args.width way) c.in-Passed.is c.in_ok-way.ensures) c.total.result
    c.total.ensures.sum

pub returns-in-Undecided : goal.returns-in-Undecided
returns-in-Undecided c =
    let r = c.args.computation.now in
    let predicate = predicate_view c.args.pred.now in
    let way = subst (λ (way : Way). IsWay r predicate c.args.width way) c.in-Undecided.is c.in_ok-way.ensures in
    none_is_found r predicate c.args.width c.requires.undecided c.requires.no_gate way.0 way.1
