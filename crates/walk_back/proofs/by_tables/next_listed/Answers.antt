-- The next avoiding cuts, by tables.
use Rattle.std.proofs.Common.{◌+◌, All, Bool, List, filter, map, not, false, sym, ap, ◌∙◌, subst}
use Rattle.def_model.specs.Cuts.{IsConsistent}
use Rattle.def_model.specs.Events.{Computation}
use Rattle.pd_pred.specs.Views.{predicate_view}
use Rattle.pd_level.specs.Levels.{kept_by}
use Rattle.walk_tables.specs.Views.{CompiledView}
use Rattle.def_model.proofs.ListedCuts.{avoiding_consistent, next_consistent}
use Rattle.walk_back.proofs.LevelLists.{kept_filter, list_at}
use Rattle.walk_back.specs.CompiledTests.{IsTestOf, events_of, meaning_of}
use Rattle.walk_back.specs.Questions.{question_events, question_test}
use Rattle.walk_back.proofs.by_tables.next_listed.Goals as goal

pub next_of_any-requires-clause-cuts : goal.next_of_any-requires-clause-cuts
next_of_any-requires-clause-cuts g c _ _ =
    avoiding_consistent c.avoiding_levels.ensures.level (question_events c.args.question.now)
    (question_test c.args.question.now) c.args.level.now.number c.args.level.now.cuts
    c.requires.list

pub table_marks-requires-clause-cuts : goal.table_marks-requires-clause-cuts
table_marks-requires-clause-cuts g c _ _ =
    let is : IsTestOf c.args.question.now.computation.now (predicate_view c.args.question.now.pred.now) c.in-Some.test =
    rw c.in-Some.is at c.requires.compiled in
    subst (λ (events : Computation). All (IsConsistent events) c.in_ok-next.next.cuts) (sym (ap events_of is.same))
    (next_consistent (question_events c.args.question.now) c.args.level.now.cuts c.in_ok-next.next.cuts
    c.in_ok-next.ensures.list)

pub returns-clause-list : goal.returns-clause-list
returns-clause-list g c =
    let is : IsTestOf c.args.question.now.computation.now (predicate_view c.args.question.now.pred.now) c.in-Some.test =
    rw c.in-Some.is at c.requires.compiled in
    list_at (question_events c.args.question.now) (question_test c.args.question.now)
    c.keep.new.self (c.args.level.now.number + 1)
    (filter (λ cut. not (question_test c.args.question.now cut)) c.in_ok-next.next.cuts)
    (c.keep.ensures.number ∙ c.in_ok-next.ensures.number)
    (c.keep.ensures.cuts ∙ (ap (λ (marks : List Bool). kept_by false marks c.in_ok-next.next.cuts)
    (c.deref.ensures.value ∙ c.in_ok-marks.ensures
    ∙ ap (λ (test : CompiledView). map (meaning_of test) c.in_ok-next.next.cuts) is.same)
    ∙ kept_filter (question_test c.args.question.now) c.in_ok-next.next.cuts))
    (c.avoiding_levels.ensures.next (question_events c.args.question.now)
    (question_test c.args.question.now) c.args.level.now.number c.args.level.now.cuts
    c.in_ok-next.next.cuts c.requires.list c.in_ok-next.ensures.list)
