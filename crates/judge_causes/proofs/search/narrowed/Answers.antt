-- The last of the candidates that are enough stays.
use Rattle.std.proofs.Common.{List, ◌∷◌, ap, sym, subst, ◌∙◌}
use Rattle.std.proofs.lemmas.List.{append-nil}
use Rattle.def_model.specs.Events.{Place}
use Rattle.pd_clock.specs.Orders.{places_view}
use Rattle.pd_match.specs.Views.{place_view}
use Rattle.judge_causes.specs.Search.{IsSearched}
use Rattle.judge_causes.proofs.SearchSteps.{cut_view, narrowed_none, narrowed_some, split_view}
use Rattle.judge_causes.proofs.search.narrowed.Goals as goal

pub returns-in_ok-with_first-in-Some-clause-stage : goal.returns-in_ok-with_first-in-Some-clause-stage
returns-in_ok-with_first-in-Some-clause-stage c r predicate stage short =
    subst (λ (l : List Place). IsSearched r predicate (places_view c.pop.new.self.items) l c.both.result)
    (sym (c.in_ok-with_first-in-Some.ensures
    ∙ ap (λ items. place_view c.in-Some.last ∷ places_view items) c.deref.ensures.value))
    (narrowed_some r predicate (places_view c.args.search.candidates.items) (places_view c.args.search.kept.items)
    c.args.short.count c.args.short.is_least c.args.search.are_needed stage short
    (places_view c.pop.new.self.items) (place_view c.in-Some.last)
    (split_view c.args.search.candidates.items c.pop.new.self.items c.in-Some.last c.args.short.count
    (sym c.truncate.ensures.items ∙ c.in-Some.ensures.items)) c.both.result c.both.ensures)

pub returns-in-None-clause-stage : goal.returns-in-None-clause-stage
returns-in-None-clause-stage c r predicate stage short =
    narrowed_none r predicate (places_view c.args.search.candidates.items) (places_view c.args.search.kept.items)
    c.args.short.count c.args.short.is_least c.args.search.are_needed stage short
    (places_view c.pop.new.self.items)
    (cut_view c.args.search.candidates.items c.pop.new.self.items c.args.short.count
    (sym c.truncate.ensures.items ∙ c.in-None.ensures.items ∙ append-nil c.pop.new.self.items))
