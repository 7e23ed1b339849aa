-- What a search goes by, in the words of the model.
use Rattle.def_model.specs.Predicates.{Predicate, Recorded}
use Rattle.pd_pred.specs.Views.{predicate_view}
use Rattle.wide_back.specs.declared.search.Search.{Search}

-- what was recorded
abbrev pub recorded_of : Search → Recorded
recorded_of search = search.computation.now

-- the predicate
abbrev pub predicate_of : Search → Predicate
predicate_of search = predicate_view search.pred.now
