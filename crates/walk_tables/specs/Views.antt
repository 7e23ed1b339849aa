-- What a compiled predicate stands for.
use Rattle.def_model.specs.Predicates.{Predicate, Recorded}

-- the predicate, and what was recorded of the computation that it was compiled for
pub record CompiledView : Type 0 where
  pub recorded : Recorded
  pub predicate : Predicate
