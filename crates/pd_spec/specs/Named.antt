-- What a predicate with its name stands for.
use Rattle.std.specs.Prelude.{string_bytes}
use Rattle.def_format.specs.Documents.{NamedPredicate}
use Rattle.pd_pred.specs.Views.{predicate_view}
use Rattle.pd_spec.specs.declared.named.NamedPred.{NamedPred}

abbrev pub named_view : NamedPred → NamedPredicate
named_view predicate = record { name = string_bytes predicate.name; predicate = predicate_view predicate.pred }
