-- What the program's predicates and errors stand for.
use Rattle.std.specs.Prelude.{◌≡◌, ◌+◌, ℕ, List, Option, Some, None, MatchOption}
use Rattle.def_model.specs.Predicates.{Predicate}
use Rattle.pd_pred.specs.Trees.{tree_view}
use Rattle.def_format.specs.Names.{ProcessNames}
use Rattle.def_format.specs.Limits.{predicate_byte_limit}
use Rattle.def_format.specs.PredicateTexts.{PredicateFault, IsRefusedPredicate}
use Rattle.def_format.specs.PredicateTexts as faults
use Rattle.pd_pred.specs.declared.error.PredErrorKind.{PredErrorKind}
use Rattle.pd_pred.specs.declared.error.PredErrorKind.TheVariants as kinds
use Rattle.pd_pred.specs.declared.error.PredError.{PredError}
use Rattle.pd_pred.specs.declared.predicate.Pred.{Pred}

-- the error of a text that is too long: its first byte over the limit is at fault
abbrev pub long_error : PredError
long_error = record { kind = kinds.Long; at = predicate_byte_limit + 1 }

abbrev pub memory_error : PredError
memory_error = record { kind = kinds.Memory; at = 0 }

-- the fault of the text that a kind means, if it is not out of memory
abbrev pub predicate_fault_view : PredErrorKind → Option PredicateFault
predicate_fault_view kinds.Long = Some faults.Long
predicate_fault_view kinds.Character = Some faults.Character
predicate_fault_view kinds.Number = Some faults.Number
predicate_fault_view kinds.Expected = Some faults.Expected
predicate_fault_view kinds.UnknownName = Some faults.UnknownName
predicate_fault_view kinds.Depth = Some faults.Depth
predicate_fault_view kinds.Memory = None

-- the error says why the text is refused, or that memory ran out
abbrev pub IsErrorOf : List ProcessNames → List ℕ → PredError → Type 0
IsErrorOf names text error =
    MatchOption (predicate_fault_view error.kind) (error.at ≡ 0) (λ fault. IsRefusedPredicate names text fault error.at)

-- the predicate that a value of the program stands for
abbrev pub predicate_view : Pred → Predicate
predicate_view pred = tree_view pred.tree
