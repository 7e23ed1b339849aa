-- What the program's options, its document and its faults stand for.
use Rattle.std.specs.Prelude.{ℕ, map, MatchOption}
use Rattle.def_format.specs.Documents.{Document, Inquiry, IsRefusedWithin, Options as AskedOptions}
use Rattle.def_format.specs.Documents as faults
use Rattle.def_format.specs.Limits.{process_limit}
use Rattle.def_format.specs.Versions.{version_view}
use Rattle.pd_pred.specs.Views.{predicate_fault_view}
use Rattle.pd_spec.specs.declared.fault.SpecFault.{SpecFault}
use Rattle.pd_spec.specs.declared.fault.SpecFault.TheVariants as kinds
use Rattle.pd_spec.specs.declared.options.Options.{Options}
use Rattle.pd_spec.specs.declared.spec.Spec.{Spec}
use Rattle.pd_spec.specs.Named.{named_view}

abbrev pub options_view : Options → AskedOptions
options_view options = record {
  width = options.width;
  predicates = map (λ text. text.now) options.predicates.items;
  beyond_width = options.beyond_width;
}

abbrev pub document_view : Spec → Document
document_view spec = record {
  names = spec.names;
  initial = map (λ row. row.items) spec.initial.items;
  predicates =
      map named_view spec.predicates.items;
  width = spec.width;
  version = version_view spec.version;
  beyond_width = spec.beyond_width;
}

-- the fault says why the inquiry is refused, if its document may have this many processes, or that memory ran out
abbrev pub IsFaultWithin : ℕ → Inquiry → SpecFault → Type 0
IsFaultWithin limit inquiry kinds.Long = IsRefusedWithin limit inquiry faults.Long
IsFaultWithin limit inquiry kinds.Json = IsRefusedWithin limit inquiry faults.Json
IsFaultWithin limit inquiry kinds.Shape = IsRefusedWithin limit inquiry faults.Shape
IsFaultWithin limit inquiry kinds.Processes = IsRefusedWithin limit inquiry faults.Processes
IsFaultWithin limit inquiry kinds.Name = IsRefusedWithin limit inquiry faults.Name
IsFaultWithin limit inquiry kinds.NameTwice = IsRefusedWithin limit inquiry faults.NameTwice
IsFaultWithin limit inquiry kinds.Vars = IsRefusedWithin limit inquiry faults.Vars
IsFaultWithin limit inquiry kinds.Predicates = IsRefusedWithin limit inquiry faults.Predicates
IsFaultWithin limit inquiry kinds.Width = IsRefusedWithin limit inquiry faults.Width
IsFaultWithin limit inquiry (kinds.Predicate number error) =
    MatchOption (predicate_fault_view error.kind) ⊥ (λ fault.
    IsRefusedWithin limit inquiry (faults.InPredicate number fault error.at))
IsFaultWithin limit inquiry kinds.Version = IsRefusedWithin limit inquiry faults.OtherVersion
IsFaultWithin limit inquiry kinds.Memory = Unit {0}

-- it says why the inquiry is refused as that of a session, or that memory ran out
abbrev pub IsFaultOf : Inquiry → SpecFault → Type 0
IsFaultOf = IsFaultWithin process_limit
