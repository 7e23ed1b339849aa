-- The faults that a step of the reader finds.
use Rattle.std.specs.Prelude.{◌≡◌, Option, Some, None, MatchOption}
use Rattle.def_format.specs.Documents.{DocumentFault}
use Rattle.def_format.specs.Documents as faults
use Rattle.pd_spec.specs.declared.fault.SpecFault.TheVariants as kinds
use Rattle.pd_spec.specs.declared.fault.SpecFault.{SpecFault}
use Rattle.pd_spec.specs.declared.fault.SpecFault.TheVariants.{Memory}

-- the document's fault that a fault of the program is, but for those in predicates and that of the version
abbrev pub document_fault_view : SpecFault → Option DocumentFault
document_fault_view kinds.Long = Some faults.Long
document_fault_view kinds.Json = Some faults.Json
document_fault_view kinds.Shape = Some faults.Shape
document_fault_view kinds.Processes = Some faults.Processes
document_fault_view kinds.Name = Some faults.Name
document_fault_view kinds.NameTwice = Some faults.NameTwice
document_fault_view kinds.Vars = Some faults.Vars
document_fault_view kinds.Predicates = Some faults.Predicates
document_fault_view kinds.Width = Some faults.Width
document_fault_view (kinds.Predicate number error) = None
document_fault_view kinds.Version = None
document_fault_view kinds.Memory = None

-- the fault is the one that is found, or out of memory
abbrev pub IsFaultFound : SpecFault → Option DocumentFault → Type 0
IsFaultFound fault found = MatchOption (document_fault_view fault) (fault ≡ Memory) (λ reported. found ≡ Some reported)
