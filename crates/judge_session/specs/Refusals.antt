-- What the program's faults are in the words of a report.
use Rattle.std.specs.Prelude.{◌≡◌, ◌<◌, ◌+◌, ℕ, List, Option, Some, None, MatchOption, option_map, length}
use Rattle.std.specs.Borrow.{Bor}
use Rattle.def_format.specs.RefusalWords.{document_refusal, predicate_word}
use Rattle.def_format.specs.Documents.{DocumentFault}
use Rattle.def_format.specs.Documents as documents
use Rattle.def_format.specs.Names.{ProcessNames}
use Rattle.def_format.specs.Reports.{Refusal}
use Rattle.pd_pred.specs.Views.{predicate_fault_view}
use Rattle.pd_pred.specs.declared.error.PredErrorKind.{PredErrorKind}
use Rattle.pd_spec.specs.declared.fault.SpecFault.{SpecFault}
use Rattle.pd_spec.specs.declared.fault.SpecFault.TheVariants as faults
use Rattle.pd_gather.specs.declared.fault.SessionFault.{SessionFault}
use Rattle.pd_gather.specs.declared.fault.SessionFault.TheVariants as sessions
use Rattle.pd_match.specs.declared.fault.MatchFault.{MatchFault}
use Rattle.pd_match.specs.declared.fault.MatchFault.TheVariants as matches
use Rattle.pd_match.specs.declared.place.Place.{Place}

-- the word is that of the fault
abbrev pub kind_word : PredErrorKind → Option (Bor (List ℕ)) → Type 0
kind_word kind word = option_map (λ w. w.now) word ≡ option_map predicate_word (predicate_fault_view kind)

-- the fault of the document that is reported, if it isn't out of memory
abbrev pub document_fault_view : SpecFault → Option DocumentFault
document_fault_view faults.Long = Some documents.Long
document_fault_view faults.Json = Some documents.Json
document_fault_view faults.Shape = Some documents.Shape
document_fault_view faults.Processes = Some documents.Processes
document_fault_view faults.Name = Some documents.Name
document_fault_view faults.NameTwice = Some documents.NameTwice
document_fault_view faults.Vars = Some documents.Vars
document_fault_view faults.Predicates = Some documents.Predicates
document_fault_view faults.Width = Some documents.Width
document_fault_view (faults.Predicate k error) =
    option_map (λ fault. documents.InPredicate k fault error.at) (predicate_fault_view error.kind)
document_fault_view faults.Version = Some documents.OtherVersion
document_fault_view faults.Memory = None

-- the refusal is that of the document's fault
abbrev pub IsDocumentRefusal : SpecFault → Refusal → Type 0
IsDocumentRefusal fault refusal =
    MatchOption (document_fault_view fault) ⊥ (λ reported. refusal ≡ document_refusal reported)

-- the numbers in the fault fit: the process reported is there, and streams can be counted from 1
abbrev pub NamesStream : List ProcessNames → SessionFault → Type 0
NamesStream names (sessions.Stream stream fault) = stream + 1 < 18446744073709551616
NamesStream names (sessions.Taken stream line) = stream + 1 < 18446744073709551616
NamesStream names (sessions.Absent process) = process < length names
NamesStream names sessions.Streams = Unit {0}
NamesStream names sessions.Memory = Unit {0}

-- the process of the place is there
abbrev pub HasNames : List ProcessNames → Place → Type 0
HasNames names place = place.process < length names

-- the process of the place that is reported is there
abbrev pub NamesPlace : List ProcessNames → MatchFault → Type 0
NamesPlace names (matches.SendTwice place) = HasNames names place
NamesPlace names (matches.Orphan place) = HasNames names place
NamesPlace names (matches.SelfMessage place) = HasNames names place
NamesPlace names (matches.ReceivedTwice place) = HasNames names place
NamesPlace names matches.Memory = Unit {0}
