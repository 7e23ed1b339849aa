-- The words of refusals: how each fault stands in a report.
use Rattle.std.specs.Prelude.{ℕ, ◌+◌, List, codes}
use Rattle.def_model.specs.Events.{Place}
use Rattle.def_model.specs.Messages.{Fault, SendTwice, Orphan, SelfMessage, ReceivedTwice}
use Rattle.def_format.specs.Names.{ProcessNames, name_of_process}
use Rattle.def_format.specs.PredicateTexts.{PredicateFault}
use Rattle.def_format.specs.PredicateTexts as predicates
use Rattle.def_format.specs.Records.{RecordFault}
use Rattle.def_format.specs.Records as records
use Rattle.def_format.specs.Readings.{StreamKind, LineTooLong, StreamTooLong, InRecord, TooManyEvents, Unended, ReadFailed}
use Rattle.def_format.specs.Documents.{DocumentFault}
use Rattle.def_format.specs.Documents as documents
use Rattle.def_format.specs.Sessions.{SessionFault, TooManyStreams, Stream, Taken, Absent}
use Rattle.def_format.specs.Reports.{NamedPlace, Refusal}
use Rattle.def_format.specs.Reports as reports

abbrev pub predicate_word : PredicateFault → List ℕ
predicate_word predicates.Long = codes "long"
predicate_word predicates.Character = codes "character"
predicate_word predicates.Number = codes "number"
predicate_word predicates.Expected = codes "expected"
predicate_word predicates.UnknownName = codes "unknownname"
predicate_word predicates.Depth = codes "depth"

abbrev pub document_refusal : DocumentFault → Refusal
document_refusal documents.Long = reports.Spec (codes "long")
document_refusal documents.Json = reports.Spec (codes "json")
document_refusal documents.Shape = reports.Spec (codes "shape")
document_refusal documents.Processes = reports.Spec (codes "processes")
document_refusal documents.Name = reports.Spec (codes "name")
document_refusal documents.NameTwice = reports.Spec (codes "nametwice")
document_refusal documents.Vars = reports.Spec (codes "vars")
document_refusal documents.Predicates = reports.Spec (codes "predicates")
document_refusal documents.Width = reports.Spec (codes "width")
document_refusal documents.OtherVersion = reports.Spec (codes "version")
document_refusal (documents.InPredicate number fault at) = reports.Predicate number (predicate_word fault) at

abbrev pub record_word : RecordFault → List ℕ
record_word records.Json = codes "json"
record_word records.Shape = codes "shape"
record_word records.Join = codes "join"
record_word records.UnknownProcess = codes "unknownprocess"
record_word records.UnknownVar = codes "unknownvar"
record_word records.Value = codes "value"
record_word records.MessageId = codes "messageid"

abbrev pub stream_word : StreamKind → List ℕ
stream_word LineTooLong = codes "linetoolong"
stream_word StreamTooLong = codes "streamtoolong"
stream_word (InRecord fault) = record_word fault
stream_word TooManyEvents = codes "events"
stream_word Unended = codes "unended"
stream_word ReadFailed = codes "read"

-- streams are counted from 1 in a report
abbrev pub session_refusal : List ProcessNames → SessionFault → Refusal
session_refusal names TooManyStreams = reports.Streams
session_refusal names (Stream stream fault) = reports.Stream (stream + 1) fault.line (stream_word fault.kind)
session_refusal names (Taken stream line) = reports.Stream (stream + 1) line (codes "taken")
session_refusal names (Absent p) = reports.Absent (name_of_process names p)

abbrev pub named_place : List ProcessNames → Place → NamedPlace
named_place names e = record { name = name_of_process names e.process; number = e.number }

abbrev pub match_refusal : List ProcessNames → Fault → Refusal
match_refusal names (SendTwice e) = reports.Match (codes "sendtwice") (named_place names e)
match_refusal names (Orphan e) = reports.Match (codes "orphan") (named_place names e)
match_refusal names (SelfMessage e) = reports.Match (codes "selfmessage") (named_place names e)
match_refusal names (ReceivedTwice e) = reports.Match (codes "receivedtwice") (named_place names e)
