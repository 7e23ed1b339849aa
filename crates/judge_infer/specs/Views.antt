-- What the types of this crate stand for.
use Rattle.std.specs.Prelude.{◌≡◌, ⊤, ℕ, List, Vec, map, Option, Some, None, option_map, Result, MatchResult, MatchOption, Err, Ok, string_bytes}
use Rattle.std.specs.Global.{Global}
use Rattle.judge_infer.specs.Inferred as inferred
use Rattle.judge_infer.specs.Streams as streams
use Rattle.judge_infer.specs.DocumentParts as documents
use Rattle.judge_infer.specs.declared.fault.Wrong.{Wrong}
use Rattle.judge_infer.specs.declared.fault.Wrong.TheVariants as wrongs
use Rattle.judge_infer.specs.declared.fault.StreamFault.{StreamFault}
use Rattle.judge_infer.specs.declared.fault.AddFault.{AddFault}
use Rattle.judge_infer.specs.declared.fault.AddFault.TheVariants as adds
use Rattle.judge_infer.specs.declared.fault.DocumentFault.{DocumentFault}
use Rattle.judge_infer.specs.declared.fault.DocumentFault.TheVariants as faults
use Rattle.judge_infer.specs.declared.stage.Stage.{Stage}
use Rattle.judge_infer.specs.declared.process.Process.{Process}

abbrev pub wrong_view : Wrong → inferred.Wrong
wrong_view wrongs.StreamTooLong = inferred.StreamTooLong
wrong_view wrongs.NoLine = inferred.NoLine
wrong_view wrongs.LineTooLong = inferred.LineTooLong
wrong_view wrongs.Json = inferred.Json
wrong_view wrongs.Shape = inferred.Shape
wrong_view wrongs.NoJoin = inferred.NoJoin
wrong_view wrongs.SecondJoin = inferred.SecondJoin
wrong_view wrongs.ProcessName = inferred.ProcessName
wrong_view wrongs.Events = inferred.Events
wrong_view wrongs.Value = inferred.Value
wrong_view wrongs.MessageId = inferred.MessageId
wrong_view wrongs.VarName = inferred.VarName
wrong_view wrongs.Vars = inferred.Vars

abbrev pub stream_fault_view : StreamFault → inferred.Fault
stream_fault_view fault = record { line = fault.line; wrong = wrong_view fault.wrong }

-- the fault of the stream, if it isn't out of memory
abbrev pub add_fault_view : AddFault → Option inferred.Fault
add_fault_view (adds.Refused fault) = Some (stream_fault_view fault)
add_fault_view adds.Memory = None

-- the fault of the streams, if it isn't out of memory
abbrev pub document_fault_view : DocumentFault → Option documents.Fault
document_fault_view faults.NoStream = Some documents.NoStream
document_fault_view faults.TooMany = Some documents.TooMany
document_fault_view (faults.SameProcess first second) = Some (documents.SameProcess first second)
document_fault_view faults.Memory = None

abbrev pub stage_view : Stage → inferred.Stage
stage_view stage = record {
  process = option_map string_bytes stage.process;
  vars = map string_bytes stage.vars.items;
  received = map string_bytes stage.received.items;
  events = stage.events;
  cut = stage.cut;
  is_ended = stage.is_ended;
}

abbrev pub process_view : Process → streams.Process
process_view process = record {
  name = string_bytes process.name;
  vars = map string_bytes process.vars.items;
  received = map string_bytes process.received.items;
}

-- the call ended well with what is due, or gives the fault that is due, or that memory ran out
abbrev pub IsDue : {A R : Type 0} → Result A inferred.Fault → A → Result R AddFault → Type 0
IsDue due given answer =
    MatchResult answer (λ _. due ≡ Ok given) (λ fault.
    MatchOption (add_fault_view fault) ⊤ (λ f. due ≡ Err f))

-- the variables are those that are due, or the fault of the line of this number is, or memory ran out
abbrev pub IsVars : {R : Type 0} → ℕ → Result (List (List ℕ)) inferred.Wrong → List (List ℕ) → Result R AddFault →
    Type 0
IsVars n due given answer =
    MatchResult answer (λ _. due ≡ Ok given) (λ fault.
    MatchOption (add_fault_view fault) ⊤ (λ f.
    (wrong : inferred.Wrong) × (due ≡ Err wrong) × (f ≡ inferred.fault_at n wrong)))

-- the call gives what is due, as this view shows it, or the fault that is due, or that memory ran out
abbrev pub IsDueBy : {A B : Type 0} → (B → A) → Result A inferred.Fault → Result B AddFault → Type 0
IsDueBy view due answer =
    MatchResult answer (λ given. due ≡ Ok (view given)) (λ fault.
    MatchOption (add_fault_view fault) ⊤ (λ f. due ≡ Err f))

-- the call gives the text that is due, or the fault that is due, or that memory ran out
abbrev pub IsDocumentDue : Result (List ℕ) documents.Fault → Result (Vec ℕ Global) DocumentFault → Type 0
IsDocumentDue due answer =
    MatchResult answer (λ text. due ≡ Ok text.items) (λ fault.
    MatchOption (document_fault_view fault) ⊤ (λ f. due ≡ Err f))
