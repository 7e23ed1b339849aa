-- What is refused before the computation is made isn't refused for a causal cycle.
use Rattle.std.proofs.Common.{◌≡◌, List, Some, None, Option}
use Rattle.std.specs.Prelude.{MatchOption}
use Rattle.def_model.specs.Messages.{Fault, SendTwice, Orphan, SelfMessage, ReceivedTwice}
use Rattle.def_format.specs.Documents.{DocumentFault}
use Rattle.def_format.specs.Documents as documents
use Rattle.def_format.specs.Names.{ProcessNames}
use Rattle.def_format.specs.RefusalWords.{document_refusal, match_refusal, session_refusal}
use Rattle.def_format.specs.Reports.{Refusal, Refused}
use Rattle.def_format.specs.Sessions.{SessionFault, TooManyStreams, Stream, Taken, Absent}
use Rattle.judge_session.specs.Unanswered.{NamesNoCycle}

-- a document
pub document_names_none : (reported : Option DocumentFault) (refusal : Refusal)
    → MatchOption reported ⊥ (λ fault. refusal ≡ document_refusal fault) → NamesNoCycle (Refused refusal)
document_names_none None refusal tells places is = tells
document_names_none (Some documents.Long) refusal tells places is = cc
document_names_none (Some documents.Json) refusal tells places is = cc
document_names_none (Some documents.Shape) refusal tells places is = cc
document_names_none (Some documents.Processes) refusal tells places is = cc
document_names_none (Some documents.Name) refusal tells places is = cc
document_names_none (Some documents.NameTwice) refusal tells places is = cc
document_names_none (Some documents.Vars) refusal tells places is = cc
document_names_none (Some documents.Predicates) refusal tells places is = cc
document_names_none (Some documents.Width) refusal tells places is = cc
document_names_none (Some documents.OtherVersion) refusal tells places is = cc
document_names_none (Some (documents.InPredicate number fault at)) refusal tells places is = cc

-- streams
pub session_names_none : (names : List ProcessNames) (reported : Option SessionFault) (refusal : Refusal)
    → MatchOption reported ⊥ (λ fault. refusal ≡ session_refusal names fault) → NamesNoCycle (Refused refusal)
session_names_none names None refusal tells places is = tells
session_names_none names (Some TooManyStreams) refusal tells places is = cc
session_names_none names (Some (Stream stream fault)) refusal tells places is = cc
session_names_none names (Some (Taken stream line)) refusal tells places is = cc
session_names_none names (Some (Absent process)) refusal tells places is = cc

-- messages
pub messages_name_none : (names : List ProcessNames) (reported : Option Fault) (refusal : Refusal)
    → MatchOption reported ⊥ (λ fault. refusal ≡ match_refusal names fault) → NamesNoCycle (Refused refusal)
messages_name_none names None refusal tells places is = tells
messages_name_none names (Some (SendTwice e)) refusal tells places is = cc
messages_name_none names (Some (Orphan e)) refusal tells places is = cc
messages_name_none names (Some (SelfMessage e)) refusal tells places is = cc
messages_name_none names (Some (ReceivedTwice e)) refusal tells places is = cc
