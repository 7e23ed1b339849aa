-- What is one: the document of an inquiry, the fault that it is refused with, and the report of a bundle.
use Rattle.std.specs.Prelude.{◌≡◌, ℕ, List}
use Rattle.def_format.specs.Documents.{Document, DocumentFault, Inquiry, IsDocument, IsRefusedDocument}
use Rattle.def_format.specs.Sessions.{StreamResult}
use Rattle.def_format.specs.Reports.{Answer, Refusal, Report, Judged, Refused}
use Rattle.def_judgement.specs.Judgements.{IsReportOfResults, IsReportOfBundle}

-- an inquiry is of one document
abbrev pub OneDocument : Type 0
OneDocument = (inquiry : Inquiry) (a b : Document) → IsDocument inquiry a → IsDocument inquiry b → a ≡ b

-- no inquiry is of a document and refused
abbrev pub DocumentNotRefused : Type 0
DocumentNotRefused = (inquiry : Inquiry) (document : Document) (fault : DocumentFault) → IsDocument inquiry document
    → IsRefusedDocument inquiry fault → ⊥

-- an inquiry is refused with one fault
abbrev pub OneDocumentFault : Type 0
OneDocumentFault = (inquiry : Inquiry) (f g : DocumentFault) → IsRefusedDocument inquiry f
    → IsRefusedDocument inquiry g → f ≡ g

-- a document and the outcomes of its streams have one report
abbrev pub OneReportOfResults : Type 0
OneReportOfResults = (document : Document) (streams : ℕ) (outcomes : List StreamResult) (a b : Report)
    → IsReportOfResults document streams outcomes a → IsReportOfResults document streams outcomes b → a ≡ b

-- a bundle has one report
abbrev pub OneReportOfBundle : Type 0
OneReportOfBundle = (bytes : List ℕ) (a b : Report) → IsReportOfBundle bytes a → IsReportOfBundle bytes b → a ≡ b

-- no bundle is judged and refused
abbrev pub NotJudgedAndRefused : Type 0
NotJudgedAndRefused =
    (bytes : List ℕ) (processes events messages : ℕ) (answers : List Answer) (refusal : Refusal)
    → IsReportOfBundle bytes (Judged processes events messages answers) → IsReportOfBundle bytes (Refused refusal)
    → ⊥
