-- What the session in a line comes to: the line that is written of it, and a status.
use Rattle.std.specs.Prelude.{◌≡◌, ◌⊎◌, ℕ, if◌then◌else◌, List, [], codes, Option, None}
use Rattle.std.specs.List.{list_any}
use Rattle.def_format.specs.Documents.{Document, DocumentFault, Inquiry, IsDocument, IsRefusedDocument, Options, inquiry_of}
use Rattle.def_format.specs.Names.{ProcessNames}
use Rattle.def_format.specs.Reports.{Judged, Refused, Report}
use Rattle.def_judgement.specs.Headline.{IsTrueReport}
use Rattle.def_judgement.specs.Judgements.{IsJudgement, ended_streams}
use Rattle.judge_runs.specs.Wishes.{Condition}
use Rattle.app_arguments.specs.Conditions.{is_asked_for}
use Rattle.app_arguments.specs.Statuses.{HasNamed, LacksNamed}
use Rattle.out_lines.specs.Lines.{answer_data, error_data, line_text}
use Rattle.read_sessions.specs.SessionLines.{Holds, Line, NoJson, NoSession, Session, Tells, TooLong}

-- what is written of a line, and the status that counts
pub record Answer : Type 0 where
  pub status : ℕ
  pub line : List ℕ

-- The status that `judge` ends with: the session is judged and has an answer to fail on, or none, or it is refused.
abbrev pub status_for : (fail_on : List Condition) → Report → ℕ
status_for fail_on (Judged processes events messages answers) =
    if list_any (λ condition. list_any (is_asked_for condition) answers) fail_on then 5 else 0
status_for fail_on (Refused refusal) = 1

-- A session of this name, with this document, with what is asked, and these streams, comes to its report, which is
-- true. The names of its processes, to which the counts of cuts belong, are the document's.
pub record IsJudgedTo (fail_on : List Condition) (id : Option (List ℕ)) (inquiry : Inquiry) (streams : List (List ℕ))
    (answer : Answer) : Type 0 where
  pub report : Report
  pub right : IsJudgement inquiry (ended_streams streams) report
  pub truth : IsTrueReport inquiry (ended_streams streams) report
  pub names : List ProcessNames
  pub of_document : (document : Document) → IsDocument inquiry document → names ≡ document.names
  pub of_refused : (fault : DocumentFault) → IsRefusedDocument inquiry fault → names ≡ []
  pub is_status : answer.status ≡ status_for fail_on report
  pub is_line : answer.line ≡ line_text (answer_data id names report (status_for fail_on report))

-- The line of this number holds no session that can be judged, for this reason.
pub record IsFailure (id : Option (List ℕ)) (number : ℕ) (error : List ℕ) (answer : Answer) : Type 0 where
  pub is_status : answer.status ≡ 1
  pub is_line : answer.line ≡ line_text (error_data id error number)

-- A session is judged, if its document has each predicate that is named; or the document is refused.
abbrev pub IsSessionAnswer : (options : Options) (fail_on : List Condition) (number : ℕ) → Session → Answer → Type 0
IsSessionAnswer options fail_on number session answer =
    HasNamed fail_on (inquiry_of options session.document)
    × IsJudgedTo fail_on session.id (inquiry_of options session.document) session.streams answer
    ⊎ LacksNamed fail_on (inquiry_of options session.document)
    × IsFailure session.id number (codes "no predicate of this name") answer

-- what is written of the line of this number, by what it says
abbrev pub IsAnswer : (options : Options) (fail_on : List Condition) (number : ℕ) → Line → Answer → Type 0
IsAnswer options fail_on number (Holds session) = IsSessionAnswer options fail_on number session
IsAnswer options fail_on number (Tells id error) = IsFailure id number error
IsAnswer options fail_on number NoSession =
    IsFailure None number (codes "no object with a text document, an array of texts streams, and maybe a text id")
IsAnswer options fail_on number NoJson = IsFailure None number (codes "no JSON value")
IsAnswer options fail_on number TooLong = IsFailure None number (codes "over 134217728 bytes")
