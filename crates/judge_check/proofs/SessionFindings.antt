-- What is found of a report is what a check of its bytes finds.
use Rattle.std.proofs.Common.{◌≡◌, ◌↔◌, ℕ, Bool, IsTrue, List, Option, length, subst}
use Rattle.def_model.specs.Cuts.{total}
use Rattle.def_model.specs.Predicates.{Recorded}
use Rattle.def_format.specs.Documents.{Document, Inquiry}
use Rattle.def_format.specs.OtherTexts.{Checked, Finding, OfSession}
use Rattle.def_format.specs.Readings.{Trace}
use Rattle.def_format.specs.Reports.{Answer, IsReport, Refusal, Report, Judged, Refused}
use Rattle.def_judgement.specs.Findings as findings
use Rattle.def_judgement.specs.Findings.{IsAnswersFinding, IsFinding, IsSessionOf}
use Rattle.def_judgement.specs.Judgements.{IsJudgement, RawStream, recorded_of}
use Rattle.judge_check.specs.Found.{IsFoundOf, IsFoundOfRefused, of_refused_session, of_refusal, of_session}

-- of a refused session
pub finding_of_refused : (inquiry : Inquiry) (report : List ℕ) (streams : List RawStream) (refusal : Refusal)
    (claimed : Report)
    (finding : Finding) → IsReport report claimed → IsJudgement inquiry streams (Refused refusal)
    → IsFoundOfRefused refusal claimed finding
    → IsFinding inquiry report streams finding
finding_of_refused inquiry report streams refusal claimed finding read refused (of_refused_session good right) =
    findings.of_refused_session claimed refusal good read refused right

-- of a well-formed session
pub finding_of_session : (inquiry : Inquiry) (report : List ℕ) (streams : List RawStream) (document : Document)
    (traces : List Trace)
    (messages : ℕ) (claimed : Report) (finding : Finding) → IsReport report claimed
    → IsSessionOf inquiry streams document traces messages → IsFoundOf document traces messages claimed finding
    → IsFinding inquiry report streams finding
finding_of_session inquiry report streams document traces messages claimed finding read held (of_refusal refusal is) =
    findings.of_refusal refusal document traces messages (subst (IsReport report) is read) held
finding_of_session inquiry report streams document traces messages claimed finding read held
    (of_session processes events matched answers good found is counts verdicts) =
    findings.of_session processes events matched answers document traces messages good found
    (subst (IsReport report) is read) held counts verdicts

-- what a computation shows of a report with answers
pub found_of_computation : (document : Document) (traces : List Trace) (messages : ℕ) (recorded : Recorded)
    (claimed : Report) (processes events matched : ℕ) (answers : List Answer) (good : Bool)
    (found : Option (List Checked)) → recorded ≡ recorded_of document traces
    → claimed ≡ Judged processes events matched answers
    → IsTrue good ↔ ((processes ≡ length document.names) × (events ≡ total recorded.events) × (matched ≡ messages))
    → IsAnswersFinding document traces answers found
    → IsFoundOf document traces messages claimed (OfSession good found)
found_of_computation document traces messages recorded claimed processes events matched answers good found same is
    counts verdicts =
    of_session processes events matched answers good found is
    (subst (λ (r : Recorded). IsTrue good
    ↔ ((processes ≡ length document.names) × (events ≡ total r.events) × (matched ≡ messages))) same counts)
    verdicts
