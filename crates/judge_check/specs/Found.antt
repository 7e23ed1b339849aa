-- What is found of a report that is read, by what its session comes to.
use Rattle.std.specs.Prelude.{◌≡◌, ℕ, Bool, false, IsTrue, ◌↔◌, List, Option}
use Rattle.def_format.specs.Documents.{Document}
use Rattle.def_format.specs.OtherTexts.{Checked, Finding, OfRefusal, OfSession}
use Rattle.def_format.specs.Readings.{Trace}
use Rattle.def_format.specs.Reports.{Answer, Refusal, Report, Judged, Refused}
use Rattle.def_judgement.specs.Findings.{AreCounts, IsAnswersFinding}

-- If the session is refused like this: whether the report is that refusal.
pub data IsFoundOfRefused (refusal : Refusal) (claimed : Report) : Finding → Type 0 where
  of_refused_session : (good : Bool) → (IsTrue good ↔ (claimed ≡ Refused refusal))
      → IsFoundOfRefused refusal claimed (OfRefusal good)

-- If the session is well formed, with these traces and this many messages: the report is a refusal, so it is wrong; or
-- its counts and answers are judged.
pub data IsFoundOf (document : Document) (traces : List Trace) (messages : ℕ) (claimed : Report) :
    Finding → Type 0 where
  of_refusal : (refusal : Refusal) → claimed ≡ Refused refusal
      → IsFoundOf document traces messages claimed (OfRefusal false)
  of_session : (processes events matched : ℕ) (answers : List Answer) (good : Bool) (found : Option (List Checked))
      → claimed ≡ Judged processes events matched answers
      → (IsTrue good ↔ AreCounts document traces messages processes events matched)
      → IsAnswersFinding document traces answers found
      → IsFoundOf document traces messages claimed (OfSession good found)
