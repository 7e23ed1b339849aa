-- What a check leaves on its output, by the format of what is written.
use Rattle.std.specs.List.{AllZip}
use Rattle.std.specs.Prelude.{◌≡◌, ◌↔◌, ℕ, Bool, IsTrue, List, Option, IfSome}
use Rattle.def_format.specs.Documents.{Inquiry}
use Rattle.def_format.specs.OtherTexts.{Finding, check_text}
use Rattle.def_judgement.specs.Findings.{IsClean, IsFinding}
use Rattle.def_judgement.specs.Judgements.{RawStream}
use Rattle.def_judgement.specs.Writes.{IsGivenAs, Source}
use Rattle.judge_findings.specs.JsonFindings.{finding_json}
use Rattle.app_arguments.specs.Formats.{Format, Plain, Json}

-- the text of a finding in this format
abbrev pub finding_text : Format → Finding → List ℕ
finding_text Plain = check_text
finding_text Json = finding_json

-- The text in this format of what a check finds by a document with what is asked, a report's bytes and the streams that
-- these sources gave. It has nothing bad in it exactly if that is said, if anything is said of it.
pub record IsFindingIn (format : Format) (document : Inquiry) (report : List ℕ) (inputs : List Source)
    (good : Option Bool) (text : List ℕ) : Type 0 where
  pub streams : List RawStream
  pub are_given : AllZip IsGivenAs inputs streams
  pub finding : Finding
  pub right : IsFinding document report streams finding
  pub clean : IfSome good (λ good. IsTrue good ↔ IsClean finding)
  pub is_text : text ≡ finding_text format finding
