-- What a check finds.
use Rattle.std.specs.Prelude.{ℕ, List, Bool, Option, Some, None, Result, Ok, Err}
use Rattle.std.specs.List.{AllZip}
use Rattle.def_format.specs.Documents.{Inquiry}
use Rattle.def_format.specs.OtherTexts.{Finding}
use Rattle.def_format.specs.Reports.{IsReport, Report}
use Rattle.def_judgement.specs.Findings.{IsFinding}
use Rattle.def_judgement.specs.Judgements.{RawStream}
use Rattle.def_judgement.specs.Writes.{IsGivenAs, Source}
use Rattle.judge_session.specs.declared.fault.EngineFault.{EngineFault}

-- the finding of a check by a document, with what is asked, a report's bytes and the streams that these sources gave
pub record Finds (inquiry : Inquiry) (report : List ℕ) (inputs : List Source)
    (finding : Finding) : Type 0 where
  pub streams : List RawStream
  pub are_given : AllZip IsGivenAs inputs streams
  pub right : IsFinding inquiry report streams finding

-- the same of any bytes that are this report
pub record FindsOf (inquiry : Inquiry) (claimed : Report) (inputs : List Source)
    (finding : Finding) : Type 0 where
  pub streams : List RawStream
  pub are_given : AllZip IsGivenAs inputs streams
  pub right : (report : List ℕ) → IsReport report claimed → IsFinding inquiry report streams finding

-- whether nothing in the finding is bad, if that is said
abbrev pub good_as : Result Bool EngineFault → Option Bool
good_as (Ok good) = Some good
good_as (Err fault) = None
