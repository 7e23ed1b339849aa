-- The session that a report is held against.
use Rattle.std.specs.Prelude.{◌≡◌, ℕ, List, Ok}
use Rattle.std.specs.List.{AllZip}
use Rattle.def_format.specs.Documents.{Document, IsDocument, Inquiry}
use Rattle.def_format.specs.Readings.{Trace}
use Rattle.def_format.specs.Sessions.{StreamResult, session}
use Rattle.pd_gather.specs.ReadStreams.{ComesTo}
use Rattle.def_judgement.specs.Judgements.{RawStream}
use Rattle.def_judgement.specs.Writes.{IsGivenAs, Source}

-- The document and the traces are those that this inquiry and the streams that these sources gave hold, of which none
-- is refused.
pub record IsRead (inquiry : Inquiry) (inputs : List Source) (document : Document)
    (traces : List Trace) : Type 0 where
  pub is_document : IsDocument inquiry document
  pub streams : List RawStream
  pub are_given : AllZip IsGivenAs inputs streams
  pub count : ℕ
  pub results : List StreamResult
  pub comes : ComesTo document.names streams count results
  pub joined : session document.names count results ≡ Ok traces
