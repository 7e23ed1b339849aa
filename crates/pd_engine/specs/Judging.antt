-- What a call that judges streams comes to.
use Rattle.std.specs.Prelude.{◌≡◌, ◌⊎◌, ℕ, true, List, Option, Result, Err, IfErr, IfOk}
use Rattle.def_format.specs.Documents.{Inquiry}
use Rattle.def_judgement.specs.Headline.{is_judged}
use Rattle.def_judgement.specs.Judgements.{ended_streams}
use Rattle.std.specs.List.{AllZip}
use Rattle.def_judgement.specs.Writes.{IsBrokenOff, IsKnownAs, IsReportTextOf, IsTextOfBundle, IsTextOfStreams, IsTooLong, Writes, WritesTruth, WritesTruthOfBundle, Source}
use Rattle.pd_report.specs.Views.{report_view}
use Rattle.pd_report.specs.declared.report.Report.{Report}
use Rattle.judge_session.specs.Ends.{call_end}
use Rattle.judge_session.specs.declared.fault.EngineFault.{EngineFault}
use Rattle.judge_session.specs.declared.fault.EngineFault.TheVariants.{BundleLong, Memory, Read, Write}
use Rattle.pd_engine.specs.Ends.{IsGiven, IsOutcomeOf}
use Rattle.pd_engine.specs.declared.outcome.Outcome.{Outcome}

-- What a call leaves on its output, and its result, if it judges a document, with what is asked, and the streams that
-- these sources give.
pub record JudgesStreams (document : Inquiry) (inputs : List Source) (result : Result Report EngineFault)
    (old new : Option (List ℕ)) : Type 0 where
  -- The text of the report of the document and of the streams that the sources gave is written whole, which is the
  -- report that is given, and it is true; a write that fails leaves a prefix of it, out of memory nothing, and no other
  -- fault comes.
  pub written : Writes (IsTextOfStreams document inputs (IsGiven result)) (call_end result) old new
  pub err : IfErr result (λ fault. (fault ≡ Memory) ⊎ (fault ≡ Write))
  -- If of each source the bytes are known, and that no read of it fails, it is the report of these bytes,
  pub whole : (streams : List (List ℕ)) → AllZip IsKnownAs inputs streams
      → Writes (IsReportTextOf document (ended_streams streams) (IsGiven result)) (call_end result) old new
  -- and if they hold a well-formed session, it is judged, and what is written is true: with no level over the width of
  -- each predicate, and if that is asked for, however wide it is, of each that is decided.
  pub headline : IfOk result (λ given. (streams : List (List ℕ)) → AllZip IsKnownAs inputs streams
      → WritesTruth document (ended_streams streams) (is_judged (report_view given) ≡ true) old new)

-- The same of a call that judges the bundle that this source gives.
pub record JudgesBundle (input : Source) (result : Result Report EngineFault)
    (old new : Option (List ℕ)) : Type 0 where
  -- The text of the report of the parts of the bundle that the source gave is written whole, which is the report that
  -- is given, and it is true; a write that fails leaves a prefix of it, and every other fault leaves nothing.
  pub written : Writes (IsTextOfBundle input (IsGiven result)) (call_end result) old new
  -- If the bundle holds a well-formed session, it is judged; with no level over the width, what is written tells the
  -- truth of each predicate.
  pub headline : IfOk result (λ given. WritesTruthOfBundle input (is_judged (report_view given) ≡ true) old new)
  -- The bundle is reported as too long only if it is; and a read is reported as failed only if one may fail, before the
  -- bundle is too long. So of a source of which no read fails, a bundle over the limit is reported as that, or memory
  -- ran out.
  pub long : result ≡ Err BundleLong → IsTooLong input
  pub cause : result ≡ Err Read → IsBrokenOff input

-- The same of a call that judges streams, and gives no more of the report than its outcome.
pub record JudgesToOutcome (document : Inquiry) (inputs : List Source) (result : Result Outcome EngineFault)
    (old new : Option (List ℕ)) : Type 0 where
  pub reported : Result Report EngineFault
  pub is_outcome : IsOutcomeOf reported result
  pub judges : JudgesStreams document inputs reported old new

-- The same of a call that judges a bundle.
pub record JudgesBundleToOutcome (input : Source) (result : Result Outcome EngineFault)
    (old new : Option (List ℕ)) : Type 0 where
  pub reported : Result Report EngineFault
  pub is_outcome : IsOutcomeOf reported result
  pub judges : JudgesBundle input reported old new
