-- The text of a session's report is owed, and what is written whole of it is the truth.
use Rattle.std.proofs.Common.{◌≡◌, ℕ, ◌≤◌, true, List, length, sym, subst, ap, ◌∙◌, inl, inr, Ok, Err}
use Rattle.std.specs.Prelude.{◌⊎◌, Option, IfErr, IfOk, Result}
use Rattle.std.specs.List.{AllZip}
use Rattle.def_format.specs.Documents.{Inquiry, plain}
use Rattle.def_format.specs.Limits.{bundle_byte_limit}
use Rattle.def_format.specs.Reports as formats
use Rattle.def_judgement.specs.Headline.{is_judged}
use Rattle.def_judgement.specs.Judgements.{IsJudgement, IsReportOfBundle, IsReportOfParts, RawStream, ended_streams}
use Rattle.def_judgement.specs.Writes.{IsKnownAs, IsReportTextOf, IsTextOfBundle, IsTextOfStreams, IsWholeInput, Source, Writes, WritesTruth, WritesTruthOfBundle}
use Rattle.def_judgement.proofs.TextsOwed.{parts_are_some, report_text_of, truth_of_bundle_text, truth_of_text}
use Rattle.def_judgement.proofs.Writing.{writes_weaker}
use Rattle.pd_report.specs.Views.{report_view}
use Rattle.pd_report.specs.declared.report.Report.{Report}
use Rattle.pd_engine.specs.Ends.{IsGiven, IsTextAs}
use Rattle.judge_session.specs.Ends.{call_end}
use Rattle.judge_session.specs.SessionReports.{IsReportOfInputs}
use Rattle.judge_session.specs.declared.fault.EngineFault.{EngineFault}
use Rattle.judge_session.specs.declared.fault.EngineFault.TheVariants.{BundleLong, Memory, Read, Write}
use Rattle.pd_engine.proofs.SessionReports.{IsReportOfWhole}

-- ---- what is owed

text_owed : (document : Inquiry) (streams : List RawStream) (report : formats.Report)
    (result : Result Report EngineFault) (text : List ℕ) → IsJudgement document streams report
    → IsTextAs report result text → IsReportTextOf document streams (IsGiven result) text
text_owed document streams report result text right owed =
    subst (IsReportTextOf document streams (IsGiven result)) (sym owed.is_text)
    (report_text_of document streams report right (IsGiven result) owed.given)

streams_text : (document : Inquiry) (inputs : List Source) (report : formats.Report)
    (result : Result Report EngineFault) (text : List ℕ) → IsReportOfInputs document inputs report
    → IsTextAs report result text → IsTextOfStreams document inputs (IsGiven result) text
streams_text document inputs report result text right owed = record {
  streams = right.streams;
  are_given = right.are_given;
  is_report_text = text_owed document right.streams report result text right.right owed;
}

bundle_text : (input : Source) (bundle : List ℕ) (report : formats.Report)
    (result : Result Report EngineFault) (text : List ℕ) → IsWholeInput input bundle
    → length bundle ≤ bundle_byte_limit → IsReportOfBundle bundle report → IsTextAs report result text
    → IsTextOfBundle input (IsGiven result) text
bundle_text input bundle report result text whole fits right owed =
    let parts = parts_are_some bundle in
    let here : IsJudgement (plain parts.0) (ended_streams parts.1) report =
    subst (λ (all : List (List ℕ)). IsReportOfParts all report) parts.2 right in
    record {
      bundle = bundle;
      is_given = whole;
      fits = fits;
      document = parts.0;
      streams = parts.1;
      parts = parts.2;
      is_report_text = text_owed (plain parts.0) (ended_streams parts.1) report result text here owed;
    }

-- ---- what is written

pub streams_written : (document : Inquiry) (inputs : List Source)
    (report : formats.Report) (result : Result Report EngineFault) (old new : Option (List ℕ))
    → IsReportOfInputs document inputs report → Writes (IsTextAs report result) (call_end result) old new
    → Writes (IsTextOfStreams document inputs (IsGiven result)) (call_end result) old new
streams_written document inputs report result old new right written =
    writes_weaker (IsTextAs report result) (IsTextOfStreams document inputs (IsGiven result))
    (call_end result) old new (λ text owed. streams_text document inputs report result text right owed)
    written

pub whole_written : (document : Inquiry) (inputs : List Source) (report : formats.Report)
    (result : Result Report EngineFault) (old new : Option (List ℕ)) → IsReportOfWhole document inputs report
    → Writes (IsTextAs report result) (call_end result) old new
    → (streams : List (List ℕ)) → AllZip IsKnownAs inputs streams
    → Writes (IsReportTextOf document (ended_streams streams) (IsGiven result)) (call_end result) old new
whole_written document inputs report result old new right written streams same =
    writes_weaker (IsTextAs report result) (IsReportTextOf document (ended_streams streams) (IsGiven result))
    (call_end result) old new
    (λ text owed. text_owed document (ended_streams streams) report result text (right streams same) owed) written

pub bundle_written : (input : Source) (bundle : List ℕ) (report : formats.Report)
    (result : Result Report EngineFault) (old new : Option (List ℕ)) → IsWholeInput input bundle
    → length bundle ≤ bundle_byte_limit → IsReportOfBundle bundle report
    → Writes (IsTextAs report result) (call_end result) old new
    → Writes (IsTextOfBundle input (IsGiven result)) (call_end result) old new
bundle_written input bundle report result old new whole fits right written =
    writes_weaker (IsTextAs report result) (IsTextOfBundle input (IsGiven result)) (call_end result) old new
    (λ text owed. bundle_text input bundle report result text whole fits right owed) written

-- ---- the truth

-- the report that is given is judged if the one that is meant is
given_is_judged : (given : Report) (report : formats.Report) → report ≡ report_view given
    → is_judged report ≡ true → is_judged (report_view given) ≡ true
given_is_judged given report same judged = sym (ap is_judged same) ∙ judged

pub whole_truth : (document : Inquiry) (inputs : List Source) (report : formats.Report)
    (result : Result Report EngineFault) (old new : Option (List ℕ)) → IsReportOfWhole document inputs report
    → Writes (IsTextAs report result) (call_end result) old new
    → IfOk result (λ given. (streams : List (List ℕ)) → AllZip IsKnownAs inputs streams
    → WritesTruth document (ended_streams streams) (is_judged (report_view given) ≡ true) old new)
whole_truth document inputs report (Err fault) old new right written = tt
whole_truth document inputs report (Ok given) old new right written = λ streams same.
    truth_of_text document (ended_streams streams) (IsGiven (Ok given)) (is_judged (report_view given) ≡ true) old new
    (given_is_judged given) (whole_written document inputs report (Ok given) old new right written streams same)

pub bundle_truth : (input : Source) (bundle : List ℕ) (report : formats.Report)
    (result : Result Report EngineFault) (old new : Option (List ℕ)) → IsWholeInput input bundle
    → length bundle ≤ bundle_byte_limit → IsReportOfBundle bundle report
    → Writes (IsTextAs report result) (call_end result) old new
    → IfOk result (λ given. WritesTruthOfBundle input (is_judged (report_view given) ≡ true) old new)
bundle_truth input bundle report (Err fault) old new whole fits right written = tt
bundle_truth input bundle report (Ok given) old new whole fits right written =
    truth_of_bundle_text input (IsGiven (Ok given)) (is_judged (report_view given) ≡ true) old new
    (given_is_judged given) (bundle_written input bundle report (Ok given) old new whole fits right written)

-- ---- the faults

-- a write fails or runs out of memory: no bundle is too long then,
pub write_not_long : {A : Type 0} (result : Result A EngineFault)
    → IfErr result (λ fault. (fault ≡ Memory) ⊎ (fault ≡ Write)) → result ≡ Err BundleLong → ⊥
write_not_long (Ok value) two e = absurd (cc)
write_not_long (Err fault) (inl memory) e = absurd (cc)
write_not_long (Err fault) (inr write) e = absurd (cc)

-- and no read has failed
pub write_not_read : {A : Type 0} (result : Result A EngineFault)
    → IfErr result (λ fault. (fault ≡ Memory) ⊎ (fault ≡ Write)) → result ≡ Err Read → ⊥
write_not_read (Ok value) two e = absurd (cc)
write_not_read (Err fault) (inl memory) e = absurd (cc)
write_not_read (Err fault) (inr write) e = absurd (cc)
