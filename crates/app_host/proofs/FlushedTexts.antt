-- A flush changes nothing of what is written, and a text of which something is said is one of which nothing is said.
use Rattle.std.proofs.Common.{◌≡◌, ◌≤◌, ◌∙◌, ◌↔◌, ℕ, IsTrue, List, ap, length, take, None, Some, Option, Ok, Err, inl, inr, refl, subst, sym, true, false}
use Rattle.std.specs.Prelude.{◌⊎◌, Bool, IfSome, IsErrAnd, Result, if◌then◌else◌}
use Rattle.std.specs.List.{list_any}
use Rattle.std.specs.Io.KnownBytes.{Appends, Keeps}
use Rattle.def_format.specs.Documents.{Inquiry}
use Rattle.def_format.specs.Limits.{report_byte_limit}
use Rattle.def_format.specs.Reports as formats
use Rattle.def_judgement.specs.Headline.{is_judged}
use Rattle.app_arguments.specs.Statuses.{ComesTo, JudgementLeaves, OfFinding, OfReport, WritesUpTo}
use Rattle.def_judgement.specs.Writes.{Source, Partial, Whole, Writes, IsAnyReport, IsJudged, IsRefused, IsTextOfBundle, whole_source}
use Rattle.def_judgement.proofs.TextsOwed.{weaker_said_of_bundle}
use Rattle.def_judgement.proofs.Writing.{writes_weaker}
use Rattle.app_host.proofs.FilesRead.{up_to_weaker, whole_is_whole}
use Rattle.pd_report.specs.Views.{report_view}
use Rattle.pd_report.specs.declared.report.Report.{Report}
use Rattle.judge_session.specs.Ends.{fault_end}
use Rattle.judge_session.specs.declared.fault.EngineFault.{EngineFault}
use Rattle.judge_session.specs.declared.fault.EngineFault.TheVariants.{BundleLong, Memory, Read, Write}
use Rattle.pd_engine.specs.Ends.{IsGiven}
use Rattle.app_arguments.specs.Conditions as conditions
use Rattle.judge_runs.specs.Wishes.{Condition}
use Rattle.app_arguments.specs.Conditions.{Conclusion, conclusion, is_met}
use Rattle.app_host.specs.Faults.{concluded_ending, ending_view, judged_ending, judgement_ending, report_ending}
use Rattle.app_arguments.specs.Formats.{Format}
use Rattle.app_host.specs.Formats.{IsFindingIn, finding_text}
use Rattle.def_format.specs.OtherTexts.{Finding}
use Rattle.def_judgement.specs.Findings.{IsClean}
use Rattle.judge_draw.specs.Checks.{Finds}
use Rattle.app_host.specs.FileSources.{ReadLeaves}
use Rattle.app_host.proofs.WrittenSoFar.{appends_kept, up_to}

-- ---- a flush

pub flushed_up_to : (P Q : List ℕ → Type 0) (old middle new : Option (List ℕ)) → ((text : List ℕ) → P text → Q text)
    → Writes P Whole old middle → Keeps middle new → WritesUpTo Q old new
flushed_up_to P Q old middle new weaker written keeps =
    inl (written.0, weaker written.0 written.1, appends_kept old middle new written.0 written.2 keeps)

-- ---- the ends of a judgement

-- what is handed on is this fault
pub handed_on : (P : Result Report EngineFault → Type 0) (result : Result Report EngineFault) (fault : EngineFault)
    → IsErrAnd result (λ e. e ≡ fault) → P (Err fault) → P result
handed_on P (Ok report) fault is held = absurd is
handed_on P (Err other) fault is held = subst (λ (e : EngineFault). P (Err e)) (sym is) held

no_refusal : (meets : Bool) → ¬ ((if meets then conditions.Met else conditions.Unmet) ≡ conditions.OfRefusal)
no_refusal true is = cc
no_refusal false is = cc

-- a report that comes to a refusal is one
is_refusal : (fail_on : List Condition) (report : formats.Report) → ComesTo fail_on conditions.OfRefusal report
    → is_judged report ≡ false
is_refusal fail_on (formats.Refused refusal) is = refl
is_refusal fail_on (formats.Judged processes events messages answers) is =
    absurd (no_refusal (list_any (is_met answers) fail_on) is)

-- of texts that hold by what is said of a report, and of which holds what follows from that
module _ (IsText : (formats.Report → Type 0) → List ℕ → Type 0)
    (weaker : (P Q : formats.Report → Type 0) (text : List ℕ) → ((report : formats.Report) → P report → Q report)
    → IsText P text → IsText Q text) where
  -- the text of the report that is given is written, and then the output is flushed
  pub report_ends : (given : Report) (old middle new : Option (List ℕ)) → Writes (IsText (IsGiven (Ok given))) Whole
      old middle → Keeps middle new → (fail_on : List Condition)
      → ReadLeaves (OfReport IsText fail_on) (judgement_ending fail_on (Ok given)) old new
  report_ends given old middle new written keeps fail_on = go (conclusion fail_on (report_view given)) refl
    where
      leaves : (IsSaid : formats.Report → Type 0) → ((report : formats.Report) → IsGiven (Ok given) report
          → IsSaid report) → Writes (IsText IsSaid) Whole old new
      leaves IsSaid tell = (
        written.0,
        weaker (IsGiven (Ok given)) IsSaid written.0 tell written.1,
        appends_kept old middle new written.0 written.2 keeps,
      )

      go : (end : Conclusion) → conclusion fail_on (report_view given) ≡ end
          → ReadLeaves (OfReport IsText fail_on) (concluded_ending end) old new
      go conditions.OfRefusal is = leaves IsRefused
          (λ report same. is_refusal fail_on report (ap (conclusion fail_on) same ∙ is))
      go conditions.Met is = leaves (ComesTo fail_on conditions.Met) (λ report same. ap (conclusion fail_on) same ∙ is)
      go conditions.Unmet is = leaves (ComesTo fail_on conditions.Unmet)
          (λ report same. ap (conclusion fail_on) same ∙ is)

  -- or the flush fails
  pub report_unflushed : (given : Report) (old middle new : Option (List ℕ)) → Writes (IsText (IsGiven (Ok given)))
      Whole old middle → Keeps middle new → (fail_on : List Condition)
      → ReadLeaves (OfReport IsText fail_on) (judgement_ending fail_on (Err Write)) old new
  report_unflushed given old middle new written keeps fail_on =
      flushed_up_to (IsText (IsGiven (Ok given))) (IsText IsAnyReport) old middle new
      (λ text. weaker (IsGiven (Ok given)) IsAnyReport text (λ _ _. tt)) written keeps

  -- or a write before it
  pub report_fails : (fault : EngineFault) (old new : Option (List ℕ))
      → Writes (IsText (IsGiven (Err fault))) (fault_end fault) old new → (fault ≡ Memory) ⊎ (fault ≡ Write)
      → (fail_on : List Condition)
      → ReadLeaves (OfReport IsText fail_on) (judgement_ending fail_on (Err fault)) old new
  report_fails Memory old new written two fail_on = written
  report_fails Write old new written two fail_on =
      inr (writes_weaker (IsText (IsGiven (Err Write))) (IsText IsAnyReport) Partial old new
      (λ text. weaker (IsGiven (Err Write)) IsAnyReport text (λ _ _. tt)) written)
  report_fails Read old new written (inl is) fail_on = absurd (cc)
  report_fails Read old new written (inr is) fail_on = absurd (cc)
  report_fails BundleLong old new written (inl is) fail_on = absurd (cc)
  report_fails BundleLong old new written (inr is) fail_on = absurd (cc)

-- a bundle
pub judged_bundle_ends : (input : Source) (given : Report)
    (old middle new : Option (List ℕ)) → Writes (IsTextOfBundle input (IsGiven (Ok given))) Whole old middle
    → Keeps middle new → JudgementLeaves input (report_ending (Ok given)) old new
judged_bundle_ends input given old middle new written keeps =
    go (is_judged (report_view given)) refl
  where
    leaves : (IsSaid : formats.Report → Type 0) → ((report : formats.Report) → IsGiven (Ok given) report
        → IsSaid report) → Writes (IsTextOfBundle input IsSaid) Whole old new
    leaves IsSaid tell = (
      written.0,
      weaker_said_of_bundle input (IsGiven (Ok given)) IsSaid written.0 tell written.1,
      appends_kept old middle new written.0 written.2 keeps,
    )

    go : (judged : Bool) → is_judged (report_view given) ≡ judged → JudgementLeaves input
        (judged_ending judged) old new
    go true is = leaves IsJudged (λ report same. ap is_judged same ∙ is)
    go false is = leaves IsRefused (λ report same. ap is_judged same ∙ is)

pub unflushed_bundle_ends : (input : Source) (given : Report)
    (old middle new : Option (List ℕ)) → Writes (IsTextOfBundle input (IsGiven (Ok given))) Whole old middle
    → Keeps middle new → JudgementLeaves input (report_ending (Err Write)) old new
unflushed_bundle_ends input given old middle new written keeps =
    flushed_up_to (IsTextOfBundle input (IsGiven (Ok given))) (IsTextOfBundle input IsAnyReport) old middle new
    (λ text. weaker_said_of_bundle input (IsGiven (Ok given)) IsAnyReport text (λ _ _. tt)) written keeps

-- ---- the ends of a check by bytes that were read

-- the text of what is found
finding_is : (format : Format) (document : Inquiry) (report : List ℕ) (inputs : List Source) (good : Option Bool)
    (finding : Finding) (text : List ℕ) → Finds document report inputs finding
    → IfSome good (λ (good : Bool). IsTrue good ↔ IsClean finding) → text ≡ finding_text format finding
    → IsFindingIn format document report inputs good text
finding_is format document report inputs good finding text found clean is = record {
  streams = found.streams;
  are_given = found.are_given;
  finding = finding;
  right = found.right;
  clean = clean;
  is_text = is;
}

pub check_ends : (format : Format) (document : Inquiry) (report : List ℕ) (inputs : List Source) (good : Bool)
    (finding : Finding) (written : List ℕ) (old new : Option (List ℕ)) → length report ≤ report_byte_limit
    → Finds document report inputs finding → (IsTrue good ↔ IsClean finding)
    → written ≡ finding_text format finding → Appends old new written
    → ReadLeaves (OfFinding (IsFindingIn format) (whole_source report) inputs document) (ending_view (Ok good)) old new
check_ends format document report inputs true finding written old new short found clean is appends = record {
  bytes = report;
  whole = whole_is_whole report;
  fits = short;
  holds = (written, finding_is format document report inputs (Some true) finding written found clean is, appends);
}
check_ends format document report inputs false finding written old new short found clean is appends = record {
  bytes = report;
  whole = whole_is_whole report;
  fits = short;
  holds = (written, finding_is format document report inputs (Some false) finding written found clean is, appends);
}

pub check_fails : (format : Format) (document : Inquiry) (report : List ℕ) (inputs : List Source)
    (finding : Finding) (written : List ℕ) (old new : Option (List ℕ)) (count : ℕ)
    → length report ≤ report_byte_limit → Finds document report inputs finding
    → written ≡ finding_text format finding → Appends old new (take count written)
    → ReadLeaves (OfFinding (IsFindingIn format) (whole_source report) inputs document) (ending_view (Err Write)) old
    new
check_fails format document report inputs finding written old new count short found is appends = record {
  bytes = report;
  whole = whole_is_whole report;
  fits = short;
  holds = up_to_weaker (λ (other : List ℕ). other ≡ written) (IsFindingIn format document report inputs None) old new
      (λ other same. finding_is format document report inputs None finding other found tt (same ∙ is))
      (up_to written old new count appends);
}
