-- What each command's own definition says is left is what the one rule for all commands says.
use Rattle.std.proofs.Common.{◌≡◌, ◌⊎◌, ℕ, Bool, true, false, List, [], ◌∷◌, ◌++◌, codes, map, take, Option, None, Some, not, refl, sym, ap, ◌∙◌, subst, inl, inr, arith}
use Rattle.std.specs.Prelude.{⊤, ◌≢◌, All, if◌then◌else◌, nat_lt, ◌||◌}
use Rattle.std.specs.List.{list_any}
use Rattle.std.specs.Io.KnownBytes.{Appends, Keeps}
use Rattle.std.proofs.lemmas.List.{append-nil}
use Rattle.def_format.specs.Documents.{Document, Inquiry, IsDocument, Options}
use Rattle.def_format.specs.Reports.{Report, Judged, Refused}
use Rattle.def_format.specs.Lists.{is_one_of}
use Rattle.def_judgement.specs.Findings.{is_clean}
use Rattle.def_judgement.specs.Writes.{IsBrokenOff, IsJudged, IsRefused, IsTextOfBundle, IsTextOfStreams, IsTooLong, Source, Whole}
use Rattle.def_judgement.proofs.CleanFindings.{clean_is_clean_lem}
use Rattle.def_judgement.proofs.TextsOwed.{weaker_said_of_bundle, weaker_said_of_streams}
use Rattle.def_judgement.proofs.Writing.{writes_weaker}
use Rattle.app_arguments.specs.Arguments.{AsksFor}
use Rattle.app_arguments.specs.Conditions.{is_met, unknown_name}
use Rattle.app_arguments.specs.Conditions as conditions
use Rattle.app_arguments.specs.Formats.{Format, Plain, Json}
use Rattle.app_arguments.specs.Places.{Place}
use Rattle.app_arguments.specs.Statuses.{Alarm, BundleFailure, BundleRuns, CheckFiles, ComesTo, DrawFiles, Ending, Ends, ExploreFiles, Failed, Failure, File, HasNamed as HasNamedBy, HelpLeaves, InferDocument, IsTextOfAccepted, JudgeFiles, JudgeInput, JudgeLines, JudgementLeaves, LacksNamed, LeavesOf, MayBeUnread, MemoryFailure, MergeLines, Misuse, MisuseLeaves, Negative, NetworkFailure, NoPredicate, OfClaim, OfConnections, OfDocument, OfFinding, OfNamed, OfReport, OfStreams, ReadFailure, ReduceRun, Reports, Request, ServeStreams, ServiceMayFail, ShowHelp, ShowVersion, Success, TestRuns, Unclear, VersionLeaves, WriteFailure, WritesUpTo, sources_of, status_of}
use Rattle.app_host.proofs.FilesRead.{up_to_weaker}
use Rattle.app_host.specs.FileSources.{bytes_in}
use Rattle.app_host.specs.Formats.{IsFindingIn}
use Rattle.app_serve.specs.Kept.{WritesFiles}
use Rattle.app_serve.specs.Served.{IsServed}
use Rattle.app_serve.proofs.ServedTexts.{weaker_said_in}
use Rattle.app_reduce.specs.Reduced.{ReduceLeaves}
use Rattle.app_results.specs.RunReports.{IsReportOf}
use Rattle.app_test.specs.Tests.{IsTestText, TestLeaves}
use Rattle.judge_explore.proofs.Written.{owed_weaker}
use Rattle.judge_runs.specs.Runs.{Fail, NotJudged, Run, conclusion_by, count_of, verdict_of_run}
use Rattle.judge_runs.specs.Runs as judged
use Rattle.judge_runs.specs.Wishes.{Condition, lacks_name, names_of}
use Rattle.clap.specs.Words.{Text}
use Rattle.app_explore.specs.Explorations.{Asked, AskedObject, AskedPage, ExplorationLeaves, FilesLeave, IsNotesFile, IsOwedWith, OfForm, all_named, notes_of, wishes_of}
use Rattle.pd_cli.specs.RunCases.{Leaves as LeavesCase, RunsAsAsked}
use Rattle.pd_cli.specs.Runs.{By, EndsBy, HasNamed, IsJudgedIn, IsTestAt, LeavesText, Leaves, LeavesReport, OfSession, RunsAs, due_of_report, names_in, report_of}

-- ---- what is reported

keeps_appends : (old new : Option (List ℕ)) → Keeps old new → Appends old new []
keeps_appends None new h = tt
keeps_appends (Some xs) None h = absurd h
keeps_appends (Some xs) (Some ys) h = h ∙ sym (append-nil xs)

reported : (ending : Ending) (old new : Option (List ℕ)) → Reports ending old new
    → (ending ≡ Misuse) ⊎ WritesUpTo (λ text. text ≡ (report_of ending).1) old new
reported Success old new h = inr (inl ([], refl, keeps_appends old new h))
reported Negative old new h = inr (inl ([], refl, keeps_appends old new h))
reported Alarm old new h = inr (inl ([], refl, keeps_appends old new h))
reported NoPredicate old new h = inr h
reported Misuse old new h = inl refl
reported (Failed failure) old new h = inr h

status_reported : (ending : Ending) → status_of ending ≡ (report_of ending).0
status_reported Success = refl
status_reported Negative = refl
status_reported Alarm = refl
status_reported NoPredicate = refl
status_reported Misuse = refl
status_reported (Failed failure) = refl

-- memory runs out, and nothing is left
abbrev OutOfMemory : Ending → (old new : Option (List ℕ)) → Type 0
OutOfMemory ending old new = (ending ≡ Failed MemoryFailure) × Keeps old new

-- a run that comes to an end, by which this is left, or nothing if memory runs out
by_rule : (A : Ending → Type 0) (B : Ending → (old new : Option (List ℕ)) → Type 0) (status : ℕ)
    (old new errors_old errors_new : Option (List ℕ))
    → ((ending : Ending) → A ending → OutOfMemory ending old new ⊎ B ending old new)
    → Ends A status errors_old errors_new
    → By OutOfMemory status old new errors_old errors_new ⊎ By B status old new errors_old errors_new
by_rule A B status old new errors_old errors_new go h = elim (go h.ending h.output) [
  | inl memory ↦ inl (record {
    ending = h.ending;
    is_status = h.is_status ∙ status_reported h.ending;
    output = memory;
    errors = reported h.ending errors_old errors_new h.errors;
  })
  | inr left ↦ inr (record {
    ending = h.ending;
    is_status = h.is_status ∙ status_reported h.ending;
    output = left;
    errors = reported h.ending errors_old errors_new h.errors;
  })
]

-- ---- reports

-- what IsText says of a text and of a report it says with what follows
abbrev Follows : ((Report → Type 0) → List ℕ → Type 0) → Type 1
Follows IsText = (P Q : Report → Type 0) (text : List ℕ) → ((report : Report) → P report → Q report)
    → IsText P text → IsText Q text

unmet : (is_met : Bool) → (if is_met then conditions.Met else conditions.Unmet) ≡ conditions.Unmet
    → Success ≡ (if is_met then Alarm else Success)
unmet true h = cc
unmet false h = refl

met : (is_met : Bool) → (if is_met then conditions.Met else conditions.Unmet) ≡ conditions.Met
    → Alarm ≡ (if is_met then Alarm else Success)
met true h = refl
met false h = cc

is_unmet : (fail_on : List Condition) (report : Report) → ComesTo fail_on conditions.Unmet report
    → EndsBy (due_of_report fail_on report) Success
is_unmet fail_on (Judged processes events messages answers) h =
    inl (unmet (list_any (is_met answers) fail_on) h)
is_unmet fail_on (Refused refusal) h = cc

has_met : (fail_on : List Condition) (report : Report) → ComesTo fail_on conditions.Met report
    → EndsBy (due_of_report fail_on report) Alarm
has_met fail_on (Judged processes events messages answers) h = inl (met (list_any (is_met answers) fail_on) h)
has_met fail_on (Refused refusal) h = cc

is_refused : (fail_on : List Condition) (report : Report) → IsRefused report
    → EndsBy (due_of_report fail_on report) Negative
is_refused fail_on (Judged processes events messages answers) h = cc
is_refused fail_on (Refused refusal) h = inl refl

is_judged : (report : Report) → IsJudged report → EndsBy (due_of_report [] report) Success
is_judged (Judged processes events messages answers) h = inl refl
is_judged (Refused refusal) h = cc

report_left : (IsText : (Report → Type 0) → List ℕ → Type 0) → Follows IsText → (fail_on : List Condition)
    (ending : Ending) (old new : Option (List ℕ)) → OfReport IsText fail_on ending old new
    → LeavesReport IsText fail_on ending old new
report_left IsText follows fail_on Success old new h =
    writes_weaker _ _ Whole old new (λ text. follows _ _ text (is_unmet fail_on)) h
report_left IsText follows fail_on Negative old new h =
    writes_weaker _ _ Whole old new (λ text. follows _ _ text (is_refused fail_on)) h
report_left IsText follows fail_on Alarm old new h =
    writes_weaker _ _ Whole old new (λ text. follows _ _ text (has_met fail_on)) h
report_left IsText follows fail_on NoPredicate old new h = absurd h
report_left IsText follows fail_on Misuse old new h = absurd h
report_left IsText follows fail_on (Failed MemoryFailure) old new h = absurd h
report_left IsText follows fail_on (Failed ReadFailure) old new h = absurd h
report_left IsText follows fail_on (Failed WriteFailure) old new h =
    up_to_weaker _ _ old new (λ text. follows _ _ text (λ report any. inr refl)) h
report_left IsText follows fail_on (Failed BundleFailure) old new h = absurd h
report_left IsText follows fail_on (Failed NetworkFailure) old new h = absurd h

-- ---- a bundle

input_left : (input : Source) (old new : Option (List ℕ)) (ending : Ending)
    → JudgementLeaves input ending old new → OutOfMemory ending old new
    ⊎ (((ending ≡ Failed ReadFailure) × IsBrokenOff input ⊎ (ending ≡ Failed BundleFailure) × IsTooLong input)
    × Keeps old new ⊎ LeavesReport (IsTextOfBundle input) [] ending old new)
input_left input old new Success h =
    inr (inr (writes_weaker _ _ Whole old new (λ text. weaker_said_of_bundle input _ _ text is_judged) h))
input_left input old new Negative h =
    inr (inr (writes_weaker _ _ Whole old new (λ text. weaker_said_of_bundle input _ _ text (is_refused [])) h))
input_left input old new Alarm h = absurd h
input_left input old new NoPredicate h = absurd h
input_left input old new Misuse h = absurd h
input_left input old new (Failed MemoryFailure) h = inl (refl, h)
input_left input old new (Failed ReadFailure) h = inr (inl (inl (refl, h.0), h.1))
input_left input old new (Failed WriteFailure) h =
    inr (inr (up_to_weaker _ _ old new (λ text. weaker_said_of_bundle input _ _ text (λ report any. inr refl)) h))
input_left input old new (Failed BundleFailure) h = inr (inl (inr (refl, h.0), h.1))
input_left input old new (Failed NetworkFailure) h = absurd h

-- ---- predicates that are named

lacks_none : (lacks : Bool) (name : List ℕ) (rest : Option (List ℕ))
    → (if lacks then Some name else rest) ≡ None → (lacks ≡ false) × (rest ≡ None)
lacks_none true name rest h = cc
lacks_none false name rest h = (refl, h)

known_first : (names : List (List ℕ)) (name rest : Option (List ℕ))
    → (if lacks_name names name then name else rest) ≡ None → (lacks_name names name ≡ false) × (rest ≡ None)
known_first names None rest h = (refl, h)
known_first names (Some name) rest h = lacks_none (not (is_one_of names name)) name rest h

all_known : (names : List (List ℕ)) (conditions : List Condition) → unknown_name names conditions ≡ None
    → list_any (lacks_name names) (names_in conditions) ≡ false
all_known names [] h = refl
all_known names (condition ∷ others) h =
    let first : (lacks_name names condition.name ≡ false) × (unknown_name names others ≡ None) =
    known_first names condition.name (unknown_name names others) h in
    ap (λ b. b || list_any (lacks_name names) (names_in others)) first.0 ∙ all_known names others first.1

either_false : (a b : Bool) → (a || b) ≡ false → (a ≡ false) × (b ≡ false)
either_false true b h = cc
either_false false b h = (refl, h)

none_unknown : (names : List (List ℕ)) (conditions : List Condition)
    → list_any (lacks_name names) (names_in conditions) ≡ false → unknown_name names conditions ≡ None
none_unknown names [] h = refl
none_unknown names (condition ∷ others) h =
    let both : (lacks_name names condition.name ≡ false)
    × (list_any (lacks_name names) (names_in others) ≡ false) =
    either_false (lacks_name names condition.name) (list_any (lacks_name names) (names_in others)) h in
    ap (λ b. if b then condition.name else unknown_name names others) both.0 ∙ none_unknown names others both.1

has_named : (fail_on : List Condition) (inquiry : Inquiry) → HasNamedBy fail_on inquiry
    → HasNamed (names_in fail_on) inquiry
has_named fail_on inquiry has document is =
    all_known (names_of document.predicates) fail_on (has document is)

lacks_named : (fail_on : List Condition) (inquiry : Inquiry) → LacksNamed fail_on inquiry
    → ¬ HasNamed (names_in fail_on) inquiry
lacks_named fail_on inquiry (document, is, unknown) has =
    absurd (unknown (none_unknown (names_of document.predicates) fail_on (has document is)))

names_of_all : (fail_on : List Condition) (wishes : List Condition)
    → names_in (all_named fail_on wishes) ≡ names_in fail_on ++ names_in wishes
names_of_all [] [] = refl
names_of_all [] (wish ∷ wishes) = ap (λ names. wish.name ∷ names) (names_of_all [] wishes)
names_of_all (condition ∷ fail_on) wishes = ap (λ names. condition.name ∷ names) (names_of_all fail_on wishes)

-- ---- a document

of_document : (options : Options) (document : File) (P Q : Inquiry → Type 0)
    → ((inquiry : Inquiry) → P inquiry → Q inquiry) → OfDocument options document P → OfDocument options document Q
of_document options document P Q go h = record { bytes = h.bytes; whole = h.whole; holds = go _ h.holds }

module _ (options : Options) (document : File) (IsUnread : Type 0) (fail_on : List Condition)
    (P Q : Inquiry → Ending → (old new : Option (List ℕ)) → Type 0) (old new : Option (List ℕ))
    (go : (inquiry : Inquiry) (ending : Ending) → P inquiry ending old new → Q inquiry ending old new) where
  named_left : (inquiry : Inquiry) (ending : Ending) → HasNamedBy fail_on inquiry × P inquiry ending old new
      → HasNamed (names_in fail_on) inquiry × Q inquiry ending old new
  named_left inquiry ending h = (has_named fail_on inquiry h.0, go inquiry ending h.1)

  pub session_left : (ending : Ending) → LeavesOf options document IsUnread (OfNamed fail_on P) ending old new
      → OutOfMemory ending old new
      ⊎ OfSession options document IsUnread (names_in fail_on) Q ending old new
  session_left Success h = inr (of_document options document _ _ (λ inquiry. named_left inquiry Success) h)
  session_left Negative h = inr (of_document options document _ _ (λ inquiry. named_left inquiry Negative) h)
  session_left Alarm h = inr (of_document options document _ _ (λ inquiry. named_left inquiry Alarm) h)
  session_left NoPredicate h =
      inr (of_document options document _ _ (λ inquiry lacks. (lacks_named fail_on inquiry lacks.0, lacks.1)) h)
  session_left Misuse h = inr (of_document options document _ _ (λ inquiry. named_left inquiry Misuse) h)
  session_left (Failed MemoryFailure) h = inl (refl, h)
  session_left (Failed ReadFailure) h = inr h
  session_left (Failed WriteFailure) h =
      inr (of_document options document _ _ (λ inquiry. named_left inquiry (Failed WriteFailure)) h)
  session_left (Failed BundleFailure) h =
      inr (of_document options document _ _ (λ inquiry. named_left inquiry (Failed BundleFailure)) h)
  session_left (Failed NetworkFailure) h =
      inr (of_document options document _ _ (λ inquiry. named_left inquiry (Failed NetworkFailure)) h)

-- ---- connections

accepted_follows : (format : Format) (inquiry : Inquiry) (G : Source → Type 0)
    → Follows (IsTextOfAccepted (IsServed format) inquiry G)
accepted_follows format inquiry G P Q text go h = record {
  inputs = h.inputs;
  accepted = h.accepted;
  one_each = h.one_each;
  none_refused = h.none_refused;
  is_text = weaker_said_in format inquiry h.inputs P Q text go h.is_text;
}

module _ (format : Format) (G : Source → Type 0) (network_serves : Bool) (wait : Option ℕ)
    (port_file keep : Option (List ℕ)) (fail_on : List Condition) (old new : Option (List ℕ)) where
  abbrev Served : Inquiry → Ending → (old new : Option (List ℕ)) → Type 0
  Served inquiry ending old new =
      ((ending ≡ Failed NetworkFailure) × (wait ≡ None → network_serves ≡ true → ⊥)
      ⊎ (ending ≡ Failed WriteFailure) × ((keep ≢ None) ⊎ (port_file ≢ None)))
      × ((document : Document) × IsDocument inquiry document) × Keeps old new
      ⊎ LeavesReport (IsTextOfAccepted (IsServed format) inquiry G) fail_on ending old new

  connections_left : (inquiry : Inquiry) (ending : Ending)
      → OfConnections (IsServed format) G (ServiceMayFail wait network_serves) (WritesFiles keep port_file) fail_on
      inquiry ending old new
      → Served inquiry ending old new
  connections_left inquiry Success h =
      inr (report_left _ (accepted_follows format inquiry G) fail_on Success old new h)
  connections_left inquiry Negative h =
      inr (report_left _ (accepted_follows format inquiry G) fail_on Negative old new h)
  connections_left inquiry Alarm h = inr (report_left _ (accepted_follows format inquiry G) fail_on Alarm old new h)
  connections_left inquiry NoPredicate h = absurd h
  connections_left inquiry Misuse h = absurd h
  connections_left inquiry (Failed MemoryFailure) h = absurd h
  connections_left inquiry (Failed ReadFailure) h = absurd h
  connections_left inquiry (Failed WriteFailure) (inl h) =
      inr (report_left _ (accepted_follows format inquiry G) fail_on (Failed WriteFailure) old new h)
  connections_left inquiry (Failed WriteFailure) (inr h) = inl (inr (refl, h.0), h.1, h.2)
  connections_left inquiry (Failed BundleFailure) h = absurd h
  connections_left inquiry (Failed NetworkFailure) h = inl (inl (refl, h.0), h.1, h.2)

-- ---- a claim

module _ (format : Format) (inquiry : Inquiry) (streams : List Source) (claim : List ℕ)
    (old new : Option (List ℕ)) where
  abbrev Found : Ending → Type 0
  Found ending = (good : Bool) × EndsBy (if good then Success else Negative) ending
      × LeavesText (IsFindingIn format inquiry claim streams (Some good)) ending old new

  said_of : (text : List ℕ) (h : IsFindingIn format inquiry claim streams None text)
      → IsFindingIn format inquiry claim streams (Some (is_clean h.finding)) text
  said_of text h = record {
    streams = h.streams;
    are_given = h.are_given;
    finding = h.finding;
    right = h.right;
    clean = clean_is_clean_lem h.finding;
    is_text = h.is_text;
  }

  pub found_up_to : WritesUpTo (IsFindingIn format inquiry claim streams None) old new → Found (Failed WriteFailure)
  found_up_to (inl (text, is, appends)) = (is_clean is.finding, inr refl, inl (text, said_of text is, appends))
  found_up_to (inr (text, is, count, part, appends)) =
      (is_clean is.finding, inr refl, inr (text, said_of text is, count, part, appends))

  pub found : (good : Bool) (ending : Ending) → ending ≡ (if good then Success else Negative)
      → LeavesText (IsFindingIn format inquiry claim streams (Some good)) ending old new → Found ending
  found good ending is h = (good, inl is, h)

of_claim : (report : Source) (P Q : List ℕ → Type 0) → ((bytes : List ℕ) → P bytes → Q bytes)
    → OfClaim report P → OfClaim report Q
of_claim report P Q go h = record { bytes = h.bytes; whole = h.whole; fits = h.fits; holds = go h.bytes h.holds }

module _ (format : Format) (options : Options) (document : File) (IsUnread : Type 0) (report : Source)
    (streams : List Source) (old new : Option (List ℕ)) where
  abbrev Checked : Inquiry → Ending → (old new : Option (List ℕ)) → Type 0
  Checked inquiry ending old new = OfClaim report (λ claim. Found format inquiry streams claim old new ending)

  finding_left : (inquiry : Inquiry) (ending : Ending)
      → OfFinding (IsFindingIn format) report streams inquiry ending old new → Checked inquiry ending old new
  finding_left inquiry Success h =
      of_claim report _ _ (λ claim. found format inquiry streams claim old new true Success refl) h
  finding_left inquiry Negative h =
      of_claim report _ _ (λ claim. found format inquiry streams claim old new false Negative refl) h
  finding_left inquiry Alarm h = absurd h
  finding_left inquiry NoPredicate h = absurd h
  finding_left inquiry Misuse h = absurd h
  finding_left inquiry (Failed MemoryFailure) h = absurd h
  finding_left inquiry (Failed ReadFailure) h = absurd h
  finding_left inquiry (Failed WriteFailure) h =
      of_claim report _ _ (λ claim. found_up_to format inquiry streams claim old new) h
  finding_left inquiry (Failed BundleFailure) h = absurd h
  finding_left inquiry (Failed NetworkFailure) h = absurd h

  abbrev With : Ending → Type 0
  With ending = OfDocument options document (λ inquiry. HasNamed [] inquiry × Checked inquiry ending old new)

  with_none : (ending : Ending)
      → OfDocument options document (λ inquiry. OfFinding (IsFindingIn format) report streams inquiry ending old new)
      → With ending
  with_none ending = of_document options document _ _ (λ inquiry h. ((λ read is. refl), finding_left inquiry ending h))

  pub claim_left : (ending : Ending)
      → LeavesOf options document IsUnread (OfFinding (IsFindingIn format) report streams) ending old new
      → OutOfMemory ending old new ⊎ OfSession options document IsUnread [] Checked ending old new
  claim_left Success h = inr (with_none Success h)
  claim_left Negative h = inr (with_none Negative h)
  claim_left Alarm h = inr (with_none Alarm h)
  claim_left NoPredicate h = absurd h.holds
  claim_left Misuse h = inr (with_none Misuse h)
  claim_left (Failed MemoryFailure) h = inl (refl, h)
  claim_left (Failed ReadFailure) h = inr h
  claim_left (Failed WriteFailure) h = inr (with_none (Failed WriteFailure) h)
  claim_left (Failed BundleFailure) h = inr (with_none (Failed BundleFailure) h)
  claim_left (Failed NetworkFailure) h = inr (with_none (Failed NetworkFailure) h)

-- ---- a reduction

module _ (options : Options) (document : File) (IsUnread : Type 0) (streams : List Source) (old new : Option (List ℕ))
  where
    reduced_of : (ending : Ending)
        → OfDocument options document (λ inquiry. ReduceLeaves inquiry streams ending old new)
        → OfDocument options document (λ inquiry. HasNamed [] inquiry × ReduceLeaves inquiry streams ending old new)
    reduced_of ending = of_document options document _ _ (λ inquiry h. ((λ read is. refl), h))

    pub reduction_left : (ending : Ending)
        → LeavesOf options document IsUnread (λ inquiry. ReduceLeaves inquiry streams) ending old new
        → OutOfMemory ending old new
        ⊎ OfSession options document IsUnread [] (λ inquiry. ReduceLeaves inquiry streams) ending old new
    reduction_left Success h = inr (reduced_of Success h)
    reduction_left Negative h = inr (reduced_of Negative h)
    reduction_left Alarm h = absurd h.holds
    reduction_left NoPredicate h = absurd h.holds
    reduction_left Misuse h = absurd h.holds
    reduction_left (Failed MemoryFailure) h = inl (refl, h)
    reduction_left (Failed ReadFailure) h = inr h
    reduction_left (Failed WriteFailure) h = inr (reduced_of (Failed WriteFailure) h)
    reduction_left (Failed BundleFailure) h = absurd h.holds
    reduction_left (Failed NetworkFailure) h = absurd h.holds

-- ---- a page

page_follows : (bytes_of : List ℕ → Option (List ℕ)) (asked : Asked) (names : List (List ℕ)) (inquiry : Inquiry)
    (streams : List Source) → Follows (IsOwedWith bytes_of asked names inquiry streams)
page_follows bytes_of asked names inquiry streams P Q text go (form, is_form, files, are, owed) =
    (form, is_form, files, are, owed_weaker inquiry form files streams P Q text go owed)

page_left : (files : List ℕ → File) (options : Options) (fail_on : List Condition) (asked : Asked)
    (document : List ℕ) (streams : List (List ℕ)) (old new : Option (List ℕ)) (ending : Ending)
    → ExplorationLeaves files options fail_on asked document streams ending old new → OutOfMemory ending old new
    ⊎ OfSession options (files document)
    (MayBeUnread (files document ∷ map files streams) (files document ∷ [])
    ⊎ ¬ All IsNotesFile (map files (notes_of asked)))
    (names_in fail_on ++ names_in (wishes_of asked))
    (λ inquiry. LeavesReport (IsOwedWith (bytes_in files) asked streams inquiry (sources_of (map files streams)))
    fail_on) ending old new
page_left files options fail_on asked document streams old new ending h =
    subst (λ names. OutOfMemory ending old new
    ⊎ OfSession options (files document)
    (MayBeUnread (files document ∷ map files streams) (files document ∷ [])
    ⊎ ¬ All IsNotesFile (map files (notes_of asked))) names
    (λ inquiry. LeavesReport (IsOwedWith (bytes_in files) asked streams inquiry (sources_of (map files streams)))
    fail_on) ending old new) (names_of_all fail_on (wishes_of asked))
    (session_left options (files document) _ (all_named fail_on (wishes_of asked))
    (OfForm (bytes_in files) asked streams (sources_of (map files streams)) fail_on)
    (λ inquiry. LeavesReport (IsOwedWith (bytes_in files) asked streams inquiry (sources_of (map files streams)))
    fail_on) old new (λ inquiry ending. report_left _
    (page_follows (bytes_in files) asked streams inquiry (sources_of (map files streams))) fail_on ending old new)
    ending h)

-- ---- files

-- what may be unread is so, or follows from that
unread_weaker : (options : Options) (document : File) (U V : Type 0) (named : List (Option (List ℕ)))
    (P : Inquiry → Ending → (old new : Option (List ℕ)) → Type 0) (old new : Option (List ℕ)) → (U → V)
    → (ending : Ending) → OfSession options document U named P ending old new
    → OfSession options document V named P ending old new
unread_weaker options document U V named P old new go Success h = h
unread_weaker options document U V named P old new go Negative h = h
unread_weaker options document U V named P old new go Alarm h = h
unread_weaker options document U V named P old new go NoPredicate h = h
unread_weaker options document U V named P old new go Misuse h = h
unread_weaker options document U V named P old new go (Failed MemoryFailure) h = h
unread_weaker options document U V named P old new go (Failed ReadFailure) h = (go h.0, h.1)
unread_weaker options document U V named P old new go (Failed WriteFailure) h = h
unread_weaker options document U V named P old new go (Failed BundleFailure) h = h
unread_weaker options document U V named P old new go (Failed NetworkFailure) h = h

module _ (files : List ℕ → File) (options : Options) (fail_on : List Condition) (document : List ℕ)
    (streams : List (List ℕ)) (old new : Option (List ℕ)) where
  abbrev Unread : Type 0
  Unread = MayBeUnread (files document ∷ map files streams) (files document ∷ [])

  -- what is left of a judgement in this format
  abbrev JudgedIn : Format → Ending → Type 0
  JudgedIn format ending = OfSession options (files document) Unread (names_in fail_on)
      (λ inquiry. LeavesReport (IsJudgedIn (bytes_in files) format streams inquiry (sources_of (map files streams)))
      fail_on) ending old new

  no_notes : (Unread ⊎ ¬ All IsNotesFile []) → Unread
  no_notes (inl unread) = unread
  no_notes (inr none) = absurd (none (λ k file within. absurd (omega (arith, within))))

  files_left : (format : Format) (ending : Ending)
      → FilesLeave files options fail_on format document streams ending old new
      → OutOfMemory ending old new ⊎ JudgedIn format ending
  files_left Plain ending h =
      session_left options (files document) Unread fail_on (OfStreams (sources_of (map files streams)) fail_on)
      (λ inquiry. LeavesReport (IsTextOfStreams inquiry (sources_of (map files streams))) fail_on) old new
      (λ inquiry ending. report_left (IsTextOfStreams inquiry (sources_of (map files streams)))
      (weaker_said_of_streams inquiry (sources_of (map files streams))) fail_on ending old new) ending h
  files_left Json ending h = elim (page_left files options fail_on AskedObject document streams old new ending h) [
    | inl memory ↦ inl memory
    | inr left ↦ inr (unread_weaker options (files document) (Unread ⊎ ¬ All IsNotesFile []) Unread (names_in fail_on)
        (λ inquiry. LeavesReport (IsOwedWith (bytes_in files) AskedObject streams inquiry
        (sources_of (map files streams))) fail_on) old new no_notes ending
        (subst (λ names. OfSession options (files document) (Unread ⊎ ¬ All IsNotesFile []) names
        (λ inquiry. LeavesReport (IsOwedWith (bytes_in files) AskedObject streams inquiry
        (sources_of (map files streams))) fail_on) ending old new) (append-nil (names_in fail_on)) left))
  ]

-- ---- recorded runs

all_pass : (fails not_judged : Bool) → conclusion_by fails not_judged ≡ judged.AllPass
    → Success ≡ (if fails then Alarm else (if not_judged then Negative else Success))
all_pass true not_judged h = cc
all_pass false true h = cc
all_pass false false h = refl

some_fails : (fails not_judged : Bool) → conclusion_by fails not_judged ≡ judged.SomeFails
    → Alarm ≡ (if fails then Alarm else (if not_judged then Negative else Success))
some_fails true not_judged h = refl
some_fails false true h = cc
some_fails false false h = cc

some_not_judged : (fails not_judged : Bool) → conclusion_by fails not_judged ≡ judged.SomeNotJudged
    → Negative ≡ (if fails then Alarm else (if not_judged then Negative else Success))
some_not_judged true not_judged h = cc
some_not_judged false true h = refl
some_not_judged false false h = cc

module _ (files : List ℕ → File) (options : Options) (wishes : List Condition) (format : Format)
    (folders : List (List ℕ)) where
  test_follows : (P Q : List Run → Type 0) (text : List ℕ) → ((runs : List Run) → P runs → Q runs)
      → IsTestText files options wishes format (IsReportOf files options) P folders text
      → IsTestText files options wishes format (IsReportOf files options) Q folders text
  test_follows P Q text go h = record {
    runs = h.runs;
    are_runs = h.are_runs;
    said = go h.runs h.said;
    orders = h.orders;
    is_text = h.is_text;
  }

  part_of_test : (failure : Failure) (old new : Option (List ℕ))
      → (failure ≡ WriteFailure) ⊎ (failure ≡ MemoryFailure)
      → (count : ℕ) × WritesUpTo (IsTestText files options wishes format (IsReportOf files options) (λ _. ⊤)
      (take count folders)) old new
      → LeavesText (IsTestAt files options wishes format folders (Failed failure)) (Failed failure) old new
  part_of_test failure old new why (count, h) = up_to_weaker _ _ old new (λ text is. (why, count, is)) h

  pub test_left : (old new : Option (List ℕ)) (ending : Ending)
      → TestLeaves files options wishes format (IsReportOf files options) folders ending old new
      → LeavesText (IsTestAt files options wishes format folders ending) ending old new
  test_left old new Success h = writes_weaker _ _ Whole old new (λ text. test_follows _ _ text (λ runs.
      all_pass (nat_lt 0 (count_of Fail (map (verdict_of_run wishes) runs)))
      (nat_lt 0 (count_of NotJudged (map (verdict_of_run wishes) runs))))) h
  test_left old new Alarm h = writes_weaker _ _ Whole old new (λ text. test_follows _ _ text (λ runs.
      some_fails (nat_lt 0 (count_of Fail (map (verdict_of_run wishes) runs)))
      (nat_lt 0 (count_of NotJudged (map (verdict_of_run wishes) runs))))) h
  test_left old new Negative h = writes_weaker _ _ Whole old new (λ text. test_follows _ _ text (λ runs.
      some_not_judged (nat_lt 0 (count_of Fail (map (verdict_of_run wishes) runs)))
      (nat_lt 0 (count_of NotJudged (map (verdict_of_run wishes) runs))))) h
  test_left old new NoPredicate h = absurd h
  test_left old new Misuse h = absurd h
  test_left old new (Failed MemoryFailure) h = part_of_test MemoryFailure old new (inr refl) h
  test_left old new (Failed ReadFailure) h = absurd h
  test_left old new (Failed WriteFailure) h = part_of_test WriteFailure old new (inl refl) h
  test_left old new (Failed BundleFailure) h = absurd h
  test_left old new (Failed NetworkFailure) h = absurd h

-- ---- texts that are shown

help_left : (old new : Option (List ℕ)) (ending : Ending) → HelpLeaves ending old new
    → OutOfMemory ending old new ⊎ EndsBy Success ending
help_left old new Success h = inr (inl refl)
help_left old new Negative h = absurd h
help_left old new Alarm h = absurd h
help_left old new NoPredicate h = absurd h
help_left old new Misuse h = absurd h
help_left old new (Failed MemoryFailure) h = inl (refl, h)
help_left old new (Failed ReadFailure) h = absurd h
help_left old new (Failed WriteFailure) h = inr (inr refl)
help_left old new (Failed BundleFailure) h = absurd h
help_left old new (Failed NetworkFailure) h = absurd h

version_left : (old new : Option (List ℕ)) (ending : Ending) → VersionLeaves ending old new
    → OutOfMemory ending old new
    ⊎ EndsBy Success ending × LeavesText (λ text. text ≡ codes "monitor 1.0.0\n") ending old new
version_left old new Success h = inr (inl refl, h)
version_left old new Negative h = absurd h
version_left old new Alarm h = absurd h
version_left old new NoPredicate h = absurd h
version_left old new Misuse h = absurd h
version_left old new (Failed MemoryFailure) h = inl (refl, h)
version_left old new (Failed ReadFailure) h = absurd h
version_left old new (Failed WriteFailure) h = inr (inr refl, h)
version_left old new (Failed BundleFailure) h = absurd h
version_left old new (Failed NetworkFailure) h = absurd h

misuse_left : (old new : Option (List ℕ)) (ending : Ending) → MisuseLeaves ending old new
    → OutOfMemory ending old new ⊎ (ending ≡ Misuse) × Keeps old new
misuse_left old new Success h = absurd h
misuse_left old new Negative h = absurd h
misuse_left old new Alarm h = absurd h
misuse_left old new NoPredicate h = absurd h
misuse_left old new Misuse h = inr (refl, h)
misuse_left old new (Failed MemoryFailure) h = inl (refl, h)
misuse_left old new (Failed ReadFailure) h = absurd h
misuse_left old new (Failed WriteFailure) h = absurd h
misuse_left old new (Failed BundleFailure) h = absurd h
misuse_left old new (Failed NetworkFailure) h = absurd h

-- ---- all commands

module _ (input : Source) (files : List ℕ → File) (connections : Place → Source → Type 0) (network_serves : Bool)
    (status : ℕ) (old new errors_old errors_new : Option (List ℕ)) where
  abbrev Ran : Request → Type 0
  Ran request = By OutOfMemory status old new errors_old errors_new
      ⊎ Leaves input files connections network_serves request status old new errors_old errors_new

  ran : (request : Request)
      → LeavesCase input files connections network_serves request status old new errors_old errors_new → Ran request
  ran JudgeInput = by_rule _ _ status old new errors_old errors_new (input_left input old new)
  ran (JudgeFiles options fail_on format document streams) = by_rule _ _ status old new errors_old errors_new
      (files_left files options fail_on document streams old new format)
  ran (CheckFiles options format document report streams) = by_rule _ _ status old new errors_old errors_new
      (claim_left format options (files document) _ (files report).source (sources_of (map files streams)) old new)
  ran (DrawFiles options scope document others) = λ h. inr h
  ran (ServeStreams options fail_on format document place port_file watchers wait keep) =
      by_rule _ _ status old new errors_old errors_new
      (session_left options (files document) (MayBeUnread (files document ∷ []) (files document ∷ [])) fail_on
      (OfConnections (IsServed format) (connections place) (ServiceMayFail wait network_serves)
      (WritesFiles keep port_file) fail_on)
      (Served format (connections place) network_serves wait port_file keep fail_on old new) old new
      (connections_left format (connections place) network_serves wait port_file keep fail_on old new))
  ran (ExploreFiles options fail_on page document streams) = by_rule _ _ status old new errors_old errors_new
      (page_left files options fail_on (AskedPage page) document streams old new)
  ran (TestRuns options wishes format runs) = by_rule _ _ status old new errors_old errors_new
      (λ ending h. inr (test_left files options wishes format runs old new ending h))
  ran (InferDocument streams) = λ h. inr h
  ran (ReduceRun options document streams folder) = by_rule _ _ status old new errors_old errors_new
      (reduction_left options (files document) _ (sources_of (map files streams)) old new)
  ran (JudgeLines options fail_on in_bundles) = by_rule _ _ status old new errors_old errors_new (λ ending h. inr h)
  ran (BundleRuns runs) = by_rule _ _ status old new errors_old errors_new (λ ending h. inr h)
  ran MergeLines = λ h. inr h
  ran ShowHelp = by_rule _ _ status old new errors_old errors_new (help_left old new)
  ran ShowVersion = by_rule _ _ status old new errors_old errors_new (version_left old new)
  ran Unclear = by_rule _ _ status old new errors_old errors_new (misuse_left old new)

  runs_as : (IsAsked : Request → Type 0) (request : Request) → IsAsked request → Ran request
      → RunsAs IsAsked input files connections network_serves status old new errors_old errors_new
  runs_as IsAsked request asked (inl memory) = inl memory
  runs_as IsAsked request asked (inr left) = inr (request, asked, left)

  -- a run with no further argument judges the bundle on the input
  pub as_bundle : Ends (λ ending. JudgementLeaves input ending old new) status errors_old errors_new
      → RunsAs (λ request. request ≡ JudgeInput) input files connections network_serves status old new errors_old
      errors_new
  as_bundle h = runs_as (λ request. request ≡ JudgeInput) JudgeInput refl (ran JudgeInput h)

  pub as_one_rule : (arguments : List Text)
      → RunsAsAsked arguments input files connections network_serves status old new errors_old errors_new
      → RunsAs (AsksFor arguments) input files connections network_serves status old new errors_old errors_new
  as_one_rule arguments (inl memory) =
      let ran = by_rule (λ ending. OutOfMemory ending old new) OutOfMemory status old new errors_old errors_new
      (λ ending h. inl h) memory in
      elim ran [ inl left ↦ inl left | inr left ↦ inl left ]
  as_one_rule arguments (inr (request, asks, left)) =
      runs_as (AsksFor arguments) request asks (ran request left)
