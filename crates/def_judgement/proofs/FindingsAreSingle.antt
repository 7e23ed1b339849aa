-- A check finds one thing.
use Rattle.std.proofs.Common.{◌≡◌, ℕ, Bool, true, false, List, length, refl, sym, ◌∙◌, ap, subst, ◌↔◌, Option, Some, Ok}
use Rattle.std.specs.Prelude.{IsTrue, Result, zip}
use Rattle.std.specs.List.{AllZip}
use Rattle.def_model.specs.Events.{Computation}
use Rattle.def_model.specs.Messages.{HasMessages}
use Rattle.def_model.specs.Order.{IsWellFormed}
use Rattle.def_model.specs.Predicates.{test_of}
use Rattle.def_format.specs.Names.{ProcessNames}
use Rattle.def_format.specs.Readings.{Trace}
use Rattle.def_format.specs.Documents.{Document, NamedPredicate, Inquiry}
use Rattle.def_format.specs.Sessions.{SessionFault, StreamResult, session}
use Rattle.def_format.specs.Reports.{Possibly, Definitely, Answer, Refusal, Report, Judged, Refused, IsReport}
use Rattle.def_judgement.specs.Judgements.{RawStream, AreResultsOf, events_of_traces, recorded_of, IsTracesReport, of_messages, of_cycle, of_answers, IsReportOfSession, IsReportOfResults, IsJudgement, of_refused, of_read}
use Rattle.def_format.specs.OtherTexts.{by_test, Checked, NotRead, OfRefusal, OfSession, possibly_verdict, definitely_verdict}
use Rattle.def_format.proofs.OneReport.{one_report_of_bytes, stops_at_one_line_lem}
use Rattle.def_judgement.specs.Findings.{IsGoodCut, IsGoodPath, IsChecked, IsCheckedFor, IsAnswersFinding, of_other_names, of_verdicts, IsSessionOf, AreCounts, of_unread, of_refused_session, of_refusal, of_session, OneFinding}
use Rattle.def_judgement.proofs.DocumentsAreSingle.{one_document_lem, document_not_refused_lem}
use Rattle.def_judgement.proofs.ReceivedSends.{one_count}
use Rattle.def_judgement.proofs.ReportsAreSingle.{one_judgement, not_lawful, not_cycle, same_results_report}
use Rattle.def_judgement.proofs.StreamResults.{one_list_of_results_lem}
use Rattle.def_judgement.proofs.Zipped.{one_zipped}

-- two tests of one fact agree
same_test : {A : Type 0} (a b : Bool) → IsTrue a ↔ A → IsTrue b ↔ A → a ≡ b
same_test true b p q = sym (q.1 (p.0 refl))
same_test false true p q = p.1 (q.0 refl)
same_test false false p q = refl

-- ---- verdicts

one_possibly : (R : List ℕ → Type 0) (p : Possibly) (a b : Bool)
    → ((cut : List ℕ) → p ≡ Possibly.Yes cut → IsTrue a ↔ R cut)
    → ((cut : List ℕ) → p ≡ Possibly.Yes cut → IsTrue b ↔ R cut)
    → possibly_verdict (λ _. a) p ≡ possibly_verdict (λ _. b) p
one_possibly R (Possibly.Yes cut) a b h k = ap by_test (same_test a b (h cut refl) (k cut refl))
one_possibly R Possibly.No a b h k = refl
one_possibly R (Possibly.Unknown level) a b h k = refl

one_definitely : (R : List (List ℕ) → Type 0) (d : Definitely) (a b : Bool)
    → ((reported : List (List ℕ)) → d ≡ Definitely.No reported → IsTrue a ↔ R reported)
    → ((reported : List (List ℕ)) → d ≡ Definitely.No reported → IsTrue b ↔ R reported)
    → definitely_verdict (λ _. a) d ≡ definitely_verdict (λ _. b) d
one_definitely R (Definitely.Yes level) a b h k = refl
one_definitely R (Definitely.No reported) a b h k = ap by_test (same_test a b (h reported refl) (k reported refl))
one_definitely R (Definitely.Unknown level) a b h k = refl

one_checked : (names : List ProcessNames) (c : Computation) (test : List ℕ → Bool) (answer : Answer) (a b : Checked)
    → IsChecked names c test answer a → IsChecked names c test answer b → a ≡ b
one_checked names c test answer a b p q =
    let name : a.name ≡ b.name = p.name ∙ sym q.name in
    let possibly : a.possibly ≡ b.possibly =
    p.possibly ∙ (one_possibly (IsGoodCut c test) answer.possibly p.cut_is_good q.cut_is_good p.cut_right q.cut_right
    ∙ sym q.possibly) in
    let definitely : a.definitely ≡ b.definitely =
    p.definitely ∙ (one_definitely (IsGoodPath names c test) answer.definitely p.path_is_good q.path_is_good
    p.path_right q.path_right ∙ sym q.definitely) in
    λ i. record { name = name i; possibly = possibly i; definitely = definitely i }

one_checked_each : (document : Document) (traces : List Trace) (stands : List (NamedPredicate × Answer))
    (a b : List Checked) → AllZip (IsCheckedFor document traces) stands a
    → AllZip (IsCheckedFor document traces) stands b → a ≡ b
one_checked_each document traces =
    one_zipped (IsCheckedFor document traces) (λ (s : NamedPredicate × Answer). one_checked document.names
    (events_of_traces traces) (test_of (recorded_of document traces) s.0.predicate) s.1)

one_answers_finding : (document : Document) (traces : List Trace) (answers : List Answer) (a b : Option (List Checked))
    → IsAnswersFinding document traces answers a → IsAnswersFinding document traces answers b → a ≡ b
one_answers_finding document traces answers a b (of_other_names differ) (of_other_names other) = refl
one_answers_finding document traces answers a b (of_other_names differ) (of_verdicts verdicts same each) =
    absurd (differ same)
one_answers_finding document traces answers a b (of_verdicts verdicts same each) (of_other_names differ) =
    absurd (differ same)
one_answers_finding document traces answers a b (of_verdicts verdicts same each) (of_verdicts others same' each') =
    ap (λ found. Some found) (one_checked_each document traces (zip document.predicates answers) verdicts others each
    each')

-- ---- sessions

-- inquiry and streams hold one session
one_session : (inquiry : Inquiry) (streams : List RawStream) (d e : Document) (t u : List Trace)
    (m n : ℕ) → IsSessionOf inquiry streams d t m → IsSessionOf inquiry streams e u n → (e ≡ d) × (u ≡ t)
    × (n ≡ m)
one_session inquiry streams d e t u m n p q =
    let document : e ≡ d = one_document_lem inquiry e d q.read p.read in
    let are : AreResultsOf d.names streams q.results =
    subst (λ (x : Document). AreResultsOf x.names streams q.results) document q.are_results in
    let results : q.results ≡ p.results =
    one_list_of_results_lem d.names streams q.results p.results are p.are_results in
    let joined : session d.names (length streams) q.results ≡ Ok u =
    subst (λ (x : Document). session x.names (length streams) q.results ≡ Ok u) document q.joined in
    let other : session d.names (length streams) q.results ≡ Ok t =
    subst (λ (x : List StreamResult). session d.names (length streams) x ≡ Ok t) (sym results) p.joined in
    let traces : u ≡ t = same_traces (session d.names (length streams) q.results) u t joined other in
    let counted : HasMessages (events_of_traces t) n =
    subst (λ (x : List Trace). HasMessages (events_of_traces x) n) traces q.counted in
    (document, traces, one_count (events_of_traces t) n m counted p.counted)
  where
    same_traces : (r : Result (List Trace) SessionFault) (u t : List Trace) → r ≡ Ok u → r ≡ Ok t → u ≡ t
    same_traces r u t e f = cc

well_formed_not_refused : (document : Document) (traces : List Trace) (report : Report) (refusal : Refusal)
    → IsWellFormed document.version (events_of_traces traces) → IsTracesReport document traces report
    → report ≡ Refused refusal → ⊥
well_formed_not_refused document traces report refusal well (of_messages fault h) e =
    not_lawful document.version (events_of_traces traces) fault well.messages h
well_formed_not_refused document traces report refusal well (of_cycle cycle lawful h) e =
    not_cycle (events_of_traces traces) cycle well.no_cycle h
well_formed_not_refused document traces report refusal well (of_answers messages answers well' is each) e = cc

-- a well-formed session isn't refused
session_not_refused : (inquiry : Inquiry) (streams : List RawStream) (refusal : Refusal) (document : Document)
    (traces : List Trace) (messages : ℕ) → IsJudgement inquiry streams (Refused refusal)
    → IsSessionOf inquiry streams document traces messages → ⊥
session_not_refused inquiry streams refusal document traces messages (of_refused fault refused reported) held =
    document_not_refused_lem inquiry document fault held.read refused
session_not_refused inquiry streams refusal document traces messages (of_read other others is are r) held =
    let moved : IsReportOfResults document (length streams) held.results (Refused refusal) =
    same_results_report inquiry streams document other held.results others (Refused refusal)
    held.read is
    held.are_results are r in
    let report : IsTracesReport document traces (Refused refusal) =
    subst (λ s. IsReportOfSession document s (Refused refusal)) held.joined moved in
    well_formed_not_refused document traces (Refused refusal) refusal held.formed report refl

-- ---- findings

-- a refused session has one finding
one_refused_finding : (inquiry : Inquiry) (report : List ℕ) (streams : List RawStream) (claimed claimed' : Report)
    (refusal refusal' : Refusal) (good good' : Bool)
    → IsReport report claimed → IsReport report claimed' → IsJudgement inquiry streams (Refused refusal)
    → IsJudgement inquiry streams (Refused refusal') → IsTrue good ↔ (claimed ≡ Refused refusal) → IsTrue good'
    ↔ (claimed' ≡ Refused refusal')
    → OfRefusal good ≡ OfRefusal good'
one_refused_finding inquiry report streams claimed claimed' refusal refusal' good good' is is' judged judged' right
    right' =
    let reported : claimed' ≡ claimed = one_report_of_bytes report claimed' claimed is' is in
    let judgement : Refused refusal' ≡ Refused refusal =
    one_judgement inquiry streams (Refused refusal') (Refused refusal) judged' judged in
    let moved : IsTrue good' ↔ (claimed ≡ Refused refusal) =
    subst (λ (both : Report × Report). IsTrue good' ↔ (both.0 ≡ both.1)) (λ i. (reported i, judgement i)) right' in
    ap (λ b. OfRefusal b) (same_test good good' right moved)

-- a finding on a report of answers, of a well-formed session
record Judging (inquiry : Inquiry) (report : List ℕ) (streams : List RawStream) (good : Bool) (found : Option
    (List Checked)) :
    Type 0 where
  processes : ℕ
  events : ℕ
  matched : ℕ
  answers : List Answer
  document : Document
  traces : List Trace
  messages : ℕ
  is : IsReport report (Judged processes events matched answers)
  held : IsSessionOf inquiry streams document traces messages
  right : IsTrue good ↔ AreCounts document traces messages processes events matched
  finds : IsAnswersFinding document traces answers found

one_session_finding : (inquiry : Inquiry) (report : List ℕ) (streams : List RawStream) (good good' : Bool)
    (found found' : Option (List Checked)) → Judging inquiry report streams good found
    → Judging inquiry report streams good' found' → OfSession good found ≡ OfSession good' found'
one_session_finding inquiry report streams good good' found found' p q =
    let reported : Judged q.processes q.events q.matched q.answers ≡ Judged p.processes p.events p.matched p.answers =
    one_report_of_bytes report (Judged q.processes q.events q.matched q.answers)
    (Judged p.processes p.events p.matched p.answers) q.is p.is in
    let processes : q.processes ≡ p.processes = cc in
    let events : q.events ≡ p.events = cc in
    let matched : q.matched ≡ p.matched = cc in
    let answers : q.answers ≡ p.answers = cc in
    let same = one_session inquiry streams p.document q.document p.traces q.traces p.messages q.messages p.held q.held
    in
    let right : IsTrue good' ↔ AreCounts p.document p.traces p.messages p.processes p.events p.matched =
    subst (λ (x : Document × List Trace × ℕ × ℕ × ℕ × ℕ). IsTrue good'
    ↔ AreCounts x.0 x.1 x.2 x.3 x.4 x.5) (λ i. (same.0 i, same.1 i, same.2 i, processes i, events i, matched i))
    q.right in
    let finds : IsAnswersFinding p.document p.traces p.answers found' =
    subst (λ (x : Document × List Trace × List Answer). IsAnswersFinding x.0 x.1 x.2 found')
    (λ i. (same.0 i, same.1 i, answers i)) q.finds in
    let numbers : good ≡ good' = same_test good good' p.right right in
    let verdicts : found ≡ found' = one_answers_finding p.document p.traces p.answers found found' p.finds finds in
    λ i. OfSession (numbers i) (verdicts i)

-- no bytes are a refusal and a report of answers
not_judged : (bytes : List ℕ) (refusal : Refusal) (processes events matched : ℕ) (answers : List Answer)
    → IsReport bytes (Refused refusal) → IsReport bytes (Judged processes events matched answers) → ⊥
not_judged bytes refusal processes events matched answers h k =
    let same : Refused refusal ≡ Judged processes events matched answers =
    one_report_of_bytes bytes (Refused refusal) (Judged processes events matched answers) h k in cc

pub one_finding_lem : OneFinding
one_finding_lem inquiry report streams a b (of_unread line h) (of_unread other k) =
    ap (λ n. NotRead n) (stops_at_one_line_lem report line other h k)
one_finding_lem inquiry report streams a b (of_unread line h)
    (of_refused_session claimed refusal good is judged right) =
    absurd (h.no_report claimed is)
one_finding_lem inquiry report streams a b (of_unread line h) (of_refusal refusal document traces messages is held) =
    absurd (h.no_report (Refused refusal) is)
one_finding_lem inquiry report streams a b (of_unread line h)
    (of_session processes events matched answers document traces messages good found is held right finds) =
    absurd (h.no_report (Judged processes events matched answers) is)
one_finding_lem inquiry report streams a b (of_refused_session claimed refusal good is judged right)
    (of_unread line h) =
    absurd (h.no_report claimed is)
one_finding_lem inquiry report streams a b (of_refused_session claimed refusal good is judged right)
    (of_refused_session claimed' refusal' good' is' judged' right') =
    one_refused_finding inquiry report streams claimed claimed' refusal refusal' good good' is is' judged judged' right
    right'
one_finding_lem inquiry report streams a b (of_refused_session claimed refusal good is judged right)
    (of_refusal refusal' document traces messages is' held) =
    absurd (session_not_refused inquiry streams refusal document traces messages judged held)
one_finding_lem inquiry report streams a b (of_refused_session claimed refusal good is judged right)
    (of_session processes events matched answers document traces messages good' found is' held right' finds) =
    absurd (session_not_refused inquiry streams refusal document traces messages judged held)
one_finding_lem inquiry report streams a b (of_refusal refusal document traces messages is held) (of_unread line h) =
    absurd (h.no_report (Refused refusal) is)
one_finding_lem inquiry report streams a b (of_refusal refusal document traces messages is held)
    (of_refused_session claimed refusal' good is' judged right) =
    absurd (session_not_refused inquiry streams refusal' document traces messages judged held)
one_finding_lem inquiry report streams a b (of_refusal refusal document traces messages is held)
    (of_refusal refusal' document' traces' messages' is' held') = refl
one_finding_lem inquiry report streams a b (of_refusal refusal document traces messages is held)
    (of_session processes events matched answers document' traces' messages' good found is' held' right finds) =
    absurd (not_judged report refusal processes events matched answers is is')
one_finding_lem inquiry report streams a b (of_session processes events matched answers document traces messages good
    found is held right finds) (of_unread line h) = absurd (h.no_report (Judged processes events matched answers) is)
one_finding_lem inquiry report streams a b (of_session processes events matched answers document traces messages good
    found is held right finds) (of_refused_session claimed refusal good' is' judged right') =
    absurd (session_not_refused inquiry streams refusal document traces messages judged held)
one_finding_lem inquiry report streams a b (of_session processes events matched answers document traces messages good
    found is held right finds) (of_refusal refusal document' traces' messages' is' held') =
    absurd (not_judged report refusal processes events matched answers is' is)
one_finding_lem inquiry report streams a b (of_session processes events matched answers document traces messages good
    found is held right finds) (of_session processes' events' matched' answers' document' traces' messages' good' found'
    is' held' right' finds') =
    one_session_finding inquiry report streams good good' found found'
    (record {
      processes = processes;
      events = events;
      matched = matched;
      answers = answers;
      document =
          document;
      traces = traces;
      messages = messages;
      is = is;
      held = held;
      right = right;
      finds = finds;
    })
    (record {
      processes = processes';
      events = events';
      matched = matched';
      answers = answers';
      document =
          document';
      traces = traces';
      messages = messages';
      is = is';
      held = held';
      right = right';
      finds = finds';
    })
