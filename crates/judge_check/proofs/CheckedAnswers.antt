-- The verdicts on a report's answers.
use Rattle.std.proofs.Common.{◌≡◌, ℕ, List, map, sym, ap, ◌∙◌, subst, Some, None}
use Rattle.std.specs.Prelude.{string_bytes, zip}
use Rattle.std.specs.List.{AllZip}
use Rattle.std.proofs.lemmas.Simd.{map-map}
use Rattle.def_model.specs.Predicates.{Recorded}
use Rattle.def_format.specs.Documents.{Document, NamedPredicate}
use Rattle.def_judgement.specs.Judgements.{recorded_of}
use Rattle.def_format.specs.OtherTexts.{Checked}
use Rattle.def_format.specs.Readings.{Trace}
use Rattle.def_format.specs.Reports as reports
use Rattle.def_judgement.specs.Findings.{IsAnswersFinding, of_other_names, of_verdicts, names_answered, names_asked}
use Rattle.pd_report.specs.Views.{answer_view}
use Rattle.pd_report.specs.declared.answer.Answer.{Answer}
use Rattle.pd_spec.specs.Named.{named_view}
use Rattle.pd_spec.specs.declared.named.NamedPred.{NamedPred}
use Rattle.judge_check.specs.Verdicts.{IsCheckedBy}

abbrev reported_names : List Answer → List (List ℕ)
reported_names answers = map (λ (answer : Answer). string_bytes answer.name) answers

abbrev asked_names : List NamedPred → List (List ℕ)
asked_names asked = map (λ (predicate : NamedPred). string_bytes predicate.name) asked

names_reported : (answers : List Answer) → names_answered (map answer_view answers) ≡ reported_names answers
names_reported answers = map-map (λ (answer : reports.Answer). answer.name) answer_view answers

names_for : (document : Document) (asked : List NamedPred) → map named_view asked ≡ document.predicates
    → names_asked document ≡ asked_names asked
names_for document asked same =
    ap (map (λ (predicate : NamedPredicate). predicate.name)) (sym same)
    ∙ map-map (λ (predicate : NamedPredicate). predicate.name) named_view asked

pub other_names : (document : Document) (traces : List Trace) (asked : List NamedPred) (answers : List Answer)
    → map named_view asked ≡ document.predicates → ¬ (reported_names answers ≡ asked_names asked)
    → IsAnswersFinding document traces (map answer_view answers) None
other_names document traces asked answers same differ =
    of_other_names (λ e. differ (sym (names_reported answers) ∙ (e ∙ names_for document asked same)))

pub all_checked : (document : Document) (traces : List Trace) (recorded : Recorded) (asked : List NamedPred)
    (answers : List Answer) (verdicts : List Checked) → map named_view asked ≡ document.predicates
    → reported_names answers ≡ asked_names asked → recorded ≡ recorded_of document traces
    → AllZip (IsCheckedBy document.names recorded) (zip (map named_view asked) (map answer_view answers)) verdicts
    → IsAnswersFinding document traces (map answer_view answers) (Some verdicts)
all_checked document traces recorded asked answers verdicts same names seen all =
    let those : AllZip (IsCheckedBy document.names recorded) (zip document.predicates (map answer_view answers))
    verdicts = subst (λ (predicates : List NamedPredicate).
    AllZip (IsCheckedBy document.names recorded) (zip predicates (map answer_view answers)) verdicts) same all in
    of_verdicts verdicts (names_reported answers ∙ (names ∙ sym (names_for document asked same)))
    (subst (λ (r : Recorded). AllZip (IsCheckedBy document.names r) (zip document.predicates (map answer_view answers))
    verdicts) seen those)
