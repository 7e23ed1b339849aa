-- Answers that are right of each run of an order are those of a run that has it.
use Rattle.std.proofs.Common.{◌≡◌, ℕ, Bool, ◌&&◌, List, [], ◌∷◌, map, refl, ap, sym, subst, ◌∙◌}
use Rattle.std.specs.List.{AllZip, list_all}
use Rattle.def_format.specs.Documents.{Document, Options}
use Rattle.def_format.specs.Reports.{Answer, Report}
use Rattle.def_format.specs.Sessions.{StreamResult}
use Rattle.judge_shared.specs.SharedReports.{AnswersRightly}
use Rattle.judge_shared.specs.Sharing.{AreRight, IsFresh, IsRunReportOfResults, answers_view, bare, is_known, with_answers}
use Rattle.judge_shared.specs.declared.found.Fresh.{Fresh}
use Rattle.pd_report.specs.Views.{answer_view}
use Rattle.pd_report.specs.declared.answer.Answer as answers

pub shared_right : (options : Options) (bytes : List ℕ) (document : Document) (streams : ℕ)
    (outcomes : List StreamResult) (report given : Report) (fresh : Fresh) (found copies : List Answer)
    → AreRight options bytes fresh.order found → copies ≡ map bare found → given ≡ with_answers report copies
    → IsFresh options bytes document streams outcomes report fresh
    → IsRunReportOfResults document streams outcomes given
shared_right options bytes document streams outcomes report given fresh found copies right are_bare is is_fresh =
    subst (IsRunReportOfResults document streams outcomes) (sym is)
    (is_fresh.shared copies
    (subst (λ (answers : List Answer). AllZip (AnswersRightly is_fresh.recorded) document.predicates answers)
    (sym are_bare) (right document is_fresh.recorded is_fresh.is_run)))

-- copies of answers, in two steps
pub bare_copies : (copies : List Answer) (found : List answers.Answer)
    → copies ≡ map (λ answer. bare (answer_view answer)) found → copies ≡ map bare (answers_view found)
bare_copies copies found is = is ∙ both found
  where
    both : (xs : List answers.Answer) → map (λ answer. bare (answer_view answer)) xs ≡ map bare (map answer_view xs)
    both [] = refl
    both (x ∷ rest) = ap (λ (more : List Answer). bare (answer_view x) ∷ more) (both rest)

-- no answer is unknown, asked of what they stand for
pub known_views : (found : List answers.Answer)
    → list_all is_known (answers_view found) ≡ list_all (λ answer. is_known (answer_view answer)) found
known_views [] = refl
known_views (x ∷ rest) = ap (λ (more : Bool). is_known (answer_view x) && more) (known_views rest)
