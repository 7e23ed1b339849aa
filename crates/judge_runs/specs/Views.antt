-- What wishes, outcomes and verdicts stand for.
use Rattle.std.specs.Prelude.{ℕ, List, map, Option, option_map, string_bytes}
use Rattle.std.specs.Borrow.{Bor}
use Rattle.judge_runs.specs.Wishes as wishes
use Rattle.judge_runs.specs.Runs as runs
use Rattle.judge_runs.specs.declared.wish.Wish.{Wish}
use Rattle.judge_runs.specs.declared.wish.WishKind.{WishKind}
use Rattle.judge_runs.specs.declared.wish.WishKind.TheVariants as kinds
use Rattle.judge_runs.specs.declared.outcome.Outcome.{Outcome}
use Rattle.judge_runs.specs.declared.outcome.Outcome.TheVariants as outcomes
use Rattle.judge_runs.specs.declared.verdict.Verdict.{Verdict}
use Rattle.judge_runs.specs.declared.verdict.Verdict.TheVariants as verdicts
use Rattle.judge_runs.specs.declared.conclusion.Conclusion.{Conclusion}
use Rattle.judge_runs.specs.declared.conclusion.Conclusion.TheVariants as conclusions
use Rattle.pd_report.specs.Views.{report_view}

abbrev pub wish_kind_view : WishKind → wishes.Kind
wish_kind_view kinds.Never = wishes.PossiblyNo
wish_kind_view kinds.Always = wishes.DefinitelyYes
wish_kind_view kinds.Sometimes = wishes.PossiblyYes

abbrev pub name_view : Option (Bor (List ℕ)) → Option (List ℕ)
name_view name = option_map (λ (bytes : Bor (List ℕ)). bytes.now) name

abbrev pub wish_view : Wish → wishes.Condition
wish_view wish = record {
  name = name_view wish.name;
  kind = wish_kind_view wish.kind;
}

abbrev pub wishes_view : List Wish → List wishes.Condition
wishes_view found = map wish_view found

abbrev pub outcome_view : Outcome → runs.Outcome
outcome_view (outcomes.Unread file) = runs.Unread (string_bytes file)
outcome_view (outcomes.Unnamed name) = runs.Unnamed (string_bytes name)
outcome_view (outcomes.Reported report) = runs.Reported (report_view report)

abbrev pub verdict_view : Verdict → runs.Verdict
verdict_view verdicts.Pass = runs.Pass
verdict_view verdicts.Fail = runs.Fail
verdict_view verdicts.NotJudged = runs.NotJudged

abbrev pub conclusion_view : Conclusion → runs.Conclusion
conclusion_view conclusions.AllPass = runs.AllPass
conclusion_view conclusions.SomeFails = runs.SomeFails
conclusion_view conclusions.SomeNotJudged = runs.SomeNotJudged
