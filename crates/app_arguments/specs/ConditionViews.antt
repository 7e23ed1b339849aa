-- What the program's conditions stand for.
use Rattle.std.specs.Prelude.{◌≡◌, ℕ, List, MatchOption, Option, Some, map, option_map}
use Rattle.std.specs.Borrow.{Bor}
use Rattle.def_format.specs.Reports.{IsName}
use Rattle.app_arguments.specs.Conditions as conditions
use Rattle.judge_runs.specs.Wishes as wishes
use Rattle.judge_runs.specs.Wishes.{PossiblyYes, PossiblyNo, DefinitelyYes, DefinitelyNo, SomeUnknown}
use Rattle.app_arguments.specs.declared.kind.Kind.{Kind}
use Rattle.app_arguments.specs.declared.kind.Kind.TheVariants as kinds
use Rattle.app_arguments.specs.declared.condition.Condition.{Condition}
use Rattle.app_arguments.specs.declared.conclusion.Conclusion.{Conclusion}
use Rattle.app_arguments.specs.declared.conclusion.Conclusion.TheVariants as conclusions
use Rattle.app_arguments.specs.declared.fail_on.FailOn.{FailOn}
use Rattle.app_arguments.specs.declared.reason.Reason.{Reason}
use Rattle.pd_report.specs.Views.{answer_view}

abbrev pub kind_view : Kind → wishes.Kind
kind_view kinds.Possibly = PossiblyYes
kind_view kinds.PossiblyNo = PossiblyNo
kind_view kinds.Definitely = DefinitelyYes
kind_view kinds.DefinitelyNo = DefinitelyNo
kind_view kinds.Unknown = SomeUnknown

abbrev pub name_view : Option (Bor (List ℕ)) → Option (List ℕ)
name_view name = option_map (λ (bytes : Bor (List ℕ)). bytes.now) name

abbrev pub condition_view : Condition → wishes.Condition
condition_view condition = record { name = name_view condition.name; kind = kind_view condition.kind }

-- what the part after the colon, or all if there is none, comes to
abbrev pub IsOnName : Option (List ℕ) → (word : List ℕ) → Option Condition → Type 0
IsOnName name word found = MatchOption found ((kind : wishes.Kind) → ¬ (word ≡ conditions.kind_text kind))
    (λ condition. ((condition_view condition).name ≡ name) × (word ≡ conditions.kind_text (condition_view
    condition).kind))

-- the same, if what is before the colon is a name
abbrev pub IsNamed : (name word : List ℕ) → Option Condition → Type 0
IsNamed name word found = MatchOption found (IsName name → (kind : wishes.Kind)
    → ¬ (word ≡ conditions.kind_text kind))
    (λ condition. IsName name × ((condition_view condition).name ≡ Some name)
    × (word ≡ conditions.kind_text (condition_view condition).kind))

abbrev pub conditions_view : List Condition → List wishes.Condition
conditions_view found = map condition_view found

abbrev pub fail_on_view : FailOn → List wishes.Condition
fail_on_view fail_on = conditions_view fail_on.conditions.items

abbrev pub conclusion_view : Conclusion → conditions.Conclusion
conclusion_view conclusions.Refused = conditions.OfRefusal
conclusion_view conclusions.Met = conditions.Met
conclusion_view conclusions.Unmet = conditions.Unmet

abbrev pub reason_view : Reason → conditions.Reason
reason_view reason = record {
  condition = record { name = name_view reason.name; kind = kind_view reason.kind };
  answer = answer_view reason.answer.now;
}
