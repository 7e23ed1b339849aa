-- The answers that a script asks to fail on: conditions, the text of a list of them, the names in it, and what a report
-- comes to.
use Rattle.std.specs.Prelude.{ℕ, ◌<◌, ◌&&◌, Bool, if◌then◌else◌, List, [], ◌∷◌, ◌++◌, codes, filter, flat_map, length, map, Option, Some, None, IfSome}
use Rattle.std.specs.List.{AllByRecursion, list_any}
use Rattle.def_format.specs.Reports.{Answer, Report, Judged, Refused, IsName, with_commas}
use Rattle.judge_runs.specs.Wishes.{Condition, DefinitelyNo, DefinitelyYes, Kind, PossiblyNo, PossiblyYes, SomeUnknown, is_for, is_of_kind, lacks_name}

-- ---- the text of a list

abbrev pub kind_text : Kind → List ℕ
kind_text PossiblyYes = codes "possibly"
kind_text PossiblyNo = codes "possibly-no"
kind_text DefinitelyYes = codes "definitely"
kind_text DefinitelyNo = codes "definitely-no"
kind_text SomeUnknown = codes "unknown"

-- a kind of answers, with the name of a predicate and a colon before it, or with none
abbrev pub text_for : Option (List ℕ) → Kind → List ℕ
text_for None kind = kind_text kind
text_for (Some name) kind = name ++ 58 ∷ kind_text kind

abbrev pub colon : ℕ
colon = 58

abbrev pub condition_text : Condition → List ℕ
condition_text condition = text_for condition.name condition.kind

-- the name is one that a predicate may have
abbrev pub IsLawful : Condition → Type 0
IsLawful condition = IfSome condition.name IsName

abbrev pub AreLawful : List Condition → Type 0
AreLawful conditions = (0 < length conditions) × AllByRecursion (λ condition. IfSome condition.name IsName) conditions

-- the texts of the conditions, with a comma between each two
abbrev pub list_text : List Condition → List ℕ
list_text conditions = with_commas (map condition_text conditions)

-- ---- the names in a list

-- a condition names a predicate of which the name isn't among these
abbrev pub lacks_predicate : (names : List (List ℕ)) → Condition → Bool
lacks_predicate names condition = lacks_name names condition.name

-- the first name in a condition that isn't among these, if there is one
abbrev pub unknown_name : (names : List (List ℕ)) → List Condition → Option (List ℕ)
unknown_name names [] = None
unknown_name names (condition ∷ conditions) =
    if lacks_predicate names condition then condition.name else unknown_name names conditions

-- ---- whether a report has such an answer

-- an answer is one of those that a condition asks for
abbrev pub is_asked_for : Condition → Answer → Bool
is_asked_for condition answer =
    is_for condition.name answer && is_of_kind condition.kind answer.possibly answer.definitely

-- one of the answers is
abbrev pub is_met : List Answer → Condition → Bool
is_met answers condition = list_any (is_asked_for condition) answers

-- ---- what a report comes to

pub data Conclusion : Type 0 where
  -- the session is refused
  OfRefusal : Conclusion
  -- it is judged, and some condition is met
  Met : Conclusion
  -- it is judged, and none is
  Unmet : Conclusion

abbrev pub conclusion_of_answers : List Condition → List Answer → Conclusion
conclusion_of_answers conditions answers = if list_any (is_met answers) conditions then Met else Unmet

abbrev pub conclusion : List Condition → Report → Conclusion
conclusion conditions (Judged processes events messages answers) = conclusion_of_answers conditions answers
conclusion conditions (Refused refusal) = OfRefusal

-- ---- why it is to fail

-- a condition, and an answer that meets it
pub record Reason : Type 0 where
  pub condition : Condition
  pub answer : Answer

-- a condition with each of the answers that it asks for, in their order
abbrev pub reasons_of : List Answer → Condition → List Reason
reasons_of answers condition =
    map (λ answer. record { condition = condition; answer = answer }) (filter (is_asked_for condition) answers)

-- By which conditions and answers a report is to be failed on: each condition that is met with each answer that meets
-- it, the conditions in the order of their list.
abbrev pub reasons : List Condition → Report → List Reason
reasons conditions (Judged processes events messages answers) = flat_map (reasons_of answers) conditions
reasons conditions (Refused refusal) = []
