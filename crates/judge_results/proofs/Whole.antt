-- No number of the results is a float.
use Rattle.std.proofs.Common.{◌≡◌, List, [], ◌∷◌, ◌++◌, Bool, true, false, map, ℕ, refl, Option, Some, None}
use Rattle.std.specs.Prelude.{filter}
use Rattle.serde_json.specs.Data.{Data, no_members, object}
use Rattle.serde_json.specs.View.{items_of}
use Rattle.serde_json.specs.Written.{has_float, items_have_float}
use Rattle.def_format.specs.Reports.{Answer, Judged, Refused}
use Rattle.judge_runs.specs.Runs.{Conclusion, Outcome, Reported, Run, Unnamed, Unread}
use Rattle.judge_runs.specs.Wishes.{Condition, is_broken}
use Rattle.out_json.specs.JsonReports.{nowhere}
use Rattle.out_json.proofs.Floats.{report_whole}
use Rattle.judge_results.specs.Results.{broken_data, broken_datas, counts_data, datas_by, first_fields, judged_data, orders_data, outcome_data, run_data}

-- items of which none has a float
abbrev AreWhole : List Data → Type 0
AreWhole datas = items_have_float (items_of datas) ≡ false

mapped_whole : {A : Type 0} (f : A → Data) → ((x : A) → has_float (f x) ≡ false) → (xs : List A)
    → AreWhole (map f xs)
mapped_whole f each [] = refl
mapped_whole f each (x ∷ xs) = rw (each x, mapped_whole f each xs) refl

both_whole : (first more : List Data) → AreWhole first → AreWhole more → AreWhole (first ++ more)
both_whole [] more are others = others
both_whole (one ∷ first) more are others =
    go (has_float one) refl are (λ rest. both_whole first more rest others)
  where
    go : (b : Bool) → has_float one ≡ b → AreWhole (one ∷ first) → (AreWhole first → AreWhole (first ++ more))
        → AreWhole (one ∷ (first ++ more))
    go true e h on = absurd (let bad = rw e at h in cc)
    go false e h on = rw (e, on (rw e at h)) refl

broken_whole : (wishes : List Condition) (answers : List Answer) → AreWhole (broken_datas wishes answers)
broken_whole [] answers = refl
broken_whole (wish ∷ wishes) answers =
    both_whole (datas_by answers wish) (broken_datas wishes answers)
    (mapped_whole (broken_data wish.kind) (λ answer. refl) (filter (is_broken wish) answers))
    (broken_whole wishes answers)

judged_whole : (name : List ℕ) (broken : List Data) → AreWhole broken → has_float (judged_data name broken) ≡ false
judged_whole name [] are = refl
judged_whole name (first ∷ more) are = rw are refl

outcome_whole : (wishes : List Condition) (name : List ℕ) (outcome : Outcome)
    → has_float (outcome_data wishes name outcome) ≡ false
outcome_whole wishes name (Unread file) = refl
outcome_whole wishes name (Unnamed predicate) = refl
outcome_whole wishes name (Reported (Refused refusal)) = rw (report_whole [] nowhere (Refused refusal)) refl
outcome_whole wishes name (Reported (Judged processes events messages answers)) =
    judged_whole name (broken_datas wishes answers) (broken_whole wishes answers)

orders_whole : (orders : Option ℕ) → has_float (orders_data orders) ≡ false
orders_whole None = refl
orders_whole (Some orders) = refl

-- the first fields, with these numbers
pub head_whole : (all fail not_judged pass : ℕ) (orders : Option ℕ) (end : Conclusion)
    → has_float (object (first_fields (counts_data all fail not_judged pass) (orders_data orders) end no_members))
    ≡ false
head_whole all fail not_judged pass orders end = rw (orders_whole orders) refl

-- the values of runs
pub runs_whole : (wishes : List Condition) (runs : List Run)
    → items_have_float (items_of (map (run_data wishes) runs)) ≡ false
runs_whole wishes runs =
    mapped_whole (run_data wishes) (λ (run : Run). outcome_whole wishes run.folder run.outcome) runs
