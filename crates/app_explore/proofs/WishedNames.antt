-- The predicates that conditions and wishes name.
use Rattle.std.proofs.Common.{◌≡◌, ℕ, Bool, List, [], ◌∷◌, ◌++◌, None, Some, Option, true, false, ap, map, refl}
use Rattle.std.specs.Prelude.{if◌then◌else◌}
use Rattle.def_format.specs.Documents.{Inquiry}
use Rattle.app_arguments.specs.Conditions.{lacks_predicate, unknown_name}
use Rattle.app_arguments.specs.Statuses.{HasNamed, LacksNamed}
use Rattle.judge_runs.specs.Wishes.{Condition, first_unnamed, lacks_name, names_of}
use Rattle.app_explore.specs.Explorations.{all_named, named_by}

-- what a wish names and what the condition on its predicate does
pub wished_names : (names : List (List ℕ)) (wishes : List Condition)
    → unknown_name names (map named_by wishes) ≡ first_unnamed names wishes
wished_names names [] = refl
wished_names names (wish ∷ wishes) =
    ap (λ (rest : Option (List ℕ)). if lacks_name names wish.name then wish.name else rest)
    (wished_names names wishes)

both_known : (names : List (List ℕ)) (first second : List Condition) → unknown_name names first ≡ None
    → unknown_name names second ≡ None → unknown_name names (first ++ second) ≡ None
both_known names [] second known other = other
both_known names (condition ∷ first) second known other =
    go (lacks_predicate names condition) known (both_known names first second)
  where
    go : (lacks : Bool) → (if lacks then condition.name else unknown_name names first) ≡ None
        → (unknown_name names first ≡ None → unknown_name names second ≡ None
        → unknown_name names (first ++ second) ≡ None)
        → (if lacks then condition.name else unknown_name names (first ++ second)) ≡ None
    go true known more = known
    go false known more = more known other

-- no name that is unknown among the first is known among all
first_unknown : (names : List (List ℕ)) (first second : List Condition) → unknown_name names (first ++ second) ≡ None
    → unknown_name names first ≡ None
first_unknown names [] second known = refl
first_unknown names (condition ∷ first) second known =
    go (lacks_predicate names condition) known (first_unknown names first second)
  where
    go : (lacks : Bool) → (if lacks then condition.name else unknown_name names (first ++ second)) ≡ None
        → (unknown_name names (first ++ second) ≡ None → unknown_name names first ≡ None)
        → (if lacks then condition.name else unknown_name names first) ≡ None
    go true known more = known
    go false known more = more known

second_unknown : (names : List (List ℕ)) (first second : List Condition) → unknown_name names first ≡ None
    → unknown_name names (first ++ second) ≡ None → unknown_name names second ≡ None
second_unknown names [] second all known = known
second_unknown names (condition ∷ first) second all known =
    go (lacks_predicate names condition) refl all known (second_unknown names first second)
  where
    named : (name : Option (List ℕ)) → name ≡ None → lacks_name names name ≡ true → ⊥
    named None none lacks = absurd (cc)
    named (Some name) none lacks = absurd (cc)

    go : (lacks : Bool) → lacks_name names condition.name ≡ lacks
        → (if lacks then condition.name else unknown_name names first) ≡ None
        → (if lacks then condition.name else unknown_name names (first ++ second)) ≡ None
        → (unknown_name names first ≡ None → unknown_name names (first ++ second) ≡ None
        → unknown_name names second ≡ None)
        → unknown_name names second ≡ None
    go true is all known more = absurd (named condition.name known is)
    go false is all known more = more all known

pub has_both : (fail_on : List Condition) (wishes : List Condition) (inquiry : Inquiry) → HasNamed fail_on inquiry
    → HasNamed (map named_by wishes) inquiry → HasNamed (all_named fail_on wishes) inquiry
has_both fail_on wishes inquiry first second = λ document is.
    both_known (names_of document.predicates) fail_on (map named_by wishes) (first document is) (second document is)

pub lacks_first : (fail_on : List Condition) (wishes : List Condition) (inquiry : Inquiry) → LacksNamed fail_on inquiry
    → LacksNamed (all_named fail_on wishes) inquiry
lacks_first fail_on wishes inquiry lacks = (
  lacks.0,
  lacks.1,
  λ known. lacks.2 (first_unknown (names_of lacks.0.predicates) fail_on (map named_by wishes) known),
)

pub lacks_second : (fail_on : List Condition) (wishes : List Condition) (inquiry : Inquiry) → HasNamed fail_on inquiry
    → LacksNamed (map named_by wishes) inquiry → LacksNamed (all_named fail_on wishes) inquiry
lacks_second fail_on wishes inquiry has lacks = (
  lacks.0,
  lacks.1,
  λ known. lacks.2 (second_unknown (names_of lacks.0.predicates) fail_on (map named_by wishes)
      (has lacks.0 lacks.1) known),
)
