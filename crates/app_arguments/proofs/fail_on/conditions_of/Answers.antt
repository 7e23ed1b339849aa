-- The list is cut at its commas.
use Rattle.std.proofs.Common.{◌≡◌, ◌∙◌, ◌++◌, ◌∷◌, [], List, ap, append-nil, map, refl, sym, subst, arith, rules}
use Rattle.std.specs.List.{AllByRecursion}
use Rattle.std.proofs.lemmas.List.{length-map, map-append}
use Rattle.std.proofs.lemmas.Str.Pattern.{split_parts}
use Rattle.pd_report.specs.Reading.{pieces}
use Rattle.pd_report.proofs.Lists.{all_push, listed_none, listed_some, one_is_none, read_more}
use Rattle.pd_report.proofs.Pieces.{cut_words, word_last}
use Rattle.app_arguments.specs.Conditions.{IsLawful, condition_text}
use Rattle.judge_runs.specs.Wishes.{Condition}
use Rattle.app_arguments.specs.ConditionViews.{condition_view, conditions_view}
use Rattle.app_arguments.proofs.Lists.{texts_lack}
use Rattle.app_arguments.proofs.Parts.{lacks_each}
use Rattle.app_arguments.proofs.fail_on.conditions_of.Goals as goal

pub returns-in_default-condition_of : goal.returns-in_default-condition_of
returns-in_default-condition_of c =
    let l = c.loop-first in
    let cut = rw c.in-Some.is at
    (split_parts 44 l.left.now c.split_once.result c.split_once.ensures.cases (omega arith)) in
    let left_is = cut_words 44 l.left.now c.in-Some.first.now c.in-Some.rest.now (lacks_each 44 c.in-Some.first.now
    cut.1)
    cut.0 in
    listed_none (map condition_text) (AllByRecursion IsLawful) (λ vs. length-map vs condition_text) texts_lack
    c.args.list.now (pieces 44 c.args.list.now) refl (λ vs h e.
    one_is_none condition_text IsLawful (map condition_text (conditions_view l.conditions.items)) c.in-Some.first.now
    (pieces 44 c.in-Some.rest.now) c.in_default-condition_of.ensures vs h
    (ap (λ left. map condition_text (conditions_view l.conditions.items) ++ left) (sym left_is)
    ∙ sym l.invariant.1.read ∙ e))

pub loop-first-preserved : goal.loop-first-preserved
loop-first-preserved c =
    let l = c.loop-first in
    let cut = rw c.in-Some.is at
    (split_parts 44 l.left.now c.split_once.result c.split_once.ensures.cases (omega arith)) in
    let left_is = cut_words 44 l.left.now c.in-Some.first.now c.in-Some.rest.now (lacks_each 44 c.in-Some.first.now
    cut.1)
    cut.0 in
    let condition = c.in-Some-condition_of.condition in
    let view_is : conditions_view c.push.new.self.items
    ≡ conditions_view l.conditions.items ++ condition_view condition ∷ [] =
    ap conditions_view c.in_ok-push.ensures.items ∙ map-append condition_view l.conditions.items (condition ∷ []) in (
      search rules,
      record {
        lawful = subst (AllByRecursion IsLawful) (sym view_is) (all_push IsLawful
            (conditions_view l.conditions.items) (condition_view condition) l.invariant.1.lawful
            c.in-Some-condition_of.ensures.0);
        read = subst (λ (vs : List Condition). pieces 44 c.args.list.now
            ≡ map condition_text vs ++ pieces 44 c.in-Some.rest.now) (sym view_is)
            (read_more condition_text (pieces 44 c.args.list.now) (pieces 44 l.left.now) (pieces 44 c.in-Some.rest.now)
            c.in-Some.first.now (conditions_view l.conditions.items) (condition_view condition) l.invariant.1.read
            left_is c.in-Some-condition_of.ensures.1);
      },
    )

pub returns-in_default-condition_of-2 : goal.returns-in_default-condition_of-2
returns-in_default-condition_of-2 c =
    let l = c.loop-first in
    let none = rw c.in_default.is at
    (split_parts 44 l.left.now c.split_once.result c.split_once.ensures.cases (omega arith)) in
    let left_is = word_last 44 l.left.now (lacks_each 44 l.left.now none) in
    listed_none (map condition_text) (AllByRecursion IsLawful) (λ vs. length-map vs condition_text) texts_lack
    c.args.list.now (pieces 44 c.args.list.now) refl (λ vs h e.
    one_is_none condition_text IsLawful (map condition_text (conditions_view l.conditions.items)) l.left.now
    [] c.in_default-condition_of-2.ensures vs h
    (ap (λ left. map condition_text (conditions_view l.conditions.items) ++ left) (sym left_is)
    ∙ sym l.invariant.1.read ∙ e))

pub returns : goal.returns
returns c =
    let l = c.loop-first in
    let none = rw c.in_default.is at
    (split_parts 44 l.left.now c.split_once.result c.split_once.ensures.cases (omega arith)) in
    let left_is = word_last 44 l.left.now (lacks_each 44 l.left.now none) in
    let last = c.in-Some-condition_of-2.last in
    let view_is : conditions_view c.push-2.new.self.items
    ≡ conditions_view l.conditions.items ++ condition_view last ∷ [] =
    ap conditions_view c.in_ok-push-2.ensures.items ∙ map-append condition_view l.conditions.items (last ∷ []) in
    let read = read_more condition_text (pieces 44 c.args.list.now) (pieces 44 l.left.now) [] l.left.now
    (conditions_view l.conditions.items) (condition_view last) l.invariant.1.read left_is
    c.in-Some-condition_of-2.ensures.1 in
    listed_some (map condition_text) (AllByRecursion IsLawful) (λ vs. length-map vs condition_text) c.args.list.now
    (pieces 44 c.args.list.now) refl (conditions_view c.push-2.new.self.items)
    (subst (AllByRecursion IsLawful) (sym view_is) (all_push IsLawful (conditions_view l.conditions.items)
    (condition_view last) l.invariant.1.lawful c.in-Some-condition_of-2.ensures.0))
    (read ∙ append-nil _ ∙ ap (map condition_text) (sym view_is))
