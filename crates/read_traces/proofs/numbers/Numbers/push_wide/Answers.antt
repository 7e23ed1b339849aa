-- Adds a number that has no room in a slot.
use Rattle.std.proofs.Common.{◌≡◌, ◌++◌, ◌+◌, ◌^◌, ◌∷◌, [], ℤ, List, ap, length, negsuc, rules, ◌∙◌}
use Rattle.read_traces.specs.NumberSlots.{numbers_in}
use Rattle.read_traces.proofs.SlotFacts.{numbers_grown, numbers_pushed}
use Rattle.read_traces.proofs.numbers.Numbers.push_wide.Goals as goal

pub returns-in_err-push-2-clause-err : goal.returns-in_err-push-2-clause-err
returns-in_err-push-2-clause-err c =
    let slots : c.push-2.new.self.items ≡ c.self.inside.slots.items = search rules in
    let wide : c.push.new.self.items ≡ c.self.inside.wide.items ++ c.args.number ∷ [] = search rules in
    let same : numbers_in c.push.new.self.items c.push-2.new.self.items ≡ c.args.self.now =
    (λ i. numbers_in (wide i) (slots i))
    ∙ (numbers_grown c.self.inside.wide.items (c.args.number ∷ []) c.self.inside.slots.items c.self.invariant
    ∙ c.self.view_is) in
    search (rules, same)

pub returns-clause-ok : goal.returns-clause-ok
returns-clause-ok c =
    let slot : c.in-Some.slot ≡ negsuc (2 ^ 30 + length c.self.inside.wide.items) = search rules in
    let slots : c.push-2.new.self.items ≡ c.self.inside.slots.items ++ c.in-Some.slot ∷ [] = search rules in
    let wide : c.push.new.self.items ≡ c.self.inside.wide.items ++ c.args.number ∷ [] = search rules in
    (λ i. numbers_in (wide i) ((slots ∙ ap (λ (s : ℤ). c.self.inside.slots.items ++ s ∷ []) slot) i))
    ∙ (numbers_pushed c.self.inside.wide.items c.self.inside.slots.items c.args.number c.self.invariant
    ∙ ap (λ (xs : List ℤ). xs ++ c.args.number ∷ []) c.self.view_is)
