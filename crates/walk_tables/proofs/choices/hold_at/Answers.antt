-- A choice decides the chain.
use Rattle.std.proofs.Common.{refl, ◌≡◌, ◌∙◌, ◌-◌, length, get_or, ap, sym, arith, rules}
use Rattle.walk_tables.specs.Choices.{choice_holds}
use Rattle.walk_tables.specs.declared.choice.Choice.{Choice}
use Rattle.walk_tables.proofs.Chains.{agrees, asked_next, differs, joined_same, part_decides}
use Rattle.walk_tables.proofs.choices.hold_at.Goals as goal

pub returns-then-holds_at-is_and : goal.returns-then-holds_at-is_and
returns-then-holds_at-is_and c =
    let parts = c.args.choices.now in
    let part = c.index-choices-count.result in
    let m = length parts - 1 - c.loop-i.i in
    let is : part ≡ get_or parts m part = search rules in
    sym (part_decides c.args.is_and (λ (l : Choice). choice_holds l c.args.prefix.now c.args.x c.args.y) parts m part
    (omega (arith, c.loop-i-test.true))
    (ap (λ (l : Choice). choice_holds l c.args.prefix.now c.args.x c.args.y) (sym is) ∙ sym c.holds_at.ensures
    ∙ differs c.holds_at.result c.args.is_and c.if-holds_at-is_and.true))

pub loop-i-preserved : goal.loop-i-preserved
loop-i-preserved c =
    let parts = c.args.choices.now in
    let part = c.index-choices-count.result in
    let is : part ≡ get_or parts (length parts - 1 - c.loop-i.i) part = search rules in
    let is_and = c.args.is_and in
    let alike = agrees c.holds_at.result is_and c.if-holds_at-is_and.false in
    sym (asked_next is_and (λ (l : Choice). choice_holds l c.args.prefix.now c.args.x c.args.y) parts c.loop-i.i
    (length parts) part is_and is_and is_and refl c.loop-i-test.true is (sym alike ∙ c.holds_at.ensures)
    (sym c.loop-i.invariant) (sym (joined_same is_and is_and)))
