-- A choice decides the chain, or is like the others.
use Rattle.std.proofs.Common.{refl, ◌≡◌, ◌∙◌, ◌-◌, length, get_or, ap, sym, true, arith, rules}
use Rattle.walk_tables.specs.Choices.{choice_holds}
use Rattle.walk_tables.specs.declared.choice.Choice.{Choice}
use Rattle.walk_tables.proofs.Chains.{agrees, asked_next, differs, joined_same, part_decides}
use Rattle.walk_tables.proofs.choices.must.Goals as goal

pub returns-then-must-is_and : goal.returns-then-must-is_and
returns-then-must-is_and c turned x y =
    let parts = c.args.choices.now in
    let part = c.index-choices-count.result in
    let m = length parts - 1 - c.loop-i.i in
    let is : part ≡ get_or parts m part = search rules in
    part_decides c.args.is_and (λ (l : Choice). choice_holds l c.args.prefix.now x y) parts m part
    (omega (arith, c.loop-i-test.true))
    (ap (λ (l : Choice). choice_holds l c.args.prefix.now x y) (sym is)
    ∙ c.must.ensures (differs c.must.result c.args.is_and c.if-must-is_and.true ∙ turned) x y
    ∙ sym turned)
    ∙ turned

pub loop-i-preserved : goal.loop-i-preserved
loop-i-preserved c same x y =
    let parts = c.args.choices.now in
    let part = c.index-choices-count.result in
    let is : part ≡ get_or parts (length parts - 1 - c.loop-i.i) part = search rules in
    let alike = agrees c.must.result c.args.is_and c.if-must-is_and.false in
    sym (asked_next c.args.is_and (λ (l : Choice). choice_holds l c.args.prefix.now x y) parts c.loop-i.i (length parts)
    part true true true refl c.loop-i-test.true is (sym (c.must.ensures (alike ∙ same) x y))
    (sym (c.loop-i.invariant same x y)) (sym (joined_same c.args.is_and true)))
