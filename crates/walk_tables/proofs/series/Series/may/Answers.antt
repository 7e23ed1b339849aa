-- A comparison decides the chain, or is like the others.
use Rattle.std.proofs.Common.{◌≡◌, ◌∙◌, ◌-◌, length, get_or, ap, sym, false, arith, rules}
use Rattle.walk_tables.specs.Tables.{linear_holds}
use Rattle.walk_tables.specs.declared.linear.Linear.{Linear}
use Rattle.walk_tables.specs.Choices.{choices_hold}
use Rattle.walk_tables.specs.Zero.{joined}
use Rattle.walk_tables.proofs.Chains.{agrees, asked_next, differs, joined_decided, joined_same, part_decides}
use Rattle.walk_tables.proofs.series.Series.may.Goals as goal

pub returns-then-may-self : goal.returns-then-may-self
returns-then-may-self c turned x y =
    let parts = c.args.self.now.parts.items in
    let count : c.len-count.result ≡ length parts = search rules in
    let part = c.index-part.result.now in
    let m = c.len-count.result - 1 - c.loop-i.i in
    let is : part ≡ get_or parts m part = search rules in
    ap (joined c.args.self.now.is_and (choices_hold c.args.self.now.is_and c.args.self.now.choices.items
    c.args.prefix.now x y))
    (part_decides c.args.self.now.is_and (λ (l : Linear). linear_holds l c.args.prefix.now x y) parts m part
    (omega (arith, count, c.loop-i-test.true))
    (ap (λ (l : Linear). linear_holds l c.args.prefix.now x y) (sym is)
    ∙ c.may.ensures (differs c.may.result c.args.self.now.is_and c.if-may-self.true ∙ turned) x y
    ∙ sym turned))
    ∙ joined_decided c.args.self.now.is_and (choices_hold c.args.self.now.is_and c.args.self.now.choices.items
    c.args.prefix.now x y)
    ∙ turned

pub loop-i-preserved : goal.loop-i-preserved
loop-i-preserved c same x y =
    let parts = c.args.self.now.parts.items in
    let count : c.len-count.result ≡ length parts = search rules in
    let part = c.index-part.result.now in
    let is : part ≡ get_or parts (c.len-count.result - 1 - c.loop-i.i) part = search rules in
    let alike = agrees c.may.result c.args.self.now.is_and c.if-may-self.false in
    sym (asked_next c.args.self.now.is_and (λ (l : Linear). linear_holds l c.args.prefix.now x y) parts c.loop-i.i
    c.len-count.result
    part false false false count c.loop-i-test.true is (sym (c.may.ensures (alike ∙ same) x y))
    (sym (c.loop-i.invariant same x y)) (sym (joined_same c.args.self.now.is_and false)))
