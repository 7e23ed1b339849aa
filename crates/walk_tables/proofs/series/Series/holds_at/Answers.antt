-- A comparison decides the chain.
use Rattle.std.proofs.Common.{◌≡◌, ◌∙◌, ◌-◌, length, get_or, ap, sym, arith, rules}
use Rattle.walk_tables.specs.Tables.{linear_holds}
use Rattle.walk_tables.specs.declared.linear.Linear.{Linear}
use Rattle.walk_tables.specs.Choices.{choices_hold}
use Rattle.walk_tables.specs.Zero.{joined}
use Rattle.walk_tables.proofs.Chains.{differs, joined_decided, part_decides}
use Rattle.walk_tables.proofs.series.Series.holds_at.Goals as goal

pub returns-then-holds_at-self : goal.returns-then-holds_at-self
returns-then-holds_at-self c =
    let parts = c.args.self.now.parts.items in
    let count : c.len-count.result ≡ length parts = search rules in
    let part = c.index-part.result.now in
    let m = c.len-count.result - 1 - c.loop-i.i in
    let is : part ≡ get_or parts m part = search rules in
    sym (ap (joined c.args.self.now.is_and (choices_hold c.args.self.now.is_and c.args.self.now.choices.items
    c.args.prefix.now c.args.x c.args.y))
    (part_decides c.args.self.now.is_and (λ (l : Linear). linear_holds l c.args.prefix.now c.args.x c.args.y) parts m
    part
    (omega (arith, count, c.loop-i-test.true))
    (ap (λ (l : Linear). linear_holds l c.args.prefix.now c.args.x c.args.y) (sym is) ∙ sym c.holds_at.ensures
    ∙ differs c.holds_at.result c.args.self.now.is_and c.if-holds_at-self.true))
    ∙ joined_decided c.args.self.now.is_and (choices_hold c.args.self.now.is_and c.args.self.now.choices.items
    c.args.prefix.now c.args.x c.args.y))
