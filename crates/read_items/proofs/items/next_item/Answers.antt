-- Line after line is one of the item, until one divides items or the source ends.
use Rattle.std.proofs.Common.{◌∙◌, ap, not, subst, sym}
use Rattle.std.specs.Prelude.{Option}
use Rattle.read_lines.specs.GivenLines as lines
use Rattle.read_lines.specs.declared.line.Line.{Line}
use Rattle.read_items.proofs.ItemSteps.{breaks_off, handed_on, item_divided, item_longer, last_gives, no_line}
use Rattle.read_items.proofs.items.next_item.Goals as goal

pub returns-then-has_ended-clause-gives : goal.returns-then-has_ended-clause-gives
returns-then-has_ended-clause-gives g c =
    last_gives c.last_item.result c.lines.kept c.args.lines.now c.lines.lines
    (sym c.has_ended.ensures ∙ c.if-has_ended.true) c.lines.invariant c.last_item.ensures.none c.last_item.ensures.some

pub returns-in_err-next-clause-cause : goal.returns-in_err-next-clause-cause
returns-in_err-next-clause-cause g c reported = λ input items has.
    breaks_off input items c.lines.kept c.lines.lines (sym c.has_ended.ensures ∙ c.if-has_ended.false)
    (c.lines.invariant input items has)
    (c.in_err-next.ensures.cause (handed_on c.from_residual.result c.in_err-next.field-0.0 c.from_residual.ensures.1
    reported))

pub returns-in-None-clause-gives : goal.returns-in-None-clause-gives
returns-in-None-clause-gives g c =
    let gives = subst (λ (found : Option Line). lines.Gives found c.lines.lines c.next.new.self) c.in-None.is
    c.in_ok-next.ensures.gives in
    last_gives c.last_item-in-None.result c.lines.kept c.args.lines.now c.next.new.self gives.0
    (λ input items has. no_line input items c.lines.kept c.lines.lines c.next.new.self
    (sym c.has_ended.ensures ∙ c.if-has_ended.false) (c.lines.invariant input items has) gives)
    c.last_item-in-None.ensures.none c.last_item-in-None.ensures.some

pub returns-then-branch-clause-gives : goal.returns-then-branch-clause-gives
returns-then-branch-clause-gives g c = λ input items has.
    item_divided input items c.lines.kept c.take_line.new.self c.in-Some.line c.lines.lines c.next.new.self
    (sym c.has_ended.ensures ∙ c.if-has_ended.false) (c.lines.invariant input items has)
    (subst (λ (found : Option Line). lines.Gives found c.lines.lines c.next.new.self) c.in-Some.is
    c.in_ok-next.ensures.gives) (not c.has_ended-in-Some.result) c.in_ok-take_line-in-Some.field-0
    (ap not c.has_ended-in-Some.ensures) c.in_ok-take_line-in-Some.ensures c.item.result c.if-branch.true c.item.ensures

pub lines-preserved : goal.lines-preserved
lines-preserved g c = λ input items has.
    item_longer input items c.lines.kept c.take_line.new.self c.in-Some.line c.lines.lines c.next.new.self
    (sym c.has_ended.ensures ∙ c.if-has_ended.false) (c.lines.invariant input items has)
    (subst (λ (found : Option Line). lines.Gives found c.lines.lines c.next.new.self) c.in-Some.is
    c.in_ok-next.ensures.gives) (not c.has_ended-in-Some.result) c.in_ok-take_line-in-Some.field-0
    (ap not c.has_ended-in-Some.ensures) c.in_ok-take_line-in-Some.ensures c.if-branch.false
