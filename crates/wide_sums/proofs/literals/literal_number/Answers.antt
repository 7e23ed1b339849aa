-- The comparison was there, or stands after the others.
use Rattle.std.proofs.Common.{List, subst, arith}
use Rattle.wide_sums.specs.Literals.{IsNumberOf, literal_view}
use Rattle.wide_sums.specs.declared.literal.Literal.{Literal}
use Rattle.wide_sums.proofs.Making.{taken_known, taken_new}
use Rattle.wide_sums.proofs.literals.literal_number.Goals as goal

pub returns-in-Some : goal.returns-in-Some
returns-in-Some c =
    taken_known (literal_view c.args.literal) c.args.literals.now.items c.in-Some.number
    (subst (λ (literals : List Literal). IsNumberOf literals (literal_view c.args.literal) c.in-Some.number)
    c.deref.ensures.value c.in-Some.ensures)

pub returns-in_ok-push-in-None : goal.returns-in_ok-push-in-None
returns-in_ok-push-in-None c =
    taken_new c.args.literal c.args.literals.now.items c.push.new.self.items c.len-number.result c.requires
    c.in_ok-push-in-None.ensures.items (omega arith)
