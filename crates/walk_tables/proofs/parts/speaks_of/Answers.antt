-- A sum has no term of a process if none of its terms has.
use Rattle.std.proofs.Common.{arith, ◌∙◌, sym}
use Rattle.std.proofs.lemmas.Int.{ints}
use Rattle.pd_pred.specs.declared.tree.SignedTerm.{SignedTerm}
use Rattle.pd_pred.specs.declared.tree.Sign.TheVariants.{Plus}
use Rattle.pd_pred.specs.declared.tree.Term.TheVariants.{Number}
use Rattle.walk_tables.proofs.Sums.{none_then, parts_step}
use Rattle.walk_tables.proofs.parts.speaks_of.Goals as goal

default_term : SignedTerm
default_term = record { sign = Plus; term = Number 0 }

pub loop-signed-preserved : goal.loop-signed-preserved
unfolding default_term
loop-signed-preserved c =
    λ state rest.
    let none =
    none_then _ c.multiple_of.result (sym c.is_some.ensures ∙ c.if-is_some.false) (c.multiple_of.ensures.value state) in
    let step =
    parts_step state c.args.process c.args.terms.now c.loop-signed.signed-index default_term c.loop-signed-test.true in
    c.loop-signed.invariant state (omega (arith, ints, none, step, rest))
