-- The value is the same at one count more.
use Rattle.std.proofs.Common.{◌≡◌, sym, ap, ◌∙◌, arith}
use Rattle.std.proofs.lemmas.Int.{to_z-of_z}
use Rattle.std.specs.Int.{w64}
use mir.Val.{SFits, to_z}
use Rattle.wide_terms.specs.Changes.{VariableStays}
use Rattle.wide_terms.proofs.Changing.{one_count_more}
use Rattle.wide_terms.proofs.changes.next_change_of.Goals as goal

pub loop-count-preserved : goal.loop-count-preserved
loop-count-preserved c =
    let here : SFits w64 c.value.result = record { sfits = c.value.type_inv } in
    let before : SFits w64 c.value-value.result = record { sfits = c.value-value.type_inv } in
    let same : c.value.result ≡ c.value-value.result =
    sym (to_z-of_z w64 c.value.result here)
    ∙ (ap (to_z w64) c.if-value.false ∙ to_z-of_z w64 c.value-value.result before) in
    one_count_more (λ n. VariableStays c.args.computation.now c.args.process c.args.from n c.args.var) c.args.from
    c.loop-count.count c.loop-count.invariant
    (λ first second at at'. sym (c.value-value.ensures first at) ∙ (sym same ∙ c.value.ensures second at'))

pub returns-clause-stay : goal.returns-clause-stay
returns-clause-stay c = λ n after lt. c.loop-count.invariant n after (omega arith)
