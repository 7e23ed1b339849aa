-- One term more has added its part.
use Rattle.std.proofs.Common.{◌<◌, ◌∙◌, refl, ℤ, List, arith, ap, length, get_or, ◌+ℤ◌, ◌*ℤ◌}
use Rattle.std.specs.Int.{w128}
use Rattle.std.proofs.lemmas.Int.{to_z-of_z}
use Rattle.def_model.specs.Predicates.{state_at}
use Rattle.pd_pred.specs.Trees.{sign_view}
use Rattle.pd_pred.specs.declared.tree.SignedTerm.{SignedTerm}
use Rattle.pd_pred.specs.declared.tree.Sign.TheVariants.{Plus}
use Rattle.pd_pred.specs.declared.tree.Term.TheVariants.{Number}
use Rattle.walk_tables.specs.Parts.{row_at}
use Rattle.walk_tables.proofs.Numbers.{fits_wide, part_added, part_left_out}
use Rattle.walk_tables.proofs.Sums.{signed_step}
use Rattle.walk_tables.proofs.parts.add_terms.Goals as goal
use Rattle.walk_tables.proofs.parts.add_terms.Goals.{in-Some+else-not-add_values, in_default}

abbrev default_term : SignedTerm
default_term = record { sign = Plus; term = Number 0 }

pub loop-signed-preserved : goal.loop-signed-preserved
loop-signed-preserved c =
    let p = c.args.process in
    let side = sign_view c.args.side in
    let index = c.loop-signed.signed-index in
    let terms = c.args.terms.now in
    elim c.match-multiple_of.branch [
      | in-Some+else-not-add_values w ↦ record {
        small = λ k. rw w.row-is (w.if-not-add_values.ensures.small refl k);
        added = λ counts lt.
            let state = state_at c.args.computation.now.initial c.args.computation.now.events counts in
            let below : get_or counts p 0 < length c.loop-signed.row = omega (arith, c.match-multiple_of.auto.row) in
            let wide = fits_wide w.in-Some.factor (omega (arith, w.in-Some.ensures.small)) in
            let factor = to_z-of_z w128 w.in-Some.factor wide in
            part_added (row_at c.match-multiple_of.row (get_or counts p 0))
            (row_at c.loop-signed.row (get_or counts p 0))
            (w.in-Some.factor *ℤ state p w.in-Some.var) _ _ _ _
            (ap (λ (r : List ℤ). row_at r (get_or counts p 0)) w.row-is
            ∙ w.if-not-add_values.ensures.added refl counts below
            ∙ ap (λ (f : ℤ). row_at c.loop-signed.row (get_or counts p 0) +ℤ f *ℤ state p w.in-Some.var) factor)
            (w.in-Some.ensures.value state)
            (signed_step side state p terms index default_term c.loop-signed-test.true)
            (c.loop-signed.invariant.added counts below);
      }
      | in_default w ↦ record {
        small = λ k. rw w.row-is (c.loop-signed.invariant.small k);
        added = λ counts lt.
            let state = state_at c.args.computation.now.initial c.args.computation.now.events counts in
            let below : get_or counts p 0 < length c.loop-signed.row = omega (arith, c.match-multiple_of.auto.row) in
            part_left_out (row_at c.match-multiple_of.row (get_or counts p 0))
            (row_at c.loop-signed.row (get_or counts p 0)) _ _ _ _
            (ap (λ (r : List ℤ). row_at r (get_or counts p 0)) w.row-is) (w.in_default.ensures.value state)
            (signed_step side state p terms index default_term c.loop-signed-test.true)
            (c.loop-signed.invariant.added counts below);
      }
    ]
