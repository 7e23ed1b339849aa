-- The predicates that the texts spell over these names.
use Rattle.std.proofs.Common.{ℕ, List, [], get_or}
use Rattle.std.proofs.lemmas.List.{get_or_default}
use Rattle.std.proofs.lemmas.Result.{err_from_is_err_and}
use Rattle.pd_spec.specs.declared.outline.PredicateOutline.{PredicateOutline}
use Rattle.pd_spec.proofs.PredicateFaults.{fault_at, all_more}
use Rattle.pd_spec.proofs.predicates.parse_all.Goals as goal

abbrev at_place : List PredicateOutline → ℕ → PredicateOutline
at_place predicates i =
    get_or predicates i (record {
      name = record { ref_ptr = (0, 0); now = [] };
      text =
          record { ref_ptr = (0, 0); now = [] };
    })

pub returns-in_err-named-clause-err : goal.returns-in_err-named-clause-err
returns-in_err-named-clause-err c =
    let p = err_from_is_err_and c.from_residual.result c.from_residual.ensures.1 in
    let one : PredicateOutline = at_place c.args.predicates.now c.loop-index.index in
    rw (p.1, p.2)
    (fault_at c.args.names.now c.args.predicates.now c.loop-index.index one c.loop-index.parsed.items
    c.in_err-named.field-0.0 c.loop-index-test.true
    (get_or_default c.args.predicates.now c.loop-index.index _ one c.loop-index-test.true) c.loop-index.invariant
    c.in_err-named.ensures.err)

pub loop-index-preserved : goal.loop-index-preserved
loop-index-preserved c =
    let one : PredicateOutline = at_place c.args.predicates.now c.loop-index.index in
    all_more c.args.names.now c.args.predicates.now c.loop-index.index one c.loop-index.parsed.items
    c.push.new.self.items c.in_ok-named.named c.loop-index-test.true
    (get_or_default c.args.predicates.now c.loop-index.index _ one c.loop-index-test.true) c.loop-index.invariant
    c.in-Ok.ensures.items c.in_ok-named.ensures.ok
