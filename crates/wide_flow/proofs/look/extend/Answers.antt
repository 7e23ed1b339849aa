-- The payers of one process more were looked at.
use Rattle.std.proofs.Common.{◌≡◌, ◌+◌, ◌<◌, ◌≤◌, max, ℕ, List, get_or, length, sym, ap, ◌∙◌, subst, arith}
use Rattle.std.proofs.lemmas.List.{get_or_read}
use Rattle.wide_flow.specs.declared.reach.Reached.{Reached}
use Rattle.wide_flow.specs.Steps.{IsPast}
use Rattle.wide_flow.specs.Rows.{row_of}
use Rattle.wide_flow.specs.Searches.{AreInPast, AreLookedAt, AreRaised, no_reached, reached_at}
use Rattle.wide_flow.proofs.ReachSteps.{goes_on_both}
use Rattle.wide_flow.proofs.SearchSteps.{raised_more}
use Rattle.wide_flow.proofs.look.extend.Goals as goal
use Rattle.wide_flow.proofs.look.extend.Goals.{After-index}

here : (c : After-index) → c.index.result.now ≡ reached_at c.args.reached.now.items c.args.at
here c = get_or_read c.args.reached.now.items c.args.at _ c.requires.there c.index.ensures no_reached

pub many_in_past-many-requires-clause-there : goal.many_in_past-many-requires-clause-there
many_in_past-many-requires-clause-there c =
    subst (λ (r : Reached). r.step < length c.args.steps.now)
    (sym (here (goal.at.many_in_past-many-requires-clause-there c).After-index))
    (c.requires.reached.there c.args.at c.requires.there)

pub look_between-requires-clause-past : goal.look_between-requires-clause-past
look_between-requires-clause-past c = λ k le lt.
    let steps = c.args.steps.now in
    let less : k < c.many_in_past-many.result = omega (arith, le, lt, c.max-end.ensures) in
    let same : c.index.result.now ≡ reached_at c.loop-process.reached.items c.args.at =
    here (goal.at.look_between-requires-clause-past c).After-index
    ∙ sym (c.loop-process.invariant.on.same c.args.at c.requires.there) in
    subst (λ (s : List ℕ × Reached). IsPast steps (get_or s.0 k 0) s.1.step)
    (λ i. (sym c.row-row.ensures i, same i)) (c.many_in_past-many.ensures.past k less)

pub loop-process-preserved : goal.loop-process-preserved
loop-process-preserved c =
    let steps = c.args.steps.now in
    let n = c.loop-process.process in
    let loop = c.loop-process.invariant in
    let row = row_of c.args.rows.now n in
    let reached = c.look_between.new.reached.items in
    let many = c.many_in_past-many.result in
    let end = c.max-end.result in
    let there : n < length c.loop-process.tops.items = omega (arith, c.loop-process-test.true, loop.raised.one_each) in
    let top : c.index-top.result.now ≡ get_or c.loop-process.tops.items n 0 =
    get_or_read c.loop-process.tops.items n _ there c.index-top.ensures 0 in
    let is : end ≡ max many (get_or c.loop-process.tops.items n 0) = c.max-end.ensures ∙ ap (max many) top in
    let old : get_or c.loop-process.tops.items n 0 ≡ get_or c.args.tops.now.items n 0 =
    loop.raised.rest n (omega arith) c.loop-process-test.true in
    let past : AreInPast steps row c.index.result.now.step many = c.many_in_past-many.ensures in
    let fits : many ≤ length row = past.within in
    let low : get_or c.args.tops.now.items n 0 ≤ length row = c.requires.within n c.loop-process-test.true in
    let found : AreLookedAt c.args.flow.now reached c.row-row.result.now c.index-top.result.now end =
    rw c.in-None-found.is at c.in_ok-found.ensures.found in
    record {
      reached = c.in_ok-found.ensures.reached;
      on =
          goes_on_both c.args.reached.now.items c.loop-process.reached.items reached loop.on c.in_ok-found.ensures.on;
      raised =
          subst
          (λ (xs : List ℕ).
          AreRaised (length c.args.rows.now) steps c.args.rows.now c.args.flow.now reached c.index.result.now.step
          c.args.tops.now.items xs (n + 1))
          (sym c.set_at.ensures)
          (raised_more (length c.args.rows.now) steps c.args.rows.now c.args.flow.now c.loop-process.reached.items
          reached c.index.result.now.step c.args.tops.now.items c.loop-process.tops.items n end
          loop.raised c.in_ok-found.ensures.on
          c.loop-process-test.true
          (record {
            up = omega (arith, is, old);
            within = omega (arith, is, old, fits, low);
            looked =
                subst (λ (s : List ℕ × ℕ). AreLookedAt c.args.flow.now reached s.0 s.1 end)
                (λ i. (c.row-row.ensures i, (top ∙ old) i)) found;
            past = λ k le lt. past.past k (omega (arith, is, old, le, lt));
            all = λ k lt inside. let less : k < many = past.all k lt inside in omega (arith, is, less);
          }));
    }
