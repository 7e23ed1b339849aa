-- The truths up to the next change were found.
use Rattle.std.proofs.Common.{◌≡◌, ◌<◌, ◌≤◌, ◌⊎◌, ◌++◌, ℕ, List, drop, false, get_or, length, take, sym, ap, ◌∙◌, subst, arith}
use Rattle.def_model.specs.Cuts.{FitsProcesses}
use Rattle.def_model.specs.Predicates.{test_of}
use Rattle.pd_pred.specs.Trees.{tree_view}
use Rattle.wide_terms.specs.Rows.{turned}
use Rattle.wide_terms.specs.Truths.{truth_at}
use Rattle.wide_terms.proofs.RowSteps.{none_left, truths_more, written}
use Rattle.wide_terms.proofs.row.row_by.Goals as goal

pub loop-from-preserved : goal.loop-from-preserved
loop-from-preserved c =
    let r = c.args.computation.now in
    let tree = tree_view c.args.tree.now in
    let from = c.loop-from.from in
    let to = c.next_change-to.result in
    let old = c.loop-from.words.items in
    let new = c.put_run.new.words in
    let here = c.truth_with.new.counts in
    let counts : take c.loop-from.counts.len (here ++ drop (length here) c.loop-from.counts.items) ≡ here =
    written here (drop (length here) c.loop-from.counts.items) c.loop-from.counts.len
    (omega (
      arith,
      c.in_ok-truth.ensures.fits.one_each,
      c.loop-from.invariant.fits.one_each,
      ap length c.deref_mut.ensures.value,
      c.deref_mut.ensures.len,
    )) in
    let words : take c.loop-from.words.len (new ++ drop (length new) old) ≡ new =
    written new (drop (length new) old) c.loop-from.words.len
    (omega (arith, c.put_run.ensures.same, c.deref_mut-in-loop-from.ensures.len)) in
    let outside : (k : ℕ) → (k < from) ⊎ (to ≤ k) → truth_at new k ≡ truth_at old k = λ k apart.
    c.put_run.ensures.outside k apart
    ∙ ap (λ (xs : List ℕ). truth_at xs k) c.deref_mut-in-loop-from.ensures.value in
    record {
      fits = subst (FitsProcesses r.events) (sym counts) c.in_ok-truth.ensures.fits;
      within = c.next_change-to.ensures.within;
      many = ap length words
          ∙ (c.put_run.ensures.same
          ∙ (ap length c.deref_mut-in-loop-from.ensures.value ∙ c.loop-from.invariant.many));
      truths = subst
          (λ (xs : List ℕ). (k : ℕ) (cut : List ℕ) → k < to → FitsProcesses r.events cut
          → get_or cut c.args.process 0 ≡ k → truth_at xs k ≡ turned c.args.negated (test_of r tree cut)) (sym words)
          (truths_more r c.args.negated tree c.args.process from to c.args.vars.now old new here c.in_ok-truth.truth
          c.requires.depends c.requires.vars c.in_ok-truth.ensures.fits c.in_ok-truth.ensures.at
          c.in_ok-truth.ensures.truth c.next_change-to.ensures.stay c.put_run.ensures.inside outside
          c.loop-from.invariant.truths);
      none = subst (λ (xs : List ℕ). (k : ℕ) → to ≤ k → truth_at xs k ≡ false) (sym words)
          (none_left r c.args.negated tree c.args.process from to c.args.vars.now old new here c.in_ok-truth.truth
          c.requires.depends c.requires.vars c.in_ok-truth.ensures.fits c.in_ok-truth.ensures.at
          c.in_ok-truth.ensures.truth c.next_change-to.ensures.stay c.put_run.ensures.inside outside
          c.next_change-to.ensures.after c.loop-from.invariant.none);
    }
