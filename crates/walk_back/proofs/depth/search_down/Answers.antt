-- The search depth first.
use Rattle.std.proofs.Common.{◌≡◌, ℕ, ◌+◌, ◌<◌, ◌≤◌, List, [], ◌∷◌, ◌++◌, length, get_or, sum, refl, sym, ◌∙◌, ap, subst, arith}
use Rattle.def_model.specs.Cuts.{one_less, one_more}
use Rattle.def_model.specs.Events.{event_count}
use Rattle.def_format.specs.Limits.{event_limit}
use Rattle.def_model.specs.Observations.{IsAvoiding}
use Rattle.def_model.specs.Predicates.{test_of}
use Rattle.pd_pred.specs.Views.{predicate_view}
use Rattle.def_model.proofs.Counts.{sum_less}
use Rattle.walk_back.specs.Searches.{AreDead, IsSearched, IsWorthTrying}
use Rattle.walk_back.specs.Ways.{IsReached}
use Rattle.walk_back.proofs.Reaching.{reached_counts}
use Rattle.walk_back.proofs.Searching.{searched_dead, searched_first, searched_found, searched_pop, searched_push, searched_room, still_dead}
use Rattle.walk_back.proofs.depth.search_down.Goals as goal

pub same_cut-cut-requires : goal.same_cut-cut-requires
same_cut-cut-requires c =
    let count : length c.args.top.now ≡ length c.args.computation.now.events =
    reached_counts c.args.computation.now.events (test_of c.args.computation.now (predicate_view c.args.pred.now))
    c.args.path.now.items c.args.top.now c.requires.reached in
    omega (arith, c.limits.ensures.few)

pub loop-init : goal.loop-init
loop-init c =
    record {
      dead = subst (λ (numbers : List ℕ). AreDead c.args.computation.now.events (test_of c.args.computation.now
          (predicate_view c.args.pred.now)) numbers) (sym c.new-dead.ensures)
          (λ i d lt. absurd (omega arith));
      searched = subst (λ (cut : List ℕ). IsSearched c.args.computation.now.events (test_of c.args.computation.now
          (predicate_view c.args.pred.now)) c.args.path.now.items c.args.kept.now.number c.args.k
          c.args.top.now cut 0 c.new-steps.result.items) (sym c.same_cut-cut.ensures)
          (subst (λ (steps : List ℕ). IsSearched c.args.computation.now.events (test_of c.args.computation.now
          (predicate_view c.args.pred.now)) c.args.path.now.items c.args.kept.now.number c.args.k
          c.args.top.now c.args.top.now 0 steps) (sym c.new-steps.ensures.items)
          (searched_first c.args.computation.now.events (test_of c.args.computation.now (predicate_view
          c.args.pred.now)) c.args.path.now.items c.args.kept.now.number c.args.k c.args.top.now
          c.requires.reached c.requires.number c.requires.above));
      within = omega arith;
      same = refl;
    }

pub next_step-p-requires-clause-dead : goal.next_step-p-requires-clause-dead
next_step-p-requires-clause-dead c = c.loop.invariant.dead

pub next_step-p-requires-clause-consistent : goal.next_step-p-requires-clause-consistent
next_step-p-requires-clause-consistent c = c.loop.invariant.searched.here.here.0

pub returns-then-level-number-clause-found : goal.returns-then-level-number-clause-found
returns-then-level-number-clause-found c =
    let count : length c.loop.cut ≡ length c.args.computation.now.events =
    c.loop.invariant.searched.here.here.0.fits.one_each in
    let inside : c.next_step-p.result < length c.loop.cut =
    omega (arith, c.if-p-processes.true, c.processes.ensures) in
    let worth : IsWorthTrying c.args.computation.now.events (test_of c.args.computation.now (predicate_view
    c.args.pred.now)) c.args.kept.now.number c.loop.cut c.next_step-p.result =
    c.next_step-p.ensures.worth_trying inside in
    let less : c.undo.new.self ≡ one_less c.loop.cut c.next_step-p.result = c.undo.ensures in
    let fewer : sum (one_less c.loop.cut c.next_step-p.result) + 1 ≡ sum c.loop.cut =
    sum_less c.loop.cut c.next_step-p.result worth.leaves.0 in
    let level : sum c.loop.cut + length c.loop.steps.items ≡ c.args.k = c.loop.invariant.searched.here.level in
    let here : sum c.loop.cut ≡ c.args.kept.now.number + 1 =
    omega (arith, c.if-level-number.true, c.number-then-p-processes.ensures, c.len.ensures) in
    let pushed : c.push.new.self.items ≡ c.loop.steps.items ++ c.next_step-p.result ∷ [] =
    c.in_ok-push.ensures.items in
    let longer : c.extend_from_slice.new.self.items
    ≡ c.args.path.now.items ++ (c.loop.steps.items ++ c.next_step-p.result ∷ []) =
    c.in_ok-extend_from_slice.ensures.items
    ∙ (ap (λ (steps : List ℕ). c.loop.path.items ++ steps) (c.deref.ensures.value ∙ pushed)
    ∙ ap (λ (path : List ℕ). path ++ (c.loop.steps.items ++ c.next_step-p.result ∷ [])) c.loop.invariant.same) in (
      subst (λ (cut : List ℕ). IsReached c.args.computation.now.events (test_of c.args.computation.now (predicate_view
          c.args.pred.now)) c.extend_from_slice.new.self.items cut) (sym less)
          (subst (λ (path : List ℕ). IsReached c.args.computation.now.events (test_of c.args.computation.now
          (predicate_view c.args.pred.now)) path (one_less c.loop.cut c.next_step-p.result)) (sym longer)
          (searched_found c.args.computation.now.events (test_of c.args.computation.now (predicate_view
          c.args.pred.now)) c.args.path.now.items c.args.kept.now.number c.args.k c.args.top.now c.loop.cut
          c.next_step-p.result c.loop.steps.items c.loop.next c.loop.invariant.searched
          c.next_step-p.ensures.tried worth here)),
      ap sum less ∙ (omega arith),
    )

pub loop-preserved-then-p-processes : goal.loop-preserved-then-p-processes
loop-preserved-then-p-processes c =
    let count : length c.loop.cut ≡ length c.args.computation.now.events =
    c.loop.invariant.searched.here.here.0.fits.one_each in
    let inside : c.next_step-p.result < length c.loop.cut =
    omega (arith, c.if-p-processes.true, c.processes.ensures) in
    let worth : IsWorthTrying c.args.computation.now.events (test_of c.args.computation.now (predicate_view
    c.args.pred.now)) c.args.kept.now.number c.loop.cut c.next_step-p.result =
    c.next_step-p.ensures.worth_trying inside in
    let above : c.args.kept.now.number + (length c.loop.steps.items + 1) < c.args.k =
    omega (
      arith,
      c.if-level-number.false,
      c.number-then-p-processes.ensures,
      c.len.ensures,
      c.loop.invariant.searched.above,
    ) in
    let stepped : c.push.new.self.items ≡ c.loop.steps.items ++ c.next_step-p.result ∷ [] =
    c.in_ok-push.ensures.items in
    record {
      dead = c.loop.invariant.dead;
      searched = subst (λ (cut : List ℕ). IsSearched c.args.computation.now.events (test_of c.args.computation.now
          (predicate_view c.args.pred.now)) c.args.path.now.items c.args.kept.now.number c.args.k
          c.args.top.now cut 0 c.push.new.self.items) (sym c.undo.ensures)
          (subst (λ (steps : List ℕ). IsSearched c.args.computation.now.events (test_of c.args.computation.now
          (predicate_view c.args.pred.now)) c.args.path.now.items c.args.kept.now.number c.args.k
          c.args.top.now (one_less c.loop.cut c.next_step-p.result) 0 steps) (sym stepped)
          (searched_push c.args.computation.now.events (test_of c.args.computation.now (predicate_view
          c.args.pred.now)) c.args.path.now.items c.args.kept.now.number c.args.k c.args.top.now c.loop.cut
          c.next_step-p.result c.loop.steps.items c.loop.next c.loop.invariant.searched inside
          c.next_step-p.ensures.tried worth above));
      within = omega arith;
      same = c.loop.invariant.same;
    }

pub redo-requires-clause-there : goal.redo-requires-clause-there
redo-requires-clause-there c =
    let stepped : c.loop.steps.items ≡ c.pop.new.self.items ++ c.in-Some.tried ∷ [] =
    rw c.in-Some.is at c.pop.ensures.items in
    (searched_room c.args.computation.now.events (test_of c.args.computation.now (predicate_view c.args.pred.now))
    c.args.path.now.items c.args.kept.now.number c.args.k c.args.top.now c.loop.cut c.loop.next
    c.pop.new.self.items c.in-Some.tried
    (subst (λ (steps : List ℕ). IsSearched c.args.computation.now.events (test_of c.args.computation.now
    (predicate_view c.args.pred.now)) c.args.path.now.items c.args.kept.now.number c.args.k c.args.top.now
    c.loop.cut c.loop.next steps) stepped c.loop.invariant.searched)).0

pub redo-requires-clause-room : goal.redo-requires-clause-room
redo-requires-clause-room c =
    let stepped : c.loop.steps.items ≡ c.pop.new.self.items ++ c.in-Some.tried ∷ [] =
    rw c.in-Some.is at c.pop.ensures.items in
    let below : get_or c.loop.cut c.in-Some.tried 0 < event_count c.args.computation.now.events c.in-Some.tried =
    (searched_room c.args.computation.now.events (test_of c.args.computation.now (predicate_view c.args.pred.now))
    c.args.path.now.items c.args.kept.now.number c.args.k c.args.top.now c.loop.cut c.loop.next
    c.pop.new.self.items c.in-Some.tried
    (subst (λ (steps : List ℕ). IsSearched c.args.computation.now.events (test_of c.args.computation.now
    (predicate_view c.args.pred.now)) c.args.path.now.items c.args.kept.now.number c.args.k c.args.top.now
    c.loop.cut c.loop.next steps) stepped c.loop.invariant.searched)).1 in
    let short : event_count c.args.computation.now.events c.in-Some.tried ≤ event_limit = c.limits.ensures.short
    c.in-Some.tried in
    omega (arith, below, short)

pub loop-preserved : goal.loop-preserved
loop-preserved c =
    let count : length c.loop.cut ≡ length c.args.computation.now.events =
    c.loop.invariant.searched.here.here.0.fits.one_each in
    let stepped : c.loop.steps.items ≡ c.pop.new.self.items ++ c.in-Some.tried ∷ [] =
    rw c.in-Some.is at c.pop.ensures.items in
    let none : ¬ IsAvoiding c.args.computation.now.events (test_of c.args.computation.now (predicate_view
    c.args.pred.now)) (sum c.loop.cut) c.loop.cut =
    searched_dead c.args.computation.now.events (test_of c.args.computation.now (predicate_view c.args.pred.now))
    c.args.path.now.items c.args.kept.now.number c.args.k c.args.top.now c.loop.cut c.loop.next
    c.loop.steps.items c.loop.invariant.searched
    (λ q lt. c.next_step-p.ensures.tried q (omega (arith, c.if-p-processes.false, c.processes.ensures))) in
    let popped : IsSearched c.args.computation.now.events (test_of c.args.computation.now (predicate_view
    c.args.pred.now)) c.args.path.now.items c.args.kept.now.number c.args.k c.args.top.now
    (one_more c.loop.cut c.in-Some.tried) c.in-Some.tried c.pop.new.self.items =
    searched_pop c.args.computation.now.events (test_of c.args.computation.now (predicate_view c.args.pred.now))
    c.args.path.now.items c.args.kept.now.number c.args.k c.args.top.now c.loop.cut c.loop.next
    c.pop.new.self.items c.in-Some.tried
    (subst (λ (steps : List ℕ). IsSearched c.args.computation.now.events (test_of c.args.computation.now
    (predicate_view c.args.pred.now)) c.args.path.now.items c.args.kept.now.number c.args.k c.args.top.now
    c.loop.cut c.loop.next steps) stepped c.loop.invariant.searched) in
    let back : IsSearched c.args.computation.now.events (test_of c.args.computation.now (predicate_view
    c.args.pred.now)) c.args.path.now.items c.args.kept.now.number c.args.k c.args.top.now
    c.redo.new.self c.in-Some.tried c.pop.new.self.items =
    subst (λ (cut : List ℕ). IsSearched c.args.computation.now.events (test_of c.args.computation.now (predicate_view
    c.args.pred.now)) c.args.path.now.items c.args.kept.now.number c.args.k c.args.top.now
    cut c.in-Some.tried c.pop.new.self.items) (sym c.redo.ensures) popped in
    record {
      dead = still_dead c.args.computation.now.events (test_of c.args.computation.now (predicate_view
          c.args.pred.now)) c.loop.dead c.add.new.self c.loop.cut c.loop.invariant.dead none count
          c.in_ok-add.ensures;
      searched = back;
      within = back.here.within;
      same = c.loop.invariant.same;
    }
