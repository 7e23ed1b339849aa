-- What remains of the path is judged as the whole.
use Rattle.std.proofs.Common.{◌≡◌, ◌↔◌, ℕ, suc, ◌<◌, List, [], ◌∷◌, length, get_or, drop, drop-cons, add-one, IsTrue, Ok, sym, ap, ◌∙◌, subst}
use Rattle.std.proofs.lemmas.List.{drop_all, with_items_is}
use Rattle.std.specs.Vec.{with_items}
use Rattle.def_model.specs.Cuts.{empty_cut, full_cut, one_more}
use Rattle.def_model.specs.Answers.{IsAvoidingObservation}
use Rattle.def_model.specs.Predicates.{test_of}
use Rattle.pd_pred.specs.Views.{predicate_view}
use Rattle.def_model.specs.Paths.{IsAvoidingCut, AvoidsFrom}
use Rattle.def_model.proofs.Counts.{length_more}
use Rattle.def_model.proofs.AvoidingPaths.{refused_here, refused_step, rest_after, ended_full}
use Rattle.pd_evidence.proofs.path.check_path.Goals as goal

pub returns-then-not-branch : goal.returns-then-not-branch
returns-then-not-branch c =
    let test = test_of c.args.computation.now (predicate_view c.args.pred.now) in
    let start : c.deref.result.now ≡ empty_cut c.args.computation.now.events =
    c.deref.ensures.value ∙ c.in_ok-counts.ensures in
    refused_here c.args.computation.now.events test (empty_cut c.args.computation.now.events) c.args.path.now
    (IsAvoidingObservation c.args.computation.now.events test c.args.path.now) c.in_ok-avoids.field-0 (
      λ w. w,
      λ w. w,
    ) (subst (λ (x : List ℕ). IsTrue c.in_ok-avoids.field-0
    ↔ IsAvoidingCut c.args.computation.now.events test x) start c.in_ok-avoids.ensures) c.if-not-branch.true

pub loop-p-init : goal.loop-p-init
loop-p-init c =
    let test = test_of c.args.computation.now (predicate_view c.args.pred.now) in
    let here : IsAvoidingCut c.args.computation.now.events test c.deref.result.now =
    c.in_ok-avoids.ensures.0 c.if-not-branch.false in
    record {
      here = subst (λ (x : List ℕ). IsAvoidingCut c.args.computation.now.events test x) c.deref.ensures.value here;
      rest = subst (λ (x : List ℕ). IsAvoidingObservation c.args.computation.now.events test c.args.path.now
          ↔ AvoidsFrom c.args.computation.now.events test x c.args.path.now) (sym c.in_ok-counts.ensures) (
            λ w. w,
            λ w. w,
          );
    }

pub returns-then-not-branch-2 : goal.returns-then-not-branch-2
returns-then-not-branch-2 c =
    let test = test_of c.args.computation.now (predicate_view c.args.pred.now) in
    let p : ℕ = get_or c.args.path.now c.loop-p.p-index 0 in
    let exact : IsTrue c.in_ok-step.field-0
    ↔ ((p < length c.deref_mut.result.now)
    × IsAvoidingCut c.args.computation.now.events test (one_more c.deref_mut.result.now p)) =
    c.in_ok-step.ensures.exact in
    let split : drop c.loop-p.p-index c.args.path.now ≡ p ∷ drop (suc c.loop-p.p-index) c.args.path.now =
    drop-cons c.args.path.now c.loop-p.p-index 0 c.loop-p-test.true in
    refused_step c.args.computation.now.events test c.loop-p.counts.items p
    (drop (suc c.loop-p.p-index) c.args.path.now)
    (IsAvoidingObservation c.args.computation.now.events test c.args.path.now) c.in_ok-step.field-0
    (subst (λ (xs : List ℕ). IsAvoidingObservation c.args.computation.now.events test c.args.path.now
    ↔ AvoidsFrom c.args.computation.now.events test c.loop-p.counts.items xs) split c.loop-p.invariant.rest)
    c.loop-p.invariant.here (subst (λ (x : List ℕ). IsTrue c.in_ok-step.field-0
    ↔ ((p < length x) × IsAvoidingCut c.args.computation.now.events test (one_more x p))) c.deref_mut.ensures.value
    exact) c.if-not-branch-2.true

pub loop-p-preserved : goal.loop-p-preserved
loop-p-preserved c =
    let test = test_of c.args.computation.now (predicate_view c.args.pred.now) in
    let p : ℕ = get_or c.args.path.now c.loop-p.p-index 0 in
    let exact : IsTrue c.in_ok-step.field-0
    ↔ ((p < length c.deref_mut.result.now)
    × IsAvoidingCut c.args.computation.now.events test (one_more c.deref_mut.result.now p)) =
    c.in_ok-step.ensures.exact in
    let taken : c.step.new.counts ≡ one_more c.deref_mut.result.now p =
    c.in_ok-step.ensures.taken (ap Ok c.if-not-branch-2.false) in
    let good : (p < length c.loop-p.counts.items)
    × IsAvoidingCut c.args.computation.now.events test (one_more c.loop-p.counts.items p) =
    subst (λ (x : List ℕ). (p < length x) × IsAvoidingCut c.args.computation.now.events test (one_more x p))
    c.deref_mut.ensures.value (exact.0 c.if-not-branch-2.false) in
    let new : c.step.new.counts ≡ one_more c.loop-p.counts.items p =
    taken ∙ ap (λ (x : List ℕ). one_more x p) c.deref_mut.ensures.value in
    let count : length c.step.new.counts ≡ c.loop-p.counts.len =
    ap length new ∙ (length_more c.loop-p.counts.items p ∙ sym c.loop-p.counts.ok.0) in
    let kept : one_more c.loop-p.counts.items p ≡ (with_items c.loop-p.counts c.step.new.counts).items =
    sym (with_items_is c.loop-p.counts c.step.new.counts count ∙ new) in
    let split : drop c.loop-p.p-index c.args.path.now ≡ p ∷ drop (suc c.loop-p.p-index) c.args.path.now =
    drop-cons c.args.path.now c.loop-p.p-index 0 c.loop-p-test.true in
    let rest : IsAvoidingObservation c.args.computation.now.events test c.args.path.now
    ↔ AvoidsFrom c.args.computation.now.events test (one_more c.loop-p.counts.items p)
    (drop (suc c.loop-p.p-index) c.args.path.now) =
    rest_after c.args.computation.now.events test c.loop-p.counts.items p
    (drop (suc c.loop-p.p-index) c.args.path.now)
    (IsAvoidingObservation c.args.computation.now.events test c.args.path.now)
    (subst (λ (xs : List ℕ). IsAvoidingObservation c.args.computation.now.events test c.args.path.now
    ↔ AvoidsFrom c.args.computation.now.events test c.loop-p.counts.items xs) split c.loop-p.invariant.rest)
    c.loop-p.invariant.here good.0 in
    record {
      here = subst (λ (x : List ℕ). IsAvoidingCut c.args.computation.now.events test x) kept good.1;
      rest = rw add-one (subst (λ (x : List ℕ). IsAvoidingObservation c.args.computation.now.events test c.args.path.now
          ↔ AvoidsFrom c.args.computation.now.events test x (drop (suc c.loop-p.p-index) c.args.path.now)) kept rest);
    }

pub returns : goal.returns
returns c =
    let test = test_of c.args.computation.now (predicate_view c.args.pred.now) in
    let ended : drop c.loop-p.p-index c.args.path.now ≡ [] =
    drop_all c.loop-p.p-index c.args.path.now c.loop-p-test.false in
    ended_full c.args.computation.now.events test c.loop-p.counts.items
    (IsAvoidingObservation c.args.computation.now.events test c.args.path.now) c.is_full.result
    (subst (λ (xs : List ℕ). IsAvoidingObservation c.args.computation.now.events test c.args.path.now
    ↔ AvoidsFrom c.args.computation.now.events test c.loop-p.counts.items xs) ended c.loop-p.invariant.rest)
    c.loop-p.invariant.here (subst (λ (x : List ℕ). IsTrue c.is_full.result
    ↔ (x ≡ full_cut c.args.computation.now.events)) c.deref-2.ensures.value c.is_full.ensures)
