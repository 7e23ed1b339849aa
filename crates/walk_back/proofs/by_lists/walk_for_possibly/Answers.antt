-- The walk for Possibly.
use Rattle.std.proofs.Common.{◌≡◌, ℕ, ◌+◌, Bool, false, List, [], ◌∷◌, ◌++◌, length, All, sym, ap, ◌∙◌, subst, arith, below_more, Ok}
use Rattle.std.proofs.lemmas.List.Elements.{All-contains}
use Rattle.def_model.specs.Answers.{IsListOf, MoreThan, IsPossiblyAnswer, PossiblyYes}
use Rattle.def_model.specs.Cuts.{IsConsistent, IsNextOf, IsOfLevel, empty_cut}
use Rattle.def_model.specs.Events.{Computation}
use Rattle.def_model.specs.Predicates.{test_of}
use Rattle.def_model.specs.Walks.{NoneBelow}
use Rattle.def_model.proofs.ListedCuts.{level_consistent}
use Rattle.walk_back.proofs.LevelLists.{only_read}
use Rattle.pd_level.specs.Levels.{Levelled}
use Rattle.pd_pred.specs.Views.{predicate_view}
use Rattle.walk_back.specs.Answers.{IsFirstIn}
use Rattle.walk_back.proofs.by_lists.walk_for_possibly.Goals as goal

-- one level more with no satisfying cut
none_more : (c : Computation) (test : List ℕ → Bool) (k : ℕ) (cuts : List (List ℕ)) → IsListOf (IsOfLevel c k) cuts
    → NoneBelow c test k → All (λ x. test x ≡ false) cuts → NoneBelow c test (k + 1)
none_more c test k cuts list none fails j cut lt level =
    below_more (λ i. IsOfLevel c i cut → test cut ≡ false) k (λ i h. none i cut h)
    (λ at. All-contains (λ x. test x ≡ false) cuts cut fails ((list.just cut).1 at)) j lt level

pub loop-k-init : goal.loop-k-init
loop-k-init g c =
    let e : c.in_ok-first.first.cuts ≡ empty_cut c.args.computation.now.events ∷ [] =
    ap (λ (l : Levelled). l.cuts) c.in_ok-first.ensures in
    let one : length c.in_ok-first.first.cuts ≡ 1 = ap length e in
    let only : c.walk.new.self.walked.items ≡ c.in_ok-first.first ∷ [] =
    c.in_ok-walk.ensures.walked ∙ ap (λ (ls : List Levelled). ls ++ c.in_ok-first.first ∷ []) c.requires.fresh in
    record {
      walked = c.in_ok-first.first;
      only = only;
      list = subst (λ (cuts : List (List ℕ)). IsListOf (IsOfLevel c.args.computation.now.events 0) cuts) (sym e)
          (c.levels.ensures.first c.args.computation.now.events);
      narrow = omega arith;
      below = λ j lt. absurd (omega arith);
      none = λ j cut lt. absurd (omega arith);
      levels = c.walk.ensures.levels;
      beside = c.walk.ensures.beside;
      no_fewer = omega (arith, c.in_ok-walk.ensures.most);
      most = omega (arith, c.in_ok-walk.ensures.most, ap length only);
    }

pub first_satisfying-requires : goal.first_satisfying-requires
first_satisfying-requires g c = (
  c.type_bounds.sync-T,
  (
    c.type_bounds.sync-G,
    subst (λ (l : Levelled). All (IsConsistent c.args.computation.now.events) l.cuts)
        (sym (only_read c.loop-k.held.walked.items c.loop-k.invariant.walked c.at-level.result.now
        c.loop-k.invariant.only c.at-level.ensures))
        (level_consistent c.args.computation.now.events c.loop-k.k c.loop-k.invariant.walked.cuts
        c.loop-k.invariant.list),
  ),
)

pub next-requires-clause-cuts : goal.next-requires-clause-cuts
next-requires-clause-cuts g c _ _ =
    subst (λ (l : Levelled). All (IsConsistent c.args.computation.now.events) l.cuts)
    (sym (only_read c.loop-k.held.walked.items c.loop-k.invariant.walked c.at-level.result.now
    c.loop-k.invariant.only c.at-level.ensures))
    (level_consistent c.args.computation.now.events c.loop-k.k c.loop-k.invariant.walked.cuts c.loop-k.invariant.list)

pub returns-in-Some-clause-answer : goal.returns-in-Some-clause-answer
returns-in-Some-clause-answer g c =
    let at : c.at-level.result.now ≡ c.loop-k.invariant.walked =
    only_read c.loop-k.held.walked.items c.loop-k.invariant.walked c.at-level.result.now c.loop-k.invariant.only
    c.at-level.ensures in
    let w : IsFirstIn (test_of c.args.computation.now (predicate_view c.args.pred.now)) c.loop-k.invariant.walked.cuts
    c.in-Some.cut =
    subst (λ (l : Levelled). IsFirstIn (test_of c.args.computation.now (predicate_view c.args.pred.now)) l.cuts
    c.in-Some.cut) at (rw c.in-Some.is at c.in_ok-cut.ensures.found) in
    subst (λ (x : List ℕ). IsPossiblyAnswer c.args.computation.now.events
    (test_of c.args.computation.now (predicate_view c.args.pred.now)) c.args.width (PossiblyYes x)) w.2
    (c.possibly_walk.ensures.found c.args.computation.now.events
    (test_of c.args.computation.now (predicate_view c.args.pred.now)) c.args.width c.loop-k.k
    c.loop-k.invariant.below c.loop-k.invariant.none c.loop-k.invariant.walked.cuts c.loop-k.invariant.list
    c.loop-k.invariant.narrow w.0 w.1 (ap (test_of c.args.computation.now (predicate_view c.args.pred.now)) w.2
    ∙ w.3) w.4)

pub returns-in-None-2-clause-answer : goal.returns-in-None-2-clause-answer
returns-in-None-2-clause-answer g c =
    let at : c.at-level.result.now ≡ c.loop-k.invariant.walked =
    only_read c.loop-k.held.walked.items c.loop-k.invariant.walked c.at-level.result.now c.loop-k.invariant.only
    c.at-level.ensures in
    let fails : All (λ x. test_of c.args.computation.now (predicate_view c.args.pred.now) x ≡ false)
    c.loop-k.invariant.walked.cuts =
    subst (λ (l : Levelled). All (λ x. test_of c.args.computation.now (predicate_view c.args.pred.now) x ≡ false)
    l.cuts) at (rw c.in-None.is at c.in_ok-cut.ensures.none) in
    let wide = rw c.in-None-2.is at c.in_ok-next.ensures.found in
    record {
      wide = c.possibly_walk.ensures.wide c.args.computation.now.events c.limits.ensures.acyclic c.args.width c.loop-k.k
          c.loop-k.invariant.walked.cuts c.loop-k.invariant.list
          (subst (λ (l : Levelled). MoreThan c.args.width (IsNextOf c.args.computation.now.events l.cuts)) at
          (c.next.ensures.wide wide));
      least = below_more (λ (j : ℕ). ¬ MoreThan c.args.width (IsOfLevel c.args.computation.now.events j)) c.loop-k.k
          c.loop-k.invariant.below (c.possibly_walk.ensures.short c.args.computation.now.events c.args.width c.loop-k.k
          c.loop-k.invariant.walked.cuts c.loop-k.invariant.list c.loop-k.invariant.narrow);
      none_below =
          none_more c.args.computation.now.events (test_of c.args.computation.now (predicate_view c.args.pred.now))
          c.loop-k.k c.loop-k.invariant.walked.cuts c.loop-k.invariant.list c.loop-k.invariant.none fails;
    }

pub go_to-requires : goal.go_to-requires
go_to-requires g c = record { one = ap length c.loop-k.invariant.only }

pub loop-k-preserved : goal.loop-k-preserved
loop-k-preserved g c =
    let at : c.at-level.result.now ≡ c.loop-k.invariant.walked =
    only_read c.loop-k.held.walked.items c.loop-k.invariant.walked c.at-level.result.now c.loop-k.invariant.only
    c.at-level.ensures in
    let fails : All (λ x. test_of c.args.computation.now (predicate_view c.args.pred.now) x ≡ false)
    c.loop-k.invariant.walked.cuts =
    subst (λ (l : Levelled). All (λ x. test_of c.args.computation.now (predicate_view c.args.pred.now) x ≡ false)
    l.cuts) at (rw c.in-None.is at c.in_ok-cut.ensures.none) in
    let made : c.next.result ≡ Ok c.in-Some-2.next = rw c.in-Some-2.is at c.in_ok-next.ensures.found in
    let list : IsListOf (IsNextOf c.args.computation.now.events c.loop-k.invariant.walked.cuts) c.in-Some-2.next.cuts =
    subst (λ (l : Levelled). IsListOf (IsNextOf c.args.computation.now.events l.cuts) c.in-Some-2.next.cuts) at
    (rw made at c.next.ensures.list) in
    record {
      walked = c.in-Some-2.next;
      only = c.in_ok-go_to-in-Some-2.ensures.walked;
      list = c.levels.ensures.next c.args.computation.now.events c.limits.ensures.acyclic c.loop-k.k
          c.loop-k.invariant.walked.cuts c.in-Some-2.next.cuts c.loop-k.invariant.list list;
      narrow = rw made at c.next.ensures.narrow;
      below = below_more (λ (j : ℕ). ¬ MoreThan c.args.width (IsOfLevel c.args.computation.now.events j)) c.loop-k.k
          c.loop-k.invariant.below (c.possibly_walk.ensures.short c.args.computation.now.events c.args.width c.loop-k.k
          c.loop-k.invariant.walked.cuts c.loop-k.invariant.list c.loop-k.invariant.narrow);
      none = none_more c.args.computation.now.events (test_of c.args.computation.now (predicate_view c.args.pred.now))
          c.loop-k.k c.loop-k.invariant.walked.cuts c.loop-k.invariant.list c.loop-k.invariant.none fails;
      levels = c.go_to.ensures.levels ∙ c.loop-k.invariant.levels;
      beside = c.go_to.ensures.beside ∙ c.loop-k.invariant.beside;
      no_fewer = omega (arith, c.in_ok-go_to-in-Some-2.ensures.most, c.loop-k.invariant.no_fewer);
      most = omega (
        arith,
        c.in_ok-go_to-in-Some-2.ensures.most,
        c.loop-k.invariant.most,
        ap length c.loop-k.invariant.levels,
        c.loop-k.invariant.beside,
      );
    }

pub returns-clause-answer : goal.returns-clause-answer
returns-clause-answer g c =
    c.possibly_walk.ensures.none c.args.computation.now.events
    (test_of c.args.computation.now (predicate_view c.args.pred.now)) c.args.width c.loop-k.k
    c.loop-k.invariant.below c.loop-k.invariant.none (omega (arith, c.total-total.ensures.sum))
