-- Of level 0 the empty cut is left, if it doesn't satisfy.
use Rattle.std.proofs.Common.{◌≡◌, ℕ, Bool, List, [], ◌∷◌, false, filter, length, not, All, IfSome, slice_get, sym, ap, ◌∙◌, subst, arith}
use Rattle.def_model.specs.Cuts.{IsConsistent, empty_cut}
use Rattle.def_model.specs.Predicates.{test_of}
use Rattle.pd_pred.specs.Views.{predicate_view}
use Rattle.pd_level.specs.Levels.{Levelled, kept_by}
use Rattle.def_model.proofs.ListedCuts.{level_consistent}
use Rattle.walk_back.proofs.LevelLists.{list_at, one_kept}
use Rattle.walk_back.proofs.avoiding.first_avoiding.Goals as goal

pub holds-mark-requires-clause-within : goal.holds-mark-requires-clause-within
holds-mark-requires-clause-within c =
    let one : length c.in_ok-level.level.cuts ≡ 1 = ap (λ (l : Levelled). length l.cuts) c.in_ok-level.ensures in
    omega (arith, one)

pub holds-mark-requires-clause-cuts : goal.holds-mark-requires-clause-cuts
holds-mark-requires-clause-cuts c =
    subst (λ (l : Levelled). All (IsConsistent c.args.computation.now.events) l.cuts) (sym c.in_ok-level.ensures)
    (level_consistent c.args.computation.now.events 0 (empty_cut c.args.computation.now.events ∷ [])
    (c.levels.ensures.first c.args.computation.now.events))

pub keep-requires : goal.keep-requires
keep-requires c = sym (ap (λ (l : Levelled). length l.cuts) c.in_ok-level.ensures)

pub returns-clause-list : goal.returns-clause-list
returns-clause-list c =
    let test : List ℕ → Bool = test_of c.args.computation.now (predicate_view c.args.pred.now) in
    let empty : List ℕ = empty_cut c.args.computation.now.events in
    list_at c.args.computation.now.events test c.keep.new.self 0 (filter (λ cut. not (test cut)) (empty ∷ []))
    (c.keep.ensures.number ∙ ap (λ (l : Levelled). l.number) c.in_ok-level.ensures)
    (c.keep.ensures.cuts ∙ (ap (λ (l : Levelled). kept_by false (c.holds-mark.result ∷ []) l.cuts) c.in_ok-level.ensures
    ∙ one_kept test empty c.holds-mark.result
    (subst (λ (l : Levelled). IfSome (slice_get l.cuts 0) (λ cut. c.holds-mark.result ≡ test cut)) c.in_ok-level.ensures
    c.holds-mark.ensures)))
    (c.avoiding_levels.ensures.first c.args.computation.now.events test)
