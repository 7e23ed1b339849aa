-- The way back, one step at a time.
use Rattle.std.proofs.Common.{◌≡◌, ℕ, ◌+◌, ◌<◌, Bool, List, [], ◌∷◌, ◌++◌, length, sum, sym, subst, ◌↔◌, arith, append_assoc, append-nil}
use Rattle.def_model.specs.Answers.{IsUndoing, LeavesAvoiding}
use Rattle.def_model.specs.Cuts.{IsConsistent, IsOfLevel, empty_cut, full_cut, one_less, total}
use Rattle.def_model.specs.Events.{Computation}
use Rattle.def_model.specs.Observations.{IsAvoiding}
use Rattle.def_model.specs.Order.{HasNoCycle}
use Rattle.def_model.specs.Walks.{NoneBelow}
use Rattle.def_model.proofs.Counts.{empty_from_sum}
use Rattle.def_model.proofs.Paths.{avoiding_level}
use Rattle.def_model.proofs.WalkSteps.{some_undone, undone_by_list}
use Rattle.pd_level.specs.Levels.{Levelled}
use Rattle.walk_back.specs.Ways.{IsAvoidingLevel, IsReached, LeavesConsistent, LeavesOneOf}
use Rattle.walk_back.proofs.Avoidance.{free_leaves}

-- at the full cut no step is needed
pub reached_full : (c : Computation) (test : List ℕ → Bool) (path cut : List ℕ) → path ≡ [] → cut ≡ full_cut c
    → IsAvoiding c test (total c) (full_cut c) → IsReached c test path cut
reached_full c test path cut none full a =
    record {
      avoiding = subst (λ (x : List ℕ). IsAvoiding c test (sum x) x) (sym full) a;
      onward = λ rest u.
          subst (λ (ps : List ℕ). IsUndoing c test (full_cut c) (ps ++ rest)) (sym none)
          (subst (λ (x : List ℕ). IsUndoing c test x rest) full u);
    }

-- one step more
pub reached_less : (c : Computation) (test : List ℕ → Bool) (path cut : List ℕ) (p : ℕ) → IsReached c test path cut
    → LeavesAvoiding c test cut p → ((q : ℕ) → q < p → ¬ LeavesAvoiding c test cut q)
    → IsReached c test (path ++ p ∷ []) (one_less cut p)
reached_less c test path cut p reached leaves least =
    record {
      avoiding = leaves.1;
      onward = λ rest u.
          subst (λ (ps : List ℕ). IsUndoing c test (full_cut c) ps) (sym (append_assoc path (p ∷ []) rest))
          (reached.onward (p ∷ rest) (leaves, least, u));
    }

-- the empty cut ends the way
pub reached_empty : (c : Computation) (test : List ℕ → Bool) (path cut : List ℕ) → IsReached c test path cut
    → sum cut ≡ 0 → IsUndoing c test (full_cut c) path
reached_empty c test path cut reached none =
    let at : IsOfLevel c (sum cut) cut = avoiding_level c test (sum cut) cut reached.avoiding in
    let empty : cut ≡ empty_cut c = empty_from_sum c cut at.0.fits.one_each none in
    subst (λ (ps : List ℕ). IsUndoing c test (full_cut c) ps) (append-nil path) (reached.onward [] empty)

-- a cut that is reached has a count for each process
pub reached_counts : (c : Computation) (test : List ℕ → Bool) (path cut : List ℕ) → IsReached c test path cut
    → length cut ≡ length c
reached_counts c test path cut reached =
    (avoiding_level c test (sum cut) cut reached.avoiding).0.fits.one_each

-- and is consistent
pub reached_consistent : (c : Computation) (test : List ℕ → Bool) (path cut : List ℕ) → IsReached c test path cut
    → IsConsistent c cut
reached_consistent c test path cut reached = (avoiding_level c test (sum cut) cut reached.avoiding).0

-- some event of a cut that is reached, and isn't empty, can be undone
pub some_leaves : (c : Computation) (test : List ℕ → Bool) (path cut : List ℕ) (k : ℕ) → IsReached c test path cut
    → sum cut ≡ k + 1 → (p : ℕ) × (p < length cut) × LeavesAvoiding c test cut p
some_leaves c test path cut k reached s =
    some_undone c test k cut (subst (λ (n : ℕ). IsAvoiding c test n cut) s reached.avoiding)

-- the level below says which
pub level_leaves : (c : Computation) (test : List ℕ → Bool) (level : Levelled) (cut : List ℕ)
    → IsAvoidingLevel c test level → sum cut ≡ level.number + 1 → (p : ℕ) → LeavesAvoiding c test cut p
    ↔ LeavesOneOf level.cuts cut p
level_leaves c test level cut list s p = undone_by_list c test level.number level.cuts list cut s p

pub some_leaves_one : (c : Computation) (test : List ℕ → Bool) (path cut : List ℕ) (level : Levelled)
    → IsReached c test path cut → IsAvoidingLevel c test level → sum cut ≡ level.number + 1
    → (p : ℕ) × (p < length cut) × LeavesOneOf level.cuts cut p
some_leaves_one c test path cut level reached list s =
    let some : (p : ℕ) × (p < length cut) × LeavesAvoiding c test cut p =
    some_leaves c test path cut level.number reached s in
    (some.0, some.1, (level_leaves c test level cut list s some.0).0 some.2)

pub reached_by_level : (c : Computation) (test : List ℕ → Bool) (path cut : List ℕ) (level : Levelled) (p : ℕ)
    → IsReached c test path cut → IsAvoidingLevel c test level → sum cut ≡ level.number + 1
    → LeavesOneOf level.cuts cut p → ((q : ℕ) → q < p → ¬ LeavesOneOf level.cuts cut q)
    → IsReached c test (path ++ p ∷ []) (one_less cut p)
reached_by_level c test path cut level p reached list s leaves least =
    reached_less c test path cut p reached ((level_leaves c test level cut list s p).1 leaves)
    (λ q lt l. least q lt ((level_leaves c test level cut list s q).0 l))

-- where every cut avoids, consistency says which
pub some_leaves_free : (c : Computation) → HasNoCycle c → (test : List ℕ → Bool) (path cut : List ℕ) (k : ℕ)
    → IsReached c test path cut → sum cut ≡ k + 1 → NoneBelow c test (k + 1)
    → (p : ℕ) × (p < length cut) × LeavesConsistent c cut p
some_leaves_free c acyclic test path cut k reached s none =
    let some : (p : ℕ) × (p < length cut) × LeavesAvoiding c test cut p = some_leaves c test path cut k reached s in (
      some.0,
      some.1,
      (free_leaves c acyclic test cut (λ j other lt at. none j other (omega arith) at) some.0).0 some.2,
    )

pub reached_free : (c : Computation) → HasNoCycle c → (test : List ℕ → Bool) (path cut : List ℕ) (p k : ℕ)
    → IsReached c test path cut → sum cut ≡ k + 1 → NoneBelow c test (k + 1) → LeavesConsistent c cut p
    → ((q : ℕ) → q < p → ¬ LeavesConsistent c cut q) → IsReached c test (path ++ p ∷ []) (one_less cut p)
reached_free c acyclic test path cut p k reached s none leaves least =
    let below : NoneBelow c test (sum cut) = λ j other lt at. none j other (omega arith) at in
    reached_less c test path cut p reached ((free_leaves c acyclic test cut below p).1 leaves)
    (λ q lt l. least q lt ((free_leaves c acyclic test cut below q).0 l))
