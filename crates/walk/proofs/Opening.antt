-- What a whole level decides for a predicate that no lower cut satisfies.
use Rattle.std.proofs.Common.{◌≡◌, ℕ, ◌+◌, ◌<◌, ◌≤◌, ◌⊎◌, inl, inr, suc, Bool, true, false, List, [], length, get_or, Contains, sym, ap, ◌∙◌, subst, below_more, refl, arith}
use Rattle.std.proofs.lemmas.Bool.{cases_order, true≢false}
use Rattle.def_model.specs.Answers.{IsFirstSatisfying, IsListOf, IsPossiblyAnswer, IsPossiblyUnknown, MoreThan, PossiblyYes}
use Rattle.def_model.specs.Cuts.{IsOfLevel, empty_cut, full_cut, total}
use Rattle.def_model.specs.Events.{Computation}
use Rattle.def_model.specs.Observations.{IsObservation}
use Rattle.def_model.specs.Order.{HasNoCycle}
use Rattle.def_model.specs.Walks.{IsAvoidedBelow, IsNarrowlyAvoidedBelow, NoneBelow, ShortLevel}
use Rattle.def_model.proofs.Steps.{empty_consistent}
use Rattle.def_model.proofs.Paths.{every_cut_is_observed}
use Rattle.def_model.proofs.Walks.{walk_length, walk_level}
use Rattle.def_model.specs.Laws.{AllAvoid}
use Rattle.walk_runs.specs.Laws.{CountOfRuns, CutsOfWhole}
use Rattle.walk_runs.specs.Levels.{IsWholeLevel, WholeLevel}
use Rattle.walk_runs.specs.WholeLevels.{count_of_runs, cuts_of_runs}
use Rattle.walk_back.specs.Answers.{possibly_answer_view}
use Rattle.walk_back.specs.Splits.{AreKeptBelow, IsSplitBelow}
use Rattle.walk.specs.Stages.{IsOpenBelow}
use Rattle.walk_back.specs.declared.split.Split.{Split}

-- ---- a whole level by its count

pub level_list : CutsOfWhole → (c : Computation) (level : WholeLevel) → IsWholeLevel c level
    → IsListOf (IsOfLevel c level.number) (cuts_of_runs level.number level.runs)
level_list law c level whole = law c whole.two level.number level.runs whole.whole

pub level_wide : CutsOfWhole → CountOfRuns → (c : Computation) (level : WholeLevel) → IsWholeLevel c level → (w : ℕ)
    → w < count_of_runs level.runs → MoreThan w (IsOfLevel c level.number)
level_wide law count c level whole w wide = (
  cuts_of_runs level.number level.runs,
  level_list law c level whole,
  subst (λ (n : ℕ). w < n) (sym (count level.number level.runs)) wide,
)

pub level_narrow : CutsOfWhole → CountOfRuns → ShortLevel → (c : Computation) (level : WholeLevel)
    → IsWholeLevel c level → (w : ℕ) → count_of_runs level.runs ≤ w → ¬ MoreThan w (IsOfLevel c level.number)
level_narrow law count short c level whole w narrow =
    short c w level.number (cuts_of_runs level.number level.runs) (level_list law c level whole)
    (subst (λ (n : ℕ). n ≤ w) (sym (count level.number level.runs)) narrow)

-- ---- what is decided

pub unknown_here : (c : Computation) (test : List ℕ → Bool) (w k n : ℕ) → n ≡ k → IsOpenBelow c test w k
    → MoreThan w (IsOfLevel c k) → IsPossiblyUnknown c test w n
unknown_here c test w k n same opened wide =
    subst (IsPossiblyUnknown c test w) (sym same)
    (record { wide = wide; least = opened.narrow; none_below = opened.none })

pub decided_yes : (c : Computation) (test : List ℕ → Bool) (w k : ℕ) → IsOpenBelow c test w k
    → ¬ MoreThan w (IsOfLevel c k) → (cut : List ℕ) → IsOfLevel c k cut → test cut ≡ true
    → IsFirstSatisfying c test cut → IsPossiblyAnswer c test w (PossiblyYes cut)
decided_yes c test w k opened narrow cut level passes first = (λ i unknown. never i unknown (cases_order i k), first)
  where
    never : (i : ℕ) → IsPossiblyUnknown c test w i → (i ≡ k) ⊎ ((i < k) ⊎ (k < i)) → ⊥
    never i unknown (inl same) = narrow (subst (λ (n : ℕ). MoreThan w (IsOfLevel c n)) same unknown.wide)
    never i unknown (inr (inl low)) = opened.narrow i low unknown.wide
    never i unknown (inr (inr high)) = true≢false (sym passes ∙ unknown.none_below k cut high level)

pub still_open : (c : Computation) (test : List ℕ → Bool) (w k : ℕ) → IsOpenBelow c test w k
    → ¬ MoreThan w (IsOfLevel c k) → ((cut : List ℕ) → IsOfLevel c k cut → test cut ≡ false)
    → IsOpenBelow c test w (k + 1)
still_open c test w k opened narrow fails =
    record {
      none =
          λ j cut lt level.
          below_more (λ (i : ℕ). IsOfLevel c i cut → test cut ≡ false) k (λ i h. opened.none i cut h) (fails cut) j lt
          level;
      narrow = below_more (λ (j : ℕ). ¬ MoreThan w (IsOfLevel c j)) k opened.narrow narrow;
    }

-- ---- where no cut satisfies, all avoid

-- each level up to that of all events has a cut
pub some_cut : (c : Computation) → HasNoCycle c → (k : ℕ) → k ≤ total c → (cut : List ℕ) × IsOfLevel c k cut
some_cut c acyclic k within =
    let w : (cuts : List (List ℕ)) × IsObservation c cuts × Contains cuts (empty_cut c) =
    every_cut_is_observed c acyclic (empty_cut c) (empty_consistent c) in
    let l : length w.0 ≡ suc (total c) = walk_length c w.0 (full_cut c) w.1 in
    (get_or w.0 k [], (w.1.consistent k [] (omega arith), walk_level c w.0 (full_cut c) w.1 k (omega arith)))

pub open_narrow : AllAvoid → (c : Computation) → HasNoCycle c → (test : List ℕ → Bool) (w k : ℕ)
    → IsOpenBelow c test w k → IsNarrowlyAvoidedBelow c test w k
open_narrow all c acyclic test w k opened j lt (cuts, list, more) =
    opened.narrow j lt (cuts, record { ascending = list.ascending; just = λ cut. (to cut, from cut) }, more)
  where
    none : NoneBelow c test (j + 1)
    none i cut low level = opened.none i cut (omega arith) level

    to : (cut : List ℕ) → Contains cuts cut → IsOfLevel c j cut
    to cut has = (all c acyclic test j none cut).0 ((list.just cut).0 has)

    from : (cut : List ℕ) → IsOfLevel c j cut → Contains cuts cut
    from cut level = (list.just cut).1 ((all c acyclic test j none cut).1 level)

pub open_avoided : AllAvoid → (c : Computation) → HasNoCycle c → (test : List ℕ → Bool) (w k : ℕ)
    → IsOpenBelow c test w k → k ≤ total c + 1 → IsAvoidedBelow c test k
open_avoided all c acyclic test w k opened within j lt =
    let some : (cut : List ℕ) × IsOfLevel c j cut = some_cut c acyclic j (omega arith) in (
      some.0,
      (all c acyclic test j (λ i cut low level. opened.none i cut (omega arith) level) some.0).1 some.1,
    )

-- what is known of the levels below, if Possibly is answered here
pub split_here : AllAvoid → (c : Computation) → HasNoCycle c → (test : List ℕ → Bool) (w gap k : ℕ) (split : Split)
    → IsOpenBelow c test w k → k ≤ total c → IsPossiblyAnswer c test w (possibly_answer_view split.possibly)
    → split.first ≡ k → split.held.levels.items ≡ [] → split.held.walked.items ≡ [] → split.held.beside ≡ 0
    → split.held.most ≡ 0 → IsSplitBelow c test w gap k split
split_here all c acyclic test w gap k split opened within answer first empty still alone none =
    record {
      possibly = answer;
      none = λ j cut lt level. opened.none j cut (subst (λ (n : ℕ). j < n) first lt) level;
      narrow = open_narrow all c acyclic test w k opened;
      avoided = open_avoided all c acyclic test w k opened (omega arith);
      kept = subst (AreKeptBelow c test split.first gap k) (sym empty)
          (subst (λ (n : ℕ). AreKeptBelow c test n gap k []) (sym first) nothing_kept);
      few = omega (arith, none);
      beside = omega (arith, ap length still, alone);
    }
  where
    nothing_kept : AreKeptBelow c test k gap k []
    nothing_kept = record {
      lists = λ i d lt. absurd (omega arith);
      begins = λ d lt. absurd (omega arith);
      steps = λ i d lt. absurd (omega arith);
      near = λ lt. absurd (omega arith);
      count = λ lt. absurd (omega arith);
      none = λ _. refl;
    }
