-- Gates decide, and so does the level that is printed where the levels under a width leave the answer unknown.
use Rattle.std.proofs.Common.{◌≡◌, inl, inr, ◌⊎◌, ℕ, ◌≤◌, Bool, true, false, List, length, sum, sym, ◌∙◌, subst, arith}
use Rattle.std.proofs.lemmas.Bool.{false≢true}
use Rattle.std.proofs.lemmas.List.Elements.{All-contains}
use Rattle.def_model.specs.Answers.{IsAvoidingObservation, IsPrintedPath, cuts_along}
use Rattle.def_model.specs.Cuts.{FitsProcesses, Includes, IsOfLevel, empty_cut, full_cut, total}
use Rattle.def_model.specs.Events.{Computation, Place}
use Rattle.def_model.specs.Lattice.{join}
use Rattle.def_model.specs.Observations.{Definitely, HasNoAvoiding, HasSatisfying}
use Rattle.def_model.specs.Order.{HasNoCycle}
use Rattle.def_model.specs.Predicates.{Predicate, Recorded, test_of}
use Rattle.def_model.proofs.AvoidingCuts.{avoiding_fails}
use Rattle.def_model.proofs.Counts.{full_at, length_full, same_from_sum, sum_le}
use Rattle.def_model.proofs.MeetAndJoin.{join_above_left}
use Rattle.def_model.proofs.Paths.{avoiding_level, definite_is_free, free_level_decides, path_avoids}
use Rattle.def_wide.specs.DeadEnds.{AreDead, AreDeadBefore, AreOver, HasFewDeadEnds, IsFoundBack}
use Rattle.def_wide.specs.Gates.{IsAround, before, after, IsLateLevel, of_gate, of_end, IsLeastGate, IsMostOf, IsRightAfter, IsRightBefore}
use Rattle.def_wide.specs.Laws.{GatesDecide, LateLevelDecides, OneLateLevel}
use Rattle.def_wide.proofs.AroundEvents.{avoids_before, join_around, join_includes, right_included}
use Rattle.def_wide.proofs.SureHolds.{sure_true}

-- ---- at the level of the greatest counts

-- counts that fit have no more events than there are
pub fits_within : (c : Computation) (counts : List ℕ) → FitsProcesses c counts → sum counts ≤ total c
fits_within c counts fits =
    sum_le counts (full_cut c) (λ p. rw full_at (fits.within p)) (fits.one_each ∙ sym (length_full c))

-- a cut of this level that is a part of counts of the set is all of them
same_as_join : (c : Computation) (InSet : List ℕ → Type 0) (level : ℕ) (cut counts : List ℕ)
    → ((other : List ℕ) → InSet other → sum other ≤ level) → IsOfLevel c level cut
    → FitsProcesses c (join cut counts) → InSet (join cut counts) → cut ≡ join cut counts
same_as_join c InSet level cut counts none_more at fits inside =
    let same : length cut ≡ length (join cut counts) = at.0.fits.one_each ∙ sym fits.one_each in
    let less : sum cut ≤ sum (join cut counts) = sum_le cut (join cut counts) (join_above_left cut counts) same in
    let most : sum (join cut counts) ≤ level = none_more (join cut counts) inside in
    let here : sum cut ≡ level = at.1 in
    same_from_sum cut (join cut counts) same (join_above_left cut counts) (omega arith)

module _ (c : Computation) (acyclic : HasNoCycle c) (test : List ℕ → Bool) (e : Place) (level : ℕ) where
  pub free_before : ((cut : List ℕ) → IsRightBefore c e cut → test cut ≡ true) → IsMostOf (IsRightBefore c e) level
      → HasNoAvoiding c test level
  free_before satisfies most cut a =
      fails cut (subst (IsRightBefore c e) (sym same) inside) (avoiding_fails c test level cut a)
    where
      fails : (other : List ℕ) → IsRightBefore c e other → test other ≡ false → ⊥
      fails other at is = false≢true (sym is ∙ satisfies other at)

      out : ¬ Includes cut e
      out = avoids_before c acyclic e test (inl fails) level cut a

      around : IsAround c e (join cut most.counts)
      around = join_around c e cut most.counts (avoiding_level c test level cut a).0 out most.inside.0

      neither : Includes cut e ⊎ Includes most.counts e → ⊥
      neither (inl i) = out i
      neither (inr i) = most.inside.1 i

      inside : IsRightBefore c e (join cut most.counts)
      inside = (around, λ i. neither (join_includes cut most.counts e i))

      same : cut ≡ join cut most.counts
      same = same_as_join c (IsRightBefore c e) level cut most.counts most.none_more (avoiding_level c test level cut a)
          around.fits inside

  pub free_after : ((cut : List ℕ) → IsRightAfter c e cut → test cut ≡ true) → IsMostOf (IsRightAfter c e) level
      → HasNoAvoiding c test level
  free_after satisfies most cut a = out (subst (λ (x : List ℕ). Includes x e) (sym same) inside.1)
    where
      fails : (other : List ℕ) → IsRightAfter c e other → test other ≡ false → ⊥
      fails other at is = false≢true (sym is ∙ satisfies other at)

      out : ¬ Includes cut e
      out = avoids_before c acyclic e test (inr fails) level cut a

      around : IsAround c e (join cut most.counts)
      around = join_around c e cut most.counts (avoiding_level c test level cut a).0 out most.inside.0

      inside : IsRightAfter c e (join cut most.counts)
      inside = (around, right_included cut most.counts e most.inside.1)

      same : cut ≡ join cut most.counts
      same = same_as_join c (IsRightAfter c e) level cut most.counts most.none_more (avoiding_level c test level cut a)
          around.fits inside

-- ---- the laws

-- a level with no avoiding cut decides
free_decides : (c : Computation) (test : List ℕ → Bool) (level : ℕ) → level ≤ total c → HasNoAvoiding c test level
    → Definitely c test × HasNoAvoiding c test level × (level ≤ total c)
free_decides c test level within none = (free_level_decides c test level within none, none, within)

most_within : (c : Computation) (counts : List ℕ) (level : ℕ) → FitsProcesses c counts → sum counts ≡ level
    → level ≤ total c
most_within c counts level fits reached =
    let within : sum counts ≤ total c = fits_within c counts fits in omega arith

pub gates_decide : GatesDecide
gates_decide r predicate level acyclic (before e there surely most) =
    free_decides r.events (test_of r predicate) level
    (most_within r.events most.counts level most.inside.0.fits most.reached)
    (free_before r.events acyclic (test_of r predicate) e level
    (sure_true (IsRightBefore r.events e) r predicate surely) most)
gates_decide r predicate level acyclic (after e there surely most) =
    free_decides r.events (test_of r predicate) level
    (most_within r.events most.counts level most.inside.0.fits most.reached)
    (free_after r.events acyclic (test_of r predicate) e level
    (sure_true (IsRightAfter r.events e) r predicate surely) most)

pub late_level_decides : LateLevelDecides
late_level_decides r predicate w level acyclic (of_gate least) =
    gates_decide r predicate level acyclic least.gate
late_level_decides r predicate w level acyclic (of_end none ends is) = (
  ends.passed,
  subst (HasNoAvoiding r.events (test_of r predicate)) (sym is)
      (definite_is_free r.events (test_of r predicate) ends.passed),
  omega (arith, is),
)

-- there is one least gate at most
pub one_least_gate : (r : Recorded) (predicate : Predicate) (level other : ℕ) → IsLeastGate r predicate level
    → IsLeastGate r predicate other → level ≡ other
one_least_gate r predicate level other a b =
    let low : level ≤ other = a.least other b.gate in
    let high : other ≤ level = b.least level a.gate in
    omega arith

pub one_late_level : OneLateLevel
one_late_level r predicate w level other (of_gate a) (of_gate b) = one_least_gate r predicate level other a b
one_late_level r predicate w level other (of_gate a) (of_end none ends is) = absurd (none level a)
one_late_level r predicate w level other (of_end none ends is) (of_gate b) = absurd (none other b)
one_late_level r predicate w level other (of_end none ends is) (of_end none' ends' is') = is ∙ sym is'

-- ---- a path that is found

-- where every observation has a satisfying cut, no path is printed
pub no_printed_path : (c : Computation) (test : List ℕ → Bool) (path : List ℕ) → Definitely c test
    → ¬ IsPrintedPath c test path
no_printed_path c test path definitely printed =
    let avoids : IsAvoidingObservation c test path = path_avoids c test path printed in
    let found : HasSatisfying test (cuts_along (empty_cut c) path) =
    definitely (cuts_along (empty_cut c) path) avoids.0 in
    let fails : test found.0 ≡ false =
    All-contains (λ x. test x ≡ false) (cuts_along (empty_cut c) path) found.0 avoids.1 found.1 in
    false≢true (sym fails ∙ found.2)

-- so a path that is found back and a late level exclude each other
pub found_not_late : (r : Recorded) (predicate : Predicate) (w : ℕ) (path : List ℕ) (level : ℕ) → HasNoCycle r.events
    → IsFoundBack r predicate w path → ¬ IsLateLevel r predicate w level
found_not_late r predicate w path level acyclic found late =
    no_printed_path r.events (test_of r predicate) path
    (late_level_decides r predicate w level acyclic late).0 found.printed

-- if there are few dead ends, few come before the path
pub few_found : (r : Recorded) (predicate : Predicate) (w : ℕ) (path : List ℕ) → HasFewDeadEnds r predicate w
    → IsPrintedPath r.events (test_of r predicate) path → IsFoundBack r predicate w path
few_found r predicate w path few printed = record { printed = printed; few = λ over. few (all over) }
  where
    dead : (counts : List ℕ) → AreDeadBefore r predicate path counts → AreDead r predicate counts
    dead counts (undone, ends, below) = (undone, ends)

    all : AreOver w (AreDeadBefore r predicate path) → AreOver w (AreDead r predicate)
    all over =
        record {
          each = over.each;
          apart = over.apart;
          just = λ k d lt. dead _ (over.just k d lt);
          over = over.over;
        }
