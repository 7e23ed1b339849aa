-- From a dead end no step leads to an avoiding cut, and a cut of which each process is tried is one more.
use Rattle.std.proofs.Common.{◌≡◌, ◌+◌, ◌<◌, ◌≤◌, ◌⊎◌, inl, inr, ℕ, zero, suc, Bool, true, false, List, length, get_or, min, sum, refl, sym, ◌∙◌, subst, Contains, arith}
use Rattle.std.proofs.lemmas.Bool.{cases_eq, cases_lt}
use Rattle.std.proofs.lemmas.List.{get_or_default, same_lists}
use Rattle.def_model.specs.Answers.{LeavesAvoiding}
use Rattle.def_model.specs.Cuts.{IsConsistent, one_less}
use Rattle.def_model.specs.Lattice.{IsWithin, meet}
use Rattle.def_model.specs.Observations.{IsAvoiding}
use Rattle.def_model.specs.Order.{HasNoCycle}
use Rattle.def_model.specs.Predicates.{Predicate, Recorded, test_of}
use Rattle.def_model.proofs.AvoidingCuts.{avoiding_fails}
use Rattle.def_model.proofs.Counts.{length_less, less_other, less_same, sum_le}
use Rattle.def_model.proofs.MeetAndJoin.{length_meet, meet_at, meet_consistent}
use Rattle.def_model.proofs.Paths.{avoiding_level}
use Rattle.def_model.proofs.Undoing.{undo_some}
use Rattle.def_model.proofs.Walks.{Reached, reached_consistent, reached_fails, reached_from_avoiding, reached_level}
use Rattle.def_wide.specs.DeadEnds.{IsOpen, named_counts, predicate_names}
use Rattle.wide_back.specs.Searches.{AreDeadEnds, IsAdded, IsReachedBefore, IsTried, LeavesOpen, seen_without}
use Rattle.wide_back.proofs.Seeing.{AreSameNamed, same_named, same_seen, same_test, same_without}

module _ (r : Recorded) (predicate : Predicate) where
  -- an avoiding cut is open
  pub open_avoiding : (cut : List ℕ) → IsAvoiding r.events (test_of r predicate) (sum cut) cut
      → IsOpen r.events (test_of r predicate) cut
  open_avoiding cut a = (
    (avoiding_level r.events (test_of r predicate) (sum cut) cut a).0,
    avoiding_fails r.events (test_of r predicate) (sum cut) cut a,
  )

  pub leaves_open : (cut : List ℕ) (p : ℕ) → LeavesAvoiding r.events (test_of r predicate) cut p
      → LeavesOpen r predicate cut p
  leaves_open cut p (has, a) = (has, open_avoiding (one_less cut p) a)

  -- a dead end doesn't avoid
  dead_at : (dead : List (List ℕ)) → AreDeadEnds r predicate dead → (k : ℕ) (cut : List ℕ)
      → Contains dead (named_counts predicate cut) → Reached r.events (test_of r predicate) k cut → ⊥
  dead_at dead ends zero cut there (ok, fails, empty) =
      let some : 0 < sum cut = ends.some cut ok there in
      let none : sum cut ≡ 0 = reached_level r.events (test_of r predicate) zero cut (ok, fails, empty) in
      absurd (omega arith)
  dead_at dead ends (suc k) cut there (ok, fails, (p, lt, (has, back))) =
      dead_at dead ends k (one_less cut p) (ends.closed cut p (ok, fails) there (
        has,
        (
          reached_consistent r.events (test_of r predicate) k (one_less cut p) back,
          reached_fails r.events (test_of r predicate) k (one_less cut p) back,
        ),
      )) back

  pub dead_fails : (dead : List (List ℕ)) → AreDeadEnds r predicate dead → (cut : List ℕ)
      → Contains dead (named_counts predicate cut) → ¬ IsAvoiding r.events (test_of r predicate) (sum cut) cut
  dead_fails dead ends cut there a =
      dead_at dead ends (sum cut) cut there (reached_from_avoiding r.events (test_of r predicate) (sum cut) cut a)

-- ---- one more dead end

module _ (r : Recorded) (predicate : Predicate) (acyclic : HasNoCycle r.events) (dead : List (List ℕ))
    (cut : List ℕ) (open_here : IsOpen r.events (test_of r predicate) cut)
    (tried : (p : ℕ) → IsTried r predicate dead cut p)
    (fresh : ¬ Contains dead (named_counts predicate cut)) where
  -- To undo an event of a process that isn't named would leave a cut of which the same is seen. So none can be undone.
  none_unnamed : (p : ℕ) → predicate_names p predicate ≡ false → 0 < get_or cut p 0
      → ¬ IsConsistent r.events (one_less cut p)
  none_unnamed p unnamed has ok =
      let same : seen_without predicate cut p ≡ named_counts predicate cut = same_without predicate cut p unnamed in
      fresh (subst (λ (counts : List ℕ). Contains dead counts) same (tried p (
        has,
        (ok, same_test r predicate (one_less cut p) cut same ∙ open_here.1),
      )))

  module _ (other : List ℕ) (ok : IsConsistent r.events other)
      (same : named_counts predicate other ≡ named_counts predicate cut) where
    -- so it's the least consistent cut of which this is seen
    pub least : IsWithin cut other
    least q = go (cases_lt (get_or other q 0) (get_or cut q 0))
      where
        below : (p : ℕ) → get_or other p 0 < get_or cut p 0 → IsConsistent r.events (one_less cut p) → (b : Bool)
            → predicate_names p predicate ≡ b → ⊥
        below p less consistent true names =
            let equal : get_or other p 0 ≡ get_or cut p 0 = same_named predicate other cut same p names in
            absurd (omega arith)
        below p less consistent false names = none_unnamed p names (omega arith) consistent

        go : (get_or other q 0 < get_or cut q 0) ⊎ (get_or cut q 0 ≤ get_or other q 0)
            → get_or cut q 0 ≤ get_or other q 0
        go (inr le) = le
        go (inl less) =
            let w : (p : ℕ) × (get_or other p 0 < get_or cut p 0) × IsConsistent r.events (one_less cut p) =
            undo_some r.events acyclic other cut ok open_here.0 q less in
            absurd (below w.0 w.1 w.2 (predicate_names w.0 predicate) refl)

    same_length : length other ≡ length cut
    same_length = ok.fits.one_each ∙ sym open_here.0.fits.one_each

    -- what the cut has without an event, the other one has too without it
    meets : (p : ℕ) → get_or other p 0 ≡ get_or cut p 0 → 0 < get_or cut p 0
        → meet (one_less other p) cut ≡ one_less cut p
    meets p equal has =
        same_lists (meet (one_less other p) cut) (one_less cut p)
        (many ∙ (length_less other p ∙ (same_length ∙ sym (length_less cut p)))) each
      where
        many : length (meet (one_less other p) cut) ≡ length (one_less other p)
        many = length_meet (one_less other p) cut (length_less other p ∙ same_length)

        at : (q : ℕ) → get_or (meet (one_less other p) cut) q 0 ≡ get_or (one_less cut p) q 0
        at q = meet_at (one_less other p) cut q ∙ go (cases_eq q p)
          where
            go : (q ≡ p) ⊎ (q ≡ p → ⊥)
                → min (get_or (one_less other p) q 0) (get_or cut q 0) ≡ get_or (one_less cut p) q 0
            go (inl is) =
                let one : get_or (one_less other p) p 0 + 1 ≡ get_or other p 0 = less_same other p (omega arith) in
                let two : get_or (one_less cut p) p 0 + 1 ≡ get_or cut p 0 = less_same cut p has in
                rw is (omega arith)
            go (inr apart) =
                let one : get_or (one_less other p) q 0 ≡ get_or other q 0 = less_other other p q apart in
                let two : get_or (one_less cut p) q 0 ≡ get_or cut q 0 = less_other cut p q apart in
                let le : get_or cut q 0 ≤ get_or other q 0 = least q in
                omega arith

        each : (k d : ℕ) → k < length (meet (one_less other p) cut)
            → get_or (meet (one_less other p) cut) k d ≡ get_or (one_less cut p) k d
        each k d lt =
            let longer : k < length (one_less cut p) =
            omega (arith, many, length_less other p, same_length, length_less cut p) in
            get_or_default (meet (one_less other p) cut) k d 0 lt
            ∙ (at k ∙ get_or_default (one_less cut p) k 0 d longer)

    -- the same is seen of both without an event of a process that is named
    less_same_seen : (p : ℕ) → get_or other p 0 ≡ get_or cut p 0 → 0 < get_or cut p 0
        → seen_without predicate other p ≡ seen_without predicate cut p
    less_same_seen p equal has =
        same_seen predicate (one_less other p) (one_less cut p)
        (length_less other p ∙ (same_length ∙ sym (length_less cut p))) each
      where
        each : AreSameNamed predicate (one_less other p) (one_less cut p)
        each q names = go (cases_eq q p)
          where
            go : (q ≡ p) ⊎ (q ≡ p → ⊥) → get_or (one_less other p) q 0 ≡ get_or (one_less cut p) q 0
            go (inl is) =
                let one : get_or (one_less other p) p 0 + 1 ≡ get_or other p 0 = less_same other p (omega arith) in
                let two : get_or (one_less cut p) p 0 + 1 ≡ get_or cut p 0 = less_same cut p has in
                rw is (omega arith)
            go (inr apart) =
                less_other other p q apart
                ∙ (same_named predicate other cut same q names ∙ sym (less_other cut p q apart))

    -- each step from the other one leads to a dead end or to the same counts
    pub led : (p : ℕ) → LeavesOpen r predicate other p
        → (seen_without predicate other p ≡ named_counts predicate cut)
        ⊎ Contains dead (seen_without predicate other p)
    led p (has, (ok_less, fails)) = go (predicate_names p predicate) refl
      where
        go : (b : Bool) → predicate_names p predicate ≡ b
            → (seen_without predicate other p ≡ named_counts predicate cut)
            ⊎ Contains dead (seen_without predicate other p)
        go false unnamed = inl (same_without predicate other p unnamed ∙ same)
        go true names =
            let equal : get_or other p 0 ≡ get_or cut p 0 = same_named predicate other cut same p names in
            let some : 0 < get_or cut p 0 = omega arith in
            let low : IsConsistent r.events (one_less cut p) =
            subst (λ (x : List ℕ). IsConsistent r.events x) (meets p equal some)
            (meet_consistent r.events (one_less other p) cut ok_less open_here.0) in
            let seen : seen_without predicate other p ≡ seen_without predicate cut p = less_same_seen p equal some in
            inr (subst (λ (counts : List ℕ). Contains dead counts) (sym seen) (tried p (
              some,
              (low, same_test r predicate (one_less cut p) (one_less other p) (sym seen) ∙ fails),
            )))

  -- ---- the dead ends with this one

  module _ (new : List (List ℕ)) (added : IsAdded dead (named_counts predicate cut) new)
      (ends : AreDeadEnds r predicate dead) where
    -- a step from a dead end, the new one too, leads to one
    closed_more : (other : List ℕ) (p : ℕ) → IsOpen r.events (test_of r predicate) other
        → Contains new (named_counts predicate other) → IsTried r predicate new other p
    closed_more other p open_other there leaves =
        (added (seen_without predicate other p)).1 (go ((added (named_counts predicate other)).0 there))
      where
        go : (named_counts predicate other ≡ named_counts predicate cut)
            ⊎ Contains dead (named_counts predicate other)
            → (seen_without predicate other p ≡ named_counts predicate cut)
            ⊎ Contains dead (seen_without predicate other p)
        go (inl same) = led other open_other.0 same p leaves
        go (inr old) = inr (ends.closed other p open_other old leaves)

    some_more : 0 < sum cut → (other : List ℕ) → IsConsistent r.events other
        → Contains new (named_counts predicate other) → 0 < sum other
    some_more some other ok there = go ((added (named_counts predicate other)).0 there)
      where
        go : (named_counts predicate other ≡ named_counts predicate cut)
            ⊎ Contains dead (named_counts predicate other) → 0 < sum other
        go (inl same) =
            let le : sum cut ≤ sum other =
            sum_le cut other (least other ok same) (sym (same_length other ok same)) in omega arith
        go (inr old) = ends.some other ok old

    reached_more : IsReachedBefore r predicate (named_counts predicate cut) → (counts : List ℕ)
        → Contains new counts → IsReachedBefore r predicate counts
    reached_more here counts there = go ((added counts).0 there)
      where
        go : (counts ≡ named_counts predicate cut) ⊎ Contains dead counts → IsReachedBefore r predicate counts
        go (inl same) = subst (λ (xs : List ℕ). IsReachedBefore r predicate xs) (sym same) here
        go (inr old) = ends.reached counts old

    pub ends_more : 0 < sum cut → IsReachedBefore r predicate (named_counts predicate cut)
        → AreDeadEnds r predicate new
    ends_more some here =
        record { closed = closed_more; some = some_more some; reached = reached_more here }
