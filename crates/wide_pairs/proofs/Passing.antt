-- What the rows decide, of each test that asks for good pairs.
use Rattle.std.proofs.Common.{◌≡◌, ◌≢◌, ℕ, ◌+◌, ◌-◌, ◌<◌, ◌≤◌, ◌⊎◌, inl, inr, ◌↔◌, Bool, true, List, [], ◌∷◌, ◌++◌, reverse, length, get_or, sum, refl, sym, ◌∙◌, subst, arith, append_assoc, append-nil}
use Rattle.std.proofs.lemmas.Bool.{cases_lt}
use Rattle.def_model.specs.Answers.{IsLeastFree, IsPrintedPath, IsUndoing, LeavesAvoiding}
use Rattle.def_model.specs.Cuts.{IsConsistent, IsOfLevel, empty_cut, full_cut, one_less, total}
use Rattle.def_model.specs.Events.{Computation, IsEvent, event_count}
use Rattle.def_model.specs.Observations.{Definitely, HasNoAvoiding, IsAvoiding}
use Rattle.def_model.specs.Order.{HasNoCycle}
use Rattle.def_model.proofs.Chains.{events_of_happens}
use Rattle.def_model.proofs.Counts.{empty_from_sum, full_at, length_full}
use Rattle.def_model.proofs.Paths.{avoiding_level, definite_is_free, free_level_decides}
use Rattle.def_model.proofs.Steps.{full_from_sum}
use Rattle.def_model.proofs.WalkSteps.{avoiding_below, some_undone}
use Rattle.wide_pairs.specs.Avoiding.{IsAvoidingPair, test_of_pairs}
use Rattle.wide_pairs.specs.Levels.{IsLevelAbove}
use Rattle.wide_pairs.specs.Pairs.{IsOfPair}
use Rattle.wide_pairs.specs.Ways.{IsReached}
use Rattle.wide_pairs.proofs.AvoidingPairs.{avoids_by_pair}

-- ---- the way back

pub reached_full : (c : Computation) (test : List ℕ → Bool) (path cut : List ℕ) → path ≡ [] → cut ≡ full_cut c
    → IsAvoiding c test (total c) (full_cut c) → IsReached c test path cut
reached_full c test path cut none full a =
    record {
      avoiding = subst (λ (x : List ℕ). IsAvoiding c test (sum x) x) (sym full) a;
      onward = λ rest u.
          subst (λ (ps : List ℕ). IsUndoing c test (full_cut c) (ps ++ rest)) (sym none)
          (subst (λ (x : List ℕ). IsUndoing c test x rest) full u);
    }

pub reached_less : (c : Computation) (test : List ℕ → Bool) (path cut : List ℕ) (p : ℕ) → IsReached c test path cut
    → LeavesAvoiding c test cut p → ((q : ℕ) → q < p → ¬ LeavesAvoiding c test cut q)
    → IsReached c test (path ++ p ∷ []) (one_less cut p)
reached_less c test path cut p reached leaves least =
    record {
      avoiding = leaves.1;
      onward = λ rest u.
          subst (λ (ps : List ℕ). IsUndoing c test (full_cut c) ps) (sym (append_assoc path (p ∷ []) rest))
          (reached.onward (p ∷ rest) (leaves, least, u));
    }

pub reached_empty : (c : Computation) (test : List ℕ → Bool) (path cut : List ℕ) → IsReached c test path cut
    → sum cut ≡ 0 → IsUndoing c test (full_cut c) path
reached_empty c test path cut reached none =
    let at : IsOfLevel c (sum cut) cut = avoiding_level c test (sum cut) cut reached.avoiding in
    let empty : cut ≡ empty_cut c = empty_from_sum c cut at.0.fits.one_each none in
    subst (λ (ps : List ℕ). IsUndoing c test (full_cut c) ps) (append-nil path) (reached.onward [] empty)

pub reached_consistent : (c : Computation) (test : List ℕ → Bool) (path cut : List ℕ) → IsReached c test path cut
    → IsConsistent c cut
reached_consistent c test path cut reached = (avoiding_level c test (sum cut) cut reached.avoiding).0

pub some_leaves : (c : Computation) (test : List ℕ → Bool) (path cut : List ℕ) (k : ℕ) → IsReached c test path cut
    → sum cut ≡ k + 1 → (p : ℕ) × (p < length cut) × LeavesAvoiding c test cut p
some_leaves c test path cut k reached s =
    some_undone c test k cut (subst (λ (n : ℕ). IsAvoiding c test n cut) s reached.avoiding)

-- what the rows say of the pair that is left
pub leaves_by_pair : (c : Computation) → HasNoCycle c → (good : ℕ → ℕ → Bool) (p q : ℕ) → p ≢ q → (cut : List ℕ) (r : ℕ)
    → (0 < get_or cut r 0) × IsConsistent c (one_less cut r) → (answer : Bool)
    → ((answer ≡ true) ↔ IsAvoidingPair c (test_of_pairs good p q) p q (get_or (one_less cut r) p 0)
    (get_or (one_less cut r) q 0)) → (answer ≡ true) ↔ LeavesAvoiding c (test_of_pairs good p q) cut r
leaves_by_pair c acyclic good p q apart cut r (has, ok) answer decides = (
  λ h. (
    has,
    (avoids_by_pair c acyclic (test_of_pairs good p q) good p q apart (λ x okay. refl) (one_less cut r) ok).1
        (decides.0 h),
  ),
  λ leaves. decides.1
      ((avoids_by_pair c acyclic (test_of_pairs good p q) good p q apart (λ x okay. refl) (one_less cut r) ok).0
      leaves.1),
)

pub leaves_consistent : (c : Computation) (test : List ℕ → Bool) (cut : List ℕ) (r : ℕ) → LeavesAvoiding c test cut r
    → (0 < get_or cut r 0) × IsConsistent c (one_less cut r)
leaves_consistent c test cut r (has, avoids) =
    (has, (avoiding_level c test (sum (one_less cut r)) (one_less cut r) avoids).0)

-- ---- the level

-- a cut that isn't below the level after the greatest avoiding one doesn't avoid
pub least_free : (c : Computation) (test : List ℕ → Bool) (p level : ℕ)
    → IsLevelAbove c test p (event_count c p + 1) level → IsLeastFree c test level
least_free c test p level is = record { none = none; below = below }
  where
    none : HasNoAvoiding c test level
    none cut a =
        let at : IsOfLevel c level cut = avoiding_level c test level cut a in
        let s : sum cut ≡ level = at.1 in
        let within : get_or cut p 0 ≤ event_count c p = at.0.fits.within p in
        let less : sum cut < level =
        is.above cut (subst (λ (n : ℕ). IsAvoiding c test n cut) (sym s) a) (omega arith) in
        omega arith

    below : (j : ℕ) → j < level → (cut : List ℕ) × IsAvoiding c test j cut
    below j lt =
        let w : (cut : List ℕ) × IsAvoiding c test (sum cut) cut × (sum cut + 1 ≡ level) = is.next (omega arith) in
        let s : sum w.0 + 1 ≡ level = w.2 in
        let up : sum w.0 ≡ sum w.0 - j + j = omega arith in
        avoiding_below c test j (sum w.0 - j) w.0 (subst (λ (n : ℕ). IsAvoiding c test n w.0) up w.1)

-- ---- the least number

pub least_within : (P : ℕ → Type 0) (n r : ℕ) → ((k : ℕ) → k < r → ¬ P k) → ((k : ℕ) × (k < n) × P k) → r < n
least_within P n r none (k, lt, is) = go (cases_lt k r)
  where
    go : (k < r) ⊎ (r ≤ k) → r < n
    go (inl less) = absurd (none k less is)
    go (inr le) = omega arith

pub one_more : (P : ℕ → Type 0) (r : ℕ) → ((k : ℕ) → k < r → P k) → P r → (k : ℕ) → k < r + 1 → P k
one_more P r before here k lt = go (cases_lt k r)
  where
    go : (k < r) ⊎ (r ≤ k) → P k
    go (inl less) = before k less
    go (inr le) = let same : r ≡ k = omega arith in subst P same here

-- ---- of each test that asks for good pairs

module _ (c : Computation) (one other : List ℕ → Bool)
    (same : (cut : List ℕ) → IsConsistent c cut → other cut ≡ one cut) where
  avoiding_same : (k : ℕ) (cut : List ℕ) → IsAvoiding c one k cut → IsAvoiding c other k cut
  avoiding_same k cut (cuts, walk, l, fails) =
      (cuts, walk, l, λ n d lt. same (get_or cuts n d) (walk.consistent n d lt) ∙ fails n d lt)

module _ (c : Computation) (good : ℕ → ℕ → Bool) (p q : ℕ) (test : List ℕ → Bool) (of : IsOfPair c test good p q) where
  to : (k : ℕ) (cut : List ℕ) → IsAvoiding c (test_of_pairs good p q) k cut → IsAvoiding c test k cut
  to = avoiding_same c (test_of_pairs good p q) test of

  from : (k : ℕ) (cut : List ℕ) → IsAvoiding c test k cut → IsAvoiding c (test_of_pairs good p q) k cut
  from = avoiding_same c test (test_of_pairs good p q) (λ cut ok. sym (of cut ok))

  pub least_free_of : (level : ℕ) → IsLeastFree c (test_of_pairs good p q) level → IsLeastFree c test level
  least_free_of level is = record {
    none = λ cut avoids. is.none cut (from level cut avoids);
    below = λ j lt. ((is.below j lt).0, to j (is.below j lt).0 (is.below j lt).1);
  }

  undoing_of : (path cut : List ℕ) → IsUndoing c (test_of_pairs good p q) cut path → IsUndoing c test cut path
  undoing_of [] cut empty = empty
  undoing_of (r ∷ path) cut (leaves, least, rest) = (
    (leaves.0, to (sum (one_less cut r)) (one_less cut r) leaves.1),
    λ s lt leaves_too. least s lt (leaves_too.0, from (sum (one_less cut s)) (one_less cut s) leaves_too.1),
    undoing_of path (one_less cut r) rest,
  )

  pub path_of : (path : List ℕ) → IsPrintedPath c (test_of_pairs good p q) path → IsPrintedPath c test path
      × (¬ Definitely c test)
  path_of path (full, undoing) = (
    (to (total c) (full_cut c) full, undoing_of (reverse path) (full_cut c) undoing),
    λ definitely. definite_is_free c test definitely (full_cut c) (to (total c) (full_cut c) full),
  )

  -- if the full cut doesn't avoid, every observation passes
  pub passes : ¬ IsAvoiding c (test_of_pairs good p q) (total c) (full_cut c) → Definitely c test
  passes none = free_level_decides c test (total c) (omega arith) free
    where
      free : HasNoAvoiding c test (total c)
      free cut avoids =
          let level : IsOfLevel c (total c) cut = avoiding_level c test (total c) cut avoids in
          none (subst (λ (x : List ℕ). IsAvoiding c (test_of_pairs good p q) (total c) x)
          (full_from_sum c cut level.0 level.1) (from (total c) cut avoids))

full_consistent : (c : Computation) → IsConsistent c (full_cut c)
full_consistent c =
    record {
      fits = record { one_each = length_full c; within = λ p. rw full_at (omega arith) };
      closed = λ e f before has.
          let event : IsEvent c e = (events_of_happens c e f before).0 in
          let at : get_or (full_cut c) e.process 0 ≡ event_count c e.process = full_at c e.process in
          let most : e.number ≤ event_count c e.process = event.1 in
          (event.0, omega arith);
    }

-- the full cut avoids exactly if its pair does
pub full_by_pair : (c : Computation) → HasNoCycle c → (good : ℕ → ℕ → Bool) (p q m n : ℕ) → p ≢ q → m ≡ event_count c p
    → n ≡ event_count c q → IsAvoiding c (test_of_pairs good p q) (total c) (full_cut c)
    ↔ IsAvoidingPair c (test_of_pairs good p q) p q m n
full_by_pair c acyclic good p q m n apart all all_too =
    subst (λ (k : ℕ). IsAvoiding c test (total c) (full_cut c) ↔ IsAvoidingPair c test p q m k)
    (full_at c q ∙ sym all_too)
    (subst (λ (k : ℕ). IsAvoiding c test (total c) (full_cut c)
    ↔ IsAvoidingPair c test p q k (get_or (full_cut c) q 0)) (full_at c p ∙ sym all)
    (avoids_by_pair c acyclic test good p q apart (λ cut ok. refl) (full_cut c) (full_consistent c)))
  where
    test : List ℕ → Bool
    test = test_of_pairs good p q
