-- The runs of the next level, as they are put together from the runs of a level and its births.
use Rattle.std.proofs.Common.{◌≡◌, ℕ, ◌+◌, ◌-◌, ◌/◌, ◌%◌, ◌^◌, ◌<◌, ◌≤◌, List, [], ◌∷◌, ◌++◌, length, get_or, map, take, sum, Contains, sym, ap, ◌∙◌, subst, inl, inr, ◌⊎◌, below_more, arith}
use Rattle.std.specs.Prelude.{IfSome, None, Option, Some}
use Rattle.std.proofs.lemmas.Bool.{cases_lt}
use Rattle.std.proofs.lemmas.List.{take_all}
use Rattle.std.proofs.lemmas.List.Elements.{Contains-append_left, Contains-push, Contains-push_cases, Contains-get_or}
use Rattle.def_format.specs.Limits.{event_limit}
use Rattle.walk_keys.specs.Keys.{Ascending, count_base, digits}
use Rattle.def_model.specs.Events.{Computation, event_count}
use Rattle.def_model.specs.Cuts.{IsOfLevel}
use Rattle.walk_keys.specs.Neighbors.{cut_at}
use Rattle.walk_runs.specs.Births.{IsWalkable, IsAlive, IsYoung, IsCandidate}
use Rattle.walk_runs.specs.WholeLevels.{Run, HasRun, IsRunOf, IsWhole, IsMovedTo, IsBornBeside, IsNextRuns, IsMadeAt}
use Rattle.walk_runs.specs.KeptRuns.{run_view, level_of, IsBirth, IsKept, AddsBirths, IsPushed, IsBornRun, gone, moved}
use Rattle.walk_runs.specs.Levels.{AreInOrder, IsKeptLevel, IsWholeLevel, whole_view, runs_view, keys_of, prefix_key}
use Rattle.walk_runs.specs.Kept.{KeyedBirth, KeyedRun, cuts_of}
use Rattle.walk_runs.specs.Points.{IsFound}
use Rattle.walk_runs.proofs.Ascending.{nothing_in_empty}
use Rattle.walk_runs.proofs.Flags.{none_skipped}
use Rattle.walk_runs.proofs.Growing.{found_more}
use Rattle.walk_runs.proofs.KeyLists.{contains_at, map_push, in_map, from_map, prefix_more, ascending_push, HasKey, run_of_key, key_of_run, runs_in_order, length-keys}
use Rattle.walk_runs.proofs.LastMakers.{births_below, level_with_births}
use Rattle.walk_runs.proofs.NextRuns.{dead_without_run, next_whole}
use Rattle.walk_runs.proofs.PointFacts.{split_digits}
use Rattle.walk_runs.proofs.Pushing.{moved_level}
use Rattle.walk_runs.proofs.RunCuts.{same_parts}
use Rattle.walk_runs.proofs.RunFlags.{ends_of_run}

-- the level that is gone on from, with the numbers of its births
pub record IsGiven (room : ℕ) (c : Computation) (k : ℕ) (olds : List KeyedRun) (births : List ℕ) : Type 0 where
  pub small : (q : ℕ) → event_count c q ≤ event_limit
  pub walkable : IsWalkable c
  pub kept : IsKeptLevel room (length c) k olds births
  pub sorted : AreInOrder births
  pub whole : IsWhole c k (runs_view (length c - 2) olds)
  pub born : (cut : List ℕ) → Contains (map (digits (length c)) births) cut → IsOfLevel c (k + 1) cut
  pub all : (cut : List ℕ) → IsCandidate c k cut → Contains (map (digits (length c)) births) cut

pub given_by : (room : ℕ) (c : Computation) (k : ℕ) (olds : List KeyedRun) (births : List KeyedBirth)
    → ((q : ℕ) → event_count c q ≤ event_limit) → IsWalkable c → IsKeptLevel room (length c) k olds (cuts_of births)
    → AreInOrder (cuts_of births) → IsWholeLevel c (whole_view (length c) k olds births)
    → IsGiven room c k olds (cuts_of births)
given_by room c k olds births small walkable kept sorted level = record {
  small = small;
  walkable = walkable;
  kept = kept;
  sorted = sorted;
  whole = level.whole;
  born = level.born;
  all = level.all;
}

-- So far: runs and births of the next level, of which all keys are below the floor.
pub record IsMade (c : Computation) (k : ℕ) (olds : List KeyedRun) (runs : List KeyedRun) (born : List KeyedBirth)
    (floor : ℕ) : Type 0 where
  pub keys : Ascending (keys_of runs)
  pub below : (run : KeyedRun) → Contains runs run → run.key < floor
  pub kept : (run : KeyedRun) → Contains runs run → IsKept (length c - 2) (k + 1) run
  pub made : (run : KeyedRun) → Contains runs run
      → ((old : Run) × Contains (runs_view (length c - 2) olds) old × IsMovedTo c k old (run_view (length c - 2) run)
      × (run.lo ≤ run.hi)) ⊎ IsBornBeside c k (runs_view (length c - 2) olds) (run_view (length c - 2) run)
  pub just : (z : KeyedBirth) → Contains born z → IsBirth c (k + 1 + 1) z
  pub all : (run : KeyedRun) → Contains runs run → (p : ℕ) (cut : List ℕ) → p < length c - 2
      → IsMadeAt c (k + 1) (run_view (length c - 2) run) p cut → IsFound c born cut p

-- So far: the first i runs have moved, and the first j births are put beside them.
pub record IsGoing (c : Computation) (k : ℕ) (olds : List KeyedRun) (births : List ℕ) (i j : ℕ) (runs : List KeyedRun)
    (born : List KeyedBirth) (floor : ℕ) : Type 0 where
  pub in_olds : i ≤ length olds
  pub in_births : j ≤ length births
  pub made : IsMade c k olds runs born floor
  pub floor_old : i < length olds → floor ≤ get_or (keys_of olds) i 0
  pub floor_birth : j < length births → floor ≤ prefix_key (get_or births j 0) + 1
  pub top : (key : ℕ) → key + 1 ≡ floor → HasKey runs key ⊎ HasKey olds key
  pub past : (m : ℕ) → m < i → j < length births → get_or (keys_of olds) m 0 < prefix_key (get_or births j 0)
  pub moved : (old : KeyedRun) → Contains (take i olds) old → (new : Run)
      → IsMovedTo c k (run_view (length c - 2) old) new → new.lo ≤ new.hi
      → HasRun (runs_view (length c - 2) runs) new.prefix
  pub seen : (z : ℕ) → Contains (take j births) z → HasKey runs (prefix_key z) ⊎ HasKey olds (prefix_key z)

-- The same while births are gone through. The bar is one above the last prefix that was born, or 0; where the floor is
-- above that, it is so by a run that has moved.
pub record IsMerging (c : Computation) (k : ℕ) (olds : List KeyedRun) (births : List ℕ) (i j : ℕ) (runs : List KeyedRun)
    (born : List KeyedBirth) (bar : ℕ) : Type 0 where
  pub floor : ℕ
  pub going : IsGoing c k olds births i j runs born floor
  pub least : bar ≤ floor
  pub most : (floor ≤ bar) ⊎ ((m : ℕ) × (m < i) × (floor ≡ get_or (keys_of olds) m 0 + 1))

-- the bar after this prefix was born last
abbrev pub bar_of : {A : Type 0} → (A → ℕ) → Option A → ℕ
bar_of number None = 0
bar_of number (Some key) = number key + 1

pub above_bar : {A : Type 0} (number : A → ℕ) (last : Option A) (prefix : ℕ)
    → IfSome last (λ key. number key < prefix) → bar_of number last ≤ prefix
above_bar number None prefix above = omega arith
above_bar number (Some key) prefix above = let lt : number key < prefix = above in omega arith

pub below_bar : {A : Type 0} (number : A → ℕ) (last : Option A) (prefix : ℕ)
    → ¬ IfSome last (λ key. number key < prefix) → prefix < bar_of number last
below_bar number None prefix none = absurd (none tt)
below_bar number (Some key) prefix none = go (cases_lt (number key) prefix)
  where
    go : (number key < prefix) ⊎ (prefix ≤ number key) → prefix < number key + 1
    go (inl lt) = absurd (none lt)
    go (inr le) = omega arith

has_key_push : (runs : List KeyedRun) (run : KeyedRun) (key : ℕ) → HasKey runs key → HasKey (runs ++ run ∷ []) key
has_key_push runs run key (r, has, e) = (r, Contains-append_left runs (run ∷ []) r has, e)

has_run_push : (n : ℕ) (runs : List KeyedRun) (run : KeyedRun) (prefix : List ℕ) → HasRun (runs_view n runs) prefix
    → HasRun (runs_view n (runs ++ run ∷ [])) prefix
has_run_push n runs run prefix (r, has, e) =
    let w : (s : KeyedRun) × Contains runs s × (run_view n s ≡ r) = from_map (run_view n) runs r has in (
      r,
      subst (λ (s : Run). Contains (runs_view n (runs ++ run ∷ [])) s) w.2
          (in_map (run_view n) (runs ++ run ∷ []) w.0 (Contains-append_left runs (run ∷ []) w.0 w.1)),
      e,
    )

module _ (room : ℕ) (c : Computation) (k : ℕ) (olds : List KeyedRun) (births : List ℕ)
    (given : IsGiven room c k olds births) where
  n : ℕ
  n = length c - 2

  old_below : (run : KeyedRun) → Contains olds run → run.key < count_base ^ (length c - 2)
  old_below run has = (given.kept.kept run has).below

  pub old_run : (run : KeyedRun) → Contains olds run
      → IsRunOf c (level_of (length c - 2) run) (run_view (length c - 2) run)
  old_run run has =
      subst (λ (j : ℕ). IsRunOf c j (run_view (length c - 2) run)) (sym (given.kept.kept run has).level)
      (given.whole.each (run_view (length c - 2) run) (in_map (run_view (length c - 2)) olds run has))

  pub birth_cut : (z : ℕ) → Contains births z → IsOfLevel c (k + 1) (digits (length c) z)
  birth_cut z has = given.born (digits (length c) z) (in_map (digits (length c)) births z has)

  pub birth_parts : (z : ℕ) → Contains births z → (prefix_key z < count_base ^ (length c - 2))
      × (cut_at (digits (length c - 2) (prefix_key z)) (z / count_base % count_base) (z % count_base)
      ≡ digits (length c) z)
  birth_parts z has =
      let two : 2 ≤ length c = given.kept.two in
      let e : length c ≡ length c - 2 + 2 = omega arith in
      let w = split_digits (length c - 2) z
      (subst (λ (m : ℕ). z < count_base ^ m) e (given.kept.below z has)) in
      (w.0, w.1 ∙ ap (λ (m : ℕ). digits m z) (sym e))

  no_old : (z : ℕ) → Contains births z → ¬ HasKey olds (prefix_key z)
      → ¬ HasRun (runs_view (length c - 2) olds) (digits (length c - 2) (prefix_key z))
  no_old z has none run =
      none (key_of_run (length c - 2) olds (prefix_key z) old_below (birth_parts z has).0 run)

  pub young_birth : (z : ℕ) → Contains births z → ¬ HasKey olds (prefix_key z)
      → IsYoung c (sum (digits (length c) z)) (digits (length c - 2) (prefix_key z))
  young_birth z has none =
      let at : IsOfLevel c (k + 1)
      (cut_at (digits (length c - 2) (prefix_key z)) (z / count_base % count_base) (z % count_base)) =
      subst (IsOfLevel c (k + 1)) (sym (birth_parts z has).1) (birth_cut z has) in
      let dead : ¬ IsAlive c k (digits (length c - 2) (prefix_key z)) =
      dead_without_run c k (runs_view (length c - 2) olds) given.whole
      (digits (length c - 2) (prefix_key z)) (no_old z has none) in
      subst (λ (j : ℕ). IsYoung c j (digits (length c - 2) (prefix_key z))) (sym (birth_cut z has).1) record {
        alive = (z / count_base % count_base, (z % count_base, at));
        before = λ j e alive. dead (let same : j ≡ k = omega arith in
            subst (λ (m : ℕ). IsAlive c m (digits (length c - 2) (prefix_key z))) same alive);
      }

  pub going_start : IsGoing c k olds births 0 0 [] [] 0
  going_start = record {
    in_olds = omega arith;
    in_births = omega arith;
    made = record {
      keys = λ i j lt in_. absurd (omega arith);
      below = λ run has. absurd (nothing_in_empty run has);
      kept = λ run has. absurd (nothing_in_empty run has);
      made = λ run has. absurd (nothing_in_empty run has);
      just = λ z has. absurd (nothing_in_empty z has);
      all = λ run has p cut lt made. absurd (nothing_in_empty run has);
    };
    floor_old = λ lt. omega arith;
    floor_birth = λ lt. omega arith;
    top = λ key e. absurd (omega arith);
    past = λ m lt in_. absurd (omega arith);
    moved = λ old has new m le. absurd (nothing_in_empty old has);
    seen = λ z has. absurd (nothing_in_empty z has);
  }

  -- a run is added above the floor
  made_push : (runs : List KeyedRun) (born : List KeyedBirth) (floor : ℕ) → IsMade c k olds runs born floor
      → (run : KeyedRun) (new_born : List KeyedBirth) → floor ≤ run.key → IsKept (length c - 2) (k + 1) run
      → ((old : Run) × Contains (runs_view (length c - 2) olds) old × IsMovedTo c k old (run_view (length c - 2) run)
      × (run.lo ≤ run.hi)) ⊎ IsBornBeside c k (runs_view (length c - 2) olds) (run_view (length c - 2) run)
      → AddsBirths c (k + 1) run born new_born → IsMade c k olds (runs ++ run ∷ []) new_born (run.key + 1)
  made_push runs born floor g run new_born above kept made adds = record {
    keys =
        subst Ascending (sym (map_push (λ (r : KeyedRun). r.key) runs run))
        (ascending_push (keys_of runs) run.key g.keys (λ x has.
        lower x (from_map (λ (r : KeyedRun). r.key) runs x has)));
    below = λ r has. below r (Contains-push_cases runs run r has);
    kept = λ r has. each_kept r (Contains-push_cases runs run r has);
    made = λ r has. each_made r (Contains-push_cases runs run r has);
    just = λ z has. just z (adds.just z has);
    all = λ r has p cut lt at. all r (Contains-push_cases runs run r has) p cut lt at;
  }
    where
      lower : (x : ℕ) → HasKey runs x → x < run.key
      lower x (r, has, e) = let b : r.key < floor = g.below r has in omega arith

      below : (r : KeyedRun) → Contains runs r ⊎ (run ≡ r) → r.key < run.key + 1
      below r (inl has) = let b : r.key < floor = g.below r has in omega arith
      below r (inr e) = let same : run.key ≡ r.key = ap (λ (s : KeyedRun). s.key) e in omega arith

      each_kept : (r : KeyedRun) → Contains runs r ⊎ (run ≡ r) → IsKept (length c - 2) (k + 1) r
      each_kept r (inl has) = g.kept r has
      each_kept r (inr e) = subst (λ (s : KeyedRun). IsKept (length c - 2) (k + 1) s) e kept

      each_made : (r : KeyedRun) → Contains runs r ⊎ (run ≡ r)
          → ((old : Run) × Contains (runs_view (length c - 2) olds) old
          × IsMovedTo c k old (run_view (length c - 2) r) × (r.lo ≤ r.hi))
          ⊎ IsBornBeside c k (runs_view (length c - 2) olds) (run_view (length c - 2) r)
      each_made r (inl has) = g.made r has
      each_made r (inr e) =
          subst (λ (s : KeyedRun). ((old : Run) × Contains (runs_view (length c - 2) olds) old
          × IsMovedTo c k old (run_view (length c - 2) s) × (s.lo ≤ s.hi))
          ⊎ IsBornBeside c k (runs_view (length c - 2) olds) (run_view (length c - 2) s)) e made

      just : (z : KeyedBirth) → Contains born z ⊎ IsBirth c (k + 1 + 1) z → IsBirth c (k + 1 + 1) z
      just z (inl has) = g.just z has
      just z (inr w) = w

      all : (r : KeyedRun) → Contains runs r ⊎ (run ≡ r) → (p : ℕ) (cut : List ℕ) → p < length c - 2
          → IsMadeAt c (k + 1) (run_view (length c - 2) r) p cut → IsFound c new_born cut p
      all r (inl has) p cut lt at = found_more c born new_born cut p adds.kept (g.all r has p cut lt at)
      all r (inr e) p cut lt at =
          adds.all p cut lt (subst (λ (s : KeyedRun). IsMadeAt c (k + 1) (run_view (length c - 2) s) p cut) (sym e) at)

  -- the prefixes of the births ascend
  later_prefix : (j : ℕ) → j + 1 < length births
      → prefix_key (get_or births j 0) ≤ prefix_key (get_or births (j + 1) 0)
  later_prefix j lt =
      let le : get_or births j 0 ≤ get_or births (j + 1) 0 = given.sorted j (j + 1) (omega arith) lt in
      omega arith

  birth_here : (j : ℕ) → j < length births → Contains births (get_or births j 0)
  birth_here j lt = Contains-get_or births j 0 lt

  -- a birth is passed over whose prefix has a run already
  pub going_skip : (i j : ℕ) (runs : List KeyedRun) (born : List KeyedBirth) (floor : ℕ)
      → IsGoing c k olds births i j runs born floor → j < length births
      → HasKey runs (prefix_key (get_or births j 0)) ⊎ HasKey olds (prefix_key (get_or births j 0))
      → IsGoing c k olds births i (j + 1) runs born floor
  going_skip i j runs born floor g lt there = record {
    in_olds = g.in_olds;
    in_births = omega arith;
    made = g.made;
    floor_old = g.floor_old;
    floor_birth = λ more. let le : prefix_key (get_or births j 0) ≤ prefix_key (get_or births (j + 1) 0) =
        later_prefix j more in let f : floor ≤ prefix_key (get_or births j 0) + 1 = g.floor_birth lt in omega arith;
    top = g.top;
    past = λ m less more. let le : prefix_key (get_or births j 0) ≤ prefix_key (get_or births (j + 1) 0) =
        later_prefix j more in let p : get_or (keys_of olds) m 0 < prefix_key (get_or births j 0) =
        g.past m less lt in omega arith;
    moved = g.moved;
    seen = λ z has. seen z (prefix_more births j z 0 lt has);
  }
    where
      seen : (z : ℕ) → Contains (take j births) z ⊎ (get_or births j 0 ≡ z)
          → HasKey runs (prefix_key z) ⊎ HasKey olds (prefix_key z)
      seen z (inl has) = g.seen z has
      seen z (inr e) = subst (λ (y : ℕ). HasKey runs (prefix_key y) ⊎ HasKey olds (prefix_key y)) e there

  -- a birth between the runs has no run
  pub no_key : (i j : ℕ) (runs : List KeyedRun) (born : List KeyedBirth) (floor : ℕ)
      → IsGoing c k olds births i j runs born floor → j < length births
      → (i < length olds → prefix_key (get_or births j 0) < get_or (keys_of olds) i 0)
      → ¬ HasKey olds (prefix_key (get_or births j 0))
  no_key i j runs born floor g lt before (old, has, e) =
      let w : (m : ℕ) × (m < length (keys_of olds)) × (get_or (keys_of olds) m 0 ≡ old.key) =
      contains_at (keys_of olds) old.key 0 (in_map (λ (r : KeyedRun). r.key) olds old has) in
      let in_ : w.0 < length (keys_of olds) = w.1 in
      let at : get_or (keys_of olds) w.0 0 ≡ old.key = w.2 in
      let size : length (keys_of olds) ≡ length olds = length-keys olds in
      go w.0 in_ at (cases_lt w.0 i)
    where
      go : (m : ℕ) → m < length (keys_of olds) → get_or (keys_of olds) m 0 ≡ old.key → (m < i) ⊎ (i ≤ m) → ⊥
      go m in_ at (inl less) =
          let p : get_or (keys_of olds) m 0 < prefix_key (get_or births j 0) = g.past m less lt in absurd (omega arith)
      go m in_ at (inr more) =
          let size : length (keys_of olds) ≡ length olds = length-keys olds in
          let b : prefix_key (get_or births j 0) < get_or (keys_of olds) i 0 = before (omega arith) in
          same m in_ more at (cases_lt i m) b
        where
          same : (m : ℕ) → m < length (keys_of olds) → i ≤ m → get_or (keys_of olds) m 0 ≡ old.key → (i < m) ⊎ (m ≤ i)
              → prefix_key (get_or births j 0) < get_or (keys_of olds) i 0 → ⊥
          same m in_ up at (inl lt') b =
              let a : get_or (keys_of olds) i 0 < get_or (keys_of olds) m 0 = given.kept.keys i m lt' in_ in
              absurd (omega arith)
          same m in_ up at (inr le) b =
              let s : m ≡ i = omega arith in
              let a : get_or (keys_of olds) i 0 ≡ old.key = ap (λ (q : ℕ). get_or (keys_of olds) q 0) (sym s) ∙ at in
              absurd (omega arith)

  -- a birth is put beside the runs
  pub going_push : (i j : ℕ) (runs : List KeyedRun) (born : List KeyedBirth) (floor : ℕ)
      → IsGoing c k olds births i j runs born floor → j < length births
      → floor ≤ prefix_key (get_or births j 0)
      → (i < length olds → prefix_key (get_or births j 0) < get_or (keys_of olds) i 0)
      → (new_runs : List KeyedRun) (new_born : List KeyedBirth)
      → IsBornRun c (get_or births j 0) runs born new_runs new_born
      → IsGoing c k olds births i (j + 1) new_runs new_born (prefix_key (get_or births j 0) + 1)
  going_push i j runs born floor g lt above before new_runs new_born b =
      subst (λ (rs : List KeyedRun). IsGoing c k olds births i (j + 1) rs new_born (prefix_key (get_or births j 0) + 1))
      (sym b.pushed) record {
        in_olds = g.in_olds;
        in_births = omega arith;
        made = subst (λ (x : ℕ). IsMade c k olds (runs ++ b.run ∷ []) new_born (x + 1)) key_is
            (made_push runs born floor g.made b.run new_born (subst (λ (x : ℕ). floor ≤ x) (sym key_is) above)
            (subst (λ (m : ℕ). IsKept (length c - 2) m b.run) level.1 b.kept) (inr beside)
            (subst (λ (m : ℕ). AddsBirths c m b.run born new_born) level.1 b.births));
        floor_old = λ less. let h : prefix_key (get_or births j 0) < get_or (keys_of olds) i 0 = before less in
            omega arith;
        floor_birth = λ more. let le : prefix_key (get_or births j 0) ≤ prefix_key (get_or births (j + 1) 0) =
            later_prefix j more in omega arith;
        top = λ key e. inl (
          b.run,
          Contains-push runs b.run,
          key_is ∙ (let same : prefix_key (get_or births j 0) ≡ key = omega arith in same),
        );
        past = λ m less more. let le : prefix_key (get_or births j 0) ≤ prefix_key (get_or births (j + 1) 0) =
            later_prefix j more in let q : get_or (keys_of olds) m 0 < prefix_key (get_or births j 0) =
            g.past m less lt in omega arith;
        moved = λ old has new m le. has_run_push (length c - 2) runs b.run new.prefix (g.moved old has new m le);
        seen = λ z has. seen z (prefix_more births j z 0 lt has);
      }
    where
      key_is : b.run.key ≡ prefix_key (get_or births j 0)
      key_is = b.key

      level : IsOfLevel c (k + 1) (digits (length c) (get_or births j 0))
      level = birth_cut (get_or births j 0) (birth_here j lt)

      absent : ¬ HasRun (runs_view (length c - 2) olds) (digits (length c - 2) b.run.key)
      absent =
          subst (λ (x : ℕ). ¬ HasRun (runs_view (length c - 2) olds) (digits (length c - 2) x)) (sym key_is)
          (no_old (get_or births j 0) (birth_here j lt) (no_key i j runs born floor g lt before))

      beside : IsBornBeside c k (runs_view (length c - 2) olds) (run_view (length c - 2) b.run)
      beside = record {
        single = b.single;
        beside = b.run.rest - b.run.lo;
        level = subst (IsOfLevel c (k + 1)) (sym b.is) level;
        new_prefix = absent;
      }

      seen : (z : ℕ) → Contains (take j births) z ⊎ (get_or births j 0 ≡ z)
          → HasKey (runs ++ b.run ∷ []) (prefix_key z) ⊎ HasKey olds (prefix_key z)
      seen z (inl has) = lift (g.seen z has)
        where
          lift : HasKey runs (prefix_key z) ⊎ HasKey olds (prefix_key z)
              → HasKey (runs ++ b.run ∷ []) (prefix_key z) ⊎ HasKey olds (prefix_key z)
          lift (inl h) = inl (has_key_push runs b.run (prefix_key z) h)
          lift (inr h) = inr h
      seen z (inr e) = inl (b.run, Contains-push runs b.run, key_is ∙ ap prefix_key e)

  -- a run is moved
  pub going_move : (i j : ℕ) (runs : List KeyedRun) (born : List KeyedBirth) (floor : ℕ)
      → IsGoing c k olds births i j runs born floor → (old : KeyedRun) → i < length olds → get_or olds i old ≡ old
      → get_or (keys_of olds) i 0 ≡ old.key
      → (j < length births → old.key < prefix_key (get_or births j 0))
      → (new_runs : List KeyedRun) (new_born : List KeyedBirth)
      → IsPushed c old runs born new_runs new_born
      → IsGoing c k olds births (i + 1) j new_runs new_born (old.key + 1)
  going_move i j runs born floor g old lt here key_is after new_runs new_born pushed = go pushed
    where
      there : Contains olds old
      there = subst (λ (r : KeyedRun). Contains olds r) here (Contains-get_or olds i old lt)

      old_kept : IsKept (length c - 2) k old
      old_kept = given.kept.kept old there

      above : floor ≤ old.key
      above = let h : floor ≤ get_or (keys_of olds) i 0 = g.floor_old lt in omega (arith, key_is)

      next_old : i + 1 < length olds → old.key + 1 ≤ get_or (keys_of olds) (i + 1) 0
      next_old more =
          let size : length (keys_of olds) ≡ length olds = length-keys olds in
          let h : get_or (keys_of olds) i 0 < get_or (keys_of olds) (i + 1) 0 =
          given.kept.keys i (i + 1) (omega arith) (omega arith) in
          omega (arith, key_is)

      top : (rs : List KeyedRun) (key : ℕ) → key + 1 ≡ old.key + 1 → HasKey rs key ⊎ HasKey olds key
      top rs key e = inr (old, there, (let same : old.key ≡ key = omega arith in same))

      past : (m : ℕ) → m < i + 1 → j < length births → get_or (keys_of olds) m 0 < prefix_key (get_or births j 0)
      past m less in_ =
          below_more (λ (q : ℕ). get_or (keys_of olds) q 0 < prefix_key (get_or births j 0)) i
          (λ q early. g.past q early in_)
          (let a : old.key < prefix_key (get_or births j 0) = after in_ in omega (arith, key_is)) m less

      split : (r : KeyedRun) → Contains (take (i + 1) olds) r → Contains (take i olds) r ⊎ (old ≡ r)
      split r has = turn (prefix_more olds i r old lt has)
        where
          turn : Contains (take i olds) r ⊎ (get_or olds i old ≡ r) → Contains (take i olds) r ⊎ (old ≡ r)
          turn (inl h) = inl h
          turn (inr e) = inr (sym here ∙ e)

      weaker : IsMade c k olds runs born floor → IsMade c k olds runs born (old.key + 1)
      weaker m = record {
        keys = m.keys;
        below = λ r has. let b : r.key < floor = m.below r has in let a : floor ≤ old.key = above in omega arith;
        kept = m.kept;
        made = m.made;
        just = m.just;
        all = m.all;
      }

      at_level : (new : Run) → IsMovedTo c k (run_view (length c - 2) old) new
          → IsMovedTo c (level_of (length c - 2) old) (run_view (length c - 2) old) new
      at_level new m = subst (λ (q : ℕ). IsMovedTo c q (run_view (length c - 2) old) new) (sym old_kept.level) m

      go : IsPushed c old runs born new_runs new_born
          → IsGoing c k olds births (i + 1) j new_runs new_born (old.key + 1)
      go (gone none is_runs same_born) =
          subst (λ (bs : List KeyedBirth). IsGoing c k olds births (i + 1) j new_runs bs (old.key + 1)) (sym same_born)
          (subst (λ (r : List KeyedRun). IsGoing c k olds births (i + 1) j r born (old.key + 1)) (sym is_runs) record {
            in_olds = omega arith;
            in_births = g.in_births;
            made = weaker g.made;
            floor_old = next_old;
            floor_birth = λ in_. let a : old.key < prefix_key (get_or births j 0) = after in_ in omega arith;
            top = top runs;
            past = past;
            moved = λ r has new m le. earlier r (split r has) new m le;
            seen = g.seen;
          })
        where
          earlier : (r : KeyedRun) → Contains (take i olds) r ⊎ (old ≡ r) → (new : Run)
              → IsMovedTo c k (run_view (length c - 2) r) new → new.lo ≤ new.hi
              → HasRun (runs_view (length c - 2) runs) new.prefix
          earlier r (inl has) new m le = g.moved r has new m le
          earlier r (inr e) new m le =
              absurd (none new (at_level new
              (subst (λ (s : KeyedRun). IsMovedTo c k (run_view (length c - 2) s) new) (sym e) m)) le)
      go (moved new at_top at_low m same_runs adds) =
          subst (λ (rs : List KeyedRun). IsGoing c k olds births (i + 1) j rs new_born (old.key + 1)) (sym same_runs)
          record {
            in_olds = omega arith;
            in_births = g.in_births;
            made = subst (λ (x : ℕ). IsMade c k olds (runs ++ new ∷ []) new_born (x + 1)) m.same
                (made_push runs born floor g.made new new_born
                (let a : floor ≤ old.key = above in let s : new.key ≡ old.key = m.same in omega arith)
                (record {
                  below = subst (λ (x : ℕ). x < count_base ^ (length c - 2)) (sym m.same) old_kept.below;
                  level = moved_level c old new at_top at_low m ∙ ap (λ (q : ℕ). q + 1) old_kept.level;
                })
                (inl (
                  run_view (length c - 2) old,
                  in_map (run_view (length c - 2)) olds old there,
                  subst (λ (q : ℕ). IsMovedTo c q (run_view (length c - 2) old) (run_view (length c - 2) new))
                      old_kept.level m.moved,
                  m.some,
                ))
                (subst (λ (q : ℕ). AddsBirths c (q + 1) new born new_born) old_kept.level adds));
            floor_old = next_old;
            floor_birth = λ in_. let a : old.key < prefix_key (get_or births j 0) = after in_ in omega arith;
            top = top (runs ++ new ∷ []);
            past = past;
            moved = λ r has to t le. earlier r (split r has) to t le;
            seen = λ z has. lift z (g.seen z has);
          }
        where
          earlier : (r : KeyedRun) → Contains (take i olds) r ⊎ (old ≡ r) → (to : Run)
              → IsMovedTo c k (run_view (length c - 2) r) to → to.lo ≤ to.hi
              → HasRun (runs_view (length c - 2) (runs ++ new ∷ [])) to.prefix
          earlier r (inl has) to t le = has_run_push (length c - 2) runs new to.prefix (g.moved r has to t le)
          earlier r (inr e) to t le =
              let same : digits (length c - 2) new.key ≡ to.prefix =
              ap (digits (length c - 2)) (m.same ∙ ap (λ (s : KeyedRun). s.key) e) ∙ sym t.same in (
                run_view (length c - 2) new,
                in_map (run_view (length c - 2)) (runs ++ new ∷ []) new (Contains-push runs new),
                same,
              )

          lift : (z : ℕ) → HasKey runs (prefix_key z) ⊎ HasKey olds (prefix_key z)
              → HasKey (runs ++ new ∷ []) (prefix_key z) ⊎ HasKey olds (prefix_key z)
          lift z (inl h) = inl (has_key_push runs new (prefix_key z) h)
          lift z (inr h) = inr h

  -- why a birth is passed over: the floor is above it, or it meets a run
  pub met_already : (i j : ℕ) (runs : List KeyedRun) (born : List KeyedBirth) (floor : ℕ)
      → IsGoing c k olds births i j runs born floor → j < length births
      → (prefix_key (get_or births j 0) < floor)
      ⊎ ((i < length olds) × (prefix_key (get_or births j 0) ≡ get_or (keys_of olds) i 0))
      → HasKey runs (prefix_key (get_or births j 0)) ⊎ HasKey olds (prefix_key (get_or births j 0))
  met_already i j runs born floor g lt (inl low) =
      g.top (prefix_key (get_or births j 0))
      (let f : floor ≤ prefix_key (get_or births j 0) + 1 = g.floor_birth lt in omega arith)
  met_already i j runs born floor g lt (inr (in_, same)) =
      let size : length (keys_of olds) ≡ length olds = length-keys olds in
      inr (subst (λ (x : ℕ). HasKey olds x) (sym same)
      (from_map (λ (r : KeyedRun). r.key) olds (get_or (keys_of olds) i 0)
      (Contains-get_or (keys_of olds) i 0 (omega arith))))

  pub merging_start : IsMerging c k olds births 0 0 [] [] 0
  merging_start = record { floor = 0; going = going_start; least = omega arith; most = inl (omega arith) }

  pub merging_move : (i j : ℕ) (runs : List KeyedRun) (born : List KeyedBirth) (bar : ℕ)
      → IsMerging c k olds births i j runs born bar → (old : KeyedRun) → i < length olds → get_or olds i old ≡ old
      → get_or (keys_of olds) i 0 ≡ old.key
      → (j < length births → old.key < prefix_key (get_or births j 0))
      → (new_runs : List KeyedRun) (new_born : List KeyedBirth)
      → IsPushed c old runs born new_runs new_born → IsMerging c k olds births (i + 1) j new_runs new_born bar
  merging_move i j runs born bar m old lt here key_is after new_runs new_born pushed = record {
    floor = old.key + 1;
    going = going_move i j runs born m.floor m.going old lt here key_is after new_runs new_born pushed;
    least = let f : m.floor ≤ get_or (keys_of olds) i 0 = m.going.floor_old lt in let b : bar ≤ m.floor = m.least in
        omega (arith, key_is);
    most = inr (i, omega arith, ap (λ (x : ℕ). x + 1) (sym key_is));
  }

  pub merging_push : (i j : ℕ) (runs : List KeyedRun) (born : List KeyedBirth) (bar : ℕ)
      → IsMerging c k olds births i j runs born bar → j < length births → bar ≤ prefix_key (get_or births j 0)
      → (i < length olds → prefix_key (get_or births j 0) < get_or (keys_of olds) i 0)
      → (new_runs : List KeyedRun) (new_born : List KeyedBirth)
      → IsBornRun c (get_or births j 0) runs born new_runs new_born
      → IsMerging c k olds births i (j + 1) new_runs new_born (prefix_key (get_or births j 0) + 1)
  merging_push i j runs born bar m lt above before new_runs new_born b = record {
    floor = prefix_key (get_or births j 0) + 1;
    going = going_push i j runs born m.floor m.going lt (low m.most) before new_runs new_born b;
    least = omega arith;
    most = inl (omega arith);
  }
    where
      low : (m.floor ≤ bar) ⊎ ((n : ℕ) × (n < i) × (m.floor ≡ get_or (keys_of olds) n 0 + 1))
          → m.floor ≤ prefix_key (get_or births j 0)
      low (inl le) = omega arith
      low (inr (n, less, e)) =
          let p : get_or (keys_of olds) n 0 < prefix_key (get_or births j 0) = m.going.past n less lt in omega arith

  pub merging_skip : (i j : ℕ) (runs : List KeyedRun) (born : List KeyedBirth) (bar : ℕ)
      → IsMerging c k olds births i j runs born bar → j < length births
      → (prefix_key (get_or births j 0) < bar)
      ⊎ ((i < length olds) × (prefix_key (get_or births j 0) ≡ get_or (keys_of olds) i 0))
      → IsMerging c k olds births i (j + 1) runs born bar
  merging_skip i j runs born bar m lt why = record {
    floor = m.floor;
    going = going_skip i j runs born m.floor m.going lt (met_already i j runs born m.floor m.going lt (wider why));
    least = m.least;
    most = m.most;
  }
    where
      wider : (prefix_key (get_or births j 0) < bar)
          ⊎ ((i < length olds) × (prefix_key (get_or births j 0) ≡ get_or (keys_of olds) i 0))
          → (prefix_key (get_or births j 0) < m.floor)
          ⊎ ((i < length olds) × (prefix_key (get_or births j 0) ≡ get_or (keys_of olds) i 0))
      wider (inl less) = let b : bar ≤ m.floor = m.least in inl (omega arith)
      wider (inr met) = inr met

  module _ (runs : List KeyedRun) (born : List KeyedBirth) (floor : ℕ)
      (g : IsGoing c k olds births (length olds) (length births) runs born floor) where
    each : (new : Run) → Contains (runs_view (length c - 2) runs) new
        → ((run : Run) × Contains (runs_view (length c - 2) olds) run × IsMovedTo c k run new × (new.lo ≤ new.hi))
        ⊎ IsBornBeside c k (runs_view (length c - 2) olds) new
    each new has =
        let w : (r : KeyedRun) × Contains runs r × (run_view (length c - 2) r ≡ new) =
        from_map (run_view (length c - 2)) runs new has in
        subst (λ (v : Run).
        ((run : Run) × Contains (runs_view (length c - 2) olds) run × IsMovedTo c k run v × (v.lo ≤ v.hi))
        ⊎ IsBornBeside c k (runs_view (length c - 2) olds) v) w.2 (g.made.made w.0 w.1)

    all_moved : (run new : Run) → Contains (runs_view (length c - 2) olds) run → IsMovedTo c k run new
        → new.lo ≤ new.hi → HasRun (runs_view (length c - 2) runs) new.prefix
    all_moved run new has m le =
        let w : (r : KeyedRun) × Contains olds r × (run_view (length c - 2) r ≡ run) =
        from_map (run_view (length c - 2)) olds run has in
        let whole : take (length olds) olds ≡ olds = take_all (length olds) olds (omega arith) in
        g.moved w.0 (subst (λ (rs : List KeyedRun). Contains rs w.0) (sym whole) w.1) new
        (subst (λ (r : Run). IsMovedTo c k r new) (sym w.2) m) le

    all_born : (prefix : List ℕ) (x y : ℕ) → IsCandidate c k (cut_at prefix x y)
        → HasRun (runs_view (length c - 2) runs) prefix
    all_born prefix x y candidate =
        let w : (z : ℕ) × Contains births z × (digits (length c) z ≡ cut_at prefix x y) =
        from_map (digits (length c)) births (cut_at prefix x y)
        (given.all (cut_at prefix x y) candidate) in
        let whole : take (length births) births ≡ births = take_all (length births) births (omega arith) in
        let same = same_parts (digits (length c - 2) (prefix_key w.0)) prefix (w.0 / count_base % count_base)
        (w.0 % count_base) x y
        ((birth_parts w.0 w.1).1 ∙ w.2) in
        go (prefix_key w.0) same.0 (g.seen w.0 (subst (λ (zs : List ℕ). Contains zs w.0) (sym whole) w.1))
      where
        go : (key : ℕ) → digits (length c - 2) key ≡ prefix → HasKey runs key ⊎ HasKey olds key
            → HasRun (runs_view (length c - 2) runs) prefix
        go key same (inl has) =
            subst (λ (p : List ℕ). HasRun (runs_view (length c - 2) runs) p) same
            (run_of_key (length c - 2) runs key has)
        go key same (inr (old, has, e)) =
            let ends = ends_of_run c k (run_view (length c - 2) old)
            (given.whole.each (run_view (length c - 2) old) (in_map (run_view (length c - 2)) olds old has)) in
            let alive : IsAlive c k (digits (length c - 2) old.key) = (old.lo, ends.0.inside) in
            absurd (none_skipped c given.walkable.no_cycle k prefix x y candidate
            (subst (λ (p : List ℕ). IsAlive c k p) (ap (digits (length c - 2)) e ∙ same) alive))

    next_runs : IsNextRuns c k (runs_view (length c - 2) olds) (runs_view (length c - 2) runs)
    next_runs = record {
      ascending = runs_in_order (length c - 2) runs (λ r has. (g.made.kept r has).below) g.made.keys;
      each = each;
      moved = all_moved;
      born = all_born;
    }

    whole_next : IsWhole c (k + 1) (runs_view (length c - 2) runs)
    whole_next =
        next_whole c given.walkable k (runs_view (length c - 2) olds) (runs_view (length c - 2) runs)
        given.whole next_runs

    pub some_cut : (run : KeyedRun) → Contains runs run → run.lo ≤ run.hi
    some_cut run has =
        (whole_next.each (run_view (length c - 2) run) (in_map (run_view (length c - 2)) runs run has)).some

    pub ended_level : IsWholeLevel c (whole_view (length c) (k + 1) runs born)
    ended_level =
        level_with_births c given.small given.walkable given.kept.two (k + 1) runs whole_next born g.made.just
        g.made.all

    pub ended_kept : IsKeptLevel room (length c) (k + 1) runs (cuts_of born)
    ended_kept = record {
      few = given.kept.few;
      two = given.kept.two;
      keys = g.made.keys;
      kept = g.made.kept;
      some = some_cut;
      below =
          births_below c given.small given.walkable given.kept.two (k + 1) runs whole_next born g.made.just g.made.all;
    }
