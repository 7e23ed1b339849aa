-- How many cuts the runs have, and which one is the first that satisfies.
use Rattle.std.proofs.Common.{◌≡◌, ℕ, zero, suc, ◌+◌, ◌-◌, ◌<◌, ◌≤◌, Bool, true, false, List, [], ◌∷◌, ◌++◌, length, sum, Contains, refl, sym, ap, ◌∙◌, subst, inl, inr, ◌⊎◌, arith}
use Rattle.std.proofs.lemmas.Bool.{cases_order, false≢true}
use Rattle.std.proofs.lemmas.List.{length-append}
use Rattle.std.proofs.lemmas.List.Elements.{Contains-append_right, Contains-append_cases}
use Rattle.def_model.specs.Events.{Computation, Linked}
use Rattle.def_model.specs.Cuts.{IsConsistent, IsOfLevel}
use Rattle.def_model.specs.Answers.{LexBelow, IsFirstSatisfying}
use Rattle.def_model.specs.Walks.{NoneBelow}
use Rattle.walk_keys.specs.Neighbors.{cut_at}
use Rattle.walk_runs.proofs.RunCuts.{length_cut, split_cut}
use Rattle.walk_runs.specs.WholeLevels.{Run, cuts_from, cuts_of_run, cuts_of_runs, count_of_runs, IsBelowRun, IsWhole}
use Rattle.walk_runs.proofs.Ascending.{in_cons, in_head, linked_rest, below_later, lex_prefixes, lex_in_prefix}
use Rattle.walk_runs.proofs.LevelCuts.{run_of_cut, cut_of_run}

count_from : (prefix : List ℕ) (s x n : ℕ) → length (cuts_from prefix s x n) ≡ n
count_from prefix s x zero = refl
count_from prefix s x (suc n) = ap suc (count_from prefix s (suc x) n)

pub count_of_cuts : (k : ℕ) (runs : List Run) → length (cuts_of_runs k runs) ≡ count_of_runs runs
count_of_cuts k [] = refl
count_of_cuts k (run ∷ rest) =
    let l : length (cuts_of_run k run ++ cuts_of_runs k rest) ≡ length (cuts_of_run k run)
    + length (cuts_of_runs k rest) = length-append (cuts_of_run k run) (cuts_of_runs k rest) in
    let a : length (cuts_of_run k run) ≡ suc run.hi - run.lo =
    count_from run.prefix (k - sum run.prefix) run.lo (suc run.hi - run.lo) in
    let b : length (cuts_of_runs k rest) ≡ count_of_runs rest = count_of_cuts k rest in
    omega arith

linked_suffix : {A : Type 0} (R : A → A → Type 0) (xs ys : List A) → Linked R (xs ++ ys) → Linked R ys
linked_suffix R [] ys links = links
linked_suffix R (x ∷ xs) ys links = linked_suffix R xs ys (linked_rest R x (xs ++ ys) links)

module _ (c : Computation) (test : List ℕ → Bool) (k : ℕ) (before : List Run) (run : Run) (after : List Run)
    (whole : IsWhole c k (before ++ run ∷ after)) (none : NoneBelow c test k) (x y : ℕ) (low : run.lo ≤ x)
    (high : x ≤ run.hi) (level : sum run.prefix + (x + y) ≡ k) (hit : test (cut_at run.prefix x y) ≡ true)
    (earlier : (other : Run) (u v : ℕ) → Contains before other → other.lo ≤ u → u ≤ other.hi
    → sum other.prefix + (u + v) ≡ k → test (cut_at other.prefix u v) ≡ false) (less : (u v : ℕ) → run.lo ≤ u → u < x
    → sum run.prefix + (u + v) ≡ k → test (cut_at run.prefix u v) ≡ false) where
  is_cut : IsOfLevel c k (cut_at run.prefix x y)
  is_cut =
      cut_of_run c k (before ++ run ∷ after) whole run x y
      (Contains-append_right before (run ∷ after) run (in_head run after)) level low high

  clash : (cut : List ℕ) → test cut ≡ true → test cut ≡ false → ⊥
  clash cut yes' no' = false≢true (sym no' ∙ yes')

  -- another satisfying cut of the level comes after it
  comes_after : (other : Run) (u v : ℕ) → sum other.prefix + (u + v) ≡ k → other.lo ≤ u → u ≤ other.hi
      → test (cut_at other.prefix u v) ≡ true → ¬ (cut_at other.prefix u v ≡ cut_at run.prefix x y)
      → Contains before other ⊎ Contains (run ∷ after) other
      → LexBelow (cut_at run.prefix x y) (cut_at other.prefix u v)
  comes_after other u v l a b sat apart (inl has) =
      absurd (clash (cut_at other.prefix u v) sat (earlier other u v has a b l))
  comes_after other u v l a b sat apart (inr has) = go (in_cons run other after has)
    where
      here : (u v : ℕ) → sum run.prefix + (u + v) ≡ k → run.lo ≤ u → test (cut_at run.prefix u v) ≡ true
          → ¬ (cut_at run.prefix u v ≡ cut_at run.prefix x y) → LexBelow (cut_at run.prefix x y) (cut_at run.prefix u v)
      here u v l a sat apart = pick (cases_order u x)
        where
          pick : (u ≡ x) ⊎ ((u < x) ⊎ (x < u)) → LexBelow (cut_at run.prefix x y) (cut_at run.prefix u v)
          pick (inl e) =
              let f : v ≡ y = omega arith in
              absurd (apart (ap (λ (n : ℕ). cut_at run.prefix n v) e ∙ ap (λ (n : ℕ). cut_at run.prefix x n) f))
          pick (inr (inl lt)) = absurd (clash (cut_at run.prefix u v) sat (less u v a lt l))
          pick (inr (inr gt)) = lex_in_prefix run.prefix x y u v gt

      go : (run ≡ other) ⊎ Contains after other → LexBelow (cut_at run.prefix x y) (cut_at other.prefix u v)
      go (inl e) =
          subst (λ (r : Run). sum r.prefix + (u + v) ≡ k → r.lo ≤ u → test (cut_at r.prefix u v) ≡ true
          → ¬ (cut_at r.prefix u v ≡ cut_at run.prefix x y)
          → LexBelow (cut_at run.prefix x y) (cut_at r.prefix u v)) e (here u v) l a sat apart
      go (inr later) =
          lex_prefixes run.prefix other.prefix x y u v
          (below_later run other after (linked_suffix IsBelowRun before (run ∷ after) whole.ascending) later)

  pub first_hit_in_runs : IsFirstSatisfying c test (cut_at run.prefix x y)
  first_hit_in_runs = record { consistent = is_cut.0; satisfies = hit; first = first }
    where
      first : (other : List ℕ) → IsConsistent c other → test other ≡ true → ¬ (other ≡ cut_at run.prefix x y)
          → (sum (cut_at run.prefix x y) < sum other)
          ⊎ ((sum (cut_at run.prefix x y) ≡ sum other) × LexBelow (cut_at run.prefix x y) other)
      first other ok sat apart = go (cases_order (sum other) k)
        where
          same_level : sum other ≡ k → LexBelow (cut_at run.prefix x y) other
          same_level e =
              let l : length other ≡ length c = ok.fits.one_each in
              let m : length (cut_at run.prefix x y) ≡ length c = is_cut.0.fits.one_each in
              let n : length (cut_at run.prefix x y) ≡ length run.prefix + 2 = length_cut run.prefix x y in
              let s : (prefix : List ℕ) × (u : ℕ) × (v : ℕ) × (other ≡ cut_at prefix u v) =
              split_cut other (omega arith) in
              found s.0 s.1 s.2 s.3 (run_of_cut c k (before ++ run ∷ after) whole s.0 s.1 s.2
              (subst (λ (z : List ℕ). IsOfLevel c k z) s.3 (ok, e)))
            where
              found : (prefix : List ℕ) (u v : ℕ) → other ≡ cut_at prefix u v → (sum prefix + (u + v) ≡ k)
                  × ((r : Run) × Contains (before ++ run ∷ after) r × (r.prefix ≡ prefix) × (r.lo ≤ u) × (u ≤ r.hi))
                  → LexBelow (cut_at run.prefix x y) other
              found prefix u v f (l, (r, has, same, a, b)) =
                  let t : sum r.prefix ≡ sum prefix = ap sum same in
                  let is : cut_at r.prefix u v ≡ other = ap (λ (p : List ℕ). cut_at p u v) same ∙ sym f in
                  subst (λ (z : List ℕ). LexBelow (cut_at run.prefix x y) z) is
                  (comes_after r u v (omega arith) a b (ap test is ∙ sat) (λ g. apart (sym is ∙ g))
                  (Contains-append_cases before (run ∷ after) r has))

          go : (sum other ≡ k) ⊎ ((sum other < k) ⊎ (k < sum other)) → (sum (cut_at run.prefix x y) < sum other)
              ⊎ ((sum (cut_at run.prefix x y) ≡ sum other) × LexBelow (cut_at run.prefix x y) other)
          go (inl e) = inr (is_cut.1 ∙ sym e, same_level e)
          go (inr (inl lt)) = absurd (clash other sat (none (sum other) other lt (ok, refl)))
          go (inr (inr gt)) = let s : sum (cut_at run.prefix x y) ≡ k = is_cut.1 in inl (omega arith)
