-- The cuts of a list of runs.
use Rattle.std.proofs.Common.{◌≡◌, ℕ, zero, suc, ◌+◌, ◌-◌, ◌<◌, ◌≤◌, List, [], ◌∷◌, ◌++◌, length, sum, Contains, sym, ap, ◌∙◌, subst, inl, inr, ◌⊎◌, ◌↔◌, arith}
use Rattle.std.proofs.lemmas.Bool.{cases_lt}
use Rattle.std.proofs.lemmas.List.Elements.{Contains-append_left, Contains-append_right, Contains-append_cases}
use Rattle.def_model.specs.Events.{Computation, Linked}
use Rattle.def_model.specs.Cuts.{IsConsistent, IsOfLevel}
use Rattle.def_model.specs.Answers.{LexBelow, IsListOf}
use Rattle.def_model.proofs.OneAnswer.{lex_irreflexive}
use Rattle.walk_keys.specs.Neighbors.{cut_at}
use Rattle.walk_runs.proofs.RunCuts.{sum_cut, split_cut}
use Rattle.walk_runs.specs.WholeLevels.{Run, cuts_from, cuts_of_run, cuts_of_runs, IsRunOf, IsBelowRun, HasRun, IsWhole}
use Rattle.walk_runs.proofs.Ascending.{nothing_in_empty, in_cons, in_rest, in_head, linked_cons, linked_rest, linked_append, below_later, lex_prefixes, lex_in_prefix}

in_cuts_from : (prefix : List ℕ) (s x n : ℕ) (cut : List ℕ) → Contains (cuts_from prefix s x n) cut
    → (u : ℕ) × (x ≤ u) × (u < x + n) × (cut ≡ cut_at prefix u (s - u))
in_cuts_from prefix s x zero cut has = absurd (nothing_in_empty cut has)
in_cuts_from prefix s x (suc n) cut has =
    go (in_cons (cut_at prefix x (s - x)) cut (cuts_from prefix s (suc x) n) has) (in_cuts_from prefix s (suc x) n cut)
  where
    go : (cut_at prefix x (s - x) ≡ cut) ⊎ Contains (cuts_from prefix s (suc x) n) cut
        → (Contains (cuts_from prefix s (suc x) n) cut → (u : ℕ) × (suc x ≤ u) × (u < suc x + n)
        × (cut ≡ cut_at prefix u (s - u))) → (u : ℕ) × (x ≤ u) × (u < x + suc n) × (cut ≡ cut_at prefix u (s - u))
    go (inl e) rest = (x, omega arith, omega arith, sym e)
    go (inr later) rest =
        let w : (u : ℕ) × (suc x ≤ u) × (u < suc x + n) × (cut ≡ cut_at prefix u (s - u)) = rest later in
        let a : suc x ≤ w.0 = w.1 in
        let b : w.0 < suc x + n = w.2 in
        (w.0, omega arith, omega arith, w.3)

at_cuts_from : (prefix : List ℕ) (s x n u : ℕ) → x ≤ u → u < x + n
    → Contains (cuts_from prefix s x n) (cut_at prefix u (s - u))
at_cuts_from prefix s x zero u le lt = absurd (omega arith)
at_cuts_from prefix s x (suc n) u le lt = go (cases_lt x u) (λ above.
    at_cuts_from prefix s (suc x) n u (omega arith) (omega arith))
  where
    go : (x < u) ⊎ (u ≤ x) → (x < u → Contains (cuts_from prefix s (suc x) n) (cut_at prefix u (s - u)))
        → Contains (cuts_from prefix s x (suc n)) (cut_at prefix u (s - u))
    go (inl above) rest =
        in_rest (cut_at prefix x (s - x)) (cut_at prefix u (s - u)) (cuts_from prefix s (suc x) n) (rest above)
    go (inr at) rest =
        let e : u ≡ x = omega arith in
        subst (λ (v : ℕ). Contains (cuts_from prefix s x (suc n)) (cut_at prefix v (s - v))) (sym e)
        (in_head (cut_at prefix x (s - x)) (cuts_from prefix s (suc x) n))

ascending_from : (prefix : List ℕ) (s x n : ℕ) → Linked LexBelow (cuts_from prefix s x n)
ascending_from prefix s x zero = tt
ascending_from prefix s x (suc n) =
    linked_cons LexBelow (cut_at prefix x (s - x)) (cuts_from prefix s (suc x) n) (λ z has.
    below z (in_cuts_from prefix s (suc x) n z has)) (ascending_from prefix s (suc x) n)
  where
    below : (z : List ℕ) → (u : ℕ) × (suc x ≤ u) × (u < suc x + n) × (z ≡ cut_at prefix u (s - u))
        → LexBelow (cut_at prefix x (s - x)) z
    below z (u, le, lt, e) =
        subst (λ (w : List ℕ). LexBelow (cut_at prefix x (s - x)) w) (sym e)
        (lex_in_prefix prefix x (s - x) u (s - u) (omega arith))

in_cuts_of_runs : (k : ℕ) (runs : List Run) (cut : List ℕ) → Contains (cuts_of_runs k runs) cut
    → (run : Run) × Contains runs run × Contains (cuts_of_run k run) cut
in_cuts_of_runs k [] cut has = absurd (nothing_in_empty cut has)
in_cuts_of_runs k (first ∷ rest) cut has =
    go (Contains-append_cases (cuts_of_run k first) (cuts_of_runs k rest) cut has) (in_cuts_of_runs k rest cut)
  where
    go : Contains (cuts_of_run k first) cut ⊎ Contains (cuts_of_runs k rest) cut
        → (Contains (cuts_of_runs k rest) cut → (run : Run) × Contains rest run × Contains (cuts_of_run k run) cut)
        → (run : Run) × Contains (first ∷ rest) run × Contains (cuts_of_run k run) cut
    go (inl here) found = (first, in_head first rest, here)
    go (inr later) found =
        let w : (run : Run) × Contains rest run × Contains (cuts_of_run k run) cut = found later in
        (w.0, in_rest first w.0 rest w.1, w.2)

at_cuts_of_runs : (k : ℕ) (runs : List Run) (run : Run) (cut : List ℕ) → Contains runs run
    → Contains (cuts_of_run k run) cut → Contains (cuts_of_runs k runs) cut
at_cuts_of_runs k [] run cut has inside = absurd (nothing_in_empty run has)
at_cuts_of_runs k (first ∷ rest) run cut has inside =
    go (in_cons first run rest has) (λ later. at_cuts_of_runs k rest run cut later inside)
  where
    go : (first ≡ run) ⊎ Contains rest run → (Contains rest run → Contains (cuts_of_runs k rest) cut)
        → Contains (cuts_of_run k first ++ cuts_of_runs k rest) cut
    go (inl e) found =
        Contains-append_left (cuts_of_run k first) (cuts_of_runs k rest) cut
        (subst (λ (r : Run). Contains (cuts_of_run k r) cut) (sym e) inside)
    go (inr later) found =
        Contains-append_right (cuts_of_run k first) (cuts_of_runs k rest) cut (found later)

ascending_runs : (k : ℕ) (runs : List Run) → Linked IsBelowRun runs → Linked LexBelow (cuts_of_runs k runs)
ascending_runs k [] links = tt
ascending_runs k (first ∷ rest) links =
    linked_append LexBelow (cuts_of_run k first) (cuts_of_runs k rest)
    (ascending_from first.prefix (k - sum first.prefix) first.lo (suc first.hi - first.lo))
    (ascending_runs k rest (linked_rest IsBelowRun first rest links)) cross
  where
    cross : (cut other : List ℕ) → Contains (cuts_of_run k first) cut → Contains (cuts_of_runs k rest) other
        → LexBelow cut other
    cross cut other here later =
        let a : (u : ℕ) × (first.lo ≤ u) × (u < first.lo + (suc first.hi - first.lo))
        × (cut ≡ cut_at first.prefix u ((k - sum first.prefix) - u)) =
        in_cuts_from first.prefix (k - sum first.prefix) first.lo (suc first.hi - first.lo) cut here in
        let w : (run : Run) × Contains rest run × Contains (cuts_of_run k run) other =
        in_cuts_of_runs k rest other later in
        let b : (u : ℕ) × (w.0.lo ≤ u) × (u < w.0.lo + (suc w.0.hi - w.0.lo))
        × (other ≡ cut_at w.0.prefix u ((k - sum w.0.prefix) - u)) =
        in_cuts_from w.0.prefix (k - sum w.0.prefix) w.0.lo (suc w.0.hi - w.0.lo) other w.2 in
        let below : LexBelow (cut_at first.prefix a.0 ((k - sum first.prefix) - a.0))
        (cut_at w.0.prefix b.0 ((k - sum w.0.prefix) - b.0)) =
        lex_prefixes first.prefix w.0.prefix a.0 ((k - sum first.prefix) - a.0) b.0 ((k - sum w.0.prefix) - b.0)
        (below_later first w.0 rest links w.1) in
        subst (λ (z : List ℕ). LexBelow cut z) (sym b.3)
        (subst (λ (z : List ℕ). LexBelow z (cut_at w.0.prefix b.0 ((k - sum w.0.prefix) - b.0))) (sym a.3) below)

-- an ascending list has one run of a prefix
one_run : (runs : List Run) → Linked IsBelowRun runs → (run other : Run) → Contains runs run → Contains runs other
    → run.prefix ≡ other.prefix → run ≡ other
one_run [] links run other has also e = absurd (nothing_in_empty run has)
one_run (first ∷ rest) links run other has also e =
    go (in_cons first run rest has) (in_cons first other rest also) (λ a b.
    one_run rest (linked_rest IsBelowRun first rest links) run other a b e)
  where
    go : (first ≡ run) ⊎ Contains rest run → (first ≡ other) ⊎ Contains rest other
        → (Contains rest run → Contains rest other → run ≡ other) → run ≡ other
    go (inl a) (inl b) found = sym a ∙ b
    go (inl a) (inr b) found =
        let f : first.prefix ≡ other.prefix = ap (λ (r : Run). r.prefix) a ∙ e in
        absurd (lex_irreflexive other.prefix (subst (λ (p : List ℕ). LexBelow p other.prefix) f
        (below_later first other rest links b)))
    go (inr a) (inl b) found =
        let f : first.prefix ≡ run.prefix = ap (λ (r : Run). r.prefix) b ∙ sym e in
        absurd (lex_irreflexive run.prefix (subst (λ (p : List ℕ). LexBelow p run.prefix) f
        (below_later first run rest links a)))
    go (inr a) (inr b) found = found a b

module _ (c : Computation) (k : ℕ) (runs : List Run) (whole : IsWhole c k runs) where
  pub run_of_cut : (prefix : List ℕ) (x y : ℕ) → IsOfLevel c k (cut_at prefix x y) → (sum prefix + (x + y) ≡ k)
      × ((run : Run) × Contains runs run × (run.prefix ≡ prefix) × (run.lo ≤ x) × (x ≤ run.hi))
  run_of_cut prefix x y (ok, s) = go (whole.alive prefix x y (ok, s))
    where
      level : sum prefix + (x + y) ≡ k
      level = let t : sum (cut_at prefix x y) ≡ sum prefix + (x + y) = sum_cut prefix x y in omega arith

      go : HasRun runs prefix → (sum prefix + (x + y) ≡ k)
          × ((run : Run) × Contains runs run × (run.prefix ≡ prefix) × (run.lo ≤ x) × (x ≤ run.hi))
      go (run, has, e) =
          let r : IsRunOf c k run = whole.each run has in
          let l : sum prefix + (x + y) ≡ k = level in
          let f : sum run.prefix ≡ sum prefix = ap sum e in
          let w : (run.lo ≤ x) × (x ≤ run.hi) = (r.interval.just x y (omega arith)).0
          (subst (λ (p : List ℕ). IsConsistent c (cut_at p x y)) (sym e) ok) in
          (l, (run, has, e, w.0, w.1))

  pub cut_of_run : (run : Run) (x y : ℕ) → Contains runs run → sum run.prefix + (x + y) ≡ k → run.lo ≤ x → x ≤ run.hi
      → IsOfLevel c k (cut_at run.prefix x y)
  cut_of_run run x y has level low high =
      let r : IsRunOf c k run = whole.each run has in
      let t : sum (cut_at run.prefix x y) ≡ sum run.prefix + (x + y) = sum_cut run.prefix x y in
      ((r.interval.just x y (omega arith)).1 (low, high), omega arith)

  pub in_runs : ((prefix : List ℕ) (x y : ℕ) → IsOfLevel c k (cut_at prefix x y)
      ↔ ((sum prefix + (x + y) ≡ k) × ((run : Run) × Contains runs run × (run.prefix ≡ prefix) × (run.lo ≤ x)
      × (x ≤ run.hi)))) × ((run other : Run) → Contains runs run → Contains runs other → run.prefix ≡ other.prefix
      → run ≡ other)
  in_runs = (λ prefix x y. (run_of_cut prefix x y, from prefix x y), one_run runs whole.ascending)
    where
      from : (prefix : List ℕ) (x y : ℕ) → (sum prefix + (x + y) ≡ k)
          × ((run : Run) × Contains runs run × (run.prefix ≡ prefix) × (run.lo ≤ x) × (x ≤ run.hi))
          → IsOfLevel c k (cut_at prefix x y)
      from prefix x y (level, (run, has, e, low, high)) =
          let f : sum run.prefix ≡ sum prefix = ap sum e in
          subst (λ (p : List ℕ). IsOfLevel c k (cut_at p x y)) e (cut_of_run run x y has (omega arith) low high)

pub cuts_of_whole : (c : Computation) → 2 ≤ length c → (k : ℕ) (runs : List Run) → IsWhole c k runs
    → IsListOf (IsOfLevel c k) (cuts_of_runs k runs)
cuts_of_whole c two k runs whole =
    record { ascending = ascending_runs k runs whole.ascending; just = λ cut. (to cut, from cut) }
  where
    to : (cut : List ℕ) → Contains (cuts_of_runs k runs) cut → IsOfLevel c k cut
    to cut has =
        let w : (run : Run) × Contains runs run × Contains (cuts_of_run k run) cut = in_cuts_of_runs k runs cut has in
        let a : (u : ℕ) × (w.0.lo ≤ u) × (u < w.0.lo + (suc w.0.hi - w.0.lo))
        × (cut ≡ cut_at w.0.prefix u ((k - sum w.0.prefix) - u)) =
        in_cuts_from w.0.prefix (k - sum w.0.prefix) w.0.lo (suc w.0.hi - w.0.lo) cut w.2 in
        let r : IsRunOf c k w.0 = whole.each w.0 w.1 in
        let below : sum w.0.prefix ≤ k = r.below in
        let some : w.0.lo ≤ w.0.hi = r.some in
        let within : w.0.hi ≤ k - sum w.0.prefix = r.interval.within in
        let low : w.0.lo ≤ a.0 = a.1 in
        let high : a.0 < w.0.lo + (suc w.0.hi - w.0.lo) = a.2 in
        subst (λ (z : List ℕ). IsOfLevel c k z) (sym a.3)
        (cut_of_run c k runs whole w.0 a.0 ((k - sum w.0.prefix) - a.0) w.1 (omega arith) low (omega arith))

    from : (cut : List ℕ) → IsOfLevel c k cut → Contains (cuts_of_runs k runs) cut
    from cut level =
        let l : length cut ≡ length c = level.0.fits.one_each in
        let s : (prefix : List ℕ) × (x : ℕ) × (y : ℕ) × (cut ≡ cut_at prefix x y) = split_cut cut (omega arith) in
        let w : (sum s.0 + (s.1 + s.2) ≡ k) × ((run : Run) × Contains runs run × (run.prefix ≡ s.0) × (run.lo ≤ s.1)
        × (s.1 ≤ run.hi)) = run_of_cut c k runs whole s.0 s.1 s.2
        (subst (λ (z : List ℕ). IsOfLevel c k z) s.3 level) in
        let total : sum s.0 + (s.1 + s.2) ≡ k = w.0 in
        let run : Run = w.1.0 in
        let low : w.1.0.lo ≤ s.1 = w.1.3 in
        let high : s.1 ≤ w.1.0.hi = w.1.4 in
        let f : sum w.1.0.prefix ≡ sum s.0 = ap sum w.1.2 in
        let y_is : (k - sum w.1.0.prefix) - s.1 ≡ s.2 = omega arith in
        let here : Contains (cuts_of_run k w.1.0) (cut_at w.1.0.prefix s.1 ((k - sum w.1.0.prefix) - s.1)) =
        at_cuts_from w.1.0.prefix (k - sum w.1.0.prefix) w.1.0.lo (suc w.1.0.hi - w.1.0.lo) s.1 low (omega arith) in
        let same : cut_at w.1.0.prefix s.1 ((k - sum w.1.0.prefix) - s.1) ≡ cut =
        ap (λ (y : ℕ). cut_at w.1.0.prefix s.1 y) y_is ∙ (ap (λ (p : List ℕ). cut_at p s.1 s.2) w.1.2 ∙ sym s.3) in
        at_cuts_of_runs k runs w.1.0 cut w.1.1 (subst (λ (z : List ℕ). Contains (cuts_of_run k w.1.0) z) same here)
