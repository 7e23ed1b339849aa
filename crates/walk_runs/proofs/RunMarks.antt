-- The marks of runs.
use Rattle.std.proofs.Common.{◌≡◌, ℕ, zero, suc, ◌+◌, ◌-◌, ◌<◌, ◌≤◌, Bool, true, false, cond, List, [], ◌∷◌, ◌++◌, length, get_or, sum, Contains, refl, sym, ap, ◌∙◌, subst, inl, inr, ◌⊎◌, ◌↔◌, arith}
use Rattle.std.proofs.lemmas.List.{length-append}
use Rattle.std.proofs.lemmas.List.Elements.{Contains-append_left, Contains-append_right, Contains-append_cases}
use Rattle.def_model.specs.Events.{Computation, Linked}
use Rattle.def_model.specs.Cuts.{IsOfLevel, one_less}
use Rattle.def_model.specs.Observations.{IsAvoiding}
use Rattle.def_model.specs.Answers.{LexBelow, IsListOf}
use Rattle.def_model.proofs.Counts.{sum_less}
use Rattle.def_model.proofs.Paths.{avoiding_level}
use Rattle.walk_keys.specs.Neighbors.{cut_at}
use Rattle.walk_runs.proofs.RunCuts.{sum_cut, split_cut}
use Rattle.walk_runs.specs.WholeLevels.{Run, IsBelowRun, IsWhole, AvoidsAt, IsMarked, AreMarked, marked_from, marked_of_runs, marks_in, marks_of_runs}
use Rattle.walk_runs.proofs.Ascending.{nothing_in_empty, in_cons, in_rest, in_head, linked_cons, linked_rest, linked_append, below_later, lex_prefixes, lex_in_prefix}
use Rattle.walk_runs.proofs.Avoidance.{avoid_by_parents}
use Rattle.walk_runs.proofs.LevelCuts.{run_of_cut}

-- the level of an avoiding cut
pub level_is : (c : Computation) (test : List ℕ → Bool) (k : ℕ) (prefix : List ℕ) (x y : ℕ)
    → IsAvoiding c test k (cut_at prefix x y) → sum prefix + (x + y) ≡ k
level_is c test k prefix x y a =
    let s : sum (cut_at prefix x y) ≡ k = (avoiding_level c test k (cut_at prefix x y) a).1 in
    let t : sum (cut_at prefix x y) ≡ sum prefix + (x + y) = sum_cut prefix x y in
    omega arith

module _ (c : Computation) (test : List ℕ → Bool) (k : ℕ) (prefix : List ℕ) (x y : ℕ)
    (level : IsOfLevel c (k + 1) (cut_at prefix x y)) where
  abbrev InView : Type 0
  InView =
      ((0 < x) × AvoidsAt c test k prefix (x - 1)) ⊎ (AvoidsAt c test k prefix x
      ⊎ ((p : ℕ) × (p < length prefix) × (0 < get_or prefix p 0) × AvoidsAt c test k (one_less prefix p) x))

  abbrev Parent : Type 0
  Parent =
      ((0 < x) × IsAvoiding c test k (cut_at prefix (x - 1) y))
      ⊎ (((0 < y) × IsAvoiding c test k (cut_at prefix x (y - 1)))
      ⊎ ((p : ℕ) × (p < length prefix) × (0 < get_or prefix p 0)
      × IsAvoiding c test k (cut_at (one_less prefix p) x y)))

  total : sum prefix + (x + y) ≡ k + 1
  total =
      let s : sum (cut_at prefix x y) ≡ k + 1 = level.1 in
      let t : sum (cut_at prefix x y) ≡ sum prefix + (x + y) = sum_cut prefix x y in
      omega arith

  to_view : Parent → InView
  to_view (inl (has, a)) = inl (has, (y, a))
  to_view (inr (inl (has, a))) = inr (inl (y - 1, a))
  to_view (inr (inr (p, lt, has, a))) = inr (inr (p, lt, has, (y, a)))

  from_view : InView → Parent
  from_view (inl (has, (z, a))) =
      let l : sum prefix + (x + y) ≡ k + 1 = total in
      let m : sum prefix + ((x - 1) + z) ≡ k = level_is c test k prefix (x - 1) z a in
      let e : z ≡ y = omega arith in
      inl (has, subst (λ (n : ℕ). IsAvoiding c test k (cut_at prefix (x - 1) n)) e a)
  from_view (inr (inl (z, a))) =
      let l : sum prefix + (x + y) ≡ k + 1 = total in
      let m : sum prefix + (x + z) ≡ k = level_is c test k prefix x z a in
      let e : z ≡ y - 1 = omega arith in
      inr (inl (omega arith, subst (λ (n : ℕ). IsAvoiding c test k (cut_at prefix x n)) e a))
  from_view (inr (inr (p, lt, has, (z, a)))) =
      let l : sum prefix + (x + y) ≡ k + 1 = total in
      let m : sum (one_less prefix p) + (x + z) ≡ k = level_is c test k (one_less prefix p) x z a in
      let n : sum (one_less prefix p) + 1 ≡ sum prefix = sum_less prefix p has in
      let e : z ≡ y = omega arith in
      inr (inr (p, lt, has, subst (λ (n : ℕ). IsAvoiding c test k (cut_at (one_less prefix p) x n)) e a))

  pub mark_by_marks : IsAvoiding c test (k + 1) (cut_at prefix x y) ↔ ((test (cut_at prefix x y) ≡ false) × InView)
  mark_by_marks = (to, from)
    where
      to : IsAvoiding c test (k + 1) (cut_at prefix x y) → (test (cut_at prefix x y) ≡ false) × InView
      to a =
          let w : IsOfLevel c (k + 1) (cut_at prefix x y) × (test (cut_at prefix x y) ≡ false) × Parent =
          (avoid_by_parents c test k prefix x y).0 a in
          (w.1, to_view w.2)

      from : (test (cut_at prefix x y) ≡ false) × InView → IsAvoiding c test (k + 1) (cut_at prefix x y)
      from (fails, view) = (avoid_by_parents c test k prefix x y).1 (level, fails, from_view view)

pub mark_in_runs : (c : Computation) (test : List ℕ → Bool) (k : ℕ) (runs : List Run) → IsWhole c k runs
    → (prefix : List ℕ) (x : ℕ) → AvoidsAt c test k prefix x → (run : Run) × Contains runs run × (run.prefix ≡ prefix)
    × (run.lo ≤ x) × (x ≤ run.hi)
mark_in_runs c test k runs whole prefix x (y, a) =
    (run_of_cut c k runs whole prefix x y (avoiding_level c test k (cut_at prefix x y) a)).1

-- the marked cuts of one run
in_marked : (prefix : List ℕ) (s x : ℕ) (marks : List Bool) (cut : List ℕ) → Contains (marked_from prefix s x marks) cut
    → (j : ℕ) × (j < length marks) × (get_or marks j false ≡ true) × (cut ≡ cut_at prefix (x + j) (s - (x + j)))
in_marked prefix s x [] cut has = absurd (nothing_in_empty cut has)
in_marked prefix s x (mark ∷ marks) cut has = go mark refl has (in_marked prefix s (suc x) marks cut)
  where
    Found : Type 0
    Found = (j : ℕ) × (j < length (mark ∷ marks)) × (get_or (mark ∷ marks) j false ≡ true)
        × (cut ≡ cut_at prefix (x + j) (s - (x + j)))

    later : (j : ℕ) × (j < length marks) × (get_or marks j false ≡ true)
        × (cut ≡ cut_at prefix (suc x + j) (s - (suc x + j))) → (j : ℕ) × (j < length (mark ∷ marks))
        × (get_or (mark ∷ marks) j false ≡ true) × (cut ≡ cut_at prefix (x + j) (s - (x + j)))
    later (j, lt, set, e) =
        let f : suc x + j ≡ x + suc j = omega arith in
        (suc j, omega arith, set, e ∙ ap (λ (n : ℕ). cut_at prefix n (s - n)) f)

    go : (b : Bool) → mark ≡ b → Contains (cond b (cut_at prefix x (s - x) ∷ marked_from prefix s (suc x) marks)
        (marked_from prefix s (suc x) marks)) cut → (Contains (marked_from prefix s (suc x) marks) cut
        → (j : ℕ) × (j < length marks) × (get_or marks j false ≡ true)
        × (cut ≡ cut_at prefix (suc x + j) (s - (suc x + j)))) → (j : ℕ) × (j < length (mark ∷ marks))
        × (get_or (mark ∷ marks) j false ≡ true) × (cut ≡ cut_at prefix (x + j) (s - (x + j)))
    go false e h rest = later (rest h)
    go true e h rest = pick (in_cons (cut_at prefix x (s - x)) cut (marked_from prefix s (suc x) marks) h)
      where
        pick : (cut_at prefix x (s - x) ≡ cut) ⊎ Contains (marked_from prefix s (suc x) marks) cut
            → (j : ℕ) × (j < length (mark ∷ marks)) × (get_or (mark ∷ marks) j false ≡ true)
            × (cut ≡ cut_at prefix (x + j) (s - (x + j)))
        pick (inl same) = let f : x ≡ x + 0 = omega arith in
            (0, omega arith, e, sym same ∙ ap (λ (n : ℕ). cut_at prefix n (s - n)) f)
        pick (inr there) = later (rest there)

at_marked : (prefix : List ℕ) (s x : ℕ) (marks : List Bool) (j : ℕ) → j < length marks → get_or marks j false ≡ true
    → Contains (marked_from prefix s x marks) (cut_at prefix (x + j) (s - (x + j)))
at_marked prefix s x [] j lt set = absurd (omega arith)
at_marked prefix s x (mark ∷ marks) zero lt set =
    let f : x ≡ x + 0 = omega arith in
    subst (λ (b : Bool). Contains (cond b (cut_at prefix x (s - x) ∷ marked_from prefix s (suc x) marks)
    (marked_from prefix s (suc x) marks)) (cut_at prefix (x + 0) (s - (x + 0)))) (sym set)
    (subst (λ (n : ℕ). Contains (cut_at prefix x (s - x) ∷ marked_from prefix s (suc x) marks)
    (cut_at prefix n (s - n))) f (in_head (cut_at prefix x (s - x)) (marked_from prefix s (suc x) marks)))
at_marked prefix s x (mark ∷ marks) (suc j) lt set =
    let f : suc x + j ≡ x + suc j = omega arith in
    go mark (subst (λ (n : ℕ). Contains (marked_from prefix s (suc x) marks) (cut_at prefix n (s - n))) f
    (at_marked prefix s (suc x) marks j (omega arith) set))
  where
    go : (b : Bool) → Contains (marked_from prefix s (suc x) marks) (cut_at prefix (x + suc j) (s - (x + suc j)))
        → Contains (cond b (cut_at prefix x (s - x) ∷ marked_from prefix s (suc x) marks)
        (marked_from prefix s (suc x) marks)) (cut_at prefix (x + suc j) (s - (x + suc j)))
    go false h = h
    go true h = in_rest (cut_at prefix x (s - x)) (cut_at prefix (x + suc j) (s - (x + suc j)))
        (marked_from prefix s (suc x) marks) h

ascending_marked : (prefix : List ℕ) (s x : ℕ) (marks : List Bool) → Linked LexBelow (marked_from prefix s x marks)
ascending_marked prefix s x [] = tt
ascending_marked prefix s x (mark ∷ marks) = go mark (ascending_marked prefix s (suc x) marks)
  where
    below : (z : List ℕ) → (j : ℕ) × (j < length marks) × (get_or marks j false ≡ true)
        × (z ≡ cut_at prefix (suc x + j) (s - (suc x + j))) → LexBelow (cut_at prefix x (s - x)) z
    below z (j, lt, set, e) =
        subst (λ (w : List ℕ). LexBelow (cut_at prefix x (s - x)) w) (sym e)
        (lex_in_prefix prefix x (s - x) (suc x + j) (s - (suc x + j)) (omega arith))

    go : (b : Bool) → Linked LexBelow (marked_from prefix s (suc x) marks)
        → Linked LexBelow (cond b (cut_at prefix x (s - x) ∷ marked_from prefix s (suc x) marks)
        (marked_from prefix s (suc x) marks))
    go false rest = rest
    go true rest =
        linked_cons LexBelow (cut_at prefix x (s - x)) (marked_from prefix s (suc x) marks) (λ z has.
        below z (in_marked prefix s (suc x) marks z has)) rest

count_marked : (prefix : List ℕ) (s x : ℕ) (marks : List Bool) → length (marked_from prefix s x marks) ≡ marks_in marks
count_marked prefix s x [] = refl
count_marked prefix s x (mark ∷ marks) = go mark (count_marked prefix s (suc x) marks)
  where
    go : (b : Bool) → length (marked_from prefix s (suc x) marks) ≡ marks_in marks
        → length (cond b (cut_at prefix x (s - x) ∷ marked_from prefix s (suc x) marks)
        (marked_from prefix s (suc x) marks)) ≡ cond b 1 0 + marks_in marks
    go false rest = omega arith
    go true rest = omega arith

module _ (c : Computation) (test : List ℕ → Bool) (k : ℕ) where
  -- a cut of the list is a marked one of some run
  abbrev FoundIn : List Run → List ℕ → Type 0
  FoundIn runs cut =
      (run : Run) × Contains runs run × ((x y : ℕ) × (cut ≡ cut_at run.prefix x y) × IsAvoiding c test k cut)

  in_marked_runs : (runs : List Run) (marks : List (List Bool)) → AreMarked c test k runs marks → (cut : List ℕ)
      → Contains (marked_of_runs k runs marks) cut → FoundIn runs cut
  in_marked_runs [] marks are cut has = absurd (nothing_in_empty cut has)
  in_marked_runs (run ∷ rest) [] are cut has = absurd are
  in_marked_runs (run ∷ rest) (first ∷ more) (is, are) cut has =
      go (Contains-append_cases (marked_from run.prefix (k - sum run.prefix) run.lo first) (marked_of_runs k rest more)
      cut has) (in_marked_runs rest more are cut)
    where
      go : Contains (marked_from run.prefix (k - sum run.prefix) run.lo first) cut
          ⊎ Contains (marked_of_runs k rest more) cut → (Contains (marked_of_runs k rest more) cut → FoundIn rest cut)
          → FoundIn (run ∷ rest) cut
      go (inl here) found =
          let w : (j : ℕ) × (j < length first) × (get_or first j false ≡ true)
          × (cut ≡ cut_at run.prefix (run.lo + j) ((k - sum run.prefix) - (run.lo + j))) =
          in_marked run.prefix (k - sum run.prefix) run.lo first cut here in (
            run,
            in_head run rest,
            (
              run.lo + w.0,
              (k - sum run.prefix) - (run.lo + w.0),
              w.3,
              subst (IsAvoiding c test k) (sym w.3) ((is.just w.0 w.1).0 w.2),
            ),
          )
      go (inr later) found = let w : FoundIn rest cut = found later in (w.0, in_rest run w.0 rest w.1, w.2)

  at_marked_runs : (runs : List Run) (marks : List (List Bool)) → AreMarked c test k runs marks → (run : Run) (j : ℕ)
      → Contains runs run → run.lo + j ≤ run.hi → IsAvoiding c test k
      (cut_at run.prefix (run.lo + j) ((k - sum run.prefix) - (run.lo + j)))
      → Contains (marked_of_runs k runs marks) (cut_at run.prefix (run.lo + j) ((k - sum run.prefix) - (run.lo + j)))
  at_marked_runs [] marks are run j has le a = absurd (nothing_in_empty run has)
  at_marked_runs (one ∷ rest) [] are run j has le a = absurd are
  at_marked_runs (one ∷ rest) (first ∷ more) (is, are) run j has le a =
      go (in_cons one run rest has) (λ later. at_marked_runs rest more are run j later le a)
    where
      cut : List ℕ
      cut = cut_at run.prefix (run.lo + j) ((k - sum run.prefix) - (run.lo + j))

      here : (r : Run) → IsMarked c test k r first → r.lo + j ≤ r.hi
          → IsAvoiding c test k (cut_at r.prefix (r.lo + j) ((k - sum r.prefix) - (r.lo + j)))
          → Contains (marked_from r.prefix (k - sum r.prefix) r.lo first)
          (cut_at r.prefix (r.lo + j) ((k - sum r.prefix) - (r.lo + j)))
      here r m high avoids =
          let l : length first ≡ suc r.hi - r.lo = m.one_each in
          let lt : j < length first = omega arith in
          at_marked r.prefix (k - sum r.prefix) r.lo first j lt ((m.just j lt).1 avoids)

      go : (one ≡ run) ⊎ Contains rest run → (Contains rest run
          → Contains (marked_of_runs k rest more) (cut_at run.prefix (run.lo + j)
          ((k - sum run.prefix) - (run.lo + j)))) → Contains (marked_from one.prefix (k - sum one.prefix) one.lo first
          ++ marked_of_runs k rest more) (cut_at run.prefix (run.lo + j) ((k - sum run.prefix) - (run.lo + j)))
      go (inl e) found =
          Contains-append_left (marked_from one.prefix (k - sum one.prefix) one.lo first) (marked_of_runs k rest more)
          (cut_at run.prefix (run.lo + j) ((k - sum run.prefix) - (run.lo + j)))
          (subst (λ (r : Run). Contains (marked_from r.prefix (k - sum r.prefix) r.lo first)
          (cut_at run.prefix (run.lo + j) ((k - sum run.prefix) - (run.lo + j)))) (sym e)
          (here run (subst (λ (r : Run). IsMarked c test k r first) e is) le a))
      go (inr later) found =
          Contains-append_right (marked_from one.prefix (k - sum one.prefix) one.lo first) (marked_of_runs k rest more)
          (cut_at run.prefix (run.lo + j) ((k - sum run.prefix) - (run.lo + j))) (found later)

  ascending_marked_runs : (runs : List Run) (marks : List (List Bool)) → AreMarked c test k runs marks
      → Linked IsBelowRun runs → Linked LexBelow (marked_of_runs k runs marks)
  ascending_marked_runs [] marks are links = tt
  ascending_marked_runs (run ∷ rest) [] are links = tt
  ascending_marked_runs (run ∷ rest) (first ∷ more) (is, are) links =
      linked_append LexBelow (marked_from run.prefix (k - sum run.prefix) run.lo first) (marked_of_runs k rest more)
      (ascending_marked run.prefix (k - sum run.prefix) run.lo first)
      (ascending_marked_runs rest more are (linked_rest IsBelowRun run rest links)) cross
    where
      cross : (cut other : List ℕ) → Contains (marked_from run.prefix (k - sum run.prefix) run.lo first) cut
          → Contains (marked_of_runs k rest more) other → LexBelow cut other
      cross cut other here later =
          let a : (j : ℕ) × (j < length first) × (get_or first j false ≡ true)
          × (cut ≡ cut_at run.prefix (run.lo + j) ((k - sum run.prefix) - (run.lo + j))) =
          in_marked run.prefix (k - sum run.prefix) run.lo first cut here in
          let b : FoundIn rest other = in_marked_runs rest more are other later in
          let below : LexBelow (cut_at run.prefix (run.lo + a.0) ((k - sum run.prefix) - (run.lo + a.0)))
          (cut_at b.0.prefix b.2.0 b.2.1) = lex_prefixes run.prefix b.0.prefix (run.lo + a.0)
          ((k - sum run.prefix) - (run.lo + a.0)) b.2.0 b.2.1 (below_later run b.0 rest links b.1) in
          subst (λ (z : List ℕ). LexBelow cut z) (sym b.2.2)
          (subst (λ (z : List ℕ). LexBelow z (cut_at b.0.prefix b.2.0 b.2.1)) (sym a.3) below)

  count_marked_runs : (runs : List Run) (marks : List (List Bool)) → AreMarked c test k runs marks
      → length (marked_of_runs k runs marks) ≡ marks_of_runs marks
  count_marked_runs [] [] are = refl
  count_marked_runs [] (first ∷ more) are = absurd are
  count_marked_runs (run ∷ rest) [] are = absurd are
  count_marked_runs (run ∷ rest) (first ∷ more) (is, are) =
      let l : length (marked_from run.prefix (k - sum run.prefix) run.lo first ++ marked_of_runs k rest more)
      ≡ length (marked_from run.prefix (k - sum run.prefix) run.lo first) + length (marked_of_runs k rest more) =
      length-append (marked_from run.prefix (k - sum run.prefix) run.lo first) (marked_of_runs k rest more) in
      let a : length (marked_from run.prefix (k - sum run.prefix) run.lo first) ≡ marks_in first =
      count_marked run.prefix (k - sum run.prefix) run.lo first in
      let b : length (marked_of_runs k rest more) ≡ marks_of_runs more = count_marked_runs rest more are in
      omega arith

pub marked_list : (c : Computation) → 2 ≤ length c → (test : List ℕ → Bool) (k : ℕ) (runs : List Run) → IsWhole c k runs
    → (marks : List (List Bool)) → AreMarked c test k runs marks
    → IsListOf (IsAvoiding c test k) (marked_of_runs k runs marks)
    × (length (marked_of_runs k runs marks) ≡ marks_of_runs marks)
marked_list c two test k runs whole marks are = (
  record {
    ascending = ascending_marked_runs c test k runs marks are whole.ascending;
    just =
        λ cut. (to cut, from cut);
  },
  count_marked_runs c test k runs marks are,
)
  where
    to : (cut : List ℕ) → Contains (marked_of_runs k runs marks) cut → IsAvoiding c test k cut
    to cut has = (in_marked_runs c test k runs marks are cut has).2.3

    from : (cut : List ℕ) → IsAvoiding c test k cut → Contains (marked_of_runs k runs marks) cut
    from cut a =
        let level : IsOfLevel c k cut = avoiding_level c test k cut a in
        let l : length cut ≡ length c = level.0.fits.one_each in
        let s : (prefix : List ℕ) × (x : ℕ) × (y : ℕ) × (cut ≡ cut_at prefix x y) = split_cut cut (omega arith) in
        found s.0 s.1 s.2 s.3 (run_of_cut c k runs whole s.0 s.1 s.2
        (subst (λ (z : List ℕ). IsOfLevel c k z) s.3 level))
      where
        found : (prefix : List ℕ) (x y : ℕ) → cut ≡ cut_at prefix x y → (sum prefix + (x + y) ≡ k)
            × ((run : Run) × Contains runs run × (run.prefix ≡ prefix) × (run.lo ≤ x) × (x ≤ run.hi))
            → Contains (marked_of_runs k runs marks) cut
        found prefix x y e (total, (run, has, same, low, high)) =
            let f : sum run.prefix ≡ sum prefix = ap sum same in
            let x_is : run.lo + (x - run.lo) ≡ x = omega arith in
            let y_is : (k - sum run.prefix) - (run.lo + (x - run.lo)) ≡ y = omega arith in
            let at : cut_at run.prefix (run.lo + (x - run.lo)) ((k - sum run.prefix) - (run.lo + (x - run.lo))) ≡ cut =
            ap (λ (n : ℕ). cut_at run.prefix (run.lo + (x - run.lo)) n) y_is
            ∙ (ap (λ (n : ℕ). cut_at run.prefix n y) x_is ∙ (ap (λ (p : List ℕ). cut_at p x y) same ∙ sym e)) in
            subst (λ (z : List ℕ). Contains (marked_of_runs k runs marks) z) at
            (at_marked_runs c test k runs marks are run (x - run.lo) has (omega arith)
            (subst (IsAvoiding c test k) (sym at) a))
