-- Runs and marks by their places in the two lists, and the look-up of a mark.
use Rattle.std.proofs.Common.{◌≡◌, ℕ, zero, suc, ◌+◌, ◌-◌, ◌<◌, ◌≤◌, Bool, true, false, List, [], ◌∷◌, length, get_or, sum, Contains, refl, sym, ap, ◌∙◌, subst, inl, inr, ◌⊎◌, ◌↔◌, arith}
use Rattle.std.proofs.lemmas.Bool.{false≢true}
use Rattle.def_model.specs.Events.{Computation}
use Rattle.def_model.specs.Observations.{IsAvoiding}
use Rattle.walk_keys.specs.Neighbors.{cut_at}
use Rattle.walk_runs.specs.WholeLevels.{Run, IsWhole, AvoidsAt, IsMarked, AreMarked, IsPaired}
use Rattle.walk_runs.proofs.Ascending.{nothing_in_empty, in_cons}
use Rattle.walk_runs.proofs.RunMarks.{level_is, mark_in_runs}

pair_later : (run first : Run) (runs : List Run) (bits one : List Bool) (marks : List (List Bool))
    → IsPaired runs marks run bits → IsPaired (first ∷ runs) (one ∷ marks) run bits
pair_later run first runs bits one marks (i, lt, e, lt', e') = (suc i, omega arith, e, omega arith, e')

module _ (c : Computation) (test : List ℕ → Bool) (k : ℕ) where
  -- each pair of marked lists is a marked run
  pair_marked : (runs : List Run) (marks : List (List Bool)) → AreMarked c test k runs marks
      → (run : Run) (bits : List Bool) → IsPaired runs marks run bits → IsMarked c test k run bits
  pair_marked [] marks are run bits (i, lt, e, lt', e') = absurd (omega arith)
  pair_marked (first ∷ runs) [] are run bits pair = absurd are
  pair_marked (first ∷ runs) (one ∷ marks) (is, are) run bits (zero, lt, e, lt', e') =
      subst (λ (r : Run). IsMarked c test k r bits) e (subst (λ (b : List Bool). IsMarked c test k first b) e' is)
  pair_marked (first ∷ runs) (one ∷ marks) (is, are) run bits (suc i, lt, e, lt', e') =
      pair_marked runs marks are run bits (i, omega arith, e, omega arith, e')

  as_many : (runs : List Run) (marks : List (List Bool)) → AreMarked c test k runs marks → length runs ≡ length marks
  as_many [] [] are = refl
  as_many [] (one ∷ marks) are = absurd are
  as_many (first ∷ runs) [] are = absurd are
  as_many (first ∷ runs) (one ∷ marks) (is, are) = ap suc (as_many runs marks are)

  marked_from_pairs : (runs : List Run) (marks : List (List Bool)) → length runs ≡ length marks
      → ((run : Run) (bits : List Bool) → IsPaired runs marks run bits → IsMarked c test k run bits)
      → AreMarked c test k runs marks
  marked_from_pairs [] [] l each = tt
  marked_from_pairs [] (one ∷ marks) l each = absurd (omega arith)
  marked_from_pairs (first ∷ runs) [] l each = absurd (omega arith)
  marked_from_pairs (first ∷ runs) (one ∷ marks) l each = (
    each first one (0, omega arith, refl, omega arith, refl),
    marked_from_pairs runs marks (omega arith) (λ run bits pair.
        each run bits (pair_later run first runs bits one marks pair)),
  )

  pub marked_by_place : (runs : List Run) (marks : List (List Bool)) → AreMarked c test k runs marks
      ↔ ((length runs ≡ length marks) × ((run : Run) (bits : List Bool) → IsPaired runs marks run bits
      → IsMarked c test k run bits))
  marked_by_place runs marks =
      (λ are. (as_many runs marks are, pair_marked runs marks are), λ w. marked_from_pairs runs marks w.0 w.1)

  -- a run has its marks
  marks_of : (runs : List Run) (marks : List (List Bool)) → AreMarked c test k runs marks → (run : Run)
      → Contains runs run → (bits : List Bool) × IsPaired runs marks run bits
  marks_of [] marks are run has = absurd (nothing_in_empty run has)
  marks_of (first ∷ runs) [] are run has = absurd are
  marks_of (first ∷ runs) (one ∷ marks) (is, are) run has =
      go (in_cons first run runs has) (marks_of runs marks are run)
    where
      go : (first ≡ run) ⊎ Contains runs run → (Contains runs run → (bits : List Bool) × IsPaired runs marks run bits)
          → (bits : List Bool) × IsPaired (first ∷ runs) (one ∷ marks) run bits
      go (inl e) rest = (one, (0, omega arith, e, omega arith, refl))
      go (inr later) rest =
          let w : (bits : List Bool) × IsPaired runs marks run bits = rest later in
          (w.0, pair_later run first runs w.0 one marks w.1)

  -- what is set is there
  set_there : (bits : List Bool) (j : ℕ) → get_or bits j false ≡ true → j < length bits
  set_there [] j e = absurd (false≢true e)
  set_there (bit ∷ bits) zero e = omega arith
  set_there (bit ∷ bits) (suc j) e = let lt : j < length bits = set_there bits j e in omega arith

  pub mark_lookup : (runs : List Run) → IsWhole c k runs → (marks : List (List Bool)) → AreMarked c test k runs marks
      → (prefix : List ℕ) (x : ℕ) → AvoidsAt c test k prefix x
      ↔ ((run : Run) × (bits : List Bool) × IsPaired runs marks run bits × (run.prefix ≡ prefix) × (run.lo ≤ x)
      × (get_or bits (x - run.lo) false ≡ true))
  mark_lookup runs whole marks are prefix x = (to, from)
    where
      to : AvoidsAt c test k prefix x → (run : Run) × (bits : List Bool) × IsPaired runs marks run bits
          × (run.prefix ≡ prefix) × (run.lo ≤ x) × (get_or bits (x - run.lo) false ≡ true)
      to (y, a) =
          let total : sum prefix + (x + y) ≡ k = level_is c test k prefix x y a in
          go total (mark_in_runs c test k runs whole prefix x (y, a))
        where
          go : sum prefix + (x + y) ≡ k → (run : Run) × Contains runs run × (run.prefix ≡ prefix) × (run.lo ≤ x)
              × (x ≤ run.hi) → (run : Run) × (bits : List Bool) × IsPaired runs marks run bits × (run.prefix ≡ prefix)
              × (run.lo ≤ x) × (get_or bits (x - run.lo) false ≡ true)
          go total (run, has, same, low, high) =
              let w : (bits : List Bool) × IsPaired runs marks run bits = marks_of runs marks are run has in
              let m : IsMarked c test k run w.0 = pair_marked runs marks are run w.0 w.1 in
              let l : length w.0 ≡ suc run.hi - run.lo = m.one_each in
              let lt : x - run.lo < length w.0 = omega arith in
              let f : sum run.prefix ≡ sum prefix = ap sum same in
              let x_is : run.lo + (x - run.lo) ≡ x = omega arith in
              let y_is : (k - sum run.prefix) - (run.lo + (x - run.lo)) ≡ y = omega arith in
              let at : cut_at run.prefix (run.lo + (x - run.lo)) ((k - sum run.prefix) - (run.lo + (x - run.lo)))
              ≡ cut_at prefix x y = ap (λ (n : ℕ). cut_at run.prefix (run.lo + (x - run.lo)) n) y_is
              ∙ (ap (λ (n : ℕ). cut_at run.prefix n y) x_is ∙ ap (λ (p : List ℕ). cut_at p x y) same) in
              (run, w.0, w.1, same, low, (m.just (x - run.lo) lt).1 (subst (IsAvoiding c test k) (sym at) a))

      from : (run : Run) × (bits : List Bool) × IsPaired runs marks run bits × (run.prefix ≡ prefix) × (run.lo ≤ x)
          × (get_or bits (x - run.lo) false ≡ true) → AvoidsAt c test k prefix x
      from (run, bits, pair, same, low, set) =
          let m : IsMarked c test k run bits = pair_marked runs marks are run bits pair in
          let a : IsAvoiding c test k (cut_at run.prefix (run.lo + (x - run.lo))
          ((k - sum run.prefix) - (run.lo + (x - run.lo)))) =
          (m.just (x - run.lo) (set_there bits (x - run.lo) set)).0 set in
          let x_is : run.lo + (x - run.lo) ≡ x = omega arith in (
            (k - sum run.prefix) - (run.lo + (x - run.lo)),
            subst (λ (p : List ℕ). IsAvoiding c test k (cut_at p x ((k - sum run.prefix) - (run.lo + (x - run.lo)))))
                same (subst (λ (n : ℕ). IsAvoiding c test k
                (cut_at run.prefix n ((k - sum run.prefix) - (run.lo + (x - run.lo))))) x_is a),
          )
