-- What a walk up the levels may answer at each level.
use Rattle.std.proofs.Common.{◌≡◌, ℕ, zero, suc, ◌+◌, ◌-◌, ◌<◌, ◌≤◌, Bool, true, false, List, [], ◌∷◌, length, get_or, sum, Contains, refl, sym, ap, ◌∙◌, subst, inl, inr, ◌⊎◌, ◌↔◌, arith}
use Rattle.std.proofs.lemmas.Bool.{cases_lt, cases_order, false≢true}
use Rattle.std.proofs.lemmas.List.Elements.{Contains-get_or}
use Rattle.def_model.specs.Events.{Computation, Linked}
use Rattle.def_model.specs.Cuts.{IsConsistent, IsOfLevel, IsNextOf, AddsEvent, one_less, full_cut, total}
use Rattle.def_model.specs.Order.{HasNoCycle}
use Rattle.def_model.specs.Observations.{Possibly, IsAvoiding, HasNoAvoiding}
use Rattle.def_model.specs.Answers.{LexBelow, IsListOf, MoreThan, PossiblyYes, PossiblyNo, PossiblyUnknown, DefinitelyYes, DefinitelyNo, DefinitelyUnknown, IsPossiblyUnknown, IsPossiblyAnswer, IsDefinitelyUnknown, IsPrintedPath, IsDefinitelyAnswer, LeavesAvoiding}
use Rattle.def_model.proofs.Counts.{sum_less, step_back}
use Rattle.def_model.proofs.Steps.{sum_within}
use Rattle.def_model.proofs.Paths.{next_level, next_avoiding, avoiding_level, free_level_decides, definite_is_free}
use Rattle.def_model.proofs.OneAnswer.{one_list, below_rest, ascending_rest}
use Rattle.def_model.proofs.LevelLists.{last_level}

-- the whole list of a level says whether the level has more than w cuts
pub not_more : (P : List ℕ → Type 0) (w : ℕ) (cuts : List (List ℕ)) → IsListOf P cuts → length cuts ≤ w → ¬ MoreThan w P
not_more P w cuts list le (other, list', lt) =
    let e : cuts ≡ other =
    one_list cuts other list.ascending list'.ascending
    (λ cut. (λ h. (list'.just cut).1 ((list.just cut).0 h), λ h. (list.just cut).1 ((list'.just cut).0 h))) in
    let l : length cuts ≡ length other = ap length e in
    omega arith

-- a level with more than w cuts has a cut
pub some_of : (P : List ℕ → Type 0) (w : ℕ) → MoreThan w P → (cut : List ℕ) × P cut
some_of P w ([], list, lt) = absurd (omega arith)
some_of P w (cut ∷ cuts, list, lt) = (cut, (list.just cut).0 (0, omega arith, refl))

-- in an ascending list an earlier cut is below a later one
ascending_at : (cuts : List (List ℕ)) → Linked LexBelow cuts → (i j : ℕ) → i < j → j < length cuts
    → LexBelow (get_or cuts i []) (get_or cuts j [])
ascending_at [] links i j lt within = absurd (omega arith)
ascending_at (x ∷ cuts) links i zero lt within = absurd (omega arith)
ascending_at (x ∷ cuts) links zero (suc j) lt within =
    below_rest x (get_or cuts j []) cuts links (Contains-get_or cuts j [] (omega arith))
ascending_at (x ∷ cuts) links (suc i) (suc j) lt within =
    ascending_at cuts (ascending_rest x cuts links) i j (omega arith) (omega arith)

contains_at : (cuts : List (List ℕ)) (cut : List ℕ) → Contains cuts cut → (j : ℕ) × (j < length cuts)
    × (get_or cuts j [] ≡ cut)
contains_at [] cut (k, lt, at) = absurd (omega arith)
contains_at (x ∷ cuts) cut (zero, lt, at) = (0, lt, at)
contains_at (x ∷ cuts) cut (suc k, lt, at) =
    let r : (j : ℕ) × (j < length cuts) × (get_or cuts j [] ≡ cut) = contains_at cuts cut (k, omega arith, at) in
    let b : r.0 < length cuts = r.1 in
    (suc r.0, omega arith, r.2)

-- what a walk for Possibly knows below level k
module _ (c : Computation) (test : List ℕ → Bool) (w k : ℕ) (narrow : (j : ℕ) → j < k
    → ¬ MoreThan w (IsOfLevel c j)) (none : (j : ℕ) (cut : List ℕ) → j < k → IsOfLevel c j cut → test cut ≡ false) where
  -- the first cut of the level's list that satisfies is the answer
  pub possibly_found : (cuts : List (List ℕ)) → IsListOf (IsOfLevel c k) cuts → length cuts ≤ w → (i : ℕ)
      → i < length cuts → test (get_or cuts i []) ≡ true → ((j : ℕ) → j < i → test (get_or cuts j []) ≡ false)
      → IsPossiblyAnswer c test w (PossiblyYes (get_or cuts i []))
  possibly_found cuts list le i within yes' earlier =
      (known, record { consistent = level.0; satisfies = yes'; first = first })
    where
      level : IsOfLevel c k (get_or cuts i [])
      level = (list.just (get_or cuts i [])).0 (Contains-get_or cuts i [] within)

      known : (m : ℕ) → ¬ IsPossiblyUnknown c test w m
      known m u = go (cases_order m k)
        where
          go : (m ≡ k) ⊎ ((m < k) ⊎ (k < m)) → ⊥
          go (inl e) = not_more (IsOfLevel c k) w cuts list le (subst (λ (n : ℕ). MoreThan w (IsOfLevel c n)) e u.wide)
          go (inr (inl lt)) = narrow m lt u.wide
          go (inr (inr lt)) = false≢true (sym (u.none_below k (get_or cuts i []) lt level) ∙ yes')

      first : (other : List ℕ) → IsConsistent c other → test other ≡ true → ¬ (other ≡ get_or cuts i [])
          → (sum (get_or cuts i []) < sum other)
          ⊎ ((sum (get_or cuts i []) ≡ sum other) × LexBelow (get_or cuts i []) other)
      first other ok pass apart = go (cases_order (sum other) k)
        where
          s : sum (get_or cuts i []) ≡ k
          s = level.1

          go : (sum other ≡ k) ⊎ ((sum other < k) ⊎ (k < sum other)) → (sum (get_or cuts i []) < sum other)
              ⊎ ((sum (get_or cuts i []) ≡ sum other) × LexBelow (get_or cuts i []) other)
          go (inr (inl lt)) = absurd (false≢true (sym (none (sum other) other lt (ok, refl)) ∙ pass))
          go (inr (inr lt)) = inl (let t : sum (get_or cuts i []) ≡ k = s in omega arith)
          go (inl e) = at (contains_at cuts other ((list.just other).1 (ok, e)))
            where
              at : (j : ℕ) × (j < length cuts) × (get_or cuts j [] ≡ other) → (sum (get_or cuts i []) < sum other)
                  ⊎ ((sum (get_or cuts i []) ≡ sum other) × LexBelow (get_or cuts i []) other)
              at (j, lt, same) = order (cases_order j i)
                where
                  order : (j ≡ i) ⊎ ((j < i) ⊎ (i < j)) → (sum (get_or cuts i []) < sum other)
                      ⊎ ((sum (get_or cuts i []) ≡ sum other) × LexBelow (get_or cuts i []) other)
                  order (inl n) = absurd (apart (sym same ∙ ap (λ (x : ℕ). get_or cuts x []) n))
                  order (inr (inl before)) = absurd (false≢true (sym (earlier j before) ∙ (ap test same ∙ pass)))
                  order (inr (inr after)) =
                      inr (
                        s ∙ sym e,
                        subst (λ (x : List ℕ). LexBelow (get_or cuts i []) x) same
                            (ascending_at cuts list.ascending i j after lt),
                      )

  -- none to the last level: the answer is no
  pub possibly_none : total c < k → IsPossiblyAnswer c test w PossiblyNo
  possibly_none past = (known, no_cut)
    where
      known : (m : ℕ) → ¬ IsPossiblyUnknown c test w m
      known m u = go (cases_lt m k)
        where
          go : (m < k) ⊎ (k ≤ m) → ⊥
          go (inl lt) = narrow m lt u.wide
          go (inr le) = let s : (cut : List ℕ) × IsOfLevel c m cut = some_of (IsOfLevel c m) w u.wide in
              let t : m ≤ total c = last_level c m s.0 s.1 in omega arith

      no_cut : ¬ Possibly c test
      no_cut (cut, ok, yes') =
          let t : sum cut ≤ total c = sum_within c cut ok in
          false≢true (sym (none (sum cut) cut (omega arith) (ok, refl)) ∙ yes')

  -- a level that is too wide: the answer is unknown
  pub possibly_wide : MoreThan w (IsOfLevel c k) → IsPossiblyAnswer c test w (PossiblyUnknown k)
  possibly_wide wide = record { wide = wide; least = narrow; none_below = none }

-- what is next to a whole level, if it is more than w cuts
pub next_is_wide : (c : Computation) → HasNoCycle c → (w k : ℕ) (cuts : List (List ℕ)) → IsListOf (IsOfLevel c k) cuts
    → MoreThan w (IsNextOf c cuts) → MoreThan w (IsOfLevel c (k + 1))
next_is_wide c acyclic w k cuts list (next, list', lt) = (next, next_level c acyclic k cuts next list list', lt)

-- an avoiding cut has one below it on each level
pub avoiding_below : (c : Computation) (test : List ℕ → Bool) (j n : ℕ) (cut : List ℕ) → IsAvoiding c test (n + j) cut
    → (below : List ℕ) × IsAvoiding c test j below
avoiding_below c test j zero cut a = let z : 0 + j ≡ j =
    omega arith in (cut, subst (λ (m : ℕ). IsAvoiding c test m cut) z a)
avoiding_below c test j (suc n) cut a =
    let z : suc n + j ≡ (n + j) + 1 = omega arith in
    let w : IsConsistent c cut × (test cut ≡ false)
    × ((old : List ℕ) × IsAvoiding c test (n + j) old × AddsEvent old cut) =
    (next_avoiding c test (n + j) cut).0 (subst (λ (m : ℕ). IsAvoiding c test m cut) z a) in
    avoiding_below c test j n w.2.0 w.2.1

-- what a walk for Definitely knows below level k
module _ (c : Computation) (test : List ℕ → Bool) (w k : ℕ) (narrow : (j : ℕ) → j < k
    → ¬ MoreThan w (IsAvoiding c test j)) where
  -- a level with no avoiding cut, above levels that have one: the answer is yes
  pub definitely_free : k ≤ total c → ((j : ℕ) → j < k → (cut : List ℕ) × IsAvoiding c test j cut)
      → HasNoAvoiding c test k → IsDefinitelyAnswer c test w (DefinitelyYes k)
  definitely_free le below free = (known, free_level_decides c test k le free, record { none = free; below = below })
    where
      known : (m : ℕ) → ¬ IsDefinitelyUnknown c test w m
      known m u = go (cases_lt m k)
        where
          go : (m < k) ⊎ (k ≤ m) → ⊥
          go (inl lt) = narrow m lt u.wide
          go (inr ge) =
              let s : (cut : List ℕ) × IsAvoiding c test m cut = some_of (IsAvoiding c test m) w u.wide in
              let e : m ≡ m - k + k = omega arith in
              let b : (low : List ℕ) × IsAvoiding c test k low =
              avoiding_below c test k (m - k) s.0 (subst (λ (n : ℕ). IsAvoiding c test n s.0) e s.1) in
              free b.0 b.1

  -- a path from an avoiding cut of the last level, with no level that is too wide: the answer is no
  pub definitely_path : total c < k → (path : List ℕ) → IsPrintedPath c test path
      → IsDefinitelyAnswer c test w (DefinitelyNo path)
  definitely_path past path printed = (known, (λ d. definite_is_free c test d (full_cut c) printed.0), printed)
    where
      known : (m : ℕ) → ¬ IsDefinitelyUnknown c test w m
      known m u = go (cases_lt m k)
        where
          go : (m < k) ⊎ (k ≤ m) → ⊥
          go (inl lt) = narrow m lt u.wide
          go (inr ge) =
              let s : (cut : List ℕ) × IsAvoiding c test m cut = some_of (IsAvoiding c test m) w u.wide in
              let t : m ≤ total c = last_level c m s.0 (avoiding_level c test m s.0 s.1) in
              omega arith

  -- a level with too many avoiding cuts: the answer is unknown
  pub definitely_wide : MoreThan w (IsAvoiding c test k) → IsDefinitelyAnswer c test w (DefinitelyUnknown k)
  definitely_wide wide = record { wide = wide; least = narrow }

pub undone_by_list : (c : Computation) (test : List ℕ → Bool) (k : ℕ) (cuts : List (List ℕ))
    → IsListOf (IsAvoiding c test k) cuts → (cut : List ℕ) → sum cut ≡ k + 1 → (p : ℕ) → LeavesAvoiding c test cut p
    ↔ ((0 < get_or cut p 0) × Contains cuts (one_less cut p))
undone_by_list c test k cuts list cut s p = (λ w. to w.0 w.1, λ w. from w.0 w.1)
  where
    level : 0 < get_or cut p 0 → sum (one_less cut p) ≡ k
    level has = let t : sum (one_less cut p) + 1 ≡ sum cut = sum_less cut p has in omega arith

    to : 0 < get_or cut p 0 → IsAvoiding c test (sum (one_less cut p)) (one_less cut p) → (0 < get_or cut p 0)
        × Contains cuts (one_less cut p)
    to has a =
        (has, (list.just (one_less cut p)).1 (subst (λ (n : ℕ). IsAvoiding c test n (one_less cut p)) (level has) a))

    from : 0 < get_or cut p 0 → Contains cuts (one_less cut p) → LeavesAvoiding c test cut p
    from has there = (
      has,
      subst (λ (n : ℕ). IsAvoiding c test n (one_less cut p)) (sym (level has))
          ((list.just (one_less cut p)).0 there),
    )

pub some_undone : (c : Computation) (test : List ℕ → Bool) (k : ℕ) (cut : List ℕ) → IsAvoiding c test (k + 1) cut
    → (p : ℕ) × (p < length cut) × LeavesAvoiding c test cut p
some_undone c test k cut a =
    let w : IsConsistent c cut × (test cut ≡ false) × ((old : List ℕ) × IsAvoiding c test k old × AddsEvent old cut) =
    (next_avoiding c test k cut).0 a in
    let b : (p : ℕ) × (p < length cut) × (0 < get_or cut p 0) × (w.2.0 ≡ one_less cut p) = step_back w.2.0 cut w.2.2 in
    let level : IsOfLevel c k w.2.0 = avoiding_level c test k w.2.0 w.2.1 in
    let n : sum (one_less cut b.0) ≡ k = sym (ap sum b.3) ∙ level.1 in (
      b.0,
      b.1,
      (
        b.2,
        subst (λ (x : List ℕ). IsAvoiding c test (sum x) x) b.3
            (subst (λ (m : ℕ). IsAvoiding c test m w.2.0) (sym level.1) w.2.1),
      ),
    )
