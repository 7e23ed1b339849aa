-- The lists of the levels, and of their avoiding cuts.
use Rattle.std.proofs.Common.{◌≡◌, ℕ, ◌+◌, ◌<◌, ◌≤◌, Bool, true, false, not, cond, filter, List, [], ◌∷◌, sum, Contains, refl, sym, ap, ◌∙◌, subst, inl, inr, ◌⊎◌, ◌↔◌, arith}
use Rattle.std.proofs.lemmas.Bool.{false≢true, not-true}
use Rattle.def_model.specs.Events.{Computation, Linked}
use Rattle.def_model.specs.Cuts.{IsConsistent, IsOfLevel, IsNextOf, AddsEvent, empty_cut, total}
use Rattle.def_model.specs.Observations.{IsAvoiding}
use Rattle.def_model.specs.Answers.{LexBelow, IsListOf}
use Rattle.def_model.proofs.Counts.{empty_from_sum, sum_empty}
use Rattle.def_model.proofs.Steps.{empty_consistent, sum_within}
use Rattle.def_model.proofs.Walks.{Reached, reached_from_avoiding, avoiding_from_reached}
use Rattle.def_model.proofs.Paths.{next_avoiding}
use Rattle.def_model.proofs.OneAnswer.{contains_cases, contains_later, below_rest, ascending_rest}

pub first_level : (c : Computation) → IsListOf (IsOfLevel c 0) (empty_cut c ∷ [])
first_level c = record { ascending = tt; just = λ cut. (to cut, from cut) }
  where
    to : (cut : List ℕ) → Contains (empty_cut c ∷ []) cut → IsOfLevel c 0 cut
    to cut has = go (contains_cases (empty_cut c) cut [] has)
      where
        go : (empty_cut c ≡ cut) ⊎ Contains [] cut → IsOfLevel c 0 cut
        go (inl e) = subst (λ (x : List ℕ). IsOfLevel c 0 x) e (empty_consistent c, sum_empty c)
        go (inr (k, lt, at)) = absurd (omega arith)

    from : (cut : List ℕ) → IsOfLevel c 0 cut → Contains (empty_cut c ∷ []) cut
    from cut (ok, s) = (0, omega arith, sym (empty_from_sum c cut ok.fits.one_each s))

pub last_level : (c : Computation) (k : ℕ) (cut : List ℕ) → IsOfLevel c k cut → k ≤ total c
last_level c k cut (ok, s) = let w : sum cut ≤ total c = sum_within c cut ok in omega arith

-- what a filter keeps
contains_filter : (p : List ℕ → Bool) (xs : List (List ℕ)) (x : List ℕ) → Contains (filter p xs) x
    ↔ (Contains xs x × (p x ≡ true))
contains_filter p [] x = (λ w. absurd (let lt : w.0 < 0 = w.1 in omega arith), λ w. w.0)
contains_filter p (y ∷ xs) x = go (p y) refl (contains_filter p xs x)
  where
    go : (b : Bool) → p y ≡ b → Contains (filter p xs) x ↔ (Contains xs x × (p x ≡ true))
        → Contains (cond b (y ∷ filter p xs) (filter p xs)) x ↔ (Contains (y ∷ xs) x × (p x ≡ true))
    go true e rest = (λ w. to (contains_cases y x (filter p xs) w), λ w. from (contains_cases y x xs w.0) w.1)
      where
        to : (y ≡ x) ⊎ Contains (filter p xs) x → Contains (y ∷ xs) x × (p x ≡ true)
        to (inl same) = ((0, omega arith, same), subst (λ (z : List ℕ). p z ≡ true) same e)
        to (inr later) = (contains_later y x xs (rest.0 later).0, (rest.0 later).1)

        from : (y ≡ x) ⊎ Contains xs x → p x ≡ true → Contains (y ∷ filter p xs) x
        from (inl same) pass = (0, omega arith, same)
        from (inr later) pass = contains_later y x (filter p xs) (rest.1 (later, pass))
    go false e rest =
        (λ w. (contains_later y x xs (rest.0 w).0, (rest.0 w).1), λ w. from (contains_cases y x xs w.0) w.1)
      where
        from : (y ≡ x) ⊎ Contains xs x → p x ≡ true → Contains (filter p xs) x
        from (inl same) pass = absurd (false≢true (sym e ∙ subst (λ (z : List ℕ). p z ≡ true) (sym same) pass))
        from (inr later) pass = rest.1 (later, pass)

-- an element below each of an ascending list may stand before it
pub ascending_cons : (x : List ℕ) (xs : List (List ℕ)) → ((z : List ℕ) → Contains xs z → LexBelow x z)
    → Linked LexBelow xs → Linked LexBelow (x ∷ xs)
ascending_cons x [] below links = tt
ascending_cons x (y ∷ xs) below links = (below y (0, omega arith, refl), links)

ascending_filter : (p : List ℕ → Bool) (xs : List (List ℕ)) → Linked LexBelow xs → Linked LexBelow (filter p xs)
ascending_filter p [] links = tt
ascending_filter p (y ∷ xs) links = go (p y) (ascending_filter p xs (ascending_rest y xs links))
  where
    go : (b : Bool) → Linked LexBelow (filter p xs) → Linked LexBelow (cond b (y ∷ filter p xs) (filter p xs))
    go true rest =
        ascending_cons y (filter p xs) (λ z has. below_rest y z xs links ((contains_filter p xs z).0 has).0) rest
    go false rest = rest

not_from : (b : Bool) → b ≡ false → not b ≡ true
not_from b e = ap not e

pub first_avoiding_list : (c : Computation) (test : List ℕ → Bool)
    → IsListOf (IsAvoiding c test 0) (filter (λ cut. not (test cut)) (empty_cut c ∷ []))
first_avoiding_list c test =
    record { ascending = ascending_filter (λ x. not (test x)) (empty_cut c ∷ []) tt; just = λ cut. (to cut, from cut) }
  where
    to : (cut : List ℕ) → Contains (filter (λ x. not (test x)) (empty_cut c ∷ [])) cut → IsAvoiding c test 0 cut
    to cut has =
        let w : Contains (empty_cut c ∷ []) cut × (not (test cut) ≡ true) =
        (contains_filter (λ x. not (test x)) (empty_cut c ∷ []) cut).0 has in
        go (not-true (test cut) w.1) (contains_cases (empty_cut c) cut [] w.0)
      where
        go : test cut ≡ false → (empty_cut c ≡ cut) ⊎ Contains [] cut → IsAvoiding c test 0 cut
        go fails (inl e) =
            avoiding_from_reached c test 0 cut (
              subst (λ (x : List ℕ). IsConsistent c x) e (empty_consistent c),
              fails,
              sym e,
            )
        go fails (inr (k, lt, at)) = absurd (omega arith)

    from : (cut : List ℕ) → IsAvoiding c test 0 cut → Contains (filter (λ x. not (test x)) (empty_cut c ∷ [])) cut
    from cut a =
        let r : Reached c test 0 cut = reached_from_avoiding c test 0 cut a in
        (contains_filter (λ x. not (test x)) (empty_cut c ∷ []) cut).1 (
          (0, omega arith, sym r.2),
          not_from (test cut) r.1,
        )

pub next_avoiding_list : (c : Computation) (test : List ℕ → Bool) (k : ℕ) (cuts next : List (List ℕ))
    → IsListOf (IsAvoiding c test k) cuts → IsListOf (IsNextOf c cuts) next
    → IsListOf (IsAvoiding c test (k + 1)) (filter (λ cut. not (test cut)) next)
next_avoiding_list c test k cuts next old new =
    record { ascending = ascending_filter (λ x. not (test x)) next new.ascending; just = λ cut. (to cut, from cut) }
  where
    to : (cut : List ℕ) → Contains (filter (λ x. not (test x)) next) cut → IsAvoiding c test (k + 1) cut
    to cut has =
        let w : Contains next cut × (not (test cut) ≡ true) = (contains_filter (λ x. not (test x)) next cut).0 has in
        let n : IsNextOf c cuts cut = (new.just cut).0 w.0 in
        (next_avoiding c test k cut).1 (n.0, not-true (test cut) w.1, (n.1.0, (old.just n.1.0).0 n.1.1, n.1.2))

    from : (cut : List ℕ) → IsAvoiding c test (k + 1) cut → Contains (filter (λ x. not (test x)) next) cut
    from cut a =
        let w : IsConsistent c cut × (test cut ≡ false)
        × ((before : List ℕ) × IsAvoiding c test k before × AddsEvent before cut) =
        (next_avoiding c test k cut).0 a in
        (contains_filter (λ x. not (test x)) next cut).1
        ((new.just cut).1 (w.0, (w.2.0, (old.just w.2.0).1 w.2.1, w.2.2)), not_from (test cut) w.1)
