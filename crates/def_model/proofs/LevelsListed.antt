-- Each level has a list of its cuts, and one of its avoiding cuts: the counts that fit are tried in their order.
use Rattle.std.proofs.Common.{◌≡◌, ℕ, zero, suc, ◌<◌, ◌≤◌, List, [], ◌∷◌, ◌++◌, length, map, get_or, sum, Contains, refl, sym, ap, subst, inl, inr, ◌⊎◌, arith}
use Rattle.std.proofs.lemmas.Bool.{cases_lt}
use Rattle.std.proofs.lemmas.List.Elements.{Contains-append_left, Contains-append_right, Contains-append_cases}
use Rattle.def_model.specs.Events.{Event, Computation, Linked, event_count}
use Rattle.def_model.specs.Cuts.{FitsProcesses, IsOfLevel}
use Rattle.def_model.specs.Observations.{IsAvoiding}
use Rattle.def_model.specs.Answers.{LexBelow, IsListOf}
use Rattle.def_model.specs.Laws.{LevelHasList, AvoidingHasList}
use Rattle.def_model.proofs.Consistency.{dec_consistent}
use Rattle.def_model.proofs.Decisions.{dec_both, dec_eq}
use Rattle.def_model.proofs.LevelLists.{ascending_cons}
use Rattle.def_model.proofs.OneAnswer.{contains_cases, contains_later, below_rest, ascending_rest}
use Rattle.def_model.proofs.Paths.{avoiding_level}
use Rattle.def_model.proofs.Walks.{dec_avoiding}

-- as many counts as bounds, each below its own
abbrev IsBelowEach : List ℕ → List ℕ → Type 0
IsBelowEach [] [] = Unit {0}
IsBelowEach [] (x ∷ xs) = ⊥
IsBelowEach (n ∷ ns) [] = ⊥
IsBelowEach (n ∷ ns) (x ∷ xs) = (x < n) × IsBelowEach ns xs

HasList : (List ℕ → Type 0) → Type 0
HasList P = (cuts : List (List ℕ)) × IsListOf P cuts

-- ---- lists in one

ascending_append : (xs ys : List (List ℕ)) → Linked LexBelow xs → Linked LexBelow ys
    → ((x y : List ℕ) → Contains xs x → Contains ys y → LexBelow x y) → Linked LexBelow (xs ++ ys)
ascending_append [] ys a b apart = b
ascending_append (x ∷ xs) ys a b apart =
    ascending_cons x (xs ++ ys) below
    (ascending_append xs ys (ascending_rest x xs a) b (λ z y has. apart z y (contains_later x z xs has)))
  where
    below : (z : List ℕ) → Contains (xs ++ ys) z → LexBelow x z
    below z has = go (Contains-append_cases xs ys z has)
      where
        go : Contains xs z ⊎ Contains ys z → LexBelow x z
        go (inl here) = below_rest x z xs a here
        go (inr there) = apart x z (0, omega arith, refl) there

ascending_headed : (n : ℕ) (xs : List (List ℕ)) → Linked LexBelow xs
    → Linked LexBelow (map (λ (x : List ℕ). n ∷ x) xs)
ascending_headed n [] a = tt
ascending_headed n (x ∷ []) a = tt
ascending_headed n (x ∷ y ∷ xs) a = (inr (refl, a.0), ascending_headed n (y ∷ xs) a.1)

headed_from : (n : ℕ) (xs : List (List ℕ)) (x : List ℕ) → Contains xs x
    → Contains (map (λ (x : List ℕ). n ∷ x) xs) (n ∷ x)
headed_from n [] x has = let lt : has.0 < 0 = has.1 in absurd (omega arith)
headed_from n (y ∷ xs) x has = go (headed_from n xs x) (contains_cases y x xs has)
  where
    go : (Contains xs x → Contains (map (λ (x : List ℕ). n ∷ x) xs) (n ∷ x)) → (y ≡ x) ⊎ Contains xs x
        → Contains (map (λ (x : List ℕ). n ∷ x) (y ∷ xs)) (n ∷ x)
    go rest (inl e) = (0, omega arith, ap (λ (z : List ℕ). n ∷ z) e)
    go rest (inr later) = contains_later (n ∷ y) (n ∷ x) (map (λ (x : List ℕ). n ∷ x) xs) (rest later)

headed_to : (n : ℕ) (xs : List (List ℕ)) (z : List ℕ) → Contains (map (λ (x : List ℕ). n ∷ x) xs) z
    → (x : List ℕ) × (n ∷ x ≡ z) × Contains xs x
headed_to n [] z has = let lt : has.0 < 0 = has.1 in absurd (omega arith)
headed_to n (y ∷ xs) z has = go (headed_to n xs z) (contains_cases (n ∷ y) z (map (λ (x : List ℕ). n ∷ x) xs) has)
  where
    go : (Contains (map (λ (x : List ℕ). n ∷ x) xs) z → (x : List ℕ) × (n ∷ x ≡ z) × Contains xs x)
        → (n ∷ y ≡ z) ⊎ Contains (map (λ (x : List ℕ). n ∷ x) xs) z → (x : List ℕ) × (n ∷ x ≡ z)
        × Contains (y ∷ xs) x
    go rest (inl e) = (y, e, (0, omega arith, refl))
    go rest (inr later) = let w = rest later in (w.0, w.1, contains_later y w.0 xs w.2)

-- ---- what is decided has a list below bounds

-- the list of the counts whose first one is below n + 1, from those below n and those with n
module _ (n : ℕ) (ns : List ℕ) (P : List ℕ → Type 0) (old new : List (List ℕ))
    (below : IsListOf (λ x. IsBelowEach (n ∷ ns) x × P x) old)
    (here : IsListOf (λ x. IsBelowEach ns x × P (n ∷ x)) new) where
  joined : List (List ℕ)
  joined = old ++ map (λ (x : List ℕ). n ∷ x) new

  joined_below : (x y : List ℕ) → Contains old x → Contains (map (λ (x : List ℕ). n ∷ x) new) y → LexBelow x y
  joined_below x y has also =
      let w = headed_to n new y also in
      subst (LexBelow x) w.1 (first x ((below.just x).0 has).0)
    where
      first : (x : List ℕ) → IsBelowEach (n ∷ ns) x → LexBelow x (n ∷ (headed_to n new y also).0)
      first [] b = b
      first (h ∷ x) b = inl b.0

  joined_to : (z : List ℕ) → Contains joined z → IsBelowEach (suc n ∷ ns) z × P z
  unfolding joined
  joined_to z has = go (Contains-append_cases old (map (λ (x : List ℕ). n ∷ x) new) z has)
    where
      wider : (z : List ℕ) → IsBelowEach (n ∷ ns) z → IsBelowEach (suc n ∷ ns) z
      wider [] b = b
      wider (h ∷ z) b = let lt : h < n = b.0 in (omega arith, b.1)

      go : Contains old z ⊎ Contains (map (λ (x : List ℕ). n ∷ x) new) z → IsBelowEach (suc n ∷ ns) z × P z
      go (inl first) = let w = (below.just z).0 first in (wider z w.0, w.1)
      go (inr later) =
          let w = headed_to n new z later in
          let p = (here.just w.0).0 w.2 in
          subst (λ (x : List ℕ). IsBelowEach (suc n ∷ ns) x × P x) w.1 ((omega arith, p.0), p.1)

  joined_from : (z : List ℕ) → IsBelowEach (suc n ∷ ns) z → P z → Contains joined z
  unfolding joined
  joined_from [] b p = absurd b
  joined_from (h ∷ z) b p = go (cases_lt h n)
    where
      go : (h < n) ⊎ (n ≤ h) → Contains (old ++ map (λ (x : List ℕ). n ∷ x) new) (h ∷ z)
      go (inl lt) =
          Contains-append_left old (map (λ (x : List ℕ). n ∷ x) new) (h ∷ z) ((below.just (h ∷ z)).1 ((lt, b.1), p))
      go (inr le) =
          let lt : h < suc n = b.0 in
          let e : n ≡ h = omega arith in
          subst (λ (m : ℕ). Contains (old ++ map (λ (x : List ℕ). n ∷ x) new) (m ∷ z)) e
          (Contains-append_right old (map (λ (x : List ℕ). n ∷ x) new) (n ∷ z)
          (headed_from n new z ((here.just z).1 (b.1, subst (λ (m : ℕ). P (m ∷ z)) (sym e) p))))

  joined_list : IsListOf (λ x. IsBelowEach (suc n ∷ ns) x × P x) joined
  unfolding joined
  joined_list = record {
    ascending = ascending_append old (map (λ (x : List ℕ). n ∷ x) new) below.ascending
        (ascending_headed n new here.ascending) joined_below;
    just = λ z. (joined_to z, λ w. joined_from z w.0 w.1);
  }

has_list_below : (ns : List ℕ) (P : List ℕ → Type 0) → ((x : List ℕ) → Dec (P x))
    → HasList (λ x. IsBelowEach ns x × P x)
unfolding HasList
has_list_below [] P dec = go (dec [])
  where
    empty : (z : List ℕ) → IsBelowEach [] z → [] ≡ z
    empty [] b = refl
    empty (x ∷ z) b = absurd b

    go : Dec (P []) → (cuts : List (List ℕ)) × IsListOf (λ x. IsBelowEach [] x × P x) cuts
    go (yes p) = (
      [] ∷ [],
      record {
        ascending = tt;
        just = λ z. (λ has. only z (contains_cases [] z [] has), λ w. (0, omega arith, empty z w.0));
      },
    )
      where
        only : (z : List ℕ) → ([] ≡ z) ⊎ Contains [] z → IsBelowEach [] z × P z
        only z (inl e) = subst (λ (x : List ℕ). IsBelowEach [] x × P x) e (tt, p)
        only z (inr has) = let lt : has.0 < 0 = has.1 in absurd (omega arith)
    go (no h) = (
      [],
      record {
        ascending = tt;
        just = λ z. (
          λ has. let lt : has.0 < 0 = has.1 in absurd (omega arith),
          λ w. absurd (h (subst P (sym (empty z w.0)) w.1)),
        );
      },
    )
has_list_below (n ∷ ns) P dec = heads (λ m. has_list_below ns (λ x. P (m ∷ x)) (λ x. dec (m ∷ x))) n
  where
    none : (z : List ℕ) → IsBelowEach (0 ∷ ns) z → ⊥
    none [] b = b
    none (h ∷ z) b = let lt : h < 0 = b.0 in omega arith

    heads : ((m : ℕ) → (cuts : List (List ℕ)) × IsListOf (λ x. IsBelowEach ns x × P (m ∷ x)) cuts) → (m : ℕ)
        → (cuts : List (List ℕ)) × IsListOf (λ x. IsBelowEach (m ∷ ns) x × P x) cuts
    heads rest zero = (
      [],
      record {
        ascending = tt;
        just = λ z. (λ has. let lt : has.0 < 0 = has.1 in absurd (omega arith), λ w. absurd (none z w.0));
      },
    )
    heads rest (suc m) = (
      joined m ns P (heads rest m).0 (rest m).0 (heads rest m).1 (rest m).1,
      joined_list m ns P (heads rest m).0 (rest m).0 (heads rest m).1 (rest m).1,
    )

-- ---- the cuts of a level

fits_below : (c : Computation) (cut : List ℕ) → length cut ≡ length c
    → ((p : ℕ) → get_or cut p 0 ≤ event_count c p)
    → IsBelowEach (map (λ (events : List Event). suc (length events)) c) cut
fits_below [] [] e within = tt
fits_below [] (x ∷ cut) e within = absurd (omega (arith, e))
fits_below (events ∷ c) [] e within = absurd (omega (arith, e))
fits_below (events ∷ c) (x ∷ cut) e within =
    let first : x ≤ length events = within 0 in (omega arith, fits_below c cut (omega (arith, e)) (λ p. within (suc p)))

-- what is decided, and holds of counts that fit alone, has a list
has_list : (c : Computation) (P : List ℕ → Type 0) → ((x : List ℕ) → Dec (P x))
    → ((x : List ℕ) → P x → FitsProcesses c x) → (cuts : List (List ℕ)) × IsListOf P cuts
unfolding HasList
has_list c P dec fits =
    let w : HasList (λ x. IsBelowEach (map (λ (events : List Event). suc (length events)) c) x × P x) =
    has_list_below (map (λ (events : List Event). suc (length events)) c) P dec in (
      w.0,
      record {
        ascending = w.1.ascending;
        just = λ z. (
          λ has. ((w.1.just z).0 has).1,
          λ p. (w.1.just z).1 (fits_below c z (fits z p).one_each (fits z p).within, p),
        );
      },
    )

pub level_has_list : LevelHasList
level_has_list c k =
    has_list c (IsOfLevel c k) (λ x. dec_both (dec_consistent c x) (dec_eq (sum x) k)) (λ x p. p.0.fits)

pub avoiding_has_list : AvoidingHasList
avoiding_has_list c test k =
    has_list c (IsAvoiding c test k) (λ x. dec_avoiding c test k x) (λ x p. (avoiding_level c test k x p).0.fits)
