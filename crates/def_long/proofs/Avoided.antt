-- Whether some walk through a window has no satisfying cut can be decided, and two walks, one after the other, are one.
use Rattle.std.proofs.Common.{◌≡◌, ℕ, zero, suc, ◌+◌, ◌-◌, ◌<◌, Bool, false, List, [], ◌∷◌, ◌++◌, length, get_or, sum, Contains, sym, ap, subst, inl, inr, ◌⊎◌, arith}
use Rattle.std.proofs.lemmas.List.Elements.{All-cons, All-contains, All-nil, All-push, Contains-get_or, Contains-push_cases}
use Rattle.def_model.specs.Events.{Computation}
use Rattle.def_model.specs.Cuts.{AddsEvent, IsConsistent, one_less}
use Rattle.def_model.specs.Observations.{HasNoSatisfying, HasSatisfying, IsWalk}
use Rattle.def_model.proofs.Consistency.{dec_consistent}
use Rattle.def_model.proofs.Counts.{step_back, step_from_less, sum_step}
use Rattle.def_model.proofs.Decisions.{dec_both, dec_false, dec_less, dec_list, dec_some}
use Rattle.def_model.proofs.Lists.{find_or_all, linked_at}
use Rattle.def_model.proofs.Walks.{walk_push, walk_start}
use Rattle.def_long.specs.Laws.{AvoidingByParts}
use Rattle.def_long.specs.Windows.{Window, DefinitelyIn}
use Rattle.def_long.proofs.WindowWalks.{not_empty, walk_first, walk_last}

-- from a cut one is reached with k events more, with no satisfying cut on the way
abbrev Reached : Computation → (List ℕ → Bool) → List ℕ → ℕ → List ℕ → Type 0
Reached c test from zero cut = IsConsistent c cut × (test cut ≡ false) × (cut ≡ from)
Reached c test from (suc k) cut =
    IsConsistent c cut × (test cut ≡ false)
    × ((p : ℕ) × (p < length cut) × ((0 < get_or cut p 0) × Reached c test from k (one_less cut p)))

dec_reached : (c : Computation) (test : List ℕ → Bool) (from : List ℕ) (k : ℕ) (cut : List ℕ)
    → Dec (Reached c test from k cut)
dec_reached c test from zero cut = all (dec_consistent c cut) (dec_false (test cut)) (dec_list cut from)
  where
    all : Dec (IsConsistent c cut) → Dec (test cut ≡ false) → Dec (cut ≡ from)
        → Dec (IsConsistent c cut × (test cut ≡ false) × (cut ≡ from))
    all (yes a) (yes b) (yes d) = yes (a, b, d)
    all (no h) b d = no (λ w. h w.0)
    all (yes a) (no h) d = no (λ w. h w.1)
    all (yes a) (yes b) (no h) = no (λ w. h w.2)
dec_reached c test from (suc k) cut =
    all (dec_consistent c cut) (dec_false (test cut))
    (dec_some (λ p. (0 < get_or cut p 0) × Reached c test from k (one_less cut p))
    (λ p. dec_both (dec_less 0 (get_or cut p 0)) (dec_reached c test from k (one_less cut p))) (length cut))
  where
    all : Dec (IsConsistent c cut) → Dec (test cut ≡ false)
        → Dec ((p : ℕ) × (p < length cut) × ((0 < get_or cut p 0) × Reached c test from k (one_less cut p)))
        → Dec (IsConsistent c cut × (test cut ≡ false)
        × ((p : ℕ) × (p < length cut) × ((0 < get_or cut p 0) × Reached c test from k (one_less cut p))))
    all (yes a) (yes b) (yes d) = yes (a, b, d)
    all (no h) b d = no (λ w. h w.0)
    all (yes a) (no h) d = no (λ w. h w.1)
    all (yes a) (yes b) (no h) = no (λ w. h w.2)

-- the cuts of a walk are reached, if none satisfies
walk_reached : (c : Computation) (test : List ℕ → Bool) (from to : List ℕ) (cuts : List (List ℕ))
    → IsWalk c from cuts to → HasNoSatisfying test cuts → (j : ℕ) → j < length cuts
    → Reached c test from j (get_or cuts j [])
walk_reached c test from to cuts w fails zero lt =
    (w.consistent 0 [] lt, fails 0 [] lt, walk_first c from to cuts w)
walk_reached c test from to cuts w fails (suc j) lt =
    go (step_back (get_or cuts j []) (get_or cuts (suc j) []) (linked_at AddsEvent cuts w.steps j [] lt))
    (walk_reached c test from to cuts w fails j (omega arith))
  where
    go : (p : ℕ) × (p < length (get_or cuts (suc j) [])) × (0 < get_or (get_or cuts (suc j) []) p 0)
        × (get_or cuts j [] ≡ one_less (get_or cuts (suc j) []) p) → Reached c test from j (get_or cuts j [])
        → Reached c test from (suc j) (get_or cuts (suc j) [])
    go (p, there, has, is) before = (
      w.consistent (suc j) [] lt,
      fails (suc j) [] lt,
      (p, there, (has, subst (Reached c test from j) is before)),
    )

walk_sum : (c : Computation) (from to : List ℕ) (cuts : List (List ℕ)) → IsWalk c from cuts to → (j : ℕ)
    → j < length cuts → sum (get_or cuts j []) ≡ sum from + j
walk_sum c from to cuts w zero lt =
    let e : sum (get_or cuts 0 []) ≡ sum from = ap sum (walk_first c from to cuts w) in omega arith
walk_sum c from to cuts w (suc j) lt =
    let before : sum (get_or cuts j []) ≡ sum from + j = walk_sum c from to cuts w j (omega arith) in
    let more : sum (get_or cuts (suc j) []) ≡ sum (get_or cuts j []) + 1 =
    sum_step (get_or cuts j []) (get_or cuts (suc j) []) (linked_at AddsEvent cuts w.steps j [] lt) in
    omega arith

-- a walk with no satisfying cut
abbrev pub Avoids : Computation → (List ℕ → Bool) → List ℕ → List ℕ → Type 0
Avoids c test from to = (cuts : List (List ℕ)) × IsWalk c from cuts to × HasNoSatisfying test cuts

walk_from_reached : (c : Computation) (test : List ℕ → Bool) (from : List ℕ) (k : ℕ) (cut : List ℕ)
    → Reached c test from k cut → Avoids c test from cut
walk_from_reached c test from zero cut (ok, fails, is) = (
  cut ∷ [],
  subst (λ (x : List ℕ). IsWalk c x (cut ∷ []) cut) is (walk_start c cut ok),
  All-cons (λ x. test x ≡ false) cut [] fails (All-nil (λ x. test x ≡ false)),
)
walk_from_reached c test from (suc k) cut (ok, fails, (p, there, (has, back))) =
    go (walk_from_reached c test from k (one_less cut p) back)
  where
    go : Avoids c test from (one_less cut p) → Avoids c test from cut
    go (cuts, w, each) = (
      cuts ++ cut ∷ [],
      walk_push c from (one_less cut p) cut cuts w ok (step_from_less cut p has),
      All-push (λ x. test x ≡ false) cuts cut each fails,
    )

-- every walk has a satisfying cut, or some walk has none
pub definitely_or_avoids : (w : Window) (test : List ℕ → Bool) → DefinitelyIn w test
    ⊎ Avoids w.run test w.from w.to
definitely_or_avoids w test = go (dec_reached w.run test w.from (sum w.to - sum w.from) w.to)
  where
    go : Dec (Reached w.run test w.from (sum w.to - sum w.from) w.to)
        → DefinitelyIn w test ⊎ Avoids w.run test w.from w.to
    go (yes r) = inr (walk_from_reached w.run test w.from (sum w.to - sum w.from) w.to r)
    go (no none) = inl (λ cuts walk. pick cuts walk (find_or_all test cuts))
      where
        clash : (cuts : List (List ℕ)) → IsWalk w.run w.from cuts w.to → HasNoSatisfying test cuts
            → (n : ℕ) × (length cuts ≡ suc n) → ⊥
        clash cuts walk fails (n, l) =
            none (subst (λ (k : ℕ). Reached w.run test w.from k w.to) count
            (subst (Reached w.run test w.from n) last
            (walk_reached w.run test w.from w.to cuts walk fails n (omega arith))))
          where
            last : get_or cuts n [] ≡ w.to
            last = walk_last w.run w.from w.to cuts walk n l

            count : n ≡ sum w.to - sum w.from
            count =
                let s : sum (get_or cuts n []) ≡ sum w.from + n =
                walk_sum w.run w.from w.to cuts walk n (omega arith) in
                let t : sum (get_or cuts n []) ≡ sum w.to = ap sum last in
                omega arith

        pick : (cuts : List (List ℕ)) → IsWalk w.run w.from cuts w.to
            → HasSatisfying test cuts ⊎ HasNoSatisfying test cuts → HasSatisfying test cuts
        pick cuts walk (inl found) = found
        pick cuts walk (inr fails) =
            absurd (clash cuts walk fails (not_empty w.run w.from w.to cuts walk))

-- ---- one walk after another

module _ (c : Computation) (a b d : List ℕ) (first second : List (List ℕ)) (one : IsWalk c a first b)
    (two : IsWalk c b second d) where
  -- a walk to this cut has cuts of both alone
  abbrev IsJoined : List ℕ → Type 0
  IsJoined cut = (cuts : List (List ℕ)) × IsWalk c a cuts cut
      × ((x : List ℕ) → Contains cuts x → Contains first x ⊎ Contains second x)

  joined_to : (j : ℕ) → j < length second → IsJoined (get_or second j [])
  joined_to zero lt =
      (first, subst (IsWalk c a first) (sym (walk_first c b d second two)) one, λ x has. inl has)
  joined_to (suc j) lt = go (joined_to j (omega arith))
    where
      go : IsJoined (get_or second j []) → IsJoined (get_or second (suc j) [])
      go (cuts, walk, from) = (
        cuts ++ get_or second (suc j) [] ∷ [],
        walk_push c a (get_or second j []) (get_or second (suc j) []) cuts walk (two.consistent (suc j) [] lt)
            (linked_at AddsEvent second two.steps j [] lt),
        λ x has. at x (Contains-push_cases cuts (get_or second (suc j) []) x has),
      )
        where
          at : (x : List ℕ) → Contains cuts x ⊎ (get_or second (suc j) [] ≡ x)
              → Contains first x ⊎ Contains second x
          at x (inl has) = from x has
          at x (inr is) = inr (subst (Contains second) is (Contains-get_or second (suc j) [] lt))

  pub joined : IsJoined d
  joined = go (not_empty c b d second two)
    where
      go : (n : ℕ) × (length second ≡ suc n) → IsJoined d
      go (n, l) = subst IsJoined (walk_last c b d second two n l) (joined_to n (omega arith))

pub avoiding_by_parts : AvoidingByParts
avoiding_by_parts w test cut first second one none two none' =
    go (joined w.run w.from cut w.to first second one two)
  where
    go : (cuts : List (List ℕ)) × IsWalk w.run w.from cuts w.to
        × ((x : List ℕ) → Contains cuts x → Contains first x ⊎ Contains second x)
        → (cuts : List (List ℕ)) × IsWalk w.run w.from cuts w.to × HasNoSatisfying test cuts
    go (cuts, walk, of) = (
      cuts,
      walk,
      λ k d lt. at (get_or cuts k d) (of (get_or cuts k d) (Contains-get_or cuts k d lt)),
    )
      where
        at : (x : List ℕ) → Contains first x ⊎ Contains second x → test x ≡ false
        at x (inl has) = All-contains (λ y. test y ≡ false) first x none has
        at x (inr has) = All-contains (λ y. test y ≡ false) second x none' has
