-- Which of some ascending numbers come to lie in range once something is added.
use Rattle.std.proofs.Common.{◌≡◌, ℕ, ◌+◌, ◌-◌, ◌^◌, ◌<◌, ◌≤◌, List, length, get_or, drop, Contains, Ok, Err, Result, sym, ap, ◌∙◌, subst, inl, inr, ◌⊎◌, ◌↔◌, arith}
use Rattle.std.specs.Prelude.{IfOk}
use Rattle.std.specs.declared.alloc.AllocError.{AllocError}
use Rattle.std.proofs.lemmas.Bool.{cases_lt}
use Rattle.std.proofs.lemmas.List.{get_or-drop, get_or-take, length-drop, length-take-le}
use Rattle.def_model.specs.Events.{Computation}
use Rattle.def_model.specs.Cuts.{one_more}
use Rattle.walk_keys.specs.Keys.{Ascending, count_base, digits, key_of}
use Rattle.walk_keys.proofs.Keys.{more_is}
use Rattle.pd_level.specs.MoreCuts.{AreCuts, IsInRange, IsMoreBy, IsMoreBySome, piece}
use Rattle.pd_level.proofs.Merges.{contains_at, contains_get}

pub rising : (keys : List ℕ) → Ascending keys → (i j : ℕ) → i ≤ j → j < length keys → get_or keys i 0 ≤ get_or keys j 0
rising keys asc i j le lt = by (cases_lt i j)
  where
    by : (i < j) ⊎ (j ≤ i) → get_or keys i 0 ≤ get_or keys j 0
    by (inl less) = let h : get_or keys i 0 < get_or keys j 0 = asc i j less lt in omega arith
    by (inr same) = let e : i ≡ j = omega arith in let f : get_or keys i 0 ≡ get_or keys j 0 =
        ap (λ (k : ℕ). get_or keys k 0) e in omega arith

-- the keys from one place to another are those that come to lie in range once this is added
pub record IsPieceOf (keys : List ℕ) (added from to start end : ℕ) : Type 0 where
  pub ordered : start ≤ end
  pub within : end ≤ length keys
  pub low : (k : ℕ) → k < start → (0 < from) × (get_or keys k 0 + added < get_or keys from 0)
  pub from_low : (k : ℕ) → start ≤ k → k < length keys → 0 < from → get_or keys from 0 ≤ get_or keys k 0 + added
  pub below : (k : ℕ) → start ≤ k → k < end → to < length keys → get_or keys k 0 + added < get_or keys to 0
  pub high : (k : ℕ) → end ≤ k → k < length keys
      → (to < length keys) × (get_or keys to 0 ≤ get_or keys k 0 + added)

pub length-piece : (keys : List ℕ) (start end : ℕ) → start ≤ end → end ≤ length keys
    → length (piece keys start end) ≡ end - start
length-piece keys start end le within =
    let room : end - start ≤ length (drop start keys) = omega (arith, length-drop start keys) in
    length-take-le (end - start) (drop start keys) room

pub piece_at : (keys : List ℕ) (start end i : ℕ) → i < end - start
    → get_or (piece keys start end) i 0 ≡ get_or keys (start + i) 0
piece_at keys start end i lt =
    get_or-take (end - start) (drop start keys) i 0 lt ∙ get_or-drop start keys i 0

pub piece_cuts : (c : Computation) (keys : List ℕ) (start end : ℕ) → start ≤ end → end ≤ length keys → AreCuts c keys
    → AreCuts c (piece keys start end)
piece_cuts c keys start end le within cuts = record {
  are_keys = record {
    below = λ i lt. rw (piece_at keys start end i (inside i lt)) (cuts.are_keys.below (start + i)
        (let h = inside i lt in omega arith));
    ascending = λ i j lt in_.
        rw (piece_at keys start end i (let h = inside j in_ in omega arith), piece_at keys start end j (inside j in_))
        (cuts.are_keys.ascending (start + i) (start + j) (omega arith) (let h = inside j in_ in omega arith));
  };
  consistent = λ i lt. rw (piece_at keys start end i (inside i lt)) (cuts.consistent (start + i)
      (let h = inside i lt in omega arith));
}
  where
    inside : (i : ℕ) → i < length (piece keys start end) → i < end - start
    inside i lt = omega (arith, length-piece keys start end le within)

-- what the piece makes is what lies in range
pub piece_just : (c : Computation) (keys more : List ℕ) (p added from to start end : ℕ) → AreCuts c keys → p < length c
    → added ≡ count_base ^ (length c - 1 - p) → IsPieceOf keys added from to start end
    → ((x : ℕ) → Contains more x ↔ IsMoreBy c (piece keys start end) p x) → (x : ℕ)
    → Contains more x ↔ (IsMoreBy c keys p x × IsInRange keys from to x)
piece_just c keys more p added from to start end cuts within weight cut just x =
    (λ has. to_keys ((just x).0 has), λ w. (just x).1 (from_keys w.0 w.1))
  where
    -- what the key at k makes
    made : (key k : ℕ) → k < length keys → get_or keys k 0 ≡ key → x ≡ key_of (one_more (digits (length c) key) p)
        → x ≡ get_or keys k 0 + added
    made key k lt at is =
        let below : key < count_base ^ length c =
        subst (λ (y : ℕ). y < count_base ^ length c) at (cuts.are_keys.below k lt) in
        let more_key : key_of (one_more (digits (length c) key) p) ≡ key + count_base ^ (length c - 1 - p) =
        more_is (length c) key p within below in
        omega arith

    to_keys : IsMoreBy c (piece keys start end) p x → IsMoreBy c keys p x × IsInRange keys from to x
    to_keys (key, has, ok, is) = by (contains_at (piece keys start end) key has)
      where
        by : (i : ℕ) × (i < length (piece keys start end)) × (get_or (piece keys start end) i 0 ≡ key)
            → IsMoreBy c keys p x × IsInRange keys from to x
        by (i, lt, at) =
            let inside : i < end - start = omega (arith, length-piece keys start end cut.ordered cut.within) in
            let here : get_or keys (start + i) 0 ≡ key = sym (piece_at keys start end i inside) ∙ at in
            let in_ : start + i < length keys = omega (arith, cut.within) in
            let sum : x ≡ get_or keys (start + i) 0 + added = made key (start + i) in_ here is in (
              (key, subst (λ (y : ℕ). Contains keys y) here (contains_get keys (start + i) in_), ok, is),
              (
                λ some. let h = cut.from_low (start + i) (omega arith) in_ some in omega arith,
                λ some. let h = cut.below (start + i) (omega arith) (omega arith) some in omega arith,
              ),
            )

    from_keys : IsMoreBy c keys p x → IsInRange keys from to x → IsMoreBy c (piece keys start end) p x
    from_keys (key, has, ok, is) range = by (contains_at keys key has)
      where
        by : (k : ℕ) × (k < length keys) × (get_or keys k 0 ≡ key) → IsMoreBy c (piece keys start end) p x
        by (k, lt, at) = go (cases_lt k start) (cases_lt k end)
          where
            sum : x ≡ get_or keys k 0 + added
            sum = made key k lt at is

            go : (k < start) ⊎ (start ≤ k) → (k < end) ⊎ (end ≤ k) → IsMoreBy c (piece keys start end) p x
            go (inl early) side =
                let h = cut.low k early in
                let least : get_or keys from 0 ≤ x = range.0 h.0 in
                let less : get_or keys k 0 + added < get_or keys from 0 = h.1 in
                let e : x ≡ get_or keys k 0 + added = sum in absurd (omega arith)
            go (inr le) (inr late) =
                let h = cut.high k late lt in
                let less : x < get_or keys to 0 = range.1 h.0 in
                let least : get_or keys to 0 ≤ get_or keys k 0 + added = h.1 in
                let e : x ≡ get_or keys k 0 + added = sum in absurd (omega arith)
            go (inr le) (inl early) =
                let back : start + (k - start) ≡ k = omega arith in
                let inside : k - start < end - start = omega arith in
                let there : get_or (piece keys start end) (k - start) 0 ≡ key =
                piece_at keys start end (k - start) inside ∙ (ap (λ (j : ℕ). get_or keys j 0) back ∙ at) in
                let in_ : k - start < length (piece keys start end) =
                omega (arith, length-piece keys start end cut.ordered cut.within) in (
                  key,
                  subst (λ (y : ℕ). Contains (piece keys start end) y) there
                      (contains_get (piece keys start end) (k - start) in_),
                  ok,
                  is,
                )

-- one process alone
pub some_one : (c : Computation) (keys more : List ℕ) (from to first last : ℕ) → last - first ≡ 1 → Ascending more
    → ((x : ℕ) → Contains more x ↔ (IsMoreBy c keys first x × IsInRange keys from to x))
    → IsMoreBySome c keys from to first last more
some_one c keys more from to first last one asc just = record {
  ascending = asc;
  just = λ x. (
    λ has. let w = (just x).0 has in ((first, omega arith, omega arith, w.0), w.1),
    λ w. (just x).1 (back x w.0, w.1),
  );
}
  where
    back : (x : ℕ) → (p : ℕ) × (first ≤ p) × (p < last) × IsMoreBy c keys p x → IsMoreBy c keys first x
    back x (p, le, lt, w) =
        let e : p ≡ first = omega arith in subst (λ (q : ℕ). IsMoreBy c keys q x) e w

-- two halves of the processes
pub some_both : (c : Computation) (keys left right both : List ℕ) (from to first middle last : ℕ) → first ≤ middle
    → middle ≤ last → IsMoreBySome c keys from to first middle left → IsMoreBySome c keys from to middle last right
    → Ascending both → ((x : ℕ) → Contains both x ↔ (Contains left x ⊎ Contains right x))
    → IsMoreBySome c keys from to first last both
some_both c keys left right both from to first middle last low high l r asc just = record {
  ascending = asc;
  just = λ x. (λ has. join x ((just x).0 has), λ w. (just x).1 (part x w.0 w.1));
}
  where
    join : (x : ℕ) → Contains left x ⊎ Contains right x
        → ((p : ℕ) × (first ≤ p) × (p < last) × IsMoreBy c keys p x) × IsInRange keys from to x
    join x (inl has) = let w = (l.just x).0 has in
        ((w.0.0, w.0.1, (let lt = w.0.2 in omega arith), w.0.3), w.1)
    join x (inr has) = let w = (r.just x).0 has in
        ((w.0.0, (let le = w.0.1 in omega arith), w.0.2, w.0.3), w.1)

    part : (x : ℕ) → (p : ℕ) × (first ≤ p) × (p < last) × IsMoreBy c keys p x → IsInRange keys from to x
        → Contains left x ⊎ Contains right x
    part x (p, le, lt, w) range = go (cases_lt p middle)
      where
        go : (p < middle) ⊎ (middle ≤ p) → Contains left x ⊎ Contains right x
        go (inl less) = inl ((l.just x).1 ((p, le, less, w), range))
        go (inr more) = inr ((r.just x).1 ((p, more, lt, w), range))

-- what a function made, if memory didn't run out
abbrev pub Made : Type 0
Made = Result (List ℕ) AllocError

pub piece_made : (c : Computation) (keys : List ℕ) (made : Made) (p added from to start end : ℕ) → AreCuts c keys
    → p < length c → added ≡ count_base ^ (length c - 1 - p) → IsPieceOf keys added from to start end
    → IfOk made (λ more. (x : ℕ) → Contains more x ↔ IsMoreBy c (piece keys start end) p x)
    → IfOk made (λ more. (x : ℕ) → Contains more x ↔ (IsMoreBy c keys p x × IsInRange keys from to x))
piece_made c keys (Ok more) p added from to start end cuts within weight cut just =
    piece_just c keys more p added from to start end cuts within weight cut just
piece_made c keys (Err error) p added from to start end cuts within weight cut just = tt

pub one_made : (c : Computation) (keys : List ℕ) (made : Made) (from to first last : ℕ) → last - first ≡ 1
    → IfOk made (λ more. Ascending more)
    → IfOk made (λ more. (x : ℕ) → Contains more x ↔ (IsMoreBy c keys first x × IsInRange keys from to x))
    → IfOk made (λ more. IsMoreBySome c keys from to first last more)
one_made c keys (Ok more) from to first last one asc just =
    some_one c keys more from to first last one asc just
one_made c keys (Err error) from to first last one asc just = tt

pub both_made : (c : Computation) (keys left right : List ℕ) (made : Made) (from to first middle last : ℕ)
    → first ≤ middle → middle ≤ last → IsMoreBySome c keys from to first middle left
    → IsMoreBySome c keys from to middle last right → IfOk made (λ both. Ascending both)
    → IfOk made (λ both. (x : ℕ) → Contains both x ↔ (Contains left x ⊎ Contains right x))
    → IfOk made (λ both. IsMoreBySome c keys from to first last both)
both_made c keys left right (Ok both) from to first middle last low high l r asc just =
    some_both c keys left right both from to first middle last low high l r asc just
both_made c keys left right (Err error) from to first middle last low high l r asc just = tt
