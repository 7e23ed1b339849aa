-- The consistent pairs are a band.
use Rattle.std.proofs.Common.{◌≡◌, ℕ, ◌+◌, ◌<◌, ◌≤◌, ◌⊎◌, inl, inr, max, List, length, get_or, subst, arith}
use Rattle.std.proofs.lemmas.Bool.{cases_lt}
use Rattle.def_model.specs.Cuts.{IsConsistent, empty_cut}
use Rattle.def_model.specs.Events.{Computation, event_count}
use Rattle.def_model.specs.Lattice.{join}
use Rattle.def_model.proofs.Counts.{empty_at}
use Rattle.def_model.proofs.Steps.{empty_consistent}
use Rattle.def_model.proofs.MeetAndJoin.{join_at, join_consistent}
use Rattle.wide_pairs.specs.LeastCuts.{ArePasts, IsPast}
use Rattle.wide_pairs.specs.Pairs.{IsPair}
use Rattle.wide_pairs.specs.Rows.{IsEnd, IsRow}

-- with more events of p no fewer of q are in the past
pub pasts_grow : (c : Computation) (p q : ℕ) (pasts : List ℕ) → ArePasts c p q pasts → (i k : ℕ) → i ≤ k
    → k ≤ event_count c p → get_or pasts i 0 ≤ get_or pasts k 0
pasts_grow c p q pasts are i k le within =
    let a : IsPast c p i q (get_or pasts i 0) = are.each i (omega arith) in
    let b : IsPast c p k q (get_or pasts k 0) = are.each k within in
    let here : get_or b.0 p 0 ≡ k = b.1.here in
    let below : get_or a.0 q 0 ≤ get_or b.0 q 0 = a.1.least b.0 b.1.consistent (omega arith) q in
    let left : get_or a.0 q 0 ≡ get_or pasts i 0 = a.2 in
    let right : get_or b.0 q 0 ≡ get_or pasts k 0 = b.2 in
    omega arith

-- a consistent pair has the past of each count
pub pair_has : (c : Computation) (p q : ℕ) (pasts : List ℕ) → ArePasts c p q pasts → (cut : List ℕ)
    → IsConsistent c cut → get_or pasts (get_or cut p 0) 0 ≤ get_or cut q 0
pair_has c p q pasts are cut ok =
    let a : IsPast c p (get_or cut p 0) q (get_or pasts (get_or cut p 0) 0) =
    are.each (get_or cut p 0) (ok.fits.within p) in
    let below : get_or a.0 q 0 ≤ get_or cut q 0 = a.1.least cut ok (omega arith) q in
    let left : get_or a.0 q 0 ≡ get_or pasts (get_or cut p 0) 0 = a.2 in
    omega arith

-- and counts that have it are a consistent pair
pub has_pair : (c : Computation) (p q : ℕ) (pasts backs : List ℕ) → ArePasts c p q pasts → ArePasts c q p backs
    → (i j : ℕ) → i ≤ event_count c p → j ≤ event_count c q → get_or pasts i 0 ≤ j → get_or backs j 0 ≤ i
    → IsPair c p q i j
has_pair c p q pasts backs are back i j within within_too low high =
    let a : IsPast c p i q (get_or pasts i 0) = are.each i within in
    let b : IsPast c q j p (get_or backs j 0) = back.each j within_too in
    let a_here : get_or a.0 p 0 ≡ i = a.1.here in
    let a_there : get_or a.0 q 0 ≡ get_or pasts i 0 = a.2 in
    let b_here : get_or b.0 q 0 ≡ j = b.1.here in
    let b_there : get_or b.0 p 0 ≡ get_or backs j 0 = b.2 in
    let at_p : get_or (join a.0 b.0) p 0 ≡ max (get_or a.0 p 0) (get_or b.0 p 0) = join_at a.0 b.0 p in
    let at_q : get_or (join a.0 b.0) q 0 ≡ max (get_or a.0 q 0) (get_or b.0 q 0) = join_at a.0 b.0 q in
    (join a.0 b.0, join_consistent c a.0 b.0 a.1.consistent b.1.consistent, omega arith, omega arith)

-- So the counts of q that make a consistent pair with one of p are those from its past on, up to where the pasts of q's
-- counts end that are at most that count.
pub is_row : (c : Computation) (p q : ℕ) (pasts backs : List ℕ) → ArePasts c p q pasts → ArePasts c q p backs
    → (i end : ℕ) → i ≤ event_count c p → IsEnd backs i end → IsRow c p q i (get_or pasts i 0) end
is_row c p q pasts backs are back i end within is j = (to, from)
  where
    many : length backs ≡ event_count c q + 1
    many = back.one_each

    to : IsPair c p q i j → (get_or pasts i 0 ≤ j) × (j < end)
    to (cut, ok, at_p, at_q) = (low, go (cases_lt j end))
      where
        low : get_or pasts i 0 ≤ j
        low =
            subst (λ (n : ℕ). get_or pasts n 0 ≤ j) at_p
            (subst (λ (n : ℕ). get_or pasts (get_or cut p 0) 0 ≤ n) at_q (pair_has c p q pasts are cut ok))

        high : get_or backs j 0 ≤ i
        high =
            subst (λ (n : ℕ). get_or backs n 0 ≤ i) at_q
            (subst (λ (n : ℕ). get_or backs (get_or cut q 0) 0 ≤ n) at_p (pair_has c q p backs back cut ok))

        go : (j < end) ⊎ (end ≤ j) → j < end
        go (inl lt) = lt
        go (inr le) =
            let fits : get_or cut q 0 ≤ event_count c q = ok.fits.within q in
            let same : get_or cut q 0 ≡ j = at_q in
            let count : length backs ≡ event_count c q + 1 = many in
            let past : i < get_or backs end 0 = is.next (omega arith) in
            let grow : get_or backs end 0 ≤ get_or backs j 0 = pasts_grow c q p backs back end j le (omega arith) in
            let h : get_or backs j 0 ≤ i = high in
            absurd (omega arith)

    from : (get_or pasts i 0 ≤ j) × (j < end) → IsPair c p q i j
    from (low, lt) =
        let count : length backs ≡ event_count c q + 1 = many in
        let most : end ≤ length backs = is.within in
        has_pair c p q pasts backs are back i j within (omega arith) low (is.before j lt)

-- the counts of a consistent pair are those of events
pub pair_within : (c : Computation) (p q i j : ℕ) → IsPair c p q i j → j ≤ event_count c q
pair_within c p q i j (cut, ok, at_p, at_q) =
    let fits : get_or cut q 0 ≤ event_count c q = ok.fits.within q in omega arith

-- each count has a consistent pair with its past, so no row is empty
pub row_some : (c : Computation) (p q : ℕ) (pasts : List ℕ) → ArePasts c p q pasts → (i end : ℕ) → i ≤ event_count c p
    → IsRow c p q i (get_or pasts i 0) end → get_or pasts i 0 < end
row_some c p q pasts are i end within row =
    let a : IsPast c p i q (get_or pasts i 0) = are.each i within in
    ((row (get_or pasts i 0)).0 (a.0, a.1.consistent, a.1.here, a.2)).1

-- and no events have no past
pub past_of_none : (c : Computation) (p q : ℕ) (pasts : List ℕ) → ArePasts c p q pasts → (i : ℕ) → i ≡ 0
    → get_or pasts i 0 ≡ 0
past_of_none c p q pasts are i none =
    let a : IsPast c p i q (get_or pasts i 0) = are.each i (omega arith) in
    let below : get_or a.0 q 0 ≤ get_or (empty_cut c) q 0 = a.1.least (empty_cut c) (empty_consistent c) (omega arith) q
    in
    let zero_there : get_or (empty_cut c) q 0 ≡ 0 = empty_at c q in
    let at : get_or a.0 q 0 ≡ get_or pasts i 0 = a.2 in
    omega arith
