-- The first satisfying cut, by level or by height, has at most as many events as a level with no avoiding cut.
use Rattle.std.proofs.Common.{◌≡◌, ℕ, zero, suc, ◌+◌, ◌<◌, ◌≤◌, inl, inr, ◌⊎◌, Bool, true, false, List, [], ◌∷◌, get_or, sum, ap, arith}
use Rattle.std.proofs.lemmas.Bool.{cases_lt, false_from_ne_true}
use Rattle.def_model.specs.Answers.{LexBelow, IsFirstSatisfying}
use Rattle.def_model.specs.Cuts.{IsConsistent, IsOfLevel, one_less, empty_cut}
use Rattle.def_model.specs.Events.{Computation}
use Rattle.def_model.specs.Lattice.{IsWithin}
use Rattle.def_model.specs.Observations.{HasNoAvoiding}
use Rattle.def_model.specs.Order.{HasNoCycle}
use Rattle.def_model.proofs.Counts.{in_range, less_le, sum_less, sum_empty, empty_at, empty_from_sum}
use Rattle.def_model.proofs.Steps.{can_undo, empty_consistent}
use Rattle.def_model.proofs.Undoing.{cut_between}
use Rattle.def_model.proofs.Walks.{Reached, avoiding_from_reached}
use Rattle.def_wide.specs.Heights.{IsLowerThan, IsFirstByHeight, height}

-- ---- a cut within another

-- it is no higher
height_within : (a b : List ℕ) → IsWithin a b → height a ≤ height b
height_within [] b within = omega arith
height_within (x ∷ a) [] within =
    let le : x ≤ 0 = within 0 in
    let rest : height a ≤ 0 = height_within a [] (λ p. within (suc p)) in
    omega arith
height_within (x ∷ a) (y ∷ b) within =
    let le : x ≤ y = within 0 in
    let rest : height a ≤ height b = height_within a b (λ p. within (suc p)) in
    omega arith

-- it isn't after the other
not_after : (a b : List ℕ) → IsWithin a b → ¬ LexBelow b a
not_after [] [] within after = after
not_after [] (y ∷ b) within after = after
not_after (x ∷ a) [] within after = after
not_after (x ∷ a) (y ∷ b) within (inl lt) = let le : x ≤ y = within 0 in omega arith
not_after (x ∷ a) (y ∷ b) within (inr (e, after)) = not_after a b (λ p. within (suc p)) after

-- so the other isn't lower
not_lower : (a b : List ℕ) → IsWithin a b → ¬ IsLowerThan b a
not_lower a b within (inl lt) = let le : height a ≤ height b = height_within a b within in omega arith
not_lower a b within (inr (e, after)) = not_after a b within after

-- ---- a cut within which no other one satisfies

module _ (c : Computation) (acyclic : HasNoCycle c) (test : List ℕ → Bool) (cut : List ℕ) (sound : IsConsistent c cut)
    (fewer_fails : (low : List ℕ) → IsConsistent c low → IsWithin low cut → sum low < sum cut → test low ≡ false)
  where
    -- each cut within it with fewer events is avoiding
    fewer_avoids : (k : ℕ) (low : List ℕ) → IsOfLevel c k low → IsWithin low cut → k < sum cut → Reached c test k low
    fewer_avoids zero low (ok, s) within fewer =
        (ok, fewer_fails low ok within (omega arith), empty_from_sum c low ok.fits.one_each s)
    fewer_avoids (suc k) low (ok, s) within fewer = go (can_undo c acyclic low ok (omega arith)) (fewer_avoids k)
      where
        go : (p : ℕ) × (0 < get_or low p 0) × IsConsistent c (one_less low p)
            → ((old : List ℕ) → IsOfLevel c k old → IsWithin old cut → k < sum cut → Reached c test k old)
            → Reached c test (suc k) low
        go (p, has, ok') rest =
            let less : sum (one_less low p) + 1 ≡ sum low = sum_less low p has in (
              ok,
              fewer_fails low ok within (omega arith),
              (p, in_range low p has, (has, rest (one_less low p) (ok', omega arith) down (omega arith))),
            )
          where
            down : IsWithin (one_less low p) cut
            down q =
                let i : get_or (one_less low p) q 0 ≤ get_or low q 0 = less_le low p q has in
                let j : get_or low q 0 ≤ get_or cut q 0 = within q in
                omega arith

    -- It has no more events than a level with no avoiding cut: else a cut of that level within it would be avoiding.
    below_level : (level : ℕ) → HasNoAvoiding c test level → sum cut ≤ level
    below_level level none = go (cases_lt level (sum cut))
      where
        from_empty : IsWithin (empty_cut c) cut
        from_empty p = let e : get_or (empty_cut c) p 0 ≡ 0 = empty_at c p in omega arith

        go : (level < sum cut) ⊎ (sum cut ≤ level) → sum cut ≤ level
        go (inr le) = le
        go (inl lt) =
            let start : sum (empty_cut c) ≡ 0 = sum_empty c in
            let w : (low : List ℕ) × IsOfLevel c level low × IsWithin (empty_cut c) low × IsWithin low cut =
            cut_between c acyclic (empty_cut c) cut (empty_consistent c) sound from_empty level (omega arith)
            (omega arith) in
            absurd (none w.0 (avoiding_from_reached c test level w.0 (fewer_avoids level w.0 w.1 w.3 lt)))

-- ---- the first satisfying cut

-- no lower cut satisfies
first_fails : (c : Computation) (test : List ℕ → Bool) (cut : List ℕ) → IsFirstSatisfying c test cut → (low : List ℕ)
    → IsConsistent c low → sum low < sum cut → ¬ (test low ≡ true)
first_fails c test cut first low ok fewer satisfies =
    go (first.first low ok satisfies (λ e. let same : sum low ≡ sum cut = ap sum e in omega arith))
  where
    go : (sum cut < sum low) ⊎ ((sum cut ≡ sum low) × LexBelow cut low) → ⊥
    go (inl more) = omega arith
    go (inr (e, before)) = omega arith

-- it has no more events than a level with no avoiding cut
pub first_below_level : (c : Computation) → HasNoCycle c → (test : List ℕ → Bool) (cut : List ℕ)
    → IsFirstSatisfying c test cut → (level : ℕ) → HasNoAvoiding c test level → sum cut ≤ level
first_below_level c acyclic test cut first level none =
    below_level c acyclic test cut first.consistent
    (λ low ok within fewer. false_from_ne_true (test low) (first_fails c test cut first low ok fewer)) level none

-- no cut with fewer events within the first one by height satisfies
lowest_fails : (c : Computation) (test : List ℕ → Bool) (cut : List ℕ) → IsFirstByHeight c test cut → (low : List ℕ)
    → IsConsistent c low → IsWithin low cut → sum low < sum cut → ¬ (test low ≡ true)
lowest_fails c test cut lowest low ok within fewer satisfies =
    not_lower low cut within
    (lowest.first low ok satisfies (λ e. let same : sum low ≡ sum cut = ap sum e in omega arith))

-- so it has no more events than such a level either
pub lowest_below_level : (c : Computation) → HasNoCycle c → (test : List ℕ → Bool) (cut : List ℕ)
    → IsFirstByHeight c test cut → (level : ℕ) → HasNoAvoiding c test level → sum cut ≤ level
lowest_below_level c acyclic test cut lowest level none =
    below_level c acyclic test cut lowest.consistent
    (λ low ok within fewer. false_from_ne_true (test low) (lowest_fails c test cut lowest low ok within fewer)) level
    none
