-- A filled row has the pairs of avoiding cuts.
use Rattle.std.proofs.Common.{◌≡◌, ◌≢◌, ℕ, zero, suc, ◌-◌, ◌<◌, ◌≤◌, ◌⊎◌, inl, inr, ◌↔◌, Bool, true, false, not, ◌&&◌, ◌||◌, ◌+◌, List, [], ◌∷◌, ◌++◌, get_or, length, length-append, refl, sym, ap, ◌∙◌, subst, arith}
use Rattle.std.proofs.lemmas.Bool.{cases_lt, false≢true}
use Rattle.std.proofs.lemmas.List.{get_or-append_right, get_or_append_left}
use Rattle.def_model.specs.Events.{Computation}
use Rattle.def_model.specs.Order.{HasNoCycle}
use Rattle.wide_pairs.specs.Avoiding.{CanBeReached, IsAvoidingPair}
use Rattle.wide_pairs.specs.Grids.{AreRows, IsFilled, left_of, row_has}
use Rattle.wide_pairs.specs.Pairs.{IsOfPair, IsPair}
use Rattle.wide_pairs.specs.Rows.{IsRow}
use Rattle.wide_pairs.specs.declared.grid_row.Row.{Row}
use Rattle.wide_pairs.proofs.AvoidingPairs.{avoids_by_neighbor}
use Rattle.wide_pairs.proofs.Filled.{left_high, left_low}

bit_to : (g a l : Bool) → (not g && (a || l)) ≡ true → (g ≡ false) × ((a ≡ true) ⊎ (l ≡ true))
bit_to true a l h = absurd (false≢true h)
bit_to false true l h = (refl, inl refl)
bit_to false false l h = (refl, inr h)

bit_from : (g a l : Bool) → g ≡ false → (a ≡ true) ⊎ (l ≡ true) → (not g && (a || l)) ≡ true
bit_from true a l h x = absurd (false≢true (sym h))
bit_from false true l h x = refl
bit_from false false l h (inl e) = absurd (false≢true e)
bit_from false false l h (inr e) = e

module _ (c : Computation) (acyclic : HasNoCycle c) (test : List ℕ → Bool) (good : ℕ → ℕ → Bool) (p q : ℕ)
    (apart : p ≢ q) (of : IsOfPair c test good p q) (i low end : ℕ) (row : IsRow c p q i low end)
    (above has : ℕ → Bool) (start : Bool)
    (is_above : (j : ℕ) → (above j ≡ true) ↔ ((0 < i) × IsAvoidingPair c test p q (i - 1) j))
    (is_start : (start ≡ true) ↔ (i ≡ 0)) (at_first : i ≡ 0 → low ≡ 0)
    (filled : IsFilled (good i) above has start low end) where
  one_avoids : (j : ℕ) → (0 < j → (has (j - 1) ≡ true) ↔ IsAvoidingPair c test p q i (j - 1))
      → (has j ≡ true) ↔ IsAvoidingPair c test p q i j
  one_avoids j below = (to, from)
    where
      to : has j ≡ true → IsAvoidingPair c test p q i j
      to had = go (cases_lt j low) (cases_lt j end)
        where
          go : (j < low) ⊎ (low ≤ j) → (j < end) ⊎ (end ≤ j) → IsAvoidingPair c test p q i j
          go (inl less) x = absurd (false≢true (sym (filled.outside j (inl less)) ∙ had))
          go (inr le) (inr past) = absurd (false≢true (sym (filled.outside j (inr past)) ∙ had))
          go (inr le) (inl lt) =
              (avoids_by_neighbor c acyclic test good p q apart of i j).1
              ((row j).1 (le, lt), parts.0, reach parts.1 (cases_lt low j))
            where
              parts : (good i j ≡ false) × ((above j ≡ true) ⊎ (left_of has start low j ≡ true))
              parts = bit_to (good i j) (above j) (left_of has start low j) (sym (filled.inside j le lt) ∙ had)

              reach : (above j ≡ true) ⊎ (left_of has start low j ≡ true) → (low < j) ⊎ (j ≤ low)
                  → CanBeReached c test p q i j
              reach (inl up) x = inr (inl ((is_above j).0 up))
              reach (inr left) (inl less) =
                  inr (inr (omega arith, (below (omega arith)).0 (sym (left_high has start low j less) ∙ left)))
              reach (inr left) (inr ge) =
                  let none : i ≡ 0 = is_start.0 (sym (left_low has start low j (omega arith)) ∙ left) in
                  let least : low ≡ 0 = at_first none in
                  inl (none, omega arith)

      from : IsAvoidingPair c test p q i j → has j ≡ true
      from avoids =
          filled.inside j range.0 range.1
          ∙ bit_from (good i j) (above j) (left_of has start low j) w.1 (reached w.2)
        where
          w : IsPair c p q i j × (good i j ≡ false) × CanBeReached c test p q i j
          w = (avoids_by_neighbor c acyclic test good p q apart of i j).0 avoids

          range : (low ≤ j) × (j < end)
          range = (row j).0 w.0

          reached : CanBeReached c test p q i j → (above j ≡ true) ⊎ (left_of has start low j ≡ true)
          reached (inl (none, first)) =
              let least : low ≡ 0 = at_first none in
              inr (left_low has start low j (omega arith) ∙ is_start.1 none)
          reached (inr (inl up)) = inl ((is_above j).1 up)
          reached (inr (inr (some, before))) =
              let in_row : (low ≤ j - 1) × (j - 1 < end) =
              (row (j - 1)).0 ((avoids_by_neighbor c acyclic test good p q apart of i (j - 1)).0 before).0 in
              let from_low : low ≤ j - 1 = in_row.0 in
              inr (left_high has start low j (omega arith) ∙ (below some).1 before)

  pub row_avoids : (j : ℕ) → (has j ≡ true) ↔ IsAvoidingPair c test p q i j
  row_avoids zero = one_avoids 0 (λ some. absurd (omega arith))
  row_avoids (suc j) =
      one_avoids (suc j) (λ some. let e : j ≡ suc j - 1 = omega arith in
      subst (λ (n : ℕ). (has n ≡ true) ↔ IsAvoidingPair c test p q i n) e (row_avoids j))

-- ---- the rows of some counts

pub first_rows : (c : Computation) (test : List ℕ → Bool) (p q : ℕ) (rows : List Row) (row : Row) → rows ≡ row ∷ []
    → ((j : ℕ) → row_has row.first row.words.items j ≡ false) → AreRows c test p q 0 rows
first_rows c test p q rows row is none = record { count = ap length is; each = each }
  where
    each : (k : ℕ) (d : Row) → k < length rows → (j : ℕ)
        → (row_has (get_or rows k d).first (get_or rows k d).words.items j ≡ true)
        ↔ ((0 < k) × IsAvoidingPair c test p q (k - 1) j)
    each k d lt j = (
      to,
      λ w. let some : 0 < k = w.0 in let e : length rows ≡ 1 = ap length is in absurd (omega arith),
    )
      where
        count : length rows ≡ 1
        count = ap length is

        at : get_or rows k d ≡ row
        at =
            let zero_there : k ≡ 0 = let e : length rows ≡ 1 = count in omega arith in
            ap (λ (xs : List Row). get_or xs k d) is ∙ ap (λ (n : ℕ). get_or (row ∷ []) n d) zero_there

        to : row_has (get_or rows k d).first (get_or rows k d).words.items j ≡ true
            → (0 < k) × IsAvoidingPair c test p q (k - 1) j
        to had =
            absurd (false≢true (sym (none j)
            ∙ (sym (ap (λ (r : Row). row_has r.first r.words.items j) at) ∙ had)))

rows_more : (c : Computation) (test : List ℕ → Bool) (p q n : ℕ) (rows new : List Row) (row : Row)
    → new ≡ rows ++ row ∷ [] → AreRows c test p q n rows
    → ((j : ℕ) → (row_has row.first row.words.items j ≡ true) ↔ IsAvoidingPair c test p q n j)
    → AreRows c test p q (n + 1) new
rows_more c test p q n rows new row pushed are avoids = record { count = count; each = each }
  where
    count : length new ≡ n + 1 + 1
    count =
        let e : length rows ≡ n + 1 = are.count in
        ap length pushed ∙ (length-append rows (row ∷ []) ∙ ap (λ (m : ℕ). m + 1) e)

    each : (k : ℕ) (d : Row) → k < length new → (j : ℕ)
        → (row_has (get_or new k d).first (get_or new k d).words.items j ≡ true)
        ↔ ((0 < k) × IsAvoidingPair c test p q (k - 1) j)
    each k d lt j = go (cases_lt k (length rows))
      where
        many : length rows ≡ n + 1
        many = are.count

        go : (k < length rows) ⊎ (length rows ≤ k)
            → (row_has (get_or new k d).first (get_or new k d).words.items j ≡ true)
            ↔ ((0 < k) × IsAvoidingPair c test p q (k - 1) j)
        go (inl low) =
            let at : get_or new k d ≡ get_or rows k d =
            ap (λ (xs : List Row). get_or xs k d) pushed ∙ get_or_append_left rows (row ∷ []) d k low in
            subst (λ (r : Row). (row_has r.first r.words.items j ≡ true)
            ↔ ((0 < k) × IsAvoidingPair c test p q (k - 1) j)) (sym at) (are.each k d low j)
        go (inr high) =
            let e : length rows ≡ n + 1 = many in
            let l : length new ≡ n + 1 + 1 = count in
            let none : k - length rows ≡ 0 = omega arith in
            let same : n ≡ k - 1 = omega arith in
            let at : get_or new k d ≡ row =
            ap (λ (xs : List Row). get_or xs k d) pushed
            ∙ (get_or-append_right rows (row ∷ []) (length rows) k d refl high
            ∙ ap (λ (m : ℕ). get_or (row ∷ []) m d) none) in
            subst (λ (r : Row). (row_has r.first r.words.items j ≡ true)
            ↔ ((0 < k) × IsAvoidingPair c test p q (k - 1) j)) (sym at) (
              λ had. (omega arith, subst (λ (m : ℕ). IsAvoidingPair c test p q m j) same ((avoids j).0 had)),
              λ w. (avoids j).1 (subst (λ (m : ℕ). IsAvoidingPair c test p q m j) (sym same) w.1),
            )

-- the row of the next count
pub next_rows : (c : Computation) → HasNoCycle c → (test : List ℕ → Bool) (good : ℕ → ℕ → Bool) (p q : ℕ) → p ≢ q
    → IsOfPair c test good p q → (n low end : ℕ) (rows new : List Row) (up row : Row) (start : Bool)
    → new ≡ rows ++ row ∷ [] → AreRows c test p q n rows → up ≡ get_or rows n up → IsRow c p q n low end
    → ((start ≡ true) ↔ (n ≡ 0)) → (n ≡ 0 → low ≡ 0)
    → IsFilled (good n) (row_has up.first up.words.items) (row_has row.first row.words.items) start low end
    → AreRows c test p q (n + 1) new
next_rows c acyclic test good p q apart of n low end rows new up row start pushed are at in_row begins at_first filled =
    rows_more c test p q n rows new row pushed are
    (row_avoids c acyclic test good p q apart of n low end in_row (row_has up.first up.words.items)
    (row_has row.first row.words.items) start
    (λ j. subst (λ (r : Row). (row_has r.first r.words.items j ≡ true)
    ↔ ((0 < n) × IsAvoidingPair c test p q (n - 1) j)) (sym at)
    (are.each n up (let e : length rows ≡ n + 1 = are.count in omega arith) j)) begins at_first filled)

-- the row of a count
pub row_of_count : (c : Computation) (test : List ℕ → Bool) (p q n : ℕ) (rows : List Row) → AreRows c test p q n rows
    → (i : ℕ) (row : Row) → i < n → row ≡ get_or rows (i + 1) row → (j : ℕ)
    → (row_has row.first row.words.items j ≡ true) ↔ IsAvoidingPair c test p q i j
row_of_count c test p q n rows are i row lt at j =
    let count : length rows ≡ n + 1 = are.count in
    let same : i + 1 - 1 ≡ i = omega arith in
    let there : (row_has (get_or rows (i + 1) row).first (get_or rows (i + 1) row).words.items j ≡ true)
    ↔ ((0 < i + 1) × IsAvoidingPair c test p q (i + 1 - 1) j) = are.each (i + 1) row (omega arith) j in
    let decides : (row_has row.first row.words.items j ≡ true)
    ↔ ((0 < i + 1) × IsAvoidingPair c test p q (i + 1 - 1) j) =
    subst (λ (r : Row). (row_has r.first r.words.items j ≡ true)
    ↔ ((0 < i + 1) × IsAvoidingPair c test p q (i + 1 - 1) j)) (sym at) there in (
      λ had. subst (λ (m : ℕ). IsAvoidingPair c test p q m j) same (decides.0 had).1,
      λ avoids. decides.1 (omega arith, subst (λ (m : ℕ). IsAvoidingPair c test p q m j) (sym same) avoids),
    )
