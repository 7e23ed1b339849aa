-- The levels of avoiding cuts that are kept, with one more.
use Rattle.std.proofs.Common.{◌≡◌, ℕ, ◌+◌, ◌-◌, ◌*◌, ◌<◌, ◌≤◌, ◌⊎◌, inl, inr, zero, suc, suc-mul, zero-mul, Bool, List, [], ◌∷◌, ◌++◌, length, length-append, get_or, refl, sym, ap, ◌∙◌, subst, arith}
use Rattle.std.proofs.Math.Nat.{mul-le-mul_right}
use Rattle.std.proofs.lemmas.Bool.{cases_lt}
use Rattle.std.proofs.lemmas.List.{get_or_append_left, get_or-append_right, get_or_default}
use Rattle.def_model.specs.Cuts.{total}
use Rattle.def_model.specs.Events.{Computation}
use Rattle.walk_back.specs.Ways.{IsAvoidingLevel, IsWithinGap, last_number}
use Rattle.pd_level.specs.Levels.{Levelled}
use Rattle.walk_back.specs.Counts.{others}
use Rattle.walk_back.specs.declared.holder.Holder.{Holder}
use Rattle.walk_back.specs.Splits.{AreKeptBelow, IsSplitBelow}
use Rattle.walk_back.specs.declared.split.Split.{Split}

module _ (levels : List Levelled) (level : Levelled) where
  abbrev pub more : List Levelled
  more = levels ++ level ∷ []

  pub count_more : length more ≡ length levels + 1
  count_more = length-append levels (level ∷ [])

  -- what is read of the list with one more
  pub read_low : (i : ℕ) (d : Levelled) → i < length levels → get_or more i d ≡ get_or levels i d
  read_low i d low = get_or_append_left levels (level ∷ []) d i low

  pub read_last : (i : ℕ) (d : Levelled) → i ≡ length levels → get_or more i d ≡ level
  read_last i d same =
      get_or-append_right levels (level ∷ []) (length levels) i d refl (omega arith)
      ∙ ap (λ (n : ℕ). get_or (level ∷ []) n d) first
    where
      first : i - length levels ≡ 0
      first = omega arith

  pub last_more : last_number more ≡ level.number
  last_more =
      ap (λ (l : Levelled). l.number) (read_last (length more - 1) (record { number = 0; cuts = [] })
      (omega (arith, count_more)))

-- a gap whose square is above something is not 0
pub some_gap : (n gap : ℕ) → n < gap * gap → 0 < gap
some_gap n zero root = let none : 0 * 0 ≡ 0 = zero-mul 0 in absurd (omega arith)
some_gap n (suc gap) root = omega arith

-- no more than the gap are kept
pub few_kept : (c : Computation) (test : List ℕ → Bool) (first gap k : ℕ) (levels : List Levelled)
    → total c < gap * gap → k ≤ total c + 1 → AreKeptBelow c test first gap k levels → length levels ≤ gap
few_kept c test first gap k levels root within kept = go (cases_lt gap (length levels))
  where
    go : (gap < length levels) ⊎ (length levels ≤ gap) → length levels ≤ gap
    go (inr few) = few
    go (inl many) =
        let some : 0 < length levels = omega arith in
        let product : suc gap * gap ≤ length levels * gap = mul-le-mul_right gap (omega arith) in
        absurd (omega (arith, product, suc-mul gap gap, kept.count some, (kept.near some).0))

-- one level more is kept
pub kept_more : (c : Computation) (test : List ℕ → Bool) (first gap k : ℕ) (levels : List Levelled) (level : Levelled)
    → 0 < gap → AreKeptBelow c test first gap k levels → IsAvoidingLevel c test level → level.number ≡ k
    → (length levels ≡ 0) ⊎ (last_number levels + gap ≡ k)
    → AreKeptBelow c test first gap (k + 1) (levels ++ level ∷ [])
kept_more c test first gap k levels level some kept list number due =
    record {
      lists = λ i d lt. lists i d (cases_lt i (length levels)) lt;
      begins = λ d lt. begins d (cases_lt 0 (length levels));
      steps = λ i d lt. steps i d (cases_lt (i + 1) (length levels)) lt;
      near = λ lt. (omega (arith, last_more levels level), omega (arith, last_more levels level));
      count = λ lt. counted due;
      none = λ none. absurd (omega (arith, count_more levels level));
    }
  where
    lists : (i : ℕ) (d : Levelled) → (i < length levels) ⊎ (length levels ≤ i) → i < length (levels ++ level ∷ [])
        → IsAvoidingLevel c test (get_or (levels ++ level ∷ []) i d)
    lists i d (inl low) lt =
        subst (λ (l : Levelled). IsAvoidingLevel c test l) (sym (read_low levels level i d low)) (kept.lists i d low)
    lists i d (inr high) lt =
        subst (λ (l : Levelled). IsAvoidingLevel c test l)
        (sym (read_last levels level i d (omega (arith, count_more levels level)))) list

    begins : (d : Levelled) → (0 < length levels) ⊎ (length levels ≤ 0)
        → (get_or (levels ++ level ∷ []) 0 d).number ≡ first
    begins d (inl low) = ap (λ (l : Levelled). l.number) (read_low levels level 0 d low) ∙ kept.begins d low
    begins d (inr none) =
        ap (λ (l : Levelled). l.number) (read_last levels level 0 d (omega arith)) ∙ (number ∙ kept.none (omega arith))

    last_at : (i : ℕ) (d : Levelled) → i + 1 ≡ length levels → (get_or levels i d).number ≡ last_number levels
    last_at i d is =
        ap (λ (l : Levelled). l.number) (get_or_default levels i d (record { number = 0; cuts = [] }) (omega arith)
        ∙ ap (λ (n : ℕ). get_or levels n (record { number = 0; cuts = [] })) (omega arith))

    steps : (i : ℕ) (d : Levelled) → (i + 1 < length levels) ⊎ (length levels ≤ i + 1)
        → i + 1 < length (levels ++ level ∷ [])
        → IsWithinGap gap (get_or (levels ++ level ∷ []) i d) (get_or (levels ++ level ∷ []) (i + 1) d)
    steps i d (inl low) lt =
        subst (λ (l : Levelled). IsWithinGap gap l (get_or (levels ++ level ∷ []) (i + 1) d))
        (sym (read_low levels level i d (omega arith)))
        (subst (λ (l : Levelled). IsWithinGap gap (get_or levels i d) l) (sym (read_low levels level (i + 1) d low))
        (kept.steps i d low))
    steps i d (inr high) lt =
        let at : i + 1 ≡ length levels = omega (arith, count_more levels level) in
        let near : last_number levels + gap ≡ k = after due in
        let is : (get_or levels i d).number ≡ last_number levels = last_at i d at in
        subst (λ (l : Levelled). IsWithinGap gap l (get_or (levels ++ level ∷ []) (i + 1) d))
        (sym (read_low levels level i d (omega arith)))
        (subst (λ (l : Levelled). IsWithinGap gap (get_or levels i d) l) (sym (read_last levels level (i + 1) d at))
        (omega arith, omega arith))
      where
        after : (length levels ≡ 0) ⊎ (last_number levels + gap ≡ k) → last_number levels + gap ≡ k
        after (inl none) = absurd (omega (arith, count_more levels level))
        after (inr near) = near

    counted : (length levels ≡ 0) ⊎ (last_number levels + gap ≡ k)
        → length (levels ++ level ∷ []) * gap + first ≡ last_number (levels ++ level ∷ []) + gap
    counted due = go (cases_lt 0 (length levels)) due
      where
        grown : length (levels ++ level ∷ []) * gap ≡ length levels * gap + gap
        grown = ap (λ (n : ℕ). n * gap) (count_more levels level ∙ plus_one) ∙ suc-mul (length levels) gap
          where
            plus_one : length levels + 1 ≡ suc (length levels)
            plus_one = omega arith

        go : (0 < length levels) ⊎ (length levels ≤ 0) → (length levels ≡ 0) ⊎ (last_number levels + gap ≡ k)
            → length (levels ++ level ∷ []) * gap + first ≡ last_number (levels ++ level ∷ []) + gap
        go (inr none) due =
            let empty : length levels ≡ 0 = omega arith in
            let same : k ≡ first = kept.none empty in
            let nothing : length levels * gap ≡ 0 = ap (λ (n : ℕ). n * gap) empty ∙ zero-mul gap in
            omega (arith, grown, last_more levels level)
        go (inl lt) (inl none) = absurd (omega arith)
        go (inl lt) (inr near) = let count = kept.count lt in omega (arith, grown, last_more levels level)

-- nothing more is kept
pub kept_on : (c : Computation) (test : List ℕ → Bool) (first gap k : ℕ) (levels : List Levelled)
    → AreKeptBelow c test first gap k levels → ¬ ((length levels ≡ 0) ⊎ (last_number levels + gap ≡ k))
    → AreKeptBelow c test first gap (k + 1) levels
kept_on c test first gap k levels kept not_due =
    record {
      lists = kept.lists;
      begins = kept.begins;
      steps = kept.steps;
      near = λ lt. (omega (arith, kept.near lt), not_yet lt);
      count = kept.count;
      none = λ none. absurd (not_due (inl none));
    }
  where
    not_yet : 0 < length levels → k + 1 ≤ last_number levels + gap
    not_yet lt = go (cases_lt k (last_number levels + gap))
      where
        go : (k < last_number levels + gap) ⊎ (last_number levels + gap ≤ k) → k + 1 ≤ last_number levels + gap
        go (inl low) = omega arith
        go (inr high) = let near = kept.near lt in absurd (not_due (inr (omega arith)))

-- the same is known of the predicate with other levels held beside those that are kept, if they are few
pub with_held : (c : Computation) (test : List ℕ → Bool) (width gap k : ℕ) (split : Split) (held : Holder)
    → IsSplitBelow c test width gap k split → held.levels.items ≡ split.held.levels.items → held.most ≤ gap + 3
    → others held ≤ 2
    → IsSplitBelow c test width gap k (record { possibly = split.possibly; first = split.first; held = held })
with_held c test width gap k split held known same few beside =
    record {
      possibly = known.possibly;
      none = known.none;
      narrow = known.narrow;
      avoided = known.avoided;
      kept = subst (AreKeptBelow c test split.first gap k) (sym same) known.kept;
      few = few;
      beside = beside;
    }
