-- The steps of the first processes, one process after another.
use Rattle.std.proofs.Common.{◌≡◌, ℕ, zero, suc, ◌+◌, ◌-◌, ◌*◌, ◌<◌, ◌≤◌, Bool, true, List, [], ◌++◌, length, ℤ, pos, ◌+ℤ◌, ◌-ℤ◌, ◌≤ℤ◌, get_or, refl, sym, ap, ◌∙◌, subst, ◌⊎◌, inl, inr, arith, length-append}
use Rattle.std.specs.Global.{Global}
use Rattle.std.specs.Prelude.{Vec, nat_le}
use Rattle.std.proofs.lemmas.Bool.{cases_lt}
use Rattle.std.proofs.lemmas.Int.{ints}
use Rattle.std.proofs.lemmas.List.{get_or-append-add, get_or-append_right, get_or_append_left}
use Rattle.def_format.specs.Limits.{event_limit}
use Rattle.def_model.specs.Events.{Computation}
use Rattle.wide_flow.specs.Steps.{no_step, step_at}
use Rattle.wide_flow.specs.declared.step.Step.{Step}
use Rattle.wide_slice.specs.Parts.{AddsPart, IsPartUpTo, IsStepOf, kept_to}
use Rattle.wide_slice.specs.Points.{AreRows, count_at, flag, flags_at, row_at}
use Rattle.wide_slice.specs.Steps.{weight_of}
use Rattle.wide_slice.specs.Values.{value_of}
use Rattle.wide_slice.specs.declared.points.Point.{Point}
use Rattle.wide_slice.proofs.Sums.{IsUpTo, chain_ordered, kept_at, kept_low, part_weight, sum_upto, weight_append}

-- what holds of each element of two lists holds of each of both together
both_each : {X : Type 0} (P : X → Type 0) (xs ys : List X) (d : X) → ((i : ℕ) → i < length xs → P (get_or xs i d))
    → ((i : ℕ) → i < length ys → P (get_or ys i d)) → (i : ℕ) → i < length (xs ++ ys) → P (get_or (xs ++ ys) i d)
both_each {X} P xs ys d first last i lt = go (cases_lt i (length xs))
  where
    go : (i < length xs) ⊎ (length xs ≤ i) → P (get_or (xs ++ ys) i d)
    go (inl low) = subst (λ (x : X). P x) (sym (get_or_append_left xs ys d i low)) (first i low)
    go (inr high) =
        subst (λ (x : X). P x) (sym (get_or-append_right xs ys (length xs) i d refl high))
        (last (i - length xs) (omega (arith, lt, high, length-append xs ys)))

add_exact : (x a b y d e v : ℤ) → x ≡ a +ℤ b → y ≡ d -ℤ e → d ≡ v → (x +ℤ v) ≡ (a +ℤ e) +ℤ (b +ℤ y)
add_exact x a b y d e v p q r = omega (arith, ints)

add_upper : (x a b y d e v : ℤ) → x ≤ℤ (a +ℤ b) → y ≡ d -ℤ e → v ≤ℤ d → (x +ℤ v) ≤ℤ ((a +ℤ e) +ℤ (b +ℤ y))
add_upper x a b y d e v p q r = omega (arith, ints)

module _ (rows : List (Vec Point Global)) (asked : List (Vec Bool Global)) (values : List (Vec ℤ Global))
    (least : List ℕ) where
  abbrev pub AreMade : ℕ → List Step → Type 0
  AreMade zero steps = steps ≡ []
  AreMade (suc n) steps =
      (old : List Step) × AreMade n old
      × AddsPart (row_at rows n) (flags_at asked n) (value_of values n) n (get_or least n 0) old steps

  -- a step of one of the first n processes
  pub record IsMadeStep (n : ℕ) (step : Step) : Type 0 where
    pub low : step.process < n
    pub is : IsStepOf (row_at rows step.process) step.process step

  of_part : (n : ℕ) (part : List Step)
      → IsPartUpTo (row_at rows n) (flags_at asked n) (value_of values n) n (get_or least n 0)
      (length (row_at rows n)) part
      → (i : ℕ) → i < length part → IsMadeStep (suc n) (step_at part i)
  of_part n part is i lt =
      let step : IsStepOf (row_at rows n) n (step_at part i) = is.each i lt in
      record {
        low = omega (arith, step.own);
        is = subst (λ (p : ℕ). IsStepOf (row_at rows p) p (step_at part i)) (sym step.own) step;
      }

  pub made_each : (n : ℕ) (steps : List Step) → AreMade n steps → (i : ℕ) → i < length steps
      → IsMadeStep n (step_at steps i)
  made_each zero steps none = λ i lt. absurd (let e : length steps ≡ 0 = ap length none in omega (arith, lt, e))
  made_each (suc n) steps (old, made, (part, are, is)) =
      subst (λ (xs : List Step). (i : ℕ) → i < length xs → IsMadeStep (suc n) (step_at xs i)) (sym are)
      (both_each (IsMadeStep (suc n)) old part no_step
      (λ i lt. let step : IsMadeStep n (step_at old i) = made_each n old made i lt in
      record { low = omega (arith, step.low); is = step.is })
      (of_part n part is))

  -- where the step of a process stands
  module _ (n : ℕ) (old part : List Step) (made : AreMade n old) (own : (i : ℕ) → i < length part
      → (step_at part i).process ≡ n) (i : ℕ) (lt : i < length (old ++ part)) where
    pub in_old : (step_at (old ++ part) i).process < n → i < length old
    in_old low = go (cases_lt i (length old))
      where
        go : (i < length old) ⊎ (length old ≤ i) → i < length old
        go (inl less) = less
        go (inr high) =
            let there : i - length old < length part = omega (arith, lt, high, length-append old part) in
            let at : step_at (old ++ part) i ≡ step_at part (i - length old) =
            get_or-append_right old part (length old) i no_step refl high in
            let same : (step_at (old ++ part) i).process ≡ n =
            ap (λ (s : Step). s.process) at ∙ own (i - length old) there in
            absurd (omega (arith, low, same))

    pub in_part : (step_at (old ++ part) i).process ≡ n → length old ≤ i
    in_part same = go (cases_lt i (length old))
      where
        go : (i < length old) ⊎ (length old ≤ i) → length old ≤ i
        go (inr high) = high
        go (inl less) =
            let step : IsMadeStep n (step_at old i) = made_each n old made i less in
            let at : step_at (old ++ part) i ≡ step_at old i = get_or_append_left old part no_step i less in
            let other : (step_at (old ++ part) i).process ≡ (step_at old i).process =
            ap (λ (s : Step). s.process) at in
            absurd (omega (arith, same, other, step.low))

  pub made_ordered : (n : ℕ) (steps : List Step) → AreMade n steps → (i j : ℕ) → i < j → j < length steps
      → (step_at steps i).process ≡ (step_at steps j).process → (step_at steps i).count < (step_at steps j).count
  made_ordered zero steps none =
      λ i j less lt same. absurd (let e : length steps ≡ 0 = ap length none in omega (arith, lt, e))
  made_ordered (suc n) steps (old, made, (part, are, is)) =
      subst (λ (xs : List Step). (i j : ℕ) → i < j → j < length xs
      → (step_at xs i).process ≡ (step_at xs j).process → (step_at xs i).count < (step_at xs j).count) (sym are)
      (λ i j less lt same. go i j less lt same (made_ordered n old made i j less) (cases_lt j (length old)))
    where
      own : (i : ℕ) → i < length part → (step_at part i).process ≡ n
      own i lt = (is.each i lt).own

      low_at : (i : ℕ) → i < length old → step_at (old ++ part) i ≡ step_at old i
      low_at i lt = get_or_append_left old part no_step i lt

      high_at : (i : ℕ) → length old ≤ i → step_at (old ++ part) i ≡ step_at part (i - length old)
      high_at i le = get_or-append_right old part (length old) i no_step refl le

      go : (i j : ℕ) → i < j → j < length (old ++ part)
          → (step_at (old ++ part) i).process ≡ (step_at (old ++ part) j).process
          → (j < length old → (step_at old i).process ≡ (step_at old j).process
          → (step_at old i).count < (step_at old j).count)
          → (j < length old) ⊎ (length old ≤ j)
          → (step_at (old ++ part) i).count < (step_at (old ++ part) j).count
      go i j less lt same before (inl low) =
          subst (λ (s : Step × Step). s.0.count < s.1.count)
          (λ k. (sym (low_at i (omega (arith, less, low))) k, sym (low_at j low) k))
          (before low
          (subst (λ (s : Step × Step). s.0.process ≡ s.1.process)
          (λ k. (low_at i (omega (arith, less, low)) k, low_at j low k)) same))
      go i j less lt same before (inr high) =
          let last : (step_at (old ++ part) j).process ≡ n =
          ap (λ (s : Step). s.process) (high_at j high)
          ∙ own (j - length old) (omega (arith, lt, high, length-append old part)) in
          let first : length old ≤ i =
          in_part n old part made own i (omega (arith, less, lt)) (same ∙ last) in
          subst (λ (s : Step × Step). s.0.count < s.1.count)
          (λ k. (sym (high_at i first) k, sym (high_at j high) k))
          (chain_ordered (value_of values n) (get_or least n 0) part is.chain (i - length old) (j - length old)
          (omega (arith, less, first)) (omega (arith, lt, high, length-append old part)))

  pub made_few : (c : Computation) (good : ℕ → ℕ → Bool) → AreRows c good least rows → (n : ℕ) (steps : List Step)
      → n ≤ length c → AreMade n steps → length steps ≤ n * event_limit
  made_few c good are_rows zero steps le none = let e : length steps ≡ 0 = ap length none in omega (arith, e)
  made_few c good are_rows (suc n) steps le (old, made, (part, are, is)) =
      let before : length old ≤ n * event_limit = made_few c good are_rows n old (omega (arith, le)) made in
      let more : length (row_at rows n) ≤ event_limit = (are_rows.each n (omega (arith, le))).few in
      let all : length steps ≡ length (old ++ part) = ap length are in
      omega (arith, before, more, all, is.few, length-append old part)

  -- what the set has of each process: its steps up to the count of a cut
  abbrev pub IsUpToCut : (ℕ → ℕ → Bool) → List ℕ → List Step → Type 0
  IsUpToCut set cut steps = (i : ℕ) → i < length steps
      → set (step_at steps i).process (step_at steps i).count
      ≡ nat_le (step_at steps i).count (get_or cut (step_at steps i).process 0)

  module _ (set : ℕ → ℕ → Bool) (cut : List ℕ) (n : ℕ) (old part : List Step)
      (is : IsPartUpTo (row_at rows n) (flags_at asked n) (value_of values n) n (get_or least n 0)
      (length (row_at rows n)) part) (up_to : IsUpToCut set cut (old ++ part)) where
    old_up_to : IsUpToCut set cut old
    old_up_to i lt =
        subst (λ (s : Step). set s.process s.count ≡ nat_le s.count (get_or cut s.process 0))
        (get_or_append_left old part no_step i lt) (up_to i (omega (arith, lt, length-append old part)))

    part_up_to : IsUpTo set (get_or cut n 0) part
    part_up_to i lt =
        let own : (step_at part i).process ≡ n = (is.each i lt).own in
        let at : step_at (old ++ part) (length old + i) ≡ step_at part i =
        get_or-append-add old part i no_step in
        let all : set (step_at part i).process (step_at part i).count
        ≡ nat_le (step_at part i).count (get_or cut (step_at part i).process 0) =
        subst (λ (s : Step). set s.process s.count ≡ nat_le s.count (get_or cut s.process 0)) at
        (up_to (length old + i) (omega (arith, lt, length-append old part))) in
        all ∙ ap (λ (q : ℕ). nat_le (step_at part i).count (get_or cut q 0)) own

    part_adds : weight_of set part
        ≡ value_of values n (kept_to (get_or least n 0) part (get_or cut n 0)) -ℤ value_of values n (get_or least n 0)
    part_adds =
        part_weight (value_of values n) (get_or least n 0) part is.chain set (get_or cut n 0) part_up_to

  -- why the count of a process in a cut is one that is kept: it is that of the least cut, that of a step, or marked
  abbrev pub Stands : List ℕ → List Step → ℕ → Type 0
  Stands cut steps q = (get_or cut q 0 ≡ get_or least q 0)
      ⊎ (((i : ℕ) × (i < length steps) × ((step_at steps i).process ≡ q) × ((step_at steps i).count ≡ get_or cut q 0))
      ⊎ ((k : ℕ) × (k < length (row_at rows q)) × (count_at (row_at rows q) k ≡ get_or cut q 0)
      × (flag (flags_at asked q) (get_or cut q 0) ≡ true)))

  stands_kept : (cut : List ℕ) (n : ℕ) (old part : List Step) → AreMade n old
      → IsPartUpTo (row_at rows n) (flags_at asked n) (value_of values n) n (get_or least n 0)
      (length (row_at rows n)) part
      → Stands cut (old ++ part) n → kept_to (get_or least n 0) part (get_or cut n 0) ≡ get_or cut n 0
  stands_kept cut n old part made is (inl same) =
      subst (λ (d : ℕ). kept_to (get_or least n 0) part d ≡ d) (sym same)
      (kept_low (value_of values n) (get_or least n 0) part is.chain)
  stands_kept cut n old part made is (inr (inl (i, lt, own, same))) =
      let high : length old ≤ i = in_part n old part made (λ k less. (is.each k less).own) i lt own in
      let at : step_at (old ++ part) i ≡ step_at part (i - length old) =
      get_or-append_right old part (length old) i no_step refl high in
      subst (λ (d : ℕ). kept_to (get_or least n 0) part d ≡ d) (ap (λ (s : Step). s.count) (sym at) ∙ same)
      (kept_at (value_of values n) (get_or least n 0) part is.chain (i - length old)
      (omega (arith, lt, high, length-append old part)))
  stands_kept cut n old part made is (inr (inr (k, lt, same, marked))) =
      subst (λ (d : ℕ). kept_to (get_or least n 0) part d ≡ d) same
      (is.asked k lt (ap (λ (d : ℕ). flag (flags_at asked n) d) same ∙ marked))

  stands_old : (cut : List ℕ) (n : ℕ) (old part : List Step) → AreMade n old
      → ((i : ℕ) → i < length part → (step_at part i).process ≡ n) → (q : ℕ) → q < n
      → Stands cut (old ++ part) q → Stands cut old q
  stands_old cut n old part made own q less (inl same) = inl same
  stands_old cut n old part made own q less (inr (inr marked)) = inr (inr marked)
  stands_old cut n old part made own q less (inr (inl (i, lt, is, same))) =
      let low : i < length old = in_old n old part made own i lt (omega (arith, is, less)) in
      let at : step_at (old ++ part) i ≡ step_at old i = get_or_append_left old part no_step i low in
      inr (inl (i, low, ap (λ (s : Step). s.process) (sym at) ∙ is, ap (λ (s : Step). s.count) (sym at) ∙ same))

  -- what the set adds together
  pub made_exact : (n : ℕ) (steps : List Step) → AreMade n steps → (set : ℕ → ℕ → Bool) (cut : List ℕ)
      → IsUpToCut set cut steps → ((q : ℕ) → q < n → Stands cut steps q)
      → sum_upto values n cut ≡ sum_upto values n least +ℤ weight_of set steps
  made_exact zero steps none set cut up_to stands =
      let e : weight_of set steps ≡ pos 0 = ap (λ (xs : List Step). weight_of set xs) none in
      omega (arith, ints, e)
  made_exact (suc n) steps (old, made, (part, are, is)) set cut up_to stands =
      add_exact (sum_upto values n cut) (sum_upto values n least) (weight_of set old) (weight_of set part)
      (value_of values n (kept_to (get_or least n 0) part (get_or cut n 0))) (value_of values n (get_or least n 0))
      (value_of values n (get_or cut n 0))
      (made_exact n old made set cut (old_up_to set cut n old part is all)
      (λ q less. stands_old cut n old part made (λ i lt. (is.each i lt).own) q less (there q (omega (arith, less)))))
      (part_adds set cut n old part is all)
      (ap (value_of values n) (stands_kept cut n old part made is (there n (omega arith))))
      ∙ ap (λ (z : ℤ). (sum_upto values n least +ℤ value_of values n (get_or least n 0)) +ℤ z)
      (sym (ap (λ (xs : List Step). weight_of set xs) are ∙ weight_append set old part))
    where
      all : IsUpToCut set cut (old ++ part)
      all = subst (λ (xs : List Step). IsUpToCut set cut xs) are up_to

      there : (q : ℕ) → q < suc n → Stands cut (old ++ part) q
      there q less = subst (λ (xs : List Step). Stands cut xs q) are (stands q less)

  pub made_upper : (n : ℕ) (steps : List Step) → AreMade n steps → (set : ℕ → ℕ → Bool) (cut : List ℕ)
      → IsUpToCut set cut steps
      → ((q : ℕ) → q < n → (get_or cut q 0 ≡ get_or least q 0)
      ⊎ ((k : ℕ) × (k < length (row_at rows q)) × (count_at (row_at rows q) k ≡ get_or cut q 0)))
      → sum_upto values n cut ≤ℤ (sum_upto values n least +ℤ weight_of set steps)
  made_upper zero steps none set cut up_to stands =
      let e : weight_of set steps ≡ pos 0 = ap (λ (xs : List Step). weight_of set xs) none in
      omega (arith, ints, e)
  made_upper (suc n) steps (old, made, (part, are, is)) set cut up_to stands =
      subst (λ (z : ℤ). sum_upto values (suc n) cut ≤ℤ (sum_upto values (suc n) least +ℤ z))
      (sym (ap (λ (xs : List Step). weight_of set xs) are ∙ weight_append set old part))
      (add_upper (sum_upto values n cut) (sum_upto values n least) (weight_of set old) (weight_of set part)
      (value_of values n (kept_to (get_or least n 0) part (get_or cut n 0))) (value_of values n (get_or least n 0))
      (value_of values n (get_or cut n 0))
      (made_upper n old made set cut (old_up_to set cut n old part is all)
      (λ q less. stands q (omega (arith, less))))
      (part_adds set cut n old part is all) (no_more (stands n (omega arith))))
    where
      all : IsUpToCut set cut (old ++ part)
      all = subst (λ (xs : List Step). IsUpToCut set cut xs) are up_to

      no_more : (get_or cut n 0 ≡ get_or least n 0)
          ⊎ ((k : ℕ) × (k < length (row_at rows n)) × (count_at (row_at rows n) k ≡ get_or cut n 0))
          → value_of values n (get_or cut n 0)
          ≤ℤ value_of values n (kept_to (get_or least n 0) part (get_or cut n 0))
      no_more (inl same) =
          subst (λ (d : ℕ). value_of values n d ≤ℤ value_of values n (kept_to (get_or least n 0) part d)) (sym same)
          (subst (λ (d : ℕ). value_of values n (get_or least n 0) ≤ℤ value_of values n d)
          (sym (kept_low (value_of values n) (get_or least n 0) part is.chain)) (omega (arith, ints)))
      no_more (inr (k, lt, same)) =
          subst (λ (d : ℕ). value_of values n d ≤ℤ value_of values n (kept_to (get_or least n 0) part d)) same
          (is.high k lt)
