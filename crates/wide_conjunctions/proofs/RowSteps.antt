-- The rows of intervals, one count more and one process more.
use Rattle.std.proofs.Common.{◌≡◌, ℕ, ◌+◌, ◌-◌, ◌<◌, ◌≤◌, Bool, true, false, cond, nat_eq, List, [], ◌∷◌, ◌++◌, length, length-append, get_or, refl, sym, ap, ◌∙◌, subst, inl, inr, ◌⊎◌, arith}
use Rattle.std.proofs.lemmas.Bool.{cases_lt, eq-eqb, eqb-true, false≢true}
use Rattle.std.proofs.lemmas.List.{get_or-append_right, get_or_append_left}
use Rattle.wide_conjunctions.specs.Ways.{IsLastGood}
use Rattle.wide_conjunctions.specs.Rows.{IsIntervalBefore, IsRow}

-- what holds of each element and of one more
pub each_more : {A : Type 0} (P : ℕ → A → Type 0) (xs : List A) (x d : A) → ((i : ℕ) → i < length xs
    → P i (get_or xs i d)) → P (length xs) x → (i : ℕ) → i < length xs + 1 → P i (get_or (xs ++ x ∷ []) i d)
each_more P xs x d before last i lt = go (cases_lt i (length xs))
  where
    go : (i < length xs) ⊎ (length xs ≤ i) → P i (get_or (xs ++ x ∷ []) i d)
    go (inl low) = subst (P i) (sym (get_or_append_left xs (x ∷ []) d i low)) (before i low)
    go (inr high) =
        let same : i ≡ length xs = omega arith in
        let none : i - length xs ≡ 0 = omega arith in
        let end : get_or (xs ++ x ∷ []) i d ≡ x =
        get_or-append_right xs (x ∷ []) (length xs) i d refl high ∙ ap (λ (n : ℕ). get_or (x ∷ []) n d) none in
        subst (P i) (sym end) (subst (λ (n : ℕ). P n x) (sym same) last)

-- before the first count there is none
pub none_at_first : (good : ℕ → Bool) → IsIntervalBefore good 0 0 0
none_at_first good = record {
  last = record { high = omega arith; passed = λ n low lt. absurd (omega arith); here = λ pos. absurd (omega arith) };
  first = record { low = omega arith; passed = λ n low lt. absurd (omega arith); here = λ pos. absurd (omega arith) };
}

module _ (good : ℕ → Bool) (count start leave : ℕ) (is : IsIntervalBefore good count start leave) where
  -- the count isn't good: the same interval
  stays : good count ≡ false → IsIntervalBefore good (count + 1) start leave
  stays bad = record {
    last = record {
      high = let a : leave ≤ count = is.last.high in omega (arith, a);
      passed = λ n low lt. passed n low lt (cases_lt n count);
      here = is.last.here;
    };
    first = is.first;
  }
    where
      passed : (n : ℕ) → leave ≤ n → n < count + 1 → (n < count) ⊎ (count ≤ n) → good n ≡ false
      passed n low lt (inl less) = is.last.passed n low less
      passed n low lt (inr le) = let same : n ≡ count = omega (arith, lt, le) in ap good same ∙ bad

  last_here : good count ≡ true → IsLastGood good (count + 1) (count + 1)
  last_here yes_there = record {
    high = omega arith;
    passed = λ n low lt. absurd (omega arith);
    here = λ pos. let e : count + 1 - 1 ≡ count = omega arith in ap good e ∙ yes_there;
  }

  -- it is good, and the interval goes on
  goes_on : good count ≡ true → leave ≡ count → IsIntervalBefore good (count + 1) start (count + 1)
  goes_on yes_there same = record {
    last = last_here yes_there;
    first = record {
      low = let a : start ≤ leave = is.first.low in omega (arith, a, same);
      passed = λ n low lt. passed n low lt (cases_lt n count);
      here = is.first.here;
    };
  }
    where
      passed : (n : ℕ) → start ≤ n → n < count + 1 → (n < count) ⊎ (count ≤ n) → good n ≡ true
      passed n low lt (inl less) = is.first.passed n low (omega (arith, less, same))
      passed n low lt (inr le) = let e : n ≡ count = omega (arith, lt, le) in ap good e ∙ yes_there

  -- or it begins one
  begins : good count ≡ true → (leave ≡ count → ⊥) → IsIntervalBefore good (count + 1) count (count + 1)
  begins yes_there apart = record {
    last = last_here yes_there;
    first = record {
      low = omega arith;
      passed = λ n low lt. let e : n ≡ count = omega (arith, low, lt) in ap good e ∙ yes_there;
      here = λ pos. here pos (cases_lt leave count);
    };
  }
    where
      here : 0 < count → (leave < count) ⊎ (count ≤ leave) → good (count - 1) ≡ false
      here pos (inl less) = is.last.passed (count - 1) (omega (arith, less)) (omega (arith, pos))
      here pos (inr le) =
          let a : leave ≤ count = is.last.high in
          absurd (apart (omega (arith, a, le)))

  pub next_interval : (b : Bool) → b ≡ good count → (new_start new_leave : ℕ)
      → new_start ≡ cond b (cond (nat_eq leave count) start count) start → new_leave ≡ cond b (count + 1) leave
      → IsIntervalBefore good (count + 1) new_start new_leave
  next_interval false is_bad new_start new_leave s l =
      subst (λ (w : ℕ × ℕ). IsIntervalBefore good (count + 1) w.0 w.1) (λ i. (sym s i, sym l i)) (stays (sym is_bad))
  next_interval true is_good new_start new_leave s l =
      subst (λ (w : ℕ × ℕ). IsIntervalBefore good (count + 1) w.0 w.1) (λ i. (sym s i, sym l i))
      (go (nat_eq leave count) refl)
    where
      go : (e : Bool) → nat_eq leave count ≡ e → IsIntervalBefore good (count + 1) (cond e start count) (count + 1)
      go true e = goes_on (sym is_good) (eqb-true leave count e)
      go false e = begins (sym is_good) (λ same. absurd (true_is_not (sym (eq-eqb leave count same) ∙ e)))
        where
          true_is_not : true ≡ false → ⊥
          true_is_not h = cc

-- rows that are long enough for the counts so far
pub record IsRowSoFar (good : ℕ → Bool) (count start leave : ℕ) (starts leaves : List ℕ) : Type 0 where
  pub starts_each : length starts ≡ count + 1
  pub leaves_each : length leaves ≡ count + 1
  pub each : (n : ℕ) → n < count + 1 → IsIntervalBefore good n (get_or starts n 0) (get_or leaves n 0)
  pub here : IsIntervalBefore good count start leave

pub row_begun : (good : ℕ → Bool) (starts leaves : List ℕ) → starts ≡ [] ++ 0 ∷ [] → leaves ≡ [] ++ 0 ∷ []
    → IsRowSoFar good 0 0 0 starts leaves
row_begun good starts leaves s l =
    subst (λ (w : List ℕ × List ℕ). IsRowSoFar good 0 0 0 w.0 w.1) (λ i. (sym s i, sym l i)) (record {
      starts_each = refl;
      leaves_each = refl;
      each = λ n lt. first n lt;
      here = none_at_first good;
    })
  where
    first : (n : ℕ) → n < 1 → IsIntervalBefore good n (get_or (0 ∷ []) n 0) (get_or (0 ∷ []) n 0)
    first n lt =
        let same : 0 ≡ n = omega arith in
        subst (λ (k : ℕ). IsIntervalBefore good k (get_or (0 ∷ []) k 0) (get_or (0 ∷ []) k 0)) same
        (none_at_first good)

pub row_more : (good : ℕ → Bool) (count start leave : ℕ) (starts leaves : List ℕ)
    → IsRowSoFar good count start leave starts leaves → (b : Bool) → b ≡ good count → (new_start new_leave : ℕ)
    → new_start ≡ cond b (cond (nat_eq leave count) start count) start → new_leave ≡ cond b (count + 1) leave
    → (new_starts new_leaves : List ℕ) → new_starts ≡ starts ++ new_start ∷ [] → new_leaves ≡ leaves ++ new_leave ∷ []
    → IsRowSoFar good (count + 1) new_start new_leave new_starts new_leaves
row_more good count start leave starts leaves so_far b is new_start new_leave s l new_starts new_leaves more_s more_l =
    record {
      starts_each =
          ap length more_s ∙ (length-append starts (new_start ∷ []) ∙ ap (λ (n : ℕ). n + 1) so_far.starts_each);
      leaves_each =
          ap length more_l ∙ (length-append leaves (new_leave ∷ []) ∙ ap (λ (n : ℕ). n + 1) so_far.leaves_each);
      each = λ n lt. each n (cases_lt n (count + 1)) lt;
      here = next;
    }
  where
    next : IsIntervalBefore good (count + 1) new_start new_leave
    next = next_interval good count start leave so_far.here b is new_start new_leave s l

    low_start : (n : ℕ) → n < count + 1 → get_or new_starts n 0 ≡ get_or starts n 0
    low_start n lt =
        ap (λ (xs : List ℕ). get_or xs n 0) more_s
        ∙ get_or_append_left starts (new_start ∷ []) 0 n (omega (arith, lt, so_far.starts_each))

    low_leave : (n : ℕ) → n < count + 1 → get_or new_leaves n 0 ≡ get_or leaves n 0
    low_leave n lt =
        ap (λ (xs : List ℕ). get_or xs n 0) more_l
        ∙ get_or_append_left leaves (new_leave ∷ []) 0 n (omega (arith, lt, so_far.leaves_each))

    end_of : (xs new : List ℕ) (x : ℕ) → length xs ≡ count + 1 → new ≡ xs ++ x ∷ [] → (n : ℕ) → n ≡ count + 1
        → get_or new n 0 ≡ x
    end_of xs new x many more n same =
        let none : n - length xs ≡ 0 = omega arith in
        ap (λ (ys : List ℕ). get_or ys n 0) more
        ∙ (get_or-append_right xs (x ∷ []) (length xs) n 0 refl (omega arith)
        ∙ ap (λ (k : ℕ). get_or (x ∷ []) k 0) none)

    each : (n : ℕ) → (n < count + 1) ⊎ (count + 1 ≤ n) → n < count + 1 + 1
        → IsIntervalBefore good n (get_or new_starts n 0) (get_or new_leaves n 0)
    each n (inl low) lt =
        subst (λ (w : ℕ × ℕ). IsIntervalBefore good n w.0 w.1) (λ i. (sym (low_start n low) i, sym (low_leave n low) i))
        (so_far.each n low)
    each n (inr high) lt =
        let same : n ≡ count + 1 = omega (arith, high, lt) in
        subst (λ (w : ℕ × ℕ). IsIntervalBefore good n w.0 w.1)
        (λ i. (
          sym (end_of starts new_starts new_start so_far.starts_each more_s n same) i,
          sym (end_of leaves new_leaves new_leave so_far.leaves_each more_l n same) i,
        ))
        (subst (λ (k : ℕ). IsIntervalBefore good k new_start new_leave) (sym same) next)

pub row_ended : (good : ℕ → Bool) (last count start leave : ℕ) (starts leaves : List ℕ) → count ≡ last + 1
    → IsRowSoFar good count start leave starts leaves → IsRow good last starts leaves
row_ended good last count start leave starts leaves end so_far = record {
  starts_each = omega (arith, so_far.starts_each, end);
  leaves_each = omega (arith, so_far.leaves_each, end);
  each = λ n le. so_far.each n (omega (arith, le, end));
}

-- a count is good exactly if the last interval before the next one is left there
pub good_by_leave : (good : ℕ → Bool) (last n leave : ℕ) (starts leaves : List ℕ) → IsRow good last starts leaves
    → n ≤ last → leave ≡ get_or leaves (n + 1) 0 → nat_eq leave (n + 1) ≡ good n
good_by_leave good last n leave starts leaves row within there = go (good n) refl (nat_eq leave (n + 1)) refl
  where
    is : IsIntervalBefore good (n + 1) (get_or starts (n + 1) 0) (get_or leaves (n + 1) 0)
    is = row.each (n + 1) (omega (arith, within))

    left_there : leave ≡ n + 1 → good n ≡ true
    left_there same =
        let e : get_or leaves (n + 1) 0 - 1 ≡ n = omega (arith, same, there) in
        ap good (sym e) ∙ is.last.here (omega (arith, same, there))

    left_before : (leave < n + 1) ⊎ (n + 1 ≤ leave) → good n ≡ true → leave ≡ n + 1
    left_before (inr high) yes_there =
        let a : get_or leaves (n + 1) 0 ≤ n + 1 = is.last.high in omega (arith, high, there, a)
    left_before (inl low) yes_there =
        let bad : good n ≡ false = is.last.passed n (omega (arith, low, there)) (omega arith) in
        absurd (false≢true (sym bad ∙ yes_there))

    go : (g : Bool) → good n ≡ g → (e : Bool) → nat_eq leave (n + 1) ≡ e → nat_eq leave (n + 1) ≡ good n
    go true is_good e same =
        eq-eqb leave (n + 1) (left_before (cases_lt leave (n + 1)) is_good) ∙ sym is_good
    go false is_bad true same =
        absurd (false≢true (sym is_bad ∙ left_there (eqb-true leave (n + 1) same)))
    go false is_bad false same = same ∙ sym is_bad
