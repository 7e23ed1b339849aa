-- The greatest of two stretches of counts, one after the other or over each other.
use Rattle.std.proofs.Common.{suc, ◌≡◌, inl, inr, ◌⊎◌, ℕ, ◌+◌, ◌*◌, ◌^◌, ◌<◌, ◌≤◌, Bool, true, false, cond, List, [], ◌∷◌, ◌++◌, length, get_or, ℤ, pos, ◌≤ℤ◌, refl, sym, ap, ◌∙◌, subst, arith}
use Rattle.std.proofs.lemmas.Bool.{both_ways, cases_lt}
use Rattle.std.proofs.lemmas.Int.{ints}
use Rattle.std.proofs.Math.Nat.{pow-suc}
use Rattle.std.proofs.Math.Pow.{pow_mono}
use Rattle.std.proofs.lemmas.List.{length_push}
use Rattle.std.specs.Int.{int_max}
use Rattle.std.specs.Prelude.{Vec, int_lt}
use Rattle.std.specs.Global.{Global}
use Rattle.wide_gates.proofs.Pushes.{each_push}
use Rattle.wide_gates.specs.Tables.{HasWidth, IsGreatest, IsRising, IsTable}
use Rattle.wide_slice.specs.Values.{number_at}
use Rattle.wide_gates.specs.declared.table.Table.{Table}

is_less : (x y : ℤ) → int_lt y x ≡ true → y ≤ℤ x
is_less x y e = grind (arith, ints)

not_less : (x y : ℤ) → int_lt y x ≡ false → x ≤ℤ y
not_less x y e = grind (arith, ints)

pub joined : (row : List ℤ) (a b c d : ℕ) (x y : ℤ) → IsGreatest row a b x → IsGreatest row c d y → a ≤ c → c ≤ b
    → b ≤ d → IsGreatest row a d (int_max x y)
joined row a b c d x y first second low middle high = go (int_lt y x) refl
  where
    most : (z : ℤ) → x ≤ℤ z → y ≤ℤ z → (other : ℕ) → a ≤ other → other < d → number_at row other ≤ℤ z
    most z up_x up_y other from up_to = pick (cases_lt other b)
      where
        pick : (other < b) ⊎ (b ≤ other) → number_at row other ≤ℤ z
        pick (inl lt) = omega (arith, ints, first.most other from lt, up_x)
        pick (inr le) = omega (arith, ints, second.most other (omega (arith, middle, le)) up_to, up_y)

    go : (t : Bool) → int_lt y x ≡ t → IsGreatest row a d (cond t x y)
    go true e = record {
      count = first.count;
      from = first.from;
      up_to = omega (arith, first.up_to, high);
      is = first.is;
      most = most x (omega (arith, ints)) (is_less x y e);
    }
    go false e = record {
      count = second.count;
      from = omega (arith, second.from, low);
      up_to = second.up_to;
      is = second.is;
      most = most y (not_less x y e) (omega (arith, ints));
    }

-- twice the width
pub doubled : (row level next : List ℤ) (n width many : ℕ) → HasWidth row n width level → many + width ≡ length level
    → length next ≡ many
    → ((k : ℕ) → k < many → get_or next k (pos 0) ≡ int_max (get_or level k (pos 0)) (get_or level (k + width) (pos 0)))
    → HasWidth row n (width + width) next
doubled row level next n width many has some same each = record {
  many = omega (arith, has.many, some, same);
  each = λ k up. subst (IsGreatest row k (k + (width + width))) (sym (each k (omega (arith, up, has.many, some))))
      (joined row k (k + width) (k + width) (k + (width + width)) (get_or level k (pos 0))
      (get_or level (k + width) (pos 0)) (has.each k (omega (arith, up)))
      (subst (λ (end : ℕ). IsGreatest row (k + width) end (get_or level (k + width) (pos 0)))
      (let e : k + width + width ≡ k + (width + width) = omega arith in e)
      (has.each (k + width) (omega (arith, up)))) (omega arith) (omega arith) (omega arith));
}

-- the whole stretch by two of one width
pub between : (row level : List ℤ) (n width low last : ℕ) (x : ℤ) → HasWidth row n width level
    → x ≡ int_max (get_or level low (pos 0)) (get_or level last (pos 0)) → low ≤ last → last ≤ low + width
    → last + width ≤ n → IsGreatest row low (last + width) x
between row level n width low last x has is up near within =
    subst (IsGreatest row low (last + width)) (sym is)
    (joined row low (low + width) last (last + width) (get_or level low (pos 0)) (get_or level last (pos 0))
    (has.each low (omega (arith, up, within))) (has.each last within) up near (omega (arith, up)))

pub power_more : (k : ℕ) → 2 ^ (k + 1) ≡ 2 ^ k + 2 ^ k
power_more k = let e : k + 1 ≡ suc k = omega arith in
    let f : 2 ^ suc k ≡ 2 ^ k * 2 = pow-suc 2 k in
    let g : 2 ^ (k + 1) ≡ 2 ^ suc k = ap (λ (n : ℕ). 2 ^ n) e in omega (arith, f, g)

-- one level more
pub levels_more : (row : List ℤ) (n width : ℕ) (levels new : List (Vec ℤ Global)) (level : Vec ℤ Global)
    → width ≡ 2 ^ length levels → HasWidth row n width level.items → new ≡ levels ++ level ∷ []
    → ((k : ℕ) (d : Vec ℤ Global) → k < length levels → HasWidth row n (2 ^ k) (get_or levels k d).items)
    → (k : ℕ) (d : Vec ℤ Global) → k < length new → HasWidth row n (2 ^ k) (get_or new k d).items
levels_more row n width levels new level is here made each k d lt =
    each_push (λ i (v : Vec ℤ Global). HasWidth row n (2 ^ i) v.items) levels new level d (length levels) refl made
    (λ i less. each i d less) (subst (λ (w : ℕ). HasWidth row n w level.items) is here) k
    (let l : length new ≡ length levels + 1 = ap length made ∙ length_push levels level in omega (arith, l, lt))

pub width_more : (width : ℕ) (levels new : List (Vec ℤ Global)) (level : Vec ℤ Global) → width ≡ 2 ^ length levels
    → new ≡ levels ++ level ∷ [] → width * 2 ≡ 2 ^ length new
width_more width levels new level is made =
    let l : length new ≡ length levels + 1 = ap length made ∙ length_push levels level in
    let e : 2 ^ length new ≡ 2 ^ (length levels + 1) = ap (λ (n : ℕ). 2 ^ n) l in
    let f : 2 ^ (length levels + 1) ≡ 2 ^ length levels + 2 ^ length levels = power_more (length levels) in
    omega (arith, is, e, f)

-- ---- rows that never fall

pub rising_more : (row : List ℤ) (n : ℕ) → IsRising row n → number_at row n ≤ℤ number_at row (n + 1)
    → IsRising row (n + 1)
rising_more row n rising next m k le up = go (cases_lt k (n + 1)) (cases_lt m (n + 1))
  where
    go : (k < n + 1) ⊎ (n + 1 ≤ k) → (m < n + 1) ⊎ (n + 1 ≤ m) → number_at row m ≤ℤ number_at row k
    go (inl less) other = rising m k le (omega (arith, less))
    go (inr more) (inl less) =
        let same : k ≡ n + 1 = omega (arith, more, up) in
        let low : number_at row m ≤ℤ number_at row n = rising m n (omega (arith, less)) (omega arith) in
        let at : number_at row k ≡ number_at row (n + 1) = ap (number_at row) same in
        omega (arith, ints, low, next, at)
    go (inr more) (inr above) =
        let same : number_at row m ≡ number_at row k =
        ap (number_at row) (let e : m ≡ k = omega (arith, more, up, above, le) in e) in
        omega (arith, ints, same)

pub rising_none : (row : List ℤ) → IsRising row 0
rising_none row m k le up =
    let same : number_at row m ≡ number_at row k =
    ap (number_at row) (let e : m ≡ k = omega (arith, le, up) in e) in
    omega (arith, ints, same)

pub greatest_rising : (row : List ℤ) (events low high : ℕ) (x : ℤ) → IsRising row events → low ≤ high → high ≤ events
    → x ≡ number_at row high → IsGreatest row low (high + 1) x
greatest_rising row events low high x rising ordered within is = record {
  count = high;
  from = ordered;
  up_to = omega arith;
  is = sym is;
  most = λ other from up_to.
      subst (λ (z : ℤ). number_at row other ≤ℤ z) (sym is) (rising other high (omega (arith, up_to)) within);
}

pub table_rising : (row : List ℤ) (events : ℕ) (table : Table) → table.rises ≡ true → IsRising row events
    → IsTable row events table
table_rising row events table is rising = record {
  rising = λ _. rising;
  some = λ falls. absurd (both_ways table.rises falls is);
  each = λ falls. absurd (both_ways table.rises falls is);
}

-- the last level is as wide as half of the counts, or wider
pub table_whole : (row : List ℤ) (events width : ℕ) (levels new : List (Vec ℤ Global)) (level : Vec ℤ Global)
    (table : Table) → table.rises ≡ false → table.levels.items ≡ new → width ≡ 2 ^ length levels
    → HasWidth row (events + 1) width level.items → new ≡ levels ++ level ∷ [] → length level.items ≤ width
    → ((k : ℕ) (d : Vec ℤ Global) → k < length levels → HasWidth row (events + 1) (2 ^ k) (get_or levels k d).items)
    → IsTable row events table
table_whole row events width levels new level table falls are is here made wide each = record {
  rising = λ yes. absurd (both_ways table.rises falls yes);
  some = λ _ k up. some k up (cases_lt k (length new));
  each = λ _ k d up.
      subst (λ (xs : List (Vec ℤ Global)). HasWidth row (events + 1) (2 ^ k) (get_or xs k d).items) (sym are)
      (levels_more row (events + 1) width levels new level is here made each k d
      (subst (λ (xs : List (Vec ℤ Global)). k < length xs) are (some k up (cases_lt k (length new)))));
}
  where
    some : (k : ℕ) → 2 ^ k ≤ events + 1 → (k < length new) ⊎ (length new ≤ k) → k < length table.levels.items
    some k up (inl lt) = subst (λ (xs : List (Vec ℤ Global)). k < length xs) (sym are) lt
    some k up (inr le) =
        let e : width * 2 ≡ 2 ^ length new = width_more width levels new level is made in
        let m : 2 ^ length new ≤ 2 ^ k = pow_mono le in
        absurd (omega (arith, e, m, up, here.many, wide))
