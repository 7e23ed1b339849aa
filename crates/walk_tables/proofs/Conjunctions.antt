-- Truths below a number, and clauses of two conjunctions.
use Rattle.std.proofs.Common.{◌≡◌, ◌∙◌, ◌⊎◌, inl, inr, refl, ap, sym, subst, arith, ℕ, zero, suc, ◌+◌, ◌-◌, ◌<◌, ◌≤◌, List, [], ◌∷◌, ◌++◌, length, get_or, Bool, true, false, cond, ◌&&◌, ◌||◌, not, nat_lt, add-zero}
use Rattle.std.proofs.lemmas.Bool.{cases_eq, cases_lt}
use Rattle.std.proofs.lemmas.Bool.Decides.{nat_tests}
use Rattle.std.proofs.lemmas.List.{get_or_default, get_or_past}
use Rattle.walk_tables.specs.Rows.{all_below, columns_have, moved, row_has}
use Rattle.walk_tables.specs.declared.clause_column.ClauseColumn.{ClauseColumn}

pub all_below_same : (n : ℕ) (f g : ℕ → Bool) → ((j : ℕ) → j < n → f j ≡ g j) → all_below n f ≡ all_below n g
all_below_same zero f g same = refl
all_below_same (suc n) f g same =
    λ i. all_below_same n f g (λ j lt. same j (omega arith)) i && same n (omega arith) i

and_less : (a b c d : Bool) → (a ≡ false → b ≡ false) → (d ≡ true → c ≡ true) → (a && c) ≡ false
    → (b && d) ≡ false
and_less a false c d kept less is_not = refl
and_less a true c false kept less is_not = refl
and_less false true c true kept less is_not = kept refl
and_less true true c true kept less is_not = sym (less refl) ∙ is_not

-- where fewer truths are true, all of them are less often
pub all_below_less : (n : ℕ) (f g : ℕ → Bool) → ((j : ℕ) → f j ≡ true → g j ≡ true) → all_below n g ≡ false
    → all_below n f ≡ false
all_below_less zero f g less is_not = is_not
all_below_less (suc n) f g less is_not =
    and_less (all_below n g) (all_below n f) (g n) (f n) (all_below_less n f g less) (less n) is_not

and_first : (a b : Bool) → (a && b) ≡ true → a ≡ true
and_first true b both = refl
and_first false b both = both

and_second : (a b : Bool) → (a && b) ≡ true → b ≡ true
and_second true b both = both
and_second false b both = absurd (false_is b both)
  where
    false_is : (b : Bool) → false ≡ true → ⊥
    false_is b is = cc

pub all_below_true : (n : ℕ) (f : ℕ → Bool) → all_below n f ≡ true → (j : ℕ) → j < n → f j ≡ true
all_below_true zero f all j lt = absurd (omega arith)
all_below_true (suc n) f all j lt =
    elim (cases_eq j n) [
      | inl here ↦ ap f here ∙ and_second (all_below n f) (f n) all
      | inr there ↦ all_below_true n f (and_first (all_below n f) (f n) all) j (omega (arith, there))
    ]

pub all_below_all : (n : ℕ) (f : ℕ → Bool) → ((j : ℕ) → j < n → f j ≡ true) → all_below n f ≡ true
all_below_all zero f each = refl
all_below_all (suc n) f each =
    λ i. all_below_all n f (λ j lt. each j (omega arith)) i && each n (omega arith) i

-- what is true exactly if all truths below n are
pub all_below_is : (n : ℕ) (f : ℕ → Bool) (truth : Bool) → (truth ≡ true → (j : ℕ) → j < n → f j ≡ true)
    → (((j : ℕ) → j < n → f j ≡ true) → truth ≡ true) → truth ≡ all_below n f
all_below_is n f truth there back = same truth (all_below n f) (λ is. all_below_all n f (there is))
    (λ all. back (all_below_true n f all))
  where
    same : (a b : Bool) → (a ≡ true → b ≡ true) → (b ≡ true → a ≡ true) → a ≡ b
    same true b to from = sym (to refl)
    same false true to from = from refl
    same false false to from = refl

moved_before : (m j : ℕ) (g : ℕ → Bool) → j < m → moved m g j ≡ false
moved_before m j g lt = grind (arith, nat_tests)

moved_past : (m n : ℕ) (g : ℕ → Bool) → moved m g (m + n) ≡ g n
moved_past m n g =
    let back : m + n - m ≡ n = omega arith in
    let not_before : nat_lt (m + n) m ≡ false = grind (arith, nat_tests) in
    ap (λ (t : Bool). cond t false (g (m + n - m))) not_before ∙ ap g back

pub or_false : (a : Bool) → (a || false) ≡ a
or_false true = refl
or_false false = refl

and_true : (a : Bool) → (a && true) ≡ a
and_true true = refl
and_true false = refl

and_assoc : (a b c : Bool) → (a && b && c) ≡ (a && (b && c))
and_assoc true b c = refl
and_assoc false b c = refl

-- the truths of two conjunctions, those of the second after those of the first
pub all_below_both : (m n : ℕ) (f g : ℕ → Bool) → m + n ≤ 64
    → ((j : ℕ) → m ≤ j → j < 64 → f j ≡ false)
    → all_below (m + n) (λ j. f j || moved m g j) ≡ (all_below m f && all_below n g)
all_below_both m zero f g few clear =
    ap (λ (k : ℕ). all_below k (λ j. f j || moved m g j)) (add-zero m)
    ∙ all_below_same m (λ j. f j || moved m g j) f
    (λ j lt. ap (λ (t : Bool). f j || t) (moved_before m j g lt) ∙ or_false (f j))
    ∙ sym (and_true (all_below m f))
all_below_both m (suc n) f g few clear =
    let next : m + suc n ≡ suc (m + n) = omega arith in
    let earlier = all_below_both m n f g (omega arith) clear in
    let last : (f (m + n) || moved m g (m + n)) ≡ g n =
    ap (λ (t : Bool). t || moved m g (m + n)) (clear (m + n) (omega arith) (omega arith)) ∙ moved_past m n g in
    ap (λ (k : ℕ). all_below k (λ j. f j || moved m g j)) next
    ∙ (λ i. earlier i && last i)
    ∙ and_assoc (all_below m f) (all_below n g) (g n)

-- ---- columns

pub columns_append : (columns : List ClauseColumn) (column : ClauseColumn) (counts : List ℕ) (j : ℕ)
    → columns_have (columns ++ column ∷ []) counts j
    ≡ (row_has column.row (get_or counts column.process 0) j || columns_have columns counts j)
columns_append [] column counts j = refl
columns_append (first ∷ rest) column counts j =
    ap (λ (t : Bool). row_has first.row (get_or counts first.process 0) j || t) (columns_append rest column counts j)
    ∙ or_swap (row_has first.row (get_or counts first.process 0) j)
    (row_has column.row (get_or counts column.process 0) j) (columns_have rest counts j)
  where
    or_swap : (a b c : Bool) → (a || (b || c)) ≡ (b || (a || c))
    or_swap true true c = refl
    or_swap true false c = refl
    or_swap false true c = refl
    or_swap false false c = refl

-- truths of three kinds, each from two conjunctions
pub or_regroup : (a b c d e f : Bool) → (((a || d) || (b || e)) || (c || f)) ≡ (((a || b) || c) || ((d || e) || f))
or_regroup true b c d e f = refl
or_regroup false true c true e f = refl
or_regroup false true c false e f = refl
or_regroup false false true true e f = refl
or_regroup false false true false true f = refl
or_regroup false false true false false f = refl
or_regroup false false false true e f = refl
or_regroup false false false false true f = refl
or_regroup false false false false false f = refl

pub moved_either : (by j : ℕ) (f g : ℕ → Bool) → moved by (λ k. f k || g k) j ≡ (moved by f j || moved by g j)
moved_either by j f g = go (nat_lt j by)
  where
    go : (t : Bool) → cond t false (f (j - by) || g (j - by)) ≡ (cond t false (f (j - by)) || cond t false (g (j - by)))
    go true = refl
    go false = refl

-- ---- rows

-- what holds of each two numbers of two lists, and of what stands past their ends
pub rows_at : (P : ℕ → ℕ → ℕ → Type 0) (old new : List ℕ) (e f : ℕ) → length new ≡ length old
    → ((n : ℕ) → n < length old → P n (get_or old n 0) (get_or new n 0)) → ((n : ℕ) → length old ≤ n → P n e f)
    → (n : ℕ) → P n (get_or old n e) (get_or new n f)
rows_at P old new e f same within past n = go (cases_lt n (length old))
  where
    go : (n < length old) ⊎ (length old ≤ n) → P n (get_or old n e) (get_or new n f)
    go (inl lt) =
        subst (λ (a : ℕ). P n a (get_or new n f)) (get_or_default old n 0 e lt)
        (subst (λ (b : ℕ). P n (get_or old n 0) b) (get_or_default new n 0 f (omega (arith, same, lt))) (within n lt))
    go (inr le) =
        subst (λ (a : ℕ). P n a (get_or new n f)) (sym (get_or_past old n e le))
        (subst (λ (b : ℕ). P n e b) (sym (get_or_past new n f (omega (arith, same, le)))) (past n le))

-- a bit that is missing from a word
pub not_missing : (low word missing : Bool) → missing ≡ (low && not word) → low ≡ true → missing ≡ false
    → word ≡ true
not_missing low true missing is there none = refl
not_missing true false missing is there none = sym none ∙ is
not_missing false false missing is there none = there

pub is_missing : (low word missing : Bool) → missing ≡ (low && not word) → word ≡ true → missing ≡ false
is_missing true word missing is there = is ∙ ap not there
is_missing false word missing is there = is

pub beyond_missing : (low word missing : Bool) → missing ≡ (low && not word) → low ≡ false → missing ≡ false
beyond_missing low word missing is there = is ∙ ap (λ (t : Bool). t && not word) there

-- ---- one column more

-- a column is joined with one of the same process
pub held_more : (placed held other later rest both all : Bool) → both ≡ (held || other) → rest ≡ (other || later)
    → (placed || (held || rest)) ≡ all → (placed || (both || later)) ≡ all
held_more placed held other later rest both all both_is rest_is is =
    ap (λ (t : Bool). placed || (t || later)) both_is ∙ ap (λ (t : Bool). placed || t) (or_assoc held other later)
    ∙ ap (λ (t : Bool). placed || (held || t)) (sym rest_is) ∙ is
  where
    or_assoc : (a b c : Bool) → ((a || b) || c) ≡ (a || (b || c))
    or_assoc true b c = refl
    or_assoc false b c = refl

-- a column of another process is put with those that are placed
pub placed_more : (placed held other later rest more all : Bool) → more ≡ (other || placed)
    → rest ≡ (other || later) → (placed || (held || rest)) ≡ all → (more || (held || later)) ≡ all
placed_more placed held other later rest more all more_is rest_is is =
    ap (λ (t : Bool). t || (held || later)) more_is ∙ moved_in other placed held later
    ∙ ap (λ (t : Bool). placed || (held || t)) (sym rest_is) ∙ is
  where
    moved_in : (o a h n : Bool) → ((o || a) || (h || n)) ≡ (a || (h || (o || n)))
    moved_in true true h n = refl
    moved_in true false true n = refl
    moved_in true false false n = refl
    moved_in false true h n = refl
    moved_in false false true n = refl
    moved_in false false false n = refl

pub or_back : (a b : Bool) → (a || b) ≡ (b || (a || false))
or_back true true = refl
or_back true false = refl
or_back false true = refl
or_back false false = refl

-- a further column is placed, moved up
pub moved_more : (placed row later rest more all : Bool) → more ≡ (row || placed) → rest ≡ (row || later)
    → (placed || rest) ≡ all → (more || later) ≡ all
moved_more placed row later rest more all more_is rest_is is =
    ap (λ (t : Bool). t || later) more_is ∙ swapped row placed later ∙ ap (λ (t : Bool). placed || t) (sym rest_is) ∙ is
  where
    swapped : (r a n : Bool) → ((r || a) || n) ≡ (a || (r || n))
    swapped true true n = refl
    swapped true false n = refl
    swapped false true n = refl
    swapped false false n = refl

-- ---- two conjunctions

-- a clause of both, from its three parts
pub united_at : (by j : ℕ) (c a d : Bool) (f g h : ℕ → Bool) (columns across down : Bool)
    → columns ≡ (c || moved by f j) → across ≡ (a || moved by g j) → down ≡ (d || moved by h j)
    → ((columns || across) || down) ≡ (((c || a) || d) || moved by (λ k. (f k || g k) || h k) j)
united_at by j c a d f g h columns across down columns_are across_is down_is =
    (λ i. (columns_are i || across_is i) || down_is i)
    ∙ or_regroup c a d (moved by f j) (moved by g j) (moved by h j)
    ∙ ap (λ (t : Bool). ((c || a) || d) || t)
    (sym (moved_either by j (λ k. f k || g k) h ∙ ap (λ (t : Bool). t || moved by h j) (moved_either by j f g)))

pub moved_clear : (by j : ℕ) (g : ℕ → Bool) → g (j - by) ≡ false → moved by g j ≡ false
moved_clear by j g none = go (nat_lt j by)
  where
    go : (t : Bool) → cond t false (g (j - by)) ≡ false
    go true = refl
    go false = none

-- a clause that is true has its bit among those of the prefix and those that the last two processes can give
pub may_at : (columns across down base reach both : Bool) → both ≡ (base || reach) → base ≡ columns
    → ((across || down) ≡ true → reach ≡ true) → ((columns || across) || down) ≡ true → both ≡ true
may_at true across down base reach both is base_is reached holds = is ∙ ap (λ (t : Bool). t || reach) base_is
may_at false across down base reach both is base_is reached holds =
    is ∙ ap (λ (t : Bool). t || reach) base_is ∙ reached holds

-- ---- what the prefix makes true

-- where each bit of a word stands for a truth, all of them are true if all bits are set
pub all_known : (n : ℕ) (word truths : ℕ → Bool) → ((j : ℕ) → word j ≡ true → truths j ≡ true)
    → all_below n word ≡ true → all_below n truths ≡ true
all_known n word truths known all = all_below_all n truths (λ j lt. known j (all_below_true n word all j lt))

pub known_at : (columns across down : Bool) → columns ≡ true → ((columns || across) || down) ≡ true
known_at columns across down is = ap (λ (t : Bool). (t || across) || down) is
