-- The marks of the cuts with one event less, bit by bit.
use Rattle.std.proofs.Common.{◌≡◌, ℕ, zero, suc, ◌+◌, ◌-◌, ◌^◌, ◌<◌, ◌≤◌, ◌⊎◌, inl, inr, ◌↔◌, IsTrue, List, length, arith, refl, sym, subst, ap, ◌∙◌, Bool, true, false, ◌||◌, ◌&&◌, get_or}
use Rattle.std.proofs.lemmas.Bool.{cases_lt, cases_order, false≢true}
use Rattle.walk_keys.specs.Words.{has_bit}
use Rattle.walk_keys.specs.Keys.{count_base}
use Rattle.walk_runs.specs.WholeLevels.{Run}
use Rattle.walk_marks.specs.RunPlaces.{run_at, key_of_run}
use Rattle.walk_marks.specs.Marks.{Marking, IsMarkedAt, HasMark, HasOwnMark, HasOtherMark, KeysAscend}

pub or_is : (x y z : Bool) → z ≡ (x || y) → IsTrue z ↔ (IsTrue x ⊎ IsTrue y)
or_is true y z e = (λ t. inl refl, λ w. e)
or_is false true z e = (λ t. inr refl, λ w. e)
or_is false false z e = (λ t. inl (sym e ∙ t), λ w. e ∙ go w)
  where
    go : (IsTrue false ⊎ IsTrue false) → false ≡ true
    go (inl t) = t
    go (inr t) = t

pub and_true : (x y z : Bool) → z ≡ (x && y) → y ≡ true → z ≡ x
and_true true y z e t = e ∙ t
and_true false y z e t = e

pub and_false : (x y z : Bool) → z ≡ (x && y) → y ≡ false → z ≡ false
and_false true y z e t = e ∙ t
and_false false y z e t = e

pub or_none : (x y z : Bool) → z ≡ (x || y) → x ≡ false → y ≡ false → z ≡ false
or_none true y z e f g = cc
or_none false y z e f g = e ∙ g

-- a number is that of one run
pub same_run : (runs : List Run) (i j : ℕ) → KeysAscend runs → i < length runs → j < length runs
    → key_of_run (run_at runs i) ≡ key_of_run (run_at runs j) → i ≡ j
same_run runs i j ascend lt lt' same = go (cases_order i j)
  where
    go : (i ≡ j) ⊎ ((i < j) ⊎ (j < i)) → i ≡ j
    go (inl e) = e
    go (inr (inl less)) = let h : key_of_run (run_at runs i) < key_of_run (run_at runs j) = ascend i j less lt' in
        absurd (omega arith)
    go (inr (inr more)) = let h : key_of_run (run_at runs j) < key_of_run (run_at runs i) = ascend j i more lt in
        absurd (omega arith)

pub marked_in : (runs : List Run) (marks : Marking) (key i x : ℕ) → KeysAscend runs → i < length runs
    → key_of_run (run_at runs i) ≡ key → HasMark runs marks key x → IsMarkedAt runs marks i x
marked_in runs marks key i x ascend lt is (j, lt', is', at) =
    subst (λ (n : ℕ). IsMarkedAt runs marks n x) (same_run runs j i ascend lt' lt (is' ∙ sym is)) at

-- the marks of one run at x, and at one less
pub own_bits : (runs : List Run) (marks : Marking) (key i x less same word : ℕ) → KeysAscend runs → i < length runs
    → key_of_run (run_at runs i) ≡ key
    → ((j : ℕ) → j < 64 → IsTrue (has_bit less j) ↔ ((0 < x + j) × IsMarkedAt runs marks i (x + j - 1)))
    → ((j : ℕ) → j < 64 → IsTrue (has_bit same j) ↔ IsMarkedAt runs marks i (x + j))
    → ((j : ℕ) → has_bit word j ≡ (has_bit less j || has_bit same j))
    → (j : ℕ) → j < 64 → IsTrue (has_bit word j) ↔ HasOwnMark runs marks key (x + j)
own_bits runs marks key i x less same word ascend lt is before at either j small = (to, from)
  where
    both : IsTrue (has_bit word j) ↔ (IsTrue (has_bit less j) ⊎ IsTrue (has_bit same j))
    both = or_is (has_bit less j) (has_bit same j) (has_bit word j) (either j)

    to : IsTrue (has_bit word j) → HasOwnMark runs marks key (x + j)
    to set = go (both.0 set)
      where
        go : (IsTrue (has_bit less j) ⊎ IsTrue (has_bit same j)) → HasOwnMark runs marks key (x + j)
        go (inl set') = let w : (0 < x + j) × IsMarkedAt runs marks i (x + j - 1) = (before j small).0 set' in
            inl (w.0, (i, lt, is, w.1))
        go (inr set') = inr (i, lt, is, (at j small).0 set')

    from : HasOwnMark runs marks key (x + j) → IsTrue (has_bit word j)
    from (inl (some, has)) =
        both.1 (inl ((before j small).1 (some, marked_in runs marks key i (x + j - 1) ascend lt is has)))
    from (inr has) = both.1 (inr ((at j small).1 (marked_in runs marks key i (x + j) ascend lt is has)))

-- the window at one less
pub less_bits : (runs : List Run) (marks : Marking) (i x word : ℕ) → 0 < x
    → ((j : ℕ) → j < 64 → IsTrue (has_bit word j) ↔ IsMarkedAt runs marks i (x - 1 + j))
    → (j : ℕ) → j < 64 → IsTrue (has_bit word j) ↔ ((0 < x + j) × IsMarkedAt runs marks i (x + j - 1))
less_bits runs marks i x word some at j small =
    let e : x - 1 + j ≡ x + j - 1 = omega arith in
    let w : IsTrue (has_bit word j) ↔ IsMarkedAt runs marks i (x + j - 1) =
    subst (λ (n : ℕ). IsTrue (has_bit word j) ↔ IsMarkedAt runs marks i n) e (at j small) in
    (λ t. (omega arith, w.0 t), λ p. w.1 p.1)

pub less_bits_none : (runs : List Run) (marks : Marking) (i x same word : ℕ) → x ≡ 0
    → ((j : ℕ) → j < 64 → IsTrue (has_bit same j) ↔ IsMarkedAt runs marks i (x + j))
    → ((j : ℕ) → j < 1 → has_bit word j ≡ false) → ((j : ℕ) → j + 1 < 64 → has_bit word (j + 1) ≡ has_bit same j)
    → (j : ℕ) → j < 64 → IsTrue (has_bit word j) ↔ ((0 < x + j) × IsMarkedAt runs marks i (x + j - 1))
less_bits_none runs marks i x same word none at below moved zero small =
    (λ t. absurd (false≢true (sym (below 0 (omega arith)) ∙ t)), λ p. absurd (let h : 0 < x + 0 = p.0 in omega arith))
less_bits_none runs marks i x same word none at below moved (suc j) small =
    let e : x + j ≡ x + suc j - 1 = omega arith in
    let f : j + 1 ≡ suc j = omega arith in
    let w : IsTrue (has_bit same j) ↔ IsMarkedAt runs marks i (x + suc j - 1) =
    subst (λ (n : ℕ). IsTrue (has_bit same j) ↔ IsMarkedAt runs marks i n) e (at j (omega arith)) in
    let m : has_bit word (suc j) ≡ has_bit same j = ap (has_bit word) (sym f) ∙ moved j (omega arith) in
    (λ t. (omega arith, w.0 (sym m ∙ t)), λ p. m ∙ w.1 p.1)

-- one process more
pub other_more : (runs : List Run) (marks : Marking) (key : ℕ) (prefix : List ℕ) (p x : ℕ) (own found word new : Bool)
    → 0 < get_or prefix p 0
    → IsTrue found ↔ (IsTrue own ⊎ HasOtherMark runs marks key prefix p x)
    → IsTrue word ↔ HasMark runs marks (key - count_base ^ (length prefix + 1 - p)) x
    → new ≡ (found || word)
    → IsTrue new ↔ (IsTrue own ⊎ HasOtherMark runs marks key prefix (p + 1) x)
other_more runs marks key prefix p x own found word new some before has is = (to, from)
  where
    both : IsTrue new ↔ (IsTrue found ⊎ IsTrue word)
    both = or_is found word new is

    to : IsTrue new → (IsTrue own ⊎ HasOtherMark runs marks key prefix (p + 1) x)
    to set = go (both.0 set)
      where
        later : (IsTrue own ⊎ HasOtherMark runs marks key prefix p x)
            → (IsTrue own ⊎ HasOtherMark runs marks key prefix (p + 1) x)
        later (inl t) = inl t
        later (inr (q, lt, more, mark)) = inr (q, omega arith, more, mark)

        go : (IsTrue found ⊎ IsTrue word) → (IsTrue own ⊎ HasOtherMark runs marks key prefix (p + 1) x)
        go (inl t) = later (before.0 t)
        go (inr t) = inr (p, omega arith, some, has.0 t)

    from : (IsTrue own ⊎ HasOtherMark runs marks key prefix (p + 1) x) → IsTrue new
    from (inl t) = both.1 (inl (before.1 (inl t)))
    from (inr (q, lt, more, mark)) = go (cases_lt q p)
      where
        go : (q < p) ⊎ (p ≤ q) → IsTrue new
        go (inl less) = both.1 (inl (before.1 (inr (q, less, more, mark))))
        go (inr le) =
            let e : q ≡ p = omega arith in
            both.1 (inr (has.1 (subst (λ (n : ℕ). HasMark runs marks (key - count_base ^ (length prefix + 1 - n)) x) e
            mark)))

pub other_none : (runs : List Run) (marks : Marking) (key : ℕ) (prefix : List ℕ) (p x : ℕ) (own found : Bool)
    → get_or prefix p 0 ≡ 0
    → IsTrue found ↔ (IsTrue own ⊎ HasOtherMark runs marks key prefix p x)
    → IsTrue found ↔ (IsTrue own ⊎ HasOtherMark runs marks key prefix (p + 1) x)
other_none runs marks key prefix p x own found none before = (λ t. later (before.0 t), from)
  where
    later : (IsTrue own ⊎ HasOtherMark runs marks key prefix p x)
        → (IsTrue own ⊎ HasOtherMark runs marks key prefix (p + 1) x)
    later (inl t) = inl t
    later (inr (q, lt, more, mark)) = inr (q, omega arith, more, mark)

    from : (IsTrue own ⊎ HasOtherMark runs marks key prefix (p + 1) x) → IsTrue found
    from (inl t) = before.1 (inl t)
    from (inr (q, lt, more, mark)) = go (cases_lt q p)
      where
        go : (q < p) ⊎ (p ≤ q) → IsTrue found
        go (inl less) = before.1 (inr (q, less, more, mark))
        go (inr le) =
            let e : q ≡ p = omega arith in
            let some : 0 < get_or prefix p 0 = subst (λ (n : ℕ). 0 < get_or prefix n 0) e more in
            absurd (omega arith)

-- where the bit is set, the other processes add nothing
pub other_all : (runs : List Run) (marks : Marking) (key : ℕ) (prefix : List ℕ) (p m x : ℕ) (own found : Bool)
    → p ≤ m → found ≡ true → IsTrue found ↔ (IsTrue own ⊎ HasOtherMark runs marks key prefix p x)
    → IsTrue found ↔ (IsTrue own ⊎ HasOtherMark runs marks key prefix m x)
other_all runs marks key prefix p m x own found le all before = (λ t. later (before.0 t), λ w. all)
  where
    later : (IsTrue own ⊎ HasOtherMark runs marks key prefix p x)
        → (IsTrue own ⊎ HasOtherMark runs marks key prefix m x)
    later (inl t) = inl t
    later (inr (q, lt, more, mark)) = inr (q, omega arith, more, mark)

-- the bits of the same prefix among those that are wanted
pub own_wanted : (found wanted own : Bool) (O : Type 0) → own ≡ (found && wanted) → wanted ≡ true
    → IsTrue found ↔ O → IsTrue own ↔ O
own_wanted found wanted own O is all found_is =
    let e : own ≡ found = and_true found wanted own is all in
    (λ t. found_is.0 (sym e ∙ t), λ o. e ∙ found_is.1 o)

pub with_own : (result own : Bool) (O M : Type 0) → IsTrue own ↔ O → IsTrue result ↔ (IsTrue own ⊎ M)
    → IsTrue result ↔ (O ⊎ M)
with_own result own O M own_is result_is = (λ t. to (result_is.0 t), from)
  where
    to : (IsTrue own ⊎ M) → O ⊎ M
    to (inl t) = inl (own_is.0 t)
    to (inr m) = inr m

    from : (O ⊎ M) → IsTrue result
    from (inl o) = result_is.1 (inl (own_is.1 o))
    from (inr m) = result_is.1 (inr m)
