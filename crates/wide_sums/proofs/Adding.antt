-- What processes add to a sum is the whole of it.
use Rattle.std.proofs.Common.{◌≡◌, ◌⊎◌, inl, inr, ℕ, zero, suc, ◌+◌, ◌<◌, ◌≤◌, List, [], ◌∷◌, ◌++◌, length, refl, sym, ap, ◌∙◌, subst, cond, nat_eq, ℤ, pos, ◌+ℤ◌, ◌-ℤ◌, ◌*ℤ◌, arith, lit≤}
use Rattle.std.specs.Prelude.{Vec, slice_index, unsigned_abs}
use Rattle.std.specs.Global.{Global}
use Rattle.std.proofs.lemmas.Int.{ints}
use Rattle.std.proofs.lemmas.Bool.{cases_eq}
use Rattle.std.proofs.lemmas.Bool.Decides.{nat_tests}
use Rattle.def_model.specs.Cuts.{FitsProcesses}
use Rattle.def_model.specs.Predicates.{Sign, Plus, Minus, Term, Number, Variable, Times, Recorded, signed, state_at, sum_value, term_value}
use Rattle.def_wide.specs.Sums.{NameBelow, NamesBelow}
use Rattle.wide_pairs.specs.Parts.{IsRowOf, part_of_difference, part_value, parts_value, value_after}
use Rattle.wide_slice.specs.Values.{number_at, sum_at, value_limit, value_of}
use Rattle.wide_sums.specs.Values.{IsDifference}

-- the rows of the processes from p on; the numbers of the sums are in that of process 0
abbrev pub AreRows : Recorded → List (Sign × Term) → List (Sign × Term) → ℕ → List (Vec ℤ Global) → Type 0
AreRows r left right p [] = Unit {0}
AreRows r left right p (row ∷ rows) = IsRowOf r p (nat_eq p 0) left right row.items × AreRows r left right (suc p) rows

-- one row more
pub rows_push : (r : Recorded) (left right : List (Sign × Term)) (p : ℕ) (rows : List (Vec ℤ Global))
    (row : Vec ℤ Global) (q : ℕ) → q ≡ p + length rows → AreRows r left right p rows
    → IsRowOf r q (nat_eq q 0) left right row.items → AreRows r left right p (rows ++ row ∷ [])
rows_push r left right p [] row q at are is =
    let same : q ≡ p = omega arith in
    (subst (λ (n : ℕ). IsRowOf r n (nat_eq n 0) left right row.items) same is, tt)
rows_push r left right p (first ∷ rows) row q at are is =
    (are.0, rows_push r left right (suc p) rows row q (omega arith) are.1 is)

-- their numbers are small
pub rows_small : (r : Recorded) (left right : List (Sign × Term)) (p : ℕ) (rows : List (Vec ℤ Global))
    → AreRows r left right p rows → (k count : ℕ) → unsigned_abs (value_of rows k count) ≤ value_limit
rows_small r left right p [] are k count = lit≤ tt
rows_small r left right p (row ∷ rows) are zero count = are.0.small count
rows_small r left right p (row ∷ rows) are (suc k) count = rows_small r left right (suc p) rows are.1 k count

-- ---- sums over processes

-- what n processes from p on add
added : (ℕ → ℤ) → ℕ → ℕ → ℤ
added f zero p = pos 0
added f (suc n) p = f p +ℤ added f n (suc p)

added-plus : (f g : ℕ → ℤ) (n p : ℕ) → added (λ q. f q +ℤ g q) n p ≡ added f n p +ℤ added g n p
unfolding added
added-plus f g zero p = refl
added-plus f g (suc n) p =
    let rest = added-plus f g n (suc p) in
    omega (arith, ints, rest)

added-minus : (f g : ℕ → ℤ) (n p : ℕ) → added (λ q. f q -ℤ g q) n p ≡ added f n p -ℤ added g n p
unfolding added
added-minus f g zero p = refl
added-minus f g (suc n) p =
    let rest = added-minus f g n (suc p) in
    omega (arith, ints, rest)

added-signed : (sign : Sign) (f : ℕ → ℤ) (n p : ℕ) → added (λ q. signed sign (f q)) n p ≡ signed sign (added f n p)
unfolding added
added-signed Plus f n p = refl
added-signed Minus f zero p = refl
added-signed Minus f (suc n) p =
    let rest = added-signed Minus f n (suc p) in
    omega (arith, ints, rest)

added-none : (f : ℕ → ℤ) (n p : ℕ) → ((q : ℕ) → p ≤ q → f q ≡ pos 0) → added f n p ≡ pos 0
unfolding added
added-none f zero p none = refl
added-none f (suc n) p none =
    let rest = added-none f n (suc p) (λ q le. none q (omega arith)) in
    let here = none p (omega arith) in
    omega (arith, ints, rest, here)

-- what one process alone adds is the whole
added-one : (f : ℕ → ℤ) (x n p : ℕ) → p ≤ x → x < p + n → added (λ q. cond (nat_eq x q) (f q) (pos 0)) n p ≡ f x
unfolding added
added-one f x zero p le lt = absurd (omega arith)
added-one f x (suc n) p le lt = go (λ before after. added-one f x n (suc p) before after) (cases_eq x p)
  where
    go : (suc p ≤ x → x < suc p + n → added (λ q. cond (nat_eq x q) (f q) (pos 0)) n (suc p) ≡ f x)
        → (x ≡ p) ⊎ (x ≡ p → ⊥)
        → cond (nat_eq x p) (f p) (pos 0) +ℤ added (λ q. cond (nat_eq x q) (f q) (pos 0)) n (suc p) ≡ f x
    go later (inl same) =
        let rest : added (λ q. cond (nat_eq x q) (f q) (pos 0)) n (suc p) ≡ pos 0 =
        added-none (λ q. cond (nat_eq x q) (f q) (pos 0)) n (suc p) (λ q le'. grind (arith, nat_tests)) in
        let here : cond (nat_eq x p) (f p) (pos 0) ≡ f x = grind (arith, nat_tests) in
        omega (arith, ints, rest, here)
    go later (inr other) =
        let rest = later (omega arith) (omega arith) in
        let here : cond (nat_eq x p) (f p) (pos 0) ≡ pos 0 = grind (arith, nat_tests) in
        omega (arith, ints, rest, here)

-- each term is taken in by one process
term_added : (r : Recorded) (cut : List ℕ) (n : ℕ) → 1 ≤ n → (term : Term) → NamesBelow n term
    → added (λ q. part_value r q (slice_index cut q) (nat_eq q 0) term) n 0
    ≡ term_value (state_at r.initial r.events cut) term
unfolding added
term_added r cut zero some term below = absurd (omega arith)
term_added r cut (suc n) some (Number k) below =
    let rest = added-none (λ q. cond (nat_eq q 0) (pos k) (pos 0)) n 1 (λ q le. grind (arith, nat_tests)) in
    omega (arith, ints, rest)
term_added r cut (suc n) some (Variable x v) below =
    added-one (λ q. value_after r q (slice_index cut q) v) x (suc n) 0 (omega arith) (omega arith)
term_added r cut (suc n) some (Times k x v) below =
    added-one (λ q. pos k *ℤ value_after r q (slice_index cut q) v) x (suc n) 0 (omega arith) (omega arith)

-- and so is each sum
sum_added : (r : Recorded) (cut : List ℕ) (n : ℕ) → 1 ≤ n → (terms : List (Sign × Term)) → NameBelow n terms
    → added (λ q. parts_value r q (slice_index cut q) (nat_eq q 0) terms) n 0
    ≡ sum_value (state_at r.initial r.events cut) terms
sum_added r cut n some [] below = added-none (λ q. pos 0) n 0 (λ q le. refl)
sum_added r cut n some ((sign, term) ∷ rest) below =
    added-plus (λ q. signed sign (part_value r q (slice_index cut q) (nat_eq q 0) term))
    (λ q. parts_value r q (slice_index cut q) (nat_eq q 0) rest) n 0
    ∙ (ap (λ (x : ℤ). x +ℤ added (λ q. parts_value r q (slice_index cut q) (nat_eq q 0) rest) n 0)
    (added-signed sign (λ q. part_value r q (slice_index cut q) (nat_eq q 0) term) n 0
    ∙ ap (signed sign) (term_added r cut n some term below.0))
    ∙ ap (λ (x : ℤ). signed sign (term_value (state_at r.initial r.events cut) term) +ℤ x)
    (sum_added r cut n some rest below.1))

-- rows add up at the counts of a cut from process p on
rows_added : (r : Recorded) (left right : List (Sign × Term)) (cut : List ℕ) → FitsProcesses r.events cut → (p : ℕ)
    (rows : List (Vec ℤ Global)) (counts : List ℕ) → AreRows r left right p rows → length counts ≡ length rows
    → ((k q : ℕ) → q ≡ p + k → slice_index counts k ≡ slice_index cut q)
    → sum_at rows counts
    ≡ added (λ q. part_of_difference r q (slice_index cut q) (nat_eq q 0) left right) (length rows) p
unfolding added
rows_added r left right cut fits p [] counts are many same = refl
rows_added r left right cut fits p (row ∷ rows) [] are many same = absurd (omega arith)
rows_added r left right cut fits p (row ∷ rows) (count ∷ counts) are many same =
    let at : count ≡ slice_index cut p = same 0 p (omega arith) in
    let here : number_at row.items count ≡ part_of_difference r p (slice_index cut p) (nat_eq p 0) left right =
    ap (number_at row.items) at ∙ are.0.adds (slice_index cut p) (fits.within p) in
    let rest =
    rows_added r left right cut fits (suc p) rows counts are.1 (omega (arith, many))
    (λ k q e. same (suc k) q (omega (arith, e))) in
    ap (λ (x : ℤ). x +ℤ sum_at rows counts) here
    ∙ ap (λ (x : ℤ). part_of_difference r p (slice_index cut p) (nat_eq p 0) left right +ℤ x) rest

-- so the rows of all processes add up to the difference of the sums
pub rows_difference : (r : Recorded) (left right : List (Sign × Term)) (rows : List (Vec ℤ Global))
    → 1 ≤ length r.events → NameBelow (length r.events) left → NameBelow (length r.events) right
    → length rows ≡ length r.events → AreRows r left right 0 rows → IsDifference r left right rows
rows_difference r left right rows some l m many are cut fits =
    let n : ℕ = length r.events in
    rows_added r left right cut fits 0 rows cut are (fits.one_each ∙ sym many)
    (λ k q e. ap (λ (j : ℕ). slice_index cut j) (omega (arith, e)))
    ∙ (ap (λ (k : ℕ). added (λ q. part_of_difference r q (slice_index cut q) (nat_eq q 0) left right) k 0) many
    ∙ (added-minus (λ q. parts_value r q (slice_index cut q) (nat_eq q 0) left)
    (λ q. parts_value r q (slice_index cut q) (nat_eq q 0) right) n 0
    ∙ (ap (λ (x : ℤ). x -ℤ added (λ q. parts_value r q (slice_index cut q) (nat_eq q 0) right) n 0)
    (sum_added r cut n some left l)
    ∙ ap (λ (x : ℤ). sum_value (state_at r.initial r.events cut) left -ℤ x) (sum_added r cut n some right m))))
