-- Where no variable that a comparison names changes, the comparison stays as it is.
use Rattle.std.proofs.Common.{◌≡◌, ◌+◌, ◌<◌, ◌≤◌, ◌⊎◌, inl, inr, ℕ, zero, suc, ℤ, List, [], ◌∷◌, ◌++◌, All, append-nil, append_assoc, drop, get_or, length, length-append, refl, sym, ap, ◌∙◌, subst, arith}
use Rattle.std.proofs.lemmas.Bool.{cases_lt}
use Rattle.std.proofs.lemmas.List.{drop_all, drop_more, get_or_append_left}
use Rattle.std.specs.Prelude.{pos, ◌+ℤ◌, ◌*ℤ◌, slice_index}
use Rattle.def_model.specs.Decided.{NameAlone}
use Rattle.def_model.specs.Predicates.{Sign, Term, Number, Variable, Times, Predicate, Recorded, compares, signed, state_at, sum_value, term_value, test_of}
use Rattle.pd_pred.specs.Trees.{term_view, terms_view}
use Rattle.pd_pred.specs.declared.tree.SignedTerm.{SignedTerm}
use Rattle.wide_terms.specs.Changes.{DependsOnVars, SumStays, VariableStays, vars_of, vars_of_term}
use Rattle.wide_terms.specs.Locals.{IsComparisonOf}
use Rattle.wide_terms.proofs.Building.{all_head, all_tail}
use Rattle.wide_terms.proofs.Locality.{no_state}

-- ---- the variables of a sum

-- one more term
pub vars_more : (before new : List ℕ) (view terms : List SignedTerm) (i : ℕ) (d : SignedTerm) → view ≡ terms
    → i < length view → new ≡ before ++ vars_of_term (term_view (get_or view i d).term)
    → new ++ vars_of (terms_view (drop (i + 1) terms)) ≡ before ++ vars_of (terms_view (drop i terms))
vars_more before new view terms i d same lt is =
    subst (λ (xs : List SignedTerm). new ++ vars_of (terms_view (drop (i + 1) xs))
    ≡ before ++ vars_of (terms_view (drop i xs))) same
    (ap (λ (xs : List ℕ). xs ++ vars_of (terms_view (drop (i + 1) view))) is
    ∙ (append_assoc before (vars_of_term (term_view (get_or view i d).term)) (vars_of (terms_view (drop (i + 1) view)))
    ∙ sym (ap (λ (xs : List SignedTerm). before ++ vars_of (terms_view xs)) (drop_more view i d lt))))

-- no term is left
pub vars_all : (new whole : List ℕ) (terms : List SignedTerm) (i : ℕ) → length terms ≤ i
    → new ++ vars_of (terms_view (drop i terms)) ≡ whole → new ≡ whole
vars_all new whole terms i le is =
    sym (append-nil new)
    ∙ (sym (ap (λ (xs : List SignedTerm). new ++ vars_of (terms_view xs)) (drop_all i terms le)) ∙ is)

-- ---- what holds of each of some variables

all_cons : (P : ℕ → Type 0) (x : ℕ) (xs : List ℕ) → P x → All P xs → All P (x ∷ xs)
all_cons P x xs here all zero d lt = here
all_cons P x xs here all (suc i) d lt = all i d (omega arith)

all_left : (P : ℕ → Type 0) (xs ys : List ℕ) → All P (xs ++ ys) → All P xs
all_left P xs ys all i d lt =
    subst P (get_or_append_left xs ys d i lt) (all i d (rw (length-append xs ys) (omega (arith, lt))))

all_right : (P : ℕ → Type 0) (xs ys : List ℕ) → All P (xs ++ ys) → All P ys
all_right P [] ys all = all
all_right P (x ∷ xs) ys all = all_right P xs ys (all_tail P x (xs ++ ys) all)

-- one more of them
pub all_more : (P : ℕ → Type 0) (vars : List ℕ) (i d : ℕ) → i < length vars → P (get_or vars i d)
    → All P (drop (i + 1) vars) → All P (drop i vars)
all_more P vars i d lt here rest =
    subst (All P) (sym (drop_more vars i d lt)) (all_cons P (get_or vars i d) (drop (i + 1) vars) here rest)

-- none is left
pub all_none : (P : ℕ → Type 0) (vars : List ℕ) (i : ℕ) → length vars ≤ i → All P (drop i vars)
all_none P vars i le = subst (All P) (sym (drop_all i vars le)) (λ k d lt. absurd (omega (arith, lt)))

-- the only one
pub all_one : (P : ℕ → Type 0) (vars : List ℕ) (d : ℕ) → length vars ≡ 1 → P (get_or vars 0 d) → All P vars
all_one P [] d one here i e lt = absurd (omega (arith, lt))
all_one P (x ∷ []) d one here zero e lt = here
all_one P (x ∷ []) d one here (suc i) e lt = absurd (omega (arith, lt))
all_one P (x ∷ y ∷ rest) d one here i e lt = absurd (omega (arith, one))

-- what holds of the counts after one and before another, and of that one
pub one_count_more : (P : ℕ → Type 0) (from count : ℕ) → ((n : ℕ) → from < n → n < count → P n) → P count → (n : ℕ)
    → from < n → n < count + 1 → P n
one_count_more P from count known here n after lt = go (cases_lt n count)
  where
    go : (n < count) ⊎ (count ≤ n) → P n
    go (inl less) = known n after less
    go (inr ge) = let same : count ≡ n = omega arith in subst P same here

-- ---- what stays

-- the value of a variable whose process is this one, or isn't there
var_stays : (r : Recorded) (q v p process n m : ℕ) → q ≡ p → (p ≡ process) ⊎ (length r.events ≤ p)
    → VariableStays r process n m v → (first second : List ℕ) → slice_index first process ≡ n
    → slice_index second process ≡ m
    → state_at r.initial r.events first q v ≡ state_at r.initial r.events second q v
var_stays r q v p process n m named (inl is) stays first second at at' =
    subst (λ (k : ℕ). state_at r.initial r.events first k v ≡ state_at r.initial r.events second k v)
    (sym (named ∙ is)) (stays first second at at')
var_stays r q v p process n m named (inr le) stays first second at at' =
    subst (λ (k : ℕ). state_at r.initial r.events first k v ≡ state_at r.initial r.events second k v) (sym named)
    (no_state r p first second le v)

-- a sum with one more term
sum_more : (one two : ℕ → ℕ → ℤ) (sign : Sign) (term : Term) (rest : List (Sign × Term))
    → term_value one term ≡ term_value two term → sum_value one rest ≡ sum_value two rest
    → sum_value one ((sign, term) ∷ rest) ≡ sum_value two ((sign, term) ∷ rest)
sum_more one two sign term rest same more =
    ap (λ (x : ℤ). signed sign x +ℤ sum_value one rest) same
    ∙ ap (λ (x : ℤ). signed sign (term_value two term) +ℤ x) more

-- a sum stays if the variables do that it names
sum_stays : (r : Recorded) (terms : List (Sign × Term)) (p process n m : ℕ)
    → (p ≡ process) ⊎ (length r.events ≤ p) → NameAlone p terms → All (VariableStays r process n m) (vars_of terms)
    → SumStays r terms process n m
sum_stays r [] p process n m where_is alone all first second at at' = refl
sum_stays r ((sign, Number k) ∷ rest) p process n m where_is alone all first second at at' =
    sum_more (state_at r.initial r.events first) (state_at r.initial r.events second) sign (Number k) rest refl
    (sum_stays r rest p process n m where_is alone.1 all first second at at')
sum_stays r ((sign, Variable q v) ∷ rest) p process n m where_is alone all first second at at' =
    sum_more (state_at r.initial r.events first) (state_at r.initial r.events second) sign (Variable q v) rest
    (var_stays r q v p process n m alone.0 where_is (all_head (VariableStays r process n m) v (vars_of rest) all) first
    second at at')
    (sum_stays r rest p process n m where_is alone.1 (all_tail (VariableStays r process n m) v (vars_of rest) all) first
    second at at')
sum_stays r ((sign, Times k q v) ∷ rest) p process n m where_is alone all first second at at' =
    sum_more (state_at r.initial r.events first) (state_at r.initial r.events second) sign (Times k q v) rest
    (ap (λ (x : ℤ). pos k *ℤ x)
    (var_stays r q v p process n m alone.0 where_is (all_head (VariableStays r process n m) v (vars_of rest) all) first
    second at at'))
    (sum_stays r rest p process n m where_is alone.1 (all_tail (VariableStays r process n m) v (vars_of rest) all) first
    second at at')

-- and so does a comparison of two sums
pub depends_on_vars : (r : Recorded) (predicate : Predicate) (left right : List (Sign × Term)) (p process : ℕ)
    (vars : List ℕ) → vars ≡ vars_of left ++ vars_of right → IsComparisonOf predicate left right → NameAlone p left
    → NameAlone p right → (p ≡ process) ⊎ (length r.events ≤ p) → DependsOnVars r predicate process vars
depends_on_vars r predicate left right p process vars named (comparison, is) l alone where_is n m all first second
    at at' =
    let both : All (VariableStays r process n m) (vars_of left ++ vars_of right) =
    subst (All (VariableStays r process n m)) named all in
    subst (λ (q : Predicate). test_of r q first ≡ test_of r q second) (sym is)
    (ap (λ (x : ℤ). compares comparison x (sum_value (state_at r.initial r.events first) right))
    (sum_stays r left p process n m where_is l
    (all_left (VariableStays r process n m) (vars_of left) (vars_of right) both) first second at at')
    ∙ ap (λ (x : ℤ). compares comparison (sum_value (state_at r.initial r.events second) left) x)
    (sum_stays r right p process n m where_is alone
    (all_right (VariableStays r process n m) (vars_of left) (vars_of right) both) first second at at'))
