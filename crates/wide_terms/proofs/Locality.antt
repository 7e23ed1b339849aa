-- What is true of a comparison that names one process depends on the count of that process alone.
use Rattle.std.proofs.Common.{◌≡◌, ◌≤◌, ◌⊎◌, inl, inr, ℕ, zero, suc, ℤ, List, [], ◌∷◌, length, refl, sym, ap, ◌∙◌, subst, arith}
use Rattle.std.proofs.lemmas.List.{get_or_past}
use Rattle.std.specs.Prelude.{pos, ◌+ℤ◌, ◌*ℤ◌, slice_get, slice_index, slice_index_or, take}
use Rattle.def_model.specs.Events.{Event, events_of}
use Rattle.def_model.specs.Predicates.{Sign, Term, Number, Variable, Times, Comparison, Compare, Predicate, Recorded, compares, holds_at, last_set_if_there, signed, state_at, sum_value, term_value, test_of}
use Rattle.def_model.specs.Decided.{NameAlone, NamesAlone}
use Rattle.wide_terms.specs.Locals.{IsComparisonOf}
use Rattle.wide_terms.specs.Rows.{DependsOn}

-- states that are the same at the variables of a process give the terms that name it the same value
same_term : (one two : ℕ → ℕ → ℤ) (p : ℕ) → ((v : ℕ) → one p v ≡ two p v) → (term : Term) → NamesAlone p term
    → term_value one term ≡ term_value two term
same_term one two p same (Number n) alone = refl
same_term one two p same (Variable q v) alone =
    subst (λ (r : ℕ). one r v ≡ two r v) (sym alone) (same v)
same_term one two p same (Times n q v) alone =
    ap (λ (x : ℤ). pos n *ℤ x) (subst (λ (r : ℕ). one r v ≡ two r v) (sym alone) (same v))

pub same_sum : (one two : ℕ → ℕ → ℤ) (p : ℕ) → ((v : ℕ) → one p v ≡ two p v) → (terms : List (Sign × Term))
    → NameAlone p terms → sum_value one terms ≡ sum_value two terms
same_sum one two p same [] alone = refl
same_sum one two p same ((sign, term) ∷ rest) alone =
    ap (λ (x : ℤ). signed sign x +ℤ sum_value one rest) (same_term one two p same term alone.0)
    ∙ ap (λ (x : ℤ). signed sign (term_value two term) +ℤ x) (same_sum one two p same rest alone.1)

-- a comparison of such sums
pub same_comparison : (one two : ℕ → ℕ → ℤ) (p : ℕ) → ((v : ℕ) → one p v ≡ two p v)
    → (left : List (Sign × Term)) (comparison : Comparison) (right : List (Sign × Term)) → NameAlone p left
    → NameAlone p right
    → holds_at one (Compare left comparison right) ≡ holds_at two (Compare left comparison right)
same_comparison one two p same left comparison right l r =
    ap (λ (x : ℤ). compares comparison x (sum_value one right)) (same_sum one two p same left l)
    ∙ ap (λ (x : ℤ). compares comparison (sum_value two left) x) (same_sum one two p same right r)

-- the state at a process depends on its count alone
pub same_state : (r : Recorded) (p : ℕ) (first second : List ℕ) → slice_index first p ≡ slice_index second p → (v : ℕ)
    → state_at r.initial r.events first p v ≡ state_at r.initial r.events second p v
same_state r p first second same v =
    ap (λ (n : ℕ). last_set_if_there v (slice_get (slice_index_or r.initial p []) v) (take n (events_of r.events p)))
    same

take_none : (n : ℕ) (events : List Event) → events ≡ [] → take n events ≡ []
take_none zero events none = refl
take_none (suc n) [] none = refl
take_none (suc n) (event ∷ events) none =
    absurd (let long : length (event ∷ events) ≡ 0 = ap length none in omega arith)

-- and at a process that isn't there on nothing
pub no_state : (r : Recorded) (p : ℕ) (first second : List ℕ) → length r.events ≤ p → (v : ℕ)
    → state_at r.initial r.events first p v ≡ state_at r.initial r.events second p v
no_state r p first second le v =
    let none : events_of r.events p ≡ [] = get_or_past r.events p [] le in
    rw (
      take_none (slice_index first p) (events_of r.events p) none,
      take_none (slice_index second p) (events_of r.events p) none,
    ) refl

-- so a comparison depends on the count of the process that both of its sums name alone, or on none
pub depends : (r : Recorded) (predicate : Predicate) (left right : List (Sign × Term)) (p process : ℕ)
    → IsComparisonOf predicate left right → NameAlone p left → NameAlone p right
    → (p ≡ process) ⊎ (length r.events ≤ p) → DependsOn r predicate process
depends r predicate left right p process (comparison, is) l alone where_is first second same fits fits' =
    subst (λ (q : Predicate). test_of r q first ≡ test_of r q second) (sym is)
    (same_comparison (state_at r.initial r.events first) (state_at r.initial r.events second) p (go where_is) left
    comparison right l alone)
  where
    go : (p ≡ process) ⊎ (length r.events ≤ p) → (v : ℕ)
        → state_at r.initial r.events first p v ≡ state_at r.initial r.events second p v
    go (inl at) v =
        same_state r p first second (subst (λ (q : ℕ). slice_index first q ≡ slice_index second q) (sym at) same) v
    go (inr le) v = no_state r p first second le v
