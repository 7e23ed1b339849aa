-- What a predicate sees of a cut.
use Rattle.std.proofs.Common.{◌≡◌, ◌+◌, ◌<◌, ℕ, zero, suc, ℤ, Bool, true, false, cond, ◌||◌, List, [], ◌∷◌, length, get_or, refl, sym, ap, ◌∙◌, arith, add-zero, zero-add}
use Rattle.std.proofs.lemmas.Bool.{eq-eqb, false≢true}
use Rattle.std.proofs.lemmas.List.{get_or_default, same_lists}
use Rattle.std.specs.Prelude.{pos, not, nat_eq, ◌&&◌, ◌+ℤ◌, ◌*ℤ◌, slice_get, take}
use Rattle.def_model.specs.Events.{events_of}
use Rattle.def_model.specs.Cuts.{one_less}
use Rattle.def_model.specs.Predicates.{Sign, Term, Number, Variable, Times, Predicate, Always, Never, Compare, Not, And, Or, Recorded, compares, holds_at, last_set_if_there, signed, state_at, sum_value, term_value, test_of}
use Rattle.def_model.proofs.Counts.{length_less, less_other}
use Rattle.def_wide.specs.DeadEnds.{named_counts, named_from, predicate_names, sum_names, term_names}

-- ---- by process

cond_none : (b : Bool) → ◌≡◌ {A = ℕ} 0 (cond b 0 0)
cond_none true = refl
cond_none false = refl

at_from : (predicate : Predicate) (p q : ℕ) (cut : List ℕ) → get_or (named_from p predicate cut) q 0
    ≡ cond (predicate_names (p + q) predicate) (get_or cut q 0) 0
at_from predicate p q [] = cond_none (predicate_names (p + q) predicate)
at_from predicate p zero (count ∷ cut) =
    ap (λ (n : ℕ). cond (predicate_names n predicate) count 0) (sym (add-zero p))
at_from predicate p (suc q) (count ∷ cut) =
    at_from predicate (suc p) q cut
    ∙ ap (λ (n : ℕ). cond (predicate_names n predicate) (get_or cut q 0) 0) shift
  where
    shift : suc p + q ≡ p + suc q
    shift = omega arith

-- the count of each process that is named
pub named_at : (predicate : Predicate) (cut : List ℕ) (q : ℕ) → get_or (named_counts predicate cut) q 0
    ≡ cond (predicate_names q predicate) (get_or cut q 0) 0
named_at predicate cut q =
    at_from predicate 0 q cut
    ∙ ap (λ (n : ℕ). cond (predicate_names n predicate) (get_or cut q 0) 0) (zero-add q)

length_from : (predicate : Predicate) (p : ℕ) (cut : List ℕ) → length (named_from p predicate cut) ≡ length cut
length_from predicate p [] = refl
length_from predicate p (count ∷ cut) = ap suc (length_from predicate (suc p) cut)

pub length_named : (predicate : Predicate) (cut : List ℕ) → length (named_counts predicate cut) ≡ length cut
length_named predicate cut = length_from predicate 0 cut

-- cuts of which the same is seen have the same counts of the processes that are named
abbrev pub AreSameNamed : Predicate → List ℕ → List ℕ → Type 0
AreSameNamed predicate one two = (q : ℕ) → predicate_names q predicate ≡ true → get_or one q 0 ≡ get_or two q 0

pub same_named : (predicate : Predicate) (one two : List ℕ) → named_counts predicate one ≡ named_counts predicate two
    → AreSameNamed predicate one two
same_named predicate one two same q names =
    sym (here one) ∙ (ap (λ (xs : List ℕ). get_or xs q 0) same ∙ here two)
  where
    here : (cut : List ℕ) → get_or (named_counts predicate cut) q 0 ≡ get_or cut q 0
    here cut = named_at predicate cut q ∙ ap (λ (b : Bool). cond b (get_or cut q 0) 0) names

-- and the other way round
pub same_seen : (predicate : Predicate) (one two : List ℕ) → length one ≡ length two → AreSameNamed predicate one two
    → named_counts predicate one ≡ named_counts predicate two
same_seen predicate one two count same =
    same_lists (named_counts predicate one) (named_counts predicate two)
    (length_named predicate one ∙ (count ∙ sym (length_named predicate two))) each
  where
    by : (q : ℕ) (b : Bool) → predicate_names q predicate ≡ b → cond b (get_or one q 0) 0 ≡ cond b (get_or two q 0) 0
    by q true names = same q names
    by q false names = refl

    at : (q : ℕ) → get_or (named_counts predicate one) q 0 ≡ get_or (named_counts predicate two) q 0
    at q =
        named_at predicate one q ∙ (by q (predicate_names q predicate) refl ∙ sym (named_at predicate two q))

    each : (k d : ℕ) → k < length (named_counts predicate one)
        → get_or (named_counts predicate one) k d ≡ get_or (named_counts predicate two) k d
    each k d lt =
        let longer : k < length (named_counts predicate two) =
        omega (arith, length_named predicate one, length_named predicate two) in
        get_or_default (named_counts predicate one) k d 0 lt
        ∙ (at k ∙ get_or_default (named_counts predicate two) k 0 d longer)

-- what is seen stays without the last event of a process that isn't named
pub same_without : (predicate : Predicate) (cut : List ℕ) (p : ℕ) → predicate_names p predicate ≡ false
    → named_counts predicate (one_less cut p) ≡ named_counts predicate cut
same_without predicate cut p unnamed =
    same_seen predicate (one_less cut p) cut (length_less cut p)
    (λ q names. less_other cut p q (λ same. false≢true (sym unnamed
    ∙ (ap (λ (n : ℕ). predicate_names n predicate) (sym same) ∙ names))))

-- ---- tests

module _ (one two : ℕ → ℕ → ℤ) where
  -- the states are the same at the variables of each process for which this is true
  abbrev AreSameWhere : (ℕ → Bool) → Type 0
  AreSameWhere names = (q v : ℕ) → names q ≡ true → one q v ≡ two q v

  eq_self : (q : ℕ) → nat_eq q q ≡ true
  eq_self q = eq-eqb q q refl

  same_term : (term : Term) → AreSameWhere (λ q. term_names q term) → term_value one term ≡ term_value two term
  same_term (Number n) same = refl
  same_term (Variable q v) same = same q v (eq_self q)
  same_term (Times n q v) same = ap (λ (x : ℤ). pos n *ℤ x) (same q v (eq_self q))

  in_left : (a b : ℕ → Bool) → AreSameWhere (λ q. a q || b q) → AreSameWhere a
  in_left a b same q v names = same q v (ap (λ (t : Bool). t || b q) names)

  in_right : (a b : ℕ → Bool) → AreSameWhere (λ q. a q || b q) → AreSameWhere b
  in_right a b same q v names = same q v (ap (λ (t : Bool). a q || t) names ∙ go (a q))
    where
      go : (t : Bool) → (t || true) ≡ true
      go true = refl
      go false = refl

  same_sum : (terms : List (Sign × Term)) → AreSameWhere (λ q. sum_names q terms)
      → sum_value one terms ≡ sum_value two terms
  same_sum [] same = refl
  same_sum ((sign, term) ∷ rest) same =
      ap (λ (x : ℤ). signed sign x +ℤ sum_value one rest)
      (same_term term (in_left (λ q. term_names q term) (λ q. sum_names q rest) same))
      ∙ ap (λ (x : ℤ). signed sign (term_value two term) +ℤ x)
      (same_sum rest (in_right (λ q. term_names q term) (λ q. sum_names q rest) same))

  same_holds : (predicate : Predicate) → AreSameWhere (λ q. predicate_names q predicate)
      → holds_at one predicate ≡ holds_at two predicate
  same_holds Always same = refl
  same_holds Never same = refl
  same_holds (Compare left comparison right) same =
      ap (λ (x : ℤ). compares comparison x (sum_value one right))
      (same_sum left (in_left (λ q. sum_names q left) (λ q. sum_names q right) same))
      ∙ ap (λ (x : ℤ). compares comparison (sum_value two left) x)
      (same_sum right (in_right (λ q. sum_names q left) (λ q. sum_names q right) same))
  same_holds (Not inner) same = ap not (same_holds inner same)
  same_holds (And left right) same =
      ap (λ (t : Bool). t && holds_at one right)
      (same_holds left (in_left (λ q. predicate_names q left) (λ q. predicate_names q right) same))
      ∙ ap (λ (t : Bool). holds_at two left && t)
      (same_holds right (in_right (λ q. predicate_names q left) (λ q. predicate_names q right) same))
  same_holds (Or left right) same =
      ap (λ (t : Bool). t || holds_at one right)
      (same_holds left (in_left (λ q. predicate_names q left) (λ q. predicate_names q right) same))
      ∙ ap (λ (t : Bool). holds_at two left || t)
      (same_holds right (in_right (λ q. predicate_names q left) (λ q. predicate_names q right) same))

-- cuts of which the same is seen satisfy both, or none does
pub same_test : (r : Recorded) (predicate : Predicate) (one two : List ℕ)
    → named_counts predicate one ≡ named_counts predicate two → test_of r predicate one ≡ test_of r predicate two
same_test r predicate one two same =
    same_holds (state_at r.initial r.events one) (state_at r.initial r.events two) predicate
    (λ q v names. ap (λ (n : ℕ).
    last_set_if_there v (slice_get (get_or r.initial q []) v) (take n (events_of r.events q)))
    (same_named predicate one two same q names))

-- counts that are those of the processes that are named
pub seen_from : (predicate : Predicate) (cut counts : List ℕ) → length counts ≡ length cut
    → ((q : ℕ) → q < length cut → get_or counts q 0 ≡ cond (predicate_names q predicate) (get_or cut q 0) 0)
    → counts ≡ named_counts predicate cut
seen_from predicate cut counts count each =
    same_lists counts (named_counts predicate cut) (count ∙ sym (length_named predicate cut)) here
  where
    here : (k d : ℕ) → k < length counts → get_or counts k d ≡ get_or (named_counts predicate cut) k d
    here k d lt =
        let inside : k < length (named_counts predicate cut) = omega (arith, length_named predicate cut) in
        get_or_default counts k d 0 lt
        ∙ (each k (omega arith) ∙ (sym (named_at predicate cut k)
        ∙ get_or_default (named_counts predicate cut) k 0 d inside))
