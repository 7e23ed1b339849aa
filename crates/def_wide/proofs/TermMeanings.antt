-- What the terms of a predicate mean.
use Rattle.std.proofs.Common.{◌≡◌, ℕ, List, [], ◌∷◌, ◌++◌, map, refl, sym, ap, ◌∙◌, ℤ, arith}
use Rattle.std.proofs.lemmas.Int.{ints}
use Rattle.std.specs.Prelude.{Bool, true, false, ◌&&◌, ◌||◌, cond, not}
use Rattle.def_model.specs.Predicates.{Sign, Term, Comparison, Equals, Differs, IsLess, IsAtMost, IsGreater, IsAtLeast, Predicate, Always, Never, Compare, Not, And, Or, Recorded, compares, state_at, sum_value, test_of}
use Rattle.def_wide.specs.Terms.{Literal, TermsMean, literal_holds, literal_of, opposite, products, some_term_holds, term_holds, terms_of}

not_not : (a : Bool) → not (not a) ≡ a
not_not true = refl
not_not false = refl

-- the opposite of a comparison holds exactly where it doesn't
pub opposite_compares : (comparison : Comparison) (x y : ℤ) → compares (opposite comparison) x y
    ≡ not (compares comparison x y)
opposite_compares Equals x y = refl
opposite_compares Differs x y = sym (not_not (compares Equals x y))
opposite_compares IsLess x y = grind (arith, ints)
opposite_compares IsAtMost x y = grind (arith, ints)
opposite_compares IsGreater x y = grind (arith, ints)
opposite_compares IsAtLeast x y = grind (arith, ints)

-- the truth, or its opposite if it is negated
abbrev pub turned : (negated : Bool) → Bool → Bool
turned negated truth = cond negated (not truth) truth

pub literal_means : (r : Recorded) (negated : Bool) (left : List (Sign × Term)) (comparison : Comparison)
    (right : List (Sign × Term)) (cut : List ℕ) → literal_holds r (literal_of negated left comparison right) cut
    ≡ turned negated (test_of r (Compare left comparison right) cut)
literal_means r true left comparison right cut =
    opposite_compares comparison (sum_value (state_at r.initial r.events cut) left)
    (sum_value (state_at r.initial r.events cut) right)
literal_means r false left comparison right cut = refl

-- ---- terms beside others, and together

term_both : (r : Recorded) (first second : List Literal) (cut : List ℕ) → term_holds r (first ++ second) cut
    ≡ (term_holds r first cut && term_holds r second cut)
term_both r [] second cut = refl
term_both r (l ∷ first) second cut =
    ap (λ (truth : Bool). literal_holds r l cut && truth) (term_both r first second cut)
    ∙ and_assoc (literal_holds r l cut) (term_holds r first cut) (term_holds r second cut)
  where
    and_assoc : (a b c : Bool) → (a && (b && c)) ≡ ((a && b) && c)
    and_assoc true b c = refl
    and_assoc false b c = refl

some_either : (r : Recorded) (first second : List (List Literal)) (cut : List ℕ)
    → some_term_holds r (first ++ second) cut ≡ (some_term_holds r first cut || some_term_holds r second cut)
some_either r [] second cut = refl
some_either r (term ∷ first) second cut =
    ap (λ (truth : Bool). term_holds r term cut || truth) (some_either r first second cut)
    ∙ or_assoc (term_holds r term cut) (some_term_holds r first cut) (some_term_holds r second cut)
  where
    or_assoc : (a b c : Bool) → (a || (b || c)) ≡ ((a || b) || c)
    or_assoc true b c = refl
    or_assoc false b c = refl

with_each : (r : Recorded) (term : List Literal) (others : List (List Literal)) (cut : List ℕ)
    → some_term_holds r (map (λ (other : List Literal). term ++ other) others) cut
    ≡ (term_holds r term cut && some_term_holds r others cut)
with_each r term [] cut = none (term_holds r term cut)
  where
    none : (a : Bool) → false ≡ (a && false)
    none true = refl
    none false = refl
with_each r term (other ∷ others) cut =
    ap (λ (truth : Bool). truth || some_term_holds r (map (λ (o : List Literal). term ++ o) others) cut)
    (term_both r term other cut)
    ∙ (ap (λ (truth : Bool). (term_holds r term cut && term_holds r other cut) || truth)
    (with_each r term others cut)
    ∙ share (term_holds r term cut) (term_holds r other cut) (some_term_holds r others cut))
  where
    share : (a b c : Bool) → ((a && b) || (a && c)) ≡ (a && (b || c))
    share true b c = refl
    share false b c = refl

some_both : (r : Recorded) (first second : List (List Literal)) (cut : List ℕ)
    → some_term_holds r (products first second) cut
    ≡ (some_term_holds r first cut && some_term_holds r second cut)
some_both r [] second cut = refl
some_both r (term ∷ first) second cut =
    some_either r (map (λ (other : List Literal). term ++ other) second) (products first second) cut
    ∙ (ap (λ (truth : Bool). truth || some_term_holds r (products first second) cut) (with_each r term second cut)
    ∙ (ap (λ (truth : Bool). (term_holds r term cut && some_term_holds r second cut) || truth)
    (some_both r first second cut)
    ∙ share (term_holds r term cut) (some_term_holds r first cut) (some_term_holds r second cut)))
  where
    share : (a b c : Bool) → ((a && c) || (b && c)) ≡ ((a || b) && c)
    share true true true = refl
    share true true false = refl
    share true false true = refl
    share true false false = refl
    share false true c = refl
    share false false c = refl

-- ---- the terms of a predicate

single : (a : Bool) → ((a && true) || false) ≡ a
single true = refl
single false = refl

not_and : (a b : Bool) → not (a && b) ≡ (not a || not b)
not_and true b = refl
not_and false b = refl

not_or : (a b : Bool) → not (a || b) ≡ (not a && not b)
not_or true b = refl
not_or false b = refl

-- they hold exactly where the predicate does, or its opposite if it is negated
pub terms_mean_turned : (negated : Bool) (r : Recorded) (predicate : Predicate) (cut : List ℕ)
    → some_term_holds r (terms_of negated predicate) cut ≡ turned negated (test_of r predicate cut)
terms_mean_turned true r Always cut = refl
terms_mean_turned false r Always cut = refl
terms_mean_turned true r Never cut = refl
terms_mean_turned false r Never cut = refl
terms_mean_turned negated r (Compare left comparison right) cut =
    single (literal_holds r (literal_of negated left comparison right) cut)
    ∙ literal_means r negated left comparison right cut
terms_mean_turned true r (Not inner) cut =
    terms_mean_turned false r inner cut ∙ sym (not_not (test_of r inner cut))
terms_mean_turned false r (Not inner) cut = terms_mean_turned true r inner cut
terms_mean_turned true r (And left right) cut =
    some_either r (terms_of true left) (terms_of true right) cut
    ∙ (ap (λ (truth : Bool). truth || some_term_holds r (terms_of true right) cut) (terms_mean_turned true r left cut)
    ∙ (ap (λ (truth : Bool). not (test_of r left cut) || truth) (terms_mean_turned true r right cut)
    ∙ sym (not_and (test_of r left cut) (test_of r right cut))))
terms_mean_turned false r (And left right) cut =
    some_both r (terms_of false left) (terms_of false right) cut
    ∙ (ap (λ (truth : Bool). truth && some_term_holds r (terms_of false right) cut)
    (terms_mean_turned false r left cut)
    ∙ ap (λ (truth : Bool). test_of r left cut && truth) (terms_mean_turned false r right cut))
terms_mean_turned true r (Or left right) cut =
    some_both r (terms_of true left) (terms_of true right) cut
    ∙ (ap (λ (truth : Bool). truth && some_term_holds r (terms_of true right) cut) (terms_mean_turned true r left cut)
    ∙ (ap (λ (truth : Bool). not (test_of r left cut) && truth) (terms_mean_turned true r right cut)
    ∙ sym (not_or (test_of r left cut) (test_of r right cut))))
terms_mean_turned false r (Or left right) cut =
    some_either r (terms_of false left) (terms_of false right) cut
    ∙ (ap (λ (truth : Bool). truth || some_term_holds r (terms_of false right) cut)
    (terms_mean_turned false r left cut)
    ∙ ap (λ (truth : Bool). test_of r left cut || truth) (terms_mean_turned false r right cut))

pub terms_mean : TermsMean
terms_mean r predicate cut = terms_mean_turned false r predicate cut
