-- What a predicate comes to by its terms.
use Rattle.std.proofs.Common.{◌≡◌, inl, ℕ, ◌+◌, ◌<◌, ◌≤◌, List, [], ◌∷◌, All, length, get_or, refl, sym, ap, ◌∙◌, subst, arith}
use Rattle.std.proofs.lemmas.Bool.{false≢true}
use Rattle.std.proofs.lemmas.List.{get_or_default}
use Rattle.std.proofs.lemmas.List.Elements.{All-head, All-tail}
use Rattle.std.specs.Prelude.{Bool, true, false, Contains}
use borrow.Author.Count.{below_more}
use Rattle.def_model.specs.Decided.{term_count, term_limit}
use Rattle.def_model.specs.Observations.{Possibly}
use Rattle.def_model.specs.Predicates.{Predicate, Recorded, test_of}
use Rattle.def_wide.specs.Sums.{IsDecidedBySums, IsDecidedTerm, IsExcluded, NamesNoOther}
use Rattle.def_wide.specs.Terms.{Literal, some_term_holds, term_holds, terms_of}
use Rattle.def_wide.proofs.TermMeanings.{terms_mean}
use Rattle.wide_sums.specs.Splits.{AreSums}
use Rattle.wide_sums.specs.TermVerdicts.{AreNamedBelow, HaveVerdict, IsVerdict, IsVerdictOf}
use Rattle.wide_sums.specs.declared.verdict.Verdict.TheVariants.{Unsatisfied, Satisfied}
use Rattle.wide_sums.proofs.Below.{IsBelow, sums_below}
use Rattle.wide_sums.proofs.TermLaws.{none_holds, some_holding, some_holds}

-- what is below is named below
named : (n : ℕ) (sums : List Literal) → All (IsBelow n) sums → AreNamedBelow n sums
named n [] all = tt
named n (l ∷ sums) all =
    let here = All-head (IsBelow n) l sums all in
    (here.0, here.1, named n sums (All-tail (IsBelow n) l sums all))

pub sums_named : (n : ℕ) (predicate : Predicate) (terms : List (List Literal)) (i : ℕ) → NamesNoOther n predicate
    → terms ≡ terms_of false predicate → i < length terms → (sums : List Literal)
    → AreSums (get_or terms i []) sums → AreNamedBelow n sums
sums_named n predicate terms i names same lt sums are =
    named n sums (sums_below n predicate i sums names (omega (arith, lt, ap length same))
    (subst (λ (ts : List (List Literal)). AreSums (get_or ts i []) sums) same are))

-- a term at a place is contained
pub at_place : (terms : List (List Literal)) (i : ℕ) → i < length terms → Contains terms (get_or terms i [])
at_place terms i lt = (i, lt, get_or_default terms i (get_or terms i []) [] lt)

-- ---- one term more

pub none_yet : (r : Recorded) (terms : List (List Literal)) → HaveVerdict r terms 0 false
none_yet r terms = record {
  decided = λ k lt. absurd (omega (arith, lt));
  some = λ is. absurd (false≢true is);
  none = λ is k lt. absurd (omega (arith, lt));
}

pub one_excluded : (r : Recorded) (terms : List (List Literal)) (i : ℕ) (satisfied : Bool)
    → HaveVerdict r terms i satisfied → IsExcluded r (get_or terms i []) → HaveVerdict r terms (i + 1) satisfied
one_excluded r terms i satisfied before excluded = record {
  decided = below_more (λ k. IsDecidedTerm r (get_or terms k [])) i before.decided (inl excluded);
  some = before.some;
  none = λ is. below_more (λ k. IsExcluded r (get_or terms k [])) i (before.none is) excluded;
}

pub one_satisfied : (r : Recorded) (terms : List (List Literal)) (i : ℕ) (satisfied : Bool)
    → i < length terms → HaveVerdict r terms i satisfied → IsVerdictOf r (get_or terms i []) Satisfied
    → HaveVerdict r terms (i + 1) true
one_satisfied r terms i satisfied lt before (decided, (cut, ok, holds)) = record {
  decided = below_more (λ k. IsDecidedTerm r (get_or terms k [])) i before.decided decided;
  some = λ is. (cut, ok, some_holds r terms cut (get_or terms i []) (at_place terms i lt) holds);
  none = λ is. absurd (false≢true (sym is));
}

-- ---- the predicate

module _ (r : Recorded) (predicate : Predicate) (terms : List (List Literal)) (same : terms ≡ terms_of false predicate)
  where
    pub holding : (cut : List ℕ) → some_term_holds r terms cut ≡ test_of r predicate cut
    holding cut =
        ap (λ (ts : List (List Literal)). some_term_holds r ts cut) same ∙ terms_mean r predicate cut

    pub undecided : (i : ℕ) → i < length terms → (¬ IsDecidedTerm r (get_or terms i []))
        → ¬ IsDecidedBySums r predicate
    undecided i lt not_so decided =
        not_so (decided.terms (get_or terms i [])
        (subst (λ (ts : List (List Literal)). Contains ts (get_or terms i [])) same (at_place terms i lt)))

    decided_all : (satisfied : Bool) (n : ℕ) → length terms ≤ n → HaveVerdict r terms n satisfied
        → term_count false predicate ≤ term_limit → NamesNoOther (length r.events) predicate
        → IsDecidedBySums r predicate
    decided_all satisfied n all have few there = record {
      few = few;
      there = there;
      terms = λ term at. each term (subst (λ (ts : List (List Literal)). Contains ts term) (sym same) at);
    }
      where
        each : (term : List Literal) → Contains terms term → IsDecidedTerm r term
        each term (k, lt, is) =
            subst (IsDecidedTerm r) (get_or_default terms k [] term lt ∙ is) (have.decided k (omega (arith, lt, all)))

    pub all_satisfied : (n : ℕ) → length terms ≤ n → HaveVerdict r terms n true
        → term_count false predicate ≤ term_limit → NamesNoOther (length r.events) predicate
        → IsVerdict r predicate Satisfied
    all_satisfied n all have few there =
        let found = have.some refl in
        (decided_all true n all have few there, (found.0, found.1, sym (holding found.0) ∙ found.2))

    pub all_excluded : (n : ℕ) → length terms ≤ n → HaveVerdict r terms n false
        → term_count false predicate ≤ term_limit → NamesNoOther (length r.events) predicate
        → IsVerdict r predicate Unsatisfied
    all_excluded n all have few there = (decided_all false n all have few there, none)
      where
        none : ¬ Possibly r.events (test_of r predicate)
        none (cut, ok, passes) =
            let found = some_holding r terms cut (holding cut ∙ passes) in
            go found.0 found.1 found.2
          where
            go : (term : List Literal) → Contains terms term → ¬ (term_holds r term cut ≡ true)
            go term (k, lt, is) holds =
                none_holds r term
                (subst (IsExcluded r) (get_or_default terms k [] term lt ∙ is)
                (have.none refl k (omega (arith, lt, all)))) cut ok holds
