-- The first satisfying cut by height is the lowest of those of the terms.
use Rattle.std.proofs.Common.{◌≡◌, ◌⊎◌, inl, inr, ℕ, ◌+◌, ◌<◌, ◌≤◌, List, [], length, get_or, Option, Some, None, sym, ◌∙◌, subst, arith}
use Rattle.std.proofs.lemmas.Bool.{cases_lt}
use Rattle.std.proofs.lemmas.List.{get_or_default}
use Rattle.std.specs.Prelude.{true, false, Contains, MatchOption}
use Rattle.def_model.specs.Cuts.{IsConsistent}
use Rattle.def_model.specs.Observations.{Possibly}
use Rattle.def_model.specs.Predicates.{Predicate, Recorded, test_of}
use Rattle.def_wide.specs.Heights.{IsFirstByHeight}
use Rattle.def_wide.specs.Terms.{Literal, term_holds, terms_of}
use Rattle.wide_sums.specs.FirstCuts.{IsLowestIfAny, Satisfies, SatisfiesSome}
use Rattle.wide_sums.proofs.LowestOf.{IsEitherOf}
use Rattle.wide_sums.proofs.TermLaws.{some_holding, some_holds}
use Rattle.wide_sums.proofs.Verdicts.{at_place, holding}

-- no cut satisfies one of no terms
pub none_at_first : (r : Recorded) (terms : List (List Literal)) (cut : List ℕ) → ¬ SatisfiesSome r terms 0 cut
none_at_first r terms cut (k, lt, there) = omega (arith, lt)

-- a cut that satisfies one of the first terms and one more satisfies one of the first, or that one
pub one_term_more : (r : Recorded) (terms : List (List Literal)) (i : ℕ)
    → IsEitherOf (length r.events) (SatisfiesSome r terms i) (Satisfies r (get_or terms i []))
    (SatisfiesSome r terms (i + 1))
one_term_more r terms i = record {
  first = λ cut (k, lt, there). (k, omega (arith, lt), there);
  second = λ cut there. (i, omega arith, there);
  either = λ cut (k, lt, there). go cut k lt there (cases_lt k i);
  long = λ cut (k, lt, there). there.0.fits.one_each;
}
  where
    go : (cut : List ℕ) (k : ℕ) → k < i + 1 → Satisfies r (get_or terms k []) cut → (k < i) ⊎ (i ≤ k)
        → SatisfiesSome r terms i cut ⊎ Satisfies r (get_or terms i []) cut
    go cut k lt there (inl low) = inl (k, low, there)
    go cut k lt there (inr high) =
        let is : k ≡ i = omega arith in inr (subst (λ (j : ℕ). Satisfies r (get_or terms j []) cut) is there)

module _ (r : Recorded) (predicate : Predicate) (terms : List (List Literal)) (same : terms ≡ terms_of false predicate)
    (n : ℕ) (many : n ≡ length terms) where
  -- a consistent cut satisfies the predicate exactly if it satisfies one of the terms
  satisfies_to : (cut : List ℕ) → SatisfiesSome r terms n cut → test_of r predicate cut ≡ true
  satisfies_to cut (k, lt, there) =
      let low : k < length terms = omega (arith, lt, many) in
      sym (holding r predicate terms same cut)
      ∙ some_holds r terms cut (get_or terms k []) (at_place terms k low) there.1

  satisfies_from : (cut : List ℕ) → IsConsistent r.events cut → test_of r predicate cut ≡ true
      → SatisfiesSome r terms n cut
  satisfies_from cut ok passes =
      let found = some_holding r terms cut (holding r predicate terms same cut ∙ passes) in
      go found.0 found.1 found.2
    where
      go : (term : List Literal) → Contains terms term → term_holds r term cut ≡ true → SatisfiesSome r terms n cut
      go term (k, lt, is) holds = (
        k,
        omega (arith, lt, many),
        (
          ok,
          subst (λ (t : List Literal). term_holds r t cut ≡ true) (sym (get_or_default terms k [] term lt ∙ is)) holds,
        ),
      )

  -- so the lowest of their cuts is the first satisfying one
  pub first_by_height : (found : Option (List ℕ)) → IsLowestIfAny (SatisfiesSome r terms n) found
      → MatchOption found (¬ Possibly r.events (test_of r predicate))
      (IsFirstByHeight r.events (test_of r predicate))
  first_by_height None none = λ (cut, ok, passes). none cut (satisfies_from cut ok passes)
  first_by_height (Some cut) is = record {
    consistent = is.wanted.2.0;
    satisfies = satisfies_to cut is.wanted;
    first = λ other ok passes apart. is.lowest other (satisfies_from other ok passes) apart;
  }
