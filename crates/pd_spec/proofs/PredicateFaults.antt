-- The first predicate that is refused.
use Rattle.std.proofs.Common.{◌≡◌, ℕ, suc, ◌+◌, ◌<◌, List, [], ◌∷◌, ◌++◌, Option, None, Some, length, get_or, take, drop, map, refl, sym, ap, ◌∙◌, drop-cons, arith}
use Rattle.std.specs.Prelude.{MatchOption}
use Rattle.std.specs.List.{AllByRecursion, AllZip}
use Rattle.std.proofs.lemmas.List.{map-append, length-map, length-take-le, take-append-drop, take_more}
use Rattle.def_format.specs.Documents.{IsNamedPredicate, NamedPredicate, Outline, IsSpelled, names_of_outline}
use Rattle.def_format.specs.Names.{ProcessNames}
use Rattle.def_format.specs.PredicateTexts.{PredicateFault, IsRefusedPredicate}
use Rattle.pd_pred.specs.Views.{predicate_fault_view}
use Rattle.pd_spec.specs.Named.{named_view}
use Rattle.pd_spec.specs.Outlines.{predicate_outline_view}
use Rattle.pd_spec.specs.Predicates.{IsFaultIn, IsFaultAmong, IsRefusedAmong, IsSomePredicate}
use Rattle.pd_spec.specs.declared.fault.SpecFault.{SpecFault}
use Rattle.pd_spec.specs.declared.fault.SpecFault.TheVariants as kinds
use Rattle.pd_spec.specs.declared.named.NamedPred.{NamedPred}
use Rattle.pd_spec.specs.declared.outline.PredicateOutline.{PredicateOutline}

-- what is the predicate of each text is some predicate of it
some_of_each : (names : List ProcessNames) (written : List (List ℕ × List ℕ)) (parsed : List NamedPredicate)
    → AllZip (IsNamedPredicate names) written parsed → AllByRecursion (IsSomePredicate names) written
some_of_each names [] parsed all = tt
some_of_each names (one ∷ written) [] all = absurd all
some_of_each names (one ∷ written) (predicate ∷ parsed) all =
    ((predicate.predicate, all.0.1), some_of_each names written parsed all.1)

fault_among : (names : List ProcessNames) (written before : List (List ℕ × List ℕ)) (one : List ℕ
    × List ℕ) (after : List (List ℕ × List ℕ)) (number : ℕ) (fault : SpecFault) → written ≡ before ++ one ∷ after
    → number ≡ length before + 1 → AllByRecursion (IsSomePredicate names) before → IsFaultIn names one number fault
    → IsFaultAmong names written fault
fault_among names written before one after number kinds.Memory parts place none reported = tt
fault_among names written before one after number (kinds.Predicate k error) parts place none reported =
    go (predicate_fault_view error.kind) reported.1
  where
    go : (o : Option PredicateFault) → MatchOption o ⊥ (λ fault. IsRefusedPredicate names one.1 fault error.at)
        → MatchOption o ⊥ (λ fault. IsRefusedAmong names written k fault error.at)
    go None h = h
    go (Some fault) h = record {
      before = before;
      refused = one;
      after = after;
      parts = parts;
      place =
          reported.0 ∙ place;
      stands = h;
      none_before = none;
    }
fault_among names written before one after number _ parts place none reported = absurd reported

split_here : {A : Type 0} (xs : List A) (i : ℕ) (x : A) → i < length xs → x ≡ get_or xs i x
    → take i xs ++ x ∷ drop (suc i) xs ≡ xs
split_here xs i x within at = ap (λ first. take i xs ++ first ∷ drop (suc i) xs) at
    ∙ (ap (λ rest. take i xs ++ rest) (sym (drop-cons xs i x within)) ∙ take-append-drop i xs)

-- a text of the list is refused, and those before it are predicates
pub fault_at : (names : List ProcessNames) (predicates : List PredicateOutline) (i : ℕ) (one : PredicateOutline)
    (parsed : List NamedPred) (fault : SpecFault) → i < length predicates → one ≡ get_or predicates i one
    → AllZip (IsNamedPredicate names) (map predicate_outline_view (take i predicates)) (map named_view parsed)
    → IsFaultIn names (predicate_outline_view one) (i + 1) fault
    → IsFaultAmong names (map predicate_outline_view predicates) fault
fault_at names predicates i one parsed fault within at all reported =
    let parts : map predicate_outline_view predicates ≡ map predicate_outline_view (take i predicates)
    ++ predicate_outline_view one ∷ map predicate_outline_view (drop (suc i) predicates) =
    ap (λ whole. map predicate_outline_view whole) (sym (split_here predicates i one within at))
    ∙ map-append predicate_outline_view (take i predicates) (one ∷ drop (suc i) predicates) in
    let place : i + 1 ≡ length (map predicate_outline_view (take i predicates)) + 1 =
    rw (length-map (take i predicates) predicate_outline_view, length-take-le i predicates (omega arith)) refl in
    fault_among names (map predicate_outline_view predicates) (map predicate_outline_view (take i predicates))
    (predicate_outline_view one) (map predicate_outline_view (drop (suc i) predicates)) (i + 1) fault parts place
    (some_of_each names (map predicate_outline_view (take i predicates)) (map named_view parsed) all) reported

zip_push : {A B : Type 0} (R : A → B → Type 0) (xs : List A) (ys : List B) (x : A) (y : B) → AllZip R xs ys → R x y
    → AllZip R (xs ++ x ∷ []) (ys ++ y ∷ [])
zip_push R [] [] x y all one = (one, tt)
zip_push R [] (first ∷ ys) x y all one = absurd all
zip_push R (first ∷ xs) [] x y all one = absurd all
zip_push R (first ∷ xs) (other ∷ ys) x y all one = (all.0, zip_push R xs ys x y all.1 one)

-- one predicate more
pub all_more : (names : List ProcessNames) (predicates : List PredicateOutline) (i : ℕ) (one : PredicateOutline)
    (done new : List NamedPred) (made : NamedPred) → i < length predicates → one ≡ get_or predicates i one
    → AllZip (IsNamedPredicate names) (map predicate_outline_view (take i predicates)) (map named_view done)
    → new ≡ done ++ made ∷ [] → IsNamedPredicate names (predicate_outline_view one) (named_view made)
    → AllZip (IsNamedPredicate names) (map predicate_outline_view (take (i + 1) predicates)) (map named_view new)
all_more names predicates i one done new made within at all pushed is =
    rw (
      pushed,
      map-append named_view done (made ∷ []),
      take_more predicates i one within,
      ← at,
      map-append predicate_outline_view (take i predicates) (one ∷ []),
    )
    (zip_push (IsNamedPredicate names) (map predicate_outline_view (take i predicates)) (map named_view done)
    (predicate_outline_view one) (named_view made) all is)

-- each text is a predicate, by the names of the outline
pub all_spelled : (outline : Outline) (names : List ProcessNames) (written : List (List ℕ × List ℕ))
    (parsed : List NamedPredicate) → names ≡ names_of_outline outline → written ≡ outline.predicates
    → AllZip (IsNamedPredicate names) written parsed → AllByRecursion (IsSpelled outline) outline.predicates
all_spelled outline names written parsed names_are written_are all =
    some_of_each (names_of_outline outline) outline.predicates parsed (rw (← names_are, ← written_are) all)
