-- The parts of a predicate that is an `or`, and the first of their cuts.
use Rattle.std.proofs.Common.{◌≡◌, ◌≤◌, ◌⊎◌, inl, inr, ℕ, List, Option, Some, None, IfSome, sum, refl, sym, subst, ◌∙◌, arith}
use Rattle.std.proofs.lemmas.Bool.{false≢true}
use Rattle.std.specs.Prelude.{Bool, true, false, not, ◌&&◌, ◌||◌}
use Rattle.def_model.specs.Answers.{IsFirstSatisfying}
use Rattle.def_model.specs.Cuts.{IsConsistent, total}
use Rattle.def_model.specs.Decided.{DecidesPossibly}
use Rattle.def_model.specs.Events.{Computation}
use Rattle.def_model.specs.Observations.{Possibly}
use Rattle.def_model.specs.Predicates.{Predicate, Recorded, And, Or, test_of}
use Rattle.def_model.proofs.Decisions.{dec_list}
use Rattle.def_model.proofs.Steps.{sum_within}
use Rattle.def_wide.specs.Parts.{IsFirstIfAny, PartsDecide, opposite_if}
use Rattle.wide.specs.Sides.{IsEither}
use Rattle.wide_conjunctions.specs.CutOrder.{ComesBefore}
use Rattle.wide_pairs.specs.FirstCuts.{ComesFirst}
use Rattle.wide_pairs.proofs.FirstPairs.{first_if_not_after, first_onward, same_length}

-- ---- the sides of an `and` and of an `or`

not_both : (a b : Bool) → not (a && b) ≡ (not a || not b)
not_both true b = refl
not_both false b = refl

-- a predicate of which the parts decide, and not the whole
abbrev pub DecidesByParts : Bool → Recorded → Predicate → Type 0
DecidesByParts negated r whole = PartsDecide negated r whole × (¬ DecidesPossibly r (opposite_if negated whole))

-- it is satisfied where one of both sides is
abbrev pub IsOfSides : Bool → Recorded → Predicate → Predicate → Predicate → Type 0
IsOfSides negated r left right whole =
    IsEither (test_of r (opposite_if negated left)) (test_of r (opposite_if negated right))
    (test_of r (opposite_if negated whole))

-- as an `and` is that is negated
and_either : (negated : Bool) (r : Recorded) (left right : Predicate) → DecidesByParts negated r (And left right)
    → IsOfSides negated r left right (And left right)
and_either true r left right decides = λ cut. not_both (test_of r left cut) (test_of r right cut)
and_either false r left right decides = absurd (decides.1 decides.0)

-- and an `or` that isn't
or_either : (negated : Bool) (r : Recorded) (left right : Predicate) → DecidesByParts negated r (Or left right)
    → IsOfSides negated r left right (Or left right)
or_either true r left right decides = absurd (decides.1 decides.0)
or_either false r left right decides = λ cut. refl

pub is_either : (negated : Bool) (r : Recorded) (whole left right : Predicate)
    → (whole ≡ And left right) ⊎ (whole ≡ Or left right) → PartsDecide negated r whole
    → (¬ DecidesPossibly r (opposite_if negated whole))
    → IsEither (test_of r (opposite_if negated left)) (test_of r (opposite_if negated right))
    (test_of r (opposite_if negated whole))
is_either negated r whole left right (inl is) decide undecided =
    subst (IsOfSides negated r left right) (sym is)
    (and_either negated r left right (subst (DecidesByParts negated r) is (decide, undecided)))
is_either negated r whole left right (inr is) decide undecided =
    subst (IsOfSides negated r left right) (sym is)
    (or_either negated r left right (subst (DecidesByParts negated r) is (decide, undecided)))

-- ---- the first of both

either_true : (a b : Bool) → (a || b) ≡ true → (a ≡ true) ⊎ (b ≡ true)
either_true true b h = inl refl
either_true false b h = inr h

true_left : (a b : Bool) → a ≡ true → (a || b) ≡ true
true_left true b h = refl
true_left false b h = absurd (false≢true h)

true_right : (a b : Bool) → b ≡ true → (a || b) ≡ true
true_right true b h = refl
true_right false b h = h

-- a first satisfying cut comes first of all that satisfy
comes_first : (c : Computation) (test : List ℕ → Bool) (cut other : List ℕ) → IsFirstSatisfying c test cut
    → IsConsistent c other → test other ≡ true → ComesFirst cut other
comes_first c test cut other first ok passes = go (dec_list other cut)
  where
    go : Dec (other ≡ cut) → ComesFirst cut other
    go (yes same) = inl (sym same)
    go (no apart) = inr (first.first other ok passes apart)

-- and one that comes first of all is the first
is_first : (c : Computation) (test : List ℕ → Bool) (cut : List ℕ) → IsConsistent c cut → test cut ≡ true
    → ((other : List ℕ) → IsConsistent c other → test other ≡ true → ComesFirst cut other)
    → IsFirstSatisfying c test cut
is_first c test cut ok passes comes = record {
  consistent = ok;
  satisfies = passes;
  first = λ other ok' passes' apart. go other apart (comes other ok' passes');
}
  where
    go : (other : List ℕ) → ¬ (other ≡ cut) → ComesFirst cut other → ComesBefore cut other
    go other apart (inl same) = absurd (apart (sym same))
    go other apart (inr before) = before

module _ (c : Computation) (one two test : List ℕ → Bool) (either : IsEither one two test) where
  -- each cut that satisfies is one of the first test or of the second
  of_either : (P : List ℕ → Type 0) → ((cut : List ℕ) → IsConsistent c cut → one cut ≡ true → P cut)
      → ((cut : List ℕ) → IsConsistent c cut → two cut ≡ true → P cut) → (cut : List ℕ) → IsConsistent c cut
      → test cut ≡ true → P cut
  of_either P by_one by_two cut ok passes = go (either_true (one cut) (two cut) (sym (either cut) ∙ passes))
    where
      go : (one cut ≡ true) ⊎ (two cut ≡ true) → P cut
      go (inl first) = by_one cut ok first
      go (inr second) = by_two cut ok second

  -- only the second has a first cut
  pub second_alone : (second : Option (List ℕ)) → (¬ Possibly c one) → IsFirstIfAny c two second
      → IsFirstIfAny c test second
  second_alone None none none' = λ w.
      of_either (λ cut. ⊥) (λ cut ok first. none (cut, ok, first)) (λ cut ok second. none' (cut, ok, second)) w.0 w.1
      w.2
  second_alone (Some b) none first =
      is_first c test b first.consistent (either b ∙ true_right (one b) (two b) first.satisfies)
      (of_either (λ cut. ComesFirst b cut) (λ cut ok at. absurd (none (cut, ok, at)))
      (λ cut ok at. comes_first c two b cut first ok at))

  -- only the first has one
  pub first_alone : (a : List ℕ) → IsFirstSatisfying c one a → (¬ Possibly c two) → IsFirstSatisfying c test a
  first_alone a first none =
      is_first c test a first.consistent (either a ∙ true_left (one a) (two a) first.satisfies)
      (of_either (λ cut. ComesFirst a cut) (λ cut ok at. comes_first c one a cut first ok at)
      (λ cut ok at. absurd (none (cut, ok, at))))

  -- both have, and that of the second comes before
  pub second_before : (a b : List ℕ) → IsFirstSatisfying c one a → IsFirstSatisfying c two b → ComesBefore b a
      → IsFirstSatisfying c test b
  second_before a b first second before =
      is_first c test b second.consistent (either b ∙ true_right (one b) (two b) second.satisfies)
      (of_either (λ cut. ComesFirst b cut)
      (λ cut ok at. first_onward b a cut (inr before) (comes_first c one a cut first ok at))
      (λ cut ok at. comes_first c two b cut second ok at))

  -- it doesn't
  pub second_later : (a b : List ℕ) → IsFirstSatisfying c one a → IsFirstSatisfying c two b → (¬ ComesBefore b a)
      → IsFirstSatisfying c test a
  second_later a b first second later =
      is_first c test a first.consistent (either a ∙ true_left (one a) (two a) first.satisfies)
      (of_either (λ cut. ComesFirst a cut) (λ cut ok at. comes_first c one a cut first ok at)
      (λ cut ok at. first_onward a b cut
      (first_if_not_after a b (same_length c a b first.consistent second.consistent) later)
      (comes_first c two b cut second ok at)))

-- a first cut has no more events than there are
pub first_small : (c : Computation) (test : List ℕ → Bool) (most : ℕ) (first : Option (List ℕ)) → total c ≤ most
    → IsFirstIfAny c test first → IfSome first (λ cut. sum cut ≤ most)
first_small c test most None le none = tt
first_small c test most (Some cut) le first =
    let s : sum cut ≤ total c = sum_within c cut first.consistent in omega arith
