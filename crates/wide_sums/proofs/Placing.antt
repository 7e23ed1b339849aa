-- Comparisons and their rows.
use Rattle.std.proofs.Common.{◌≡◌, ◌⊎◌, inl, inr, ◌<◌, ◌≤◌, ℕ, zero, suc, List, [], ◌∷◌, ◌++◌, length, get_or, append-nil, refl, sym, ap, ◌∙◌, arith}
use Rattle.std.specs.Prelude.{Bool, true, false, not, ℤ, Option, Some, None, slice_get}
use Rattle.std.proofs.lemmas.Bool.{cases_lt}
use Rattle.std.proofs.lemmas.Int.{ints}
use Rattle.std.proofs.lemmas.List.{get_or_append_left, get_or_push, length_push}
use Rattle.std.proofs.lemmas.List.Elements.{All-append, All-cons, All-nil}
use Rattle.std.proofs.lemmas.Option.{none-some}
use Rattle.def_model.specs.Predicates.{Sign, Term, Comparison, Equals, Differs, IsLess, IsAtMost, IsGreater, IsAtLeast, Predicate, Compare, Recorded, compares, state_at, sum_value, test_of}
use Rattle.def_model.specs.Decided.{NameOne}
use Rattle.def_wide.specs.Sums.{IsLocalLiteral}
use Rattle.def_wide.specs.Terms as model
use Rattle.pd_pred.specs.Trees.{comparison_view, sum_view, tree_view}
use Rattle.wide_sums.specs.Literals.{IsWhole, literal_view, no_literal}
use Rattle.wide_sums.specs.Places.{AddsPlace, IsPlaceOf, IsPrepared}
use Rattle.wide_sums.specs.declared.literal.Literal.{Literal}
use Rattle.wide_terms.specs.Rows.{AddsRow, AreWithin, turned}
use Rattle.wide_terms.specs.declared.row.TruthRow.{TruthRow}

-- the opposite comparison holds where the comparison doesn't
opposite_holds : (comparison : Comparison) (x y : ℤ)
    → not (compares comparison x y) ≡ compares (model.opposite comparison) x y
opposite_holds Equals x y = refl
opposite_holds Differs x y = grind (arith, ints)
opposite_holds IsLess x y = grind (arith, ints)
opposite_holds IsAtMost x y = grind (arith, ints)
opposite_holds IsGreater x y = grind (arith, ints)
opposite_holds IsAtLeast x y = grind (arith, ints)

turned_holds : (r : Recorded) (negated : Bool) (left : List (Sign × Term)) (comparison : Comparison)
    (right : List (Sign × Term)) (cut : List ℕ)
    → turned negated (test_of r (Compare left comparison right) cut)
    ≡ model.literal_holds r (model.literal_of negated left comparison right) cut
turned_holds r true left comparison right cut =
    opposite_holds comparison (sum_value (state_at r.initial r.events cut) left)
    (sum_value (state_at r.initial r.events cut) right)
turned_holds r false left comparison right cut = refl

-- a row that is there is there among more rows
got_more : (rows more : List TruthRow) (i : ℕ) (row : TruthRow) → slice_get rows i ≡ Some row
    → slice_get (rows ++ more) i ≡ Some row
got_more [] more i row at = absurd (none-some row at)
got_more (first ∷ rows) more zero row at = at
got_more (first ∷ rows) more (suc i) row at = got_more rows more i row at

got_last : (rows : List TruthRow) (row : TruthRow) → slice_get (rows ++ row ∷ []) (length rows) ≡ Some row
got_last [] row = refl
got_last (first ∷ rows) row = got_last rows row

-- ---- one comparison

-- one of several processes has no row
pub placed_none : (r : Recorded) (l : model.Literal) (rows : List TruthRow) → ¬ IsLocalLiteral l
    → AddsPlace r l rows rows None
placed_none r l rows several = record {
  more = [];
  is = sym (append-nil rows);
  within = All-nil (λ (row : TruthRow). row.process < length r.events);
  place_of = several;
}

-- one of one process at most has the last row
pub placed_last : (r : Recorded) (l : Literal) (old new : List TruthRow) (number : ℕ) → IsWhole l
    → NameOne (sum_view l.left.now) (sum_view l.right.now) → AddsRow r l.negated (tree_view l.tree.now) old new
    → number ≡ length old → AddsPlace r (literal_view l) old new (Some number)
placed_last r l old new number whole one adds last = record {
  more = adds.row ∷ [];
  is = adds.is;
  within = All-cons (λ (row : TruthRow). row.process < length r.events) adds.row [] adds.row_of.within
      (All-nil (λ (row : TruthRow). row.process < length r.events));
  place_of = (
    one,
    record {
      row = adds.row;
      at = rw (adds.is, last) (got_last old adds.row);
      holds = λ cut fits. adds.row_of.holds cut fits
          ∙ (ap (λ (p : Predicate). turned l.negated (test_of r p cut)) whole
          ∙ turned_holds r l.negated (sum_view l.left.now) (comparison_view l.comparison) (sum_view l.right.now) cut);
    },
  );
}

-- ---- all comparisons

place_more : (r : Recorded) (rows more : List TruthRow) (l : model.Literal) (place : Option ℕ)
    → IsPlaceOf r rows l place → IsPlaceOf r (rows ++ more) l place
place_more r rows more l (Some number) is = (
  is.0,
  record {
    row = is.1.row;
    at = got_more rows more number is.1.row is.1.at;
    holds = is.1.holds;
  },
)
place_more r rows more l None is = is

-- none
pub none_prepared : (r : Recorded) (rows : List TruthRow) → AreWithin r rows → IsPrepared r rows [] []
none_prepared r rows within = record { within = within; one_each = refl; each = λ i lt. absurd (omega arith) }

-- one more
pub prepared_push : (r : Recorded) (rows new : List TruthRow) (literals : List model.Literal)
    (places : List (Option ℕ)) (l : model.Literal) (place : Option ℕ) → IsPrepared r rows literals places
    → AddsPlace r l rows new place → IsPrepared r new (literals ++ l ∷ []) (places ++ place ∷ [])
prepared_push r rows new literals places l place are adds = record {
  within = rw adds.is
      (All-append (λ (row : TruthRow). row.process < length r.events) rows adds.more are.within adds.within);
  one_each = omega (arith, length_push places place, length_push literals l, are.one_each);
  each = λ i lt. go i lt (cases_lt i (length literals));
}
  where
    go : (i : ℕ) → i < length (literals ++ l ∷ []) → (i < length literals) ⊎ (length literals ≤ i)
        → IsPlaceOf r new (get_or (literals ++ l ∷ []) i no_literal) (get_or (places ++ place ∷ []) i None)
    go i lt (inl low) =
        rw (
          get_or_append_left literals (l ∷ []) no_literal i low,
          get_or_append_left places (place ∷ []) None i (omega (arith, are.one_each)),
          adds.is,
        ) (place_more r rows adds.more (get_or literals i no_literal) (get_or places i None) (are.each i low))
    go i lt (inr high) =
        let same : i ≡ length literals = omega (arith, length_push literals l) in
        rw (
          get_or_push literals l no_literal i (sym same),
          get_or_push places place None i (omega (arith, are.one_each)),
        ) adds.place_of
