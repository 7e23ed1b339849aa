-- A clause holds exactly where some process is at a count that is good for one of its comparisons.
use Rattle.std.proofs.Common.{◌≡◌, ◌≢◌, ◌<◌, ◌⊎◌, inl, inr, ℕ, zero, suc, List, [], ◌∷◌, ◌++◌, All, append_assoc, get_or, length, refl, sym, ap, ◌∙◌, subst, arith}
use Rattle.std.proofs.lemmas.Bool.{false≢true, eq-eqb}
use Rattle.std.proofs.lemmas.Bool.Decides.{eqb_tells}
use Rattle.std.specs.Prelude.{Bool, true, false, ◌&&◌, ◌||◌, nat_eq, Some}
use Rattle.wide_conjunctions.specs.Clauses.{IsClause}
use Rattle.def_model.specs.Predicates.{Predicate, Recorded, And, Or, test_of}
use Rattle.wide_terms.specs.Ors.{MakesRows, clause_good, row_good, rows_hold}
use Rattle.wide_terms.specs.Rows.{IsRowOf, row_holds, turned}
use Rattle.wide_terms.specs.Truths.{truth_at}
use Rattle.wide_terms.specs.declared.row.TruthRow.{TruthRow}
use Rattle.wide_terms.proofs.Building.{all_head, all_tail, append_one, not_and}

-- ---- truths

or_split : (a b : Bool) → (a || b) ≡ true → (a ≡ true) ⊎ (b ≡ true)
or_split true b is = inl refl
or_split false b is = inr is

or_left : (a b : Bool) → a ≡ true → (a || b) ≡ true
or_left true b is = refl
or_left false b is = absurd (false≢true is)

or_right : (a b : Bool) → b ≡ true → (a || b) ≡ true
or_right true b is = refl
or_right false b is = is

or_none : (a : Bool) → (a || false) ≡ a
or_none true = refl
or_none false = refl

or_assoc : (a b c : Bool) → (a || (b || c)) ≡ ((a || b) || c)
or_assoc true b c = refl
or_assoc false b c = refl

and_split : (a b : Bool) → (a && b) ≡ true → (a ≡ true) × (b ≡ true)
and_split true b is = (refl, is)
and_split false b is = absurd (false≢true is)

-- ---- what rows mean

rows_append : (xs ys : List TruthRow) (cut : List ℕ) → rows_hold (xs ++ ys) cut ≡ (rows_hold xs cut || rows_hold ys cut)
rows_append [] ys cut = refl
rows_append (x ∷ xs) ys cut =
    ap (λ (truth : Bool). row_holds (Some x) cut || truth) (rows_append xs ys cut)
    ∙ or_assoc (row_holds (Some x) cut) (rows_hold xs cut) (rows_hold ys cut)

-- where a comparison holds, its process is at a good count
rows_to : (rows : List TruthRow) (cut : List ℕ) → All (λ (row : TruthRow). row.process < length cut) rows
    → rows_hold rows cut ≡ true → (p : ℕ) × (p < length cut) × (clause_good rows p (get_or cut p 0) ≡ true)
rows_to [] cut within holds = absurd (false≢true holds)
rows_to (row ∷ rows) cut within holds =
    go (rows_to rows cut (all_tail (λ (r : TruthRow). r.process < length cut) row rows within))
    (or_split (row_holds (Some row) cut) (rows_hold rows cut) holds)
  where
    good_here : row_holds (Some row) cut ≡ true → row_good row row.process (get_or cut row.process 0) ≡ true
    good_here here =
        ap (λ (b : Bool). b && truth_at row.words.items (get_or cut row.process 0))
        (eq-eqb row.process row.process refl) ∙ here

    go : (rows_hold rows cut ≡ true → (p : ℕ) × (p < length cut) × (clause_good rows p (get_or cut p 0) ≡ true))
        → (row_holds (Some row) cut ≡ true) ⊎ (rows_hold rows cut ≡ true)
        → (p : ℕ) × (p < length cut) × (clause_good (row ∷ rows) p (get_or cut p 0) ≡ true)
    go later (inl here) = (
      row.process,
      all_head (λ (r : TruthRow). r.process < length cut) row rows within,
      or_left (row_good row row.process (get_or cut row.process 0))
          (clause_good rows row.process (get_or cut row.process 0)) (good_here here),
    )
    go later (inr rest) =
        let w : (p : ℕ) × (p < length cut) × (clause_good rows p (get_or cut p 0) ≡ true) = later rest in
        (w.0, w.1, or_right (row_good row w.0 (get_or cut w.0 0)) (clause_good rows w.0 (get_or cut w.0 0)) w.2)

-- and the other way round
rows_from : (rows : List TruthRow) (cut : List ℕ) (p : ℕ) → clause_good rows p (get_or cut p 0) ≡ true
    → rows_hold rows cut ≡ true
rows_from [] cut p good = absurd (false≢true good)
rows_from (row ∷ rows) cut p good =
    go (rows_from rows cut p)
    (or_split (row_good row p (get_or cut p 0)) (clause_good rows p (get_or cut p 0)) good)
  where
    holds_here : row_good row p (get_or cut p 0) ≡ true
        → ((nat_eq row.process p ≡ true) × (row.process ≡ p)) ⊎ ((nat_eq row.process p ≡ false) × (row.process ≢ p))
        → row_holds (Some row) cut ≡ true
    holds_here here (inl w) =
        let both : (nat_eq row.process p ≡ true) × (truth_at row.words.items (get_or cut p 0) ≡ true) =
        and_split (nat_eq row.process p) (truth_at row.words.items (get_or cut p 0)) here in
        ap (λ (q : ℕ). truth_at row.words.items (get_or cut q 0)) w.1 ∙ both.1
    holds_here here (inr w) =
        let both : (nat_eq row.process p ≡ true) × (truth_at row.words.items (get_or cut p 0) ≡ true) =
        and_split (nat_eq row.process p) (truth_at row.words.items (get_or cut p 0)) here in
        absurd (false≢true (sym w.0 ∙ both.0))

    go : (clause_good rows p (get_or cut p 0) ≡ true → rows_hold rows cut ≡ true)
        → (row_good row p (get_or cut p 0) ≡ true) ⊎ (clause_good rows p (get_or cut p 0) ≡ true)
        → rows_hold (row ∷ rows) cut ≡ true
    go later (inl here) =
        or_left (row_holds (Some row) cut) (rows_hold rows cut) (holds_here here (eqb_tells row.process p))
    go later (inr rest) = or_right (row_holds (Some row) cut) (rows_hold rows cut) (later rest)

-- so the predicate, or its opposite, holds exactly if some process is at a good count
pub is_clause_of : (r : Recorded) (negated : Bool) (predicate : Predicate) (rows : List TruthRow)
    → MakesRows r negated predicate [] rows
    → IsClause r.events (λ cut. turned negated (test_of r predicate cut)) (clause_good rows)
is_clause_of r negated predicate rows made cut ok = (
  λ satisfies. rows_to rows cut within (holds ∙ satisfies),
  λ w. sym holds ∙ rows_from rows cut w.0 w.2,
)
  where
    holds : rows_hold rows cut ≡ turned negated (test_of r predicate cut)
    holds = ap (λ (all : List TruthRow). rows_hold all cut) made.is ∙ made.hold cut ok.fits

    within : All (λ (row : TruthRow). row.process < length cut) rows
    within =
        subst (λ (n : ℕ). All (λ (row : TruthRow). row.process < n) rows) (sym ok.fits.one_each)
        (subst (λ (all : List TruthRow). All (λ (row : TruthRow). row.process < length r.events) all) (sym made.is)
        made.within)

-- ---- how rows are made

-- a comparison or a constant adds its row
pub made_one : (r : Recorded) (negated : Bool) (predicate : Predicate) (rows : List TruthRow) (row : TruthRow)
    → IsRowOf r negated predicate row → MakesRows r negated predicate rows (rows ++ row ∷ [])
made_one r negated predicate rows row is = record {
  more = row ∷ [];
  is = refl;
  within = last;
  hold = λ cut fits. or_none (row_holds (Some row) cut) ∙ is.holds cut fits;
}
  where
    last : All (λ (q : TruthRow). q.process < length r.events) (row ∷ [])
    last zero d lt = is.within
    last (suc i) d lt = absurd (omega arith)

-- two parts add theirs
made_two : (r : Recorded) (negated : Bool) (left right both : Predicate) (old mid new : List TruthRow)
    → MakesRows r negated left old mid → MakesRows r negated right mid new
    → ((cut : List ℕ) → turned negated (test_of r both cut)
    ≡ (turned negated (test_of r left cut) || turned negated (test_of r right cut)))
    → MakesRows r negated both old new
made_two r negated left right both old mid new one two means = record {
  more = one.more ++ two.more;
  is = two.is ∙ (ap (λ (rows : List TruthRow). rows ++ two.more) one.is ∙ append_assoc old one.more two.more);
  within = append_one (λ (row : TruthRow). row.process < length r.events) one.more two.more one.within two.within;
  hold = λ cut fits. rows_append one.more two.more cut
      ∙ (ap (λ (truth : Bool). truth || rows_hold two.more cut) (one.hold cut fits)
      ∙ (ap (λ (truth : Bool). turned negated (test_of r left cut) || truth) (two.hold cut fits) ∙ sym (means cut)));
}

pub made_and_rows : (r : Recorded) (negated : Bool) (left right : Predicate) (old mid new : List TruthRow)
    → negated ≡ true → MakesRows r negated left old mid → MakesRows r negated right mid new
    → MakesRows r negated (And left right) old new
made_and_rows r true left right old mid new is one two =
    made_two r true left right (And left right) old mid new one two
    (λ cut. not_and (test_of r left cut) (test_of r right cut))
made_and_rows r false left right old mid new is one two = absurd (false≢true is)

pub made_or_rows : (r : Recorded) (negated : Bool) (left right : Predicate) (old mid new : List TruthRow)
    → negated ≡ false → MakesRows r negated left old mid → MakesRows r negated right mid new
    → MakesRows r negated (Or left right) old new
made_or_rows r true left right old mid new is one two = absurd (false≢true (sym is))
made_or_rows r false left right old mid new is one two =
    made_two r false left right (Or left right) old mid new one two (λ cut. refl)
