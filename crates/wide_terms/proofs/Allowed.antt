-- A term holds exactly where each process is at a count that is good for it.
use Rattle.std.proofs.Common.{◌≡◌, ◌≢◌, ◌<◌, ◌≤◌, ◌⊎◌, ◌↔◌, inl, inr, ℕ, zero, suc, List, [], ◌∷◌, All, length, get_or, Option, Some, None, refl, sym, ap, ◌∙◌, subst, arith}
use Rattle.std.proofs.lemmas.Bool.{false≢true, and_from, eq-eqb}
use Rattle.std.proofs.lemmas.Bool.Decides.{eqb_tells}
use Rattle.std.proofs.lemmas.List.{length-map}
use Rattle.std.proofs.lemmas.Option.{slice_get_cases}
use Rattle.std.specs.Global.{Global}
use Rattle.wide_conjunctions.specs.CutOrder.{IsGoodForSome}
use Rattle.def_model.specs.Predicates.{Predicate, Recorded, test_of}
use Rattle.std.specs.Prelude.{Bool, IfNone, Vec, true, false, ◌&&◌, ◌||◌, cond, nat_eq, slice_get, slice_index, unwrap_or}
use Rattle.wide_conjunctions.specs.LeastCuts.{IsGood}
use Rattle.wide_terms.specs.FirstCuts.{goods_of}
use Rattle.def_wide.specs.Parts.{opposite_if}
use Rattle.wide_terms.specs.Rows.{AreTermsOf, AreWithin, numbers_view, row_allows, row_holds, term_allows, term_holds, terms_hold, turned}
use Rattle.wide_terms.specs.Truths.{truth_at}
use Rattle.wide_terms.specs.declared.row.TruthRow.{TruthRow}
use Rattle.wide_terms.specs.declared.terms.Terms.{Terms}

both_left : (a b : Bool) → (a && b) ≡ true → a ≡ true
both_left true b all = refl
both_left false b all = absurd (false≢true all)

both_right : (a b : Bool) → (a && b) ≡ true → b ≡ true
both_right true b all = all
both_right false b all = absurd (false≢true all)

-- the rows are of processes of the cut
abbrev pub AreOfCut : List TruthRow → List ℕ → Type 0
AreOfCut rows cut = (i : ℕ) (row : TruthRow) → slice_get rows i ≡ Some row → row.process < length cut

-- a comparison allows each count of the cut exactly if it holds there
allows_each : (found : Option TruthRow) (cut : List ℕ) → 0 < length cut
    → ((row : TruthRow) → found ≡ Some row → row.process < length cut)
    → (row_holds found cut ≡ true) ↔ ((p : ℕ) → p < length cut → row_allows found p (slice_index cut p) ≡ true)
allows_each None cut some within = (λ holds. absurd (false≢true holds), λ all. all 0 some)
allows_each (Some row) cut some within = (λ holds p lt. go p holds (eqb_tells row.process p), back)
  where
    go : (p : ℕ) → row_holds (Some row) cut ≡ true
        → ((nat_eq row.process p ≡ true) × (row.process ≡ p)) ⊎ ((nat_eq row.process p ≡ false) × (row.process ≢ p))
        → row_allows (Some row) p (slice_index cut p) ≡ true
    go p holds (inl w) =
        ap (λ (b : Bool). cond b (truth_at row.words.items (slice_index cut p)) true) w.0
        ∙ (ap (λ (q : ℕ). truth_at row.words.items (slice_index cut q)) (sym w.1) ∙ holds)
    go p holds (inr w) = ap (λ (b : Bool). cond b (truth_at row.words.items (slice_index cut p)) true) w.0

    back : ((p : ℕ) → p < length cut → row_allows (Some row) p (slice_index cut p) ≡ true)
        → row_holds (Some row) cut ≡ true
    back all =
        sym (ap (λ (b : Bool). cond b (truth_at row.words.items (slice_index cut row.process)) true)
        (eq-eqb row.process row.process refl)) ∙ all row.process (within row refl)

-- so does a term
pub term_good : (rows : List TruthRow) (term : List ℕ) (cut : List ℕ) → 0 < length cut → AreOfCut rows cut
    → (term_holds rows term cut ≡ true) ↔ IsGood (term_allows rows term) cut
term_good rows [] cut some within = (λ holds p lt. refl, λ all. refl)
term_good rows (i ∷ term) cut some within =
    (to (term_good rows term cut some within), from (term_good rows term cut some within))
  where
    first : (row_holds (slice_get rows i) cut ≡ true)
        ↔ ((p : ℕ) → p < length cut → row_allows (slice_get rows i) p (slice_index cut p) ≡ true)
    first = allows_each (slice_get rows i) cut some (within i)

    to : ((term_holds rows term cut ≡ true) ↔ IsGood (term_allows rows term) cut)
        → term_holds rows (i ∷ term) cut ≡ true → IsGood (term_allows rows (i ∷ term)) cut
    to rest holds p lt = and_from (row_allows (slice_get rows i) p (slice_index cut p))
        (term_allows rows term p (slice_index cut p))
        (first.0 (both_left (row_holds (slice_get rows i) cut) (term_holds rows term cut) holds) p lt)
        (rest.0
        (both_right (row_holds (slice_get rows i) cut) (term_holds rows term cut) holds) p lt)

    from : ((term_holds rows term cut ≡ true) ↔ IsGood (term_allows rows term) cut)
        → IsGood (term_allows rows (i ∷ term)) cut → term_holds rows (i ∷ term) cut ≡ true
    from rest good = and_from (row_holds (slice_get rows i) cut) (term_holds rows term cut)
        (first.1 (λ p lt. both_left (row_allows (slice_get rows i) p (slice_index cut p))
        (term_allows rows term p (slice_index cut p)) (good p lt)))
        (rest.1
        (λ p lt. both_right (row_allows (slice_get rows i) p (slice_index cut p))
        (term_allows rows term p (slice_index cut p)) (good p lt)))

either_true : (a b : Bool) → (a || b) ≡ true → (a ≡ true) ⊎ (b ≡ true)
either_true true b h = inl refl
either_true false b h = inr h

true_left : (a b : Bool) → a ≡ true → (a || b) ≡ true
true_left true b h = refl
true_left false b h = absurd (false≢true h)

true_right : (a b : Bool) → b ≡ true → (a || b) ≡ true
true_right true b h = refl
true_right false b h = h

-- some term holds exactly if the cut is good for one
pub some_good : (rows : List TruthRow) (terms : List (List ℕ)) (cut : List ℕ) → 0 < length cut → AreOfCut rows cut
    → (terms_hold rows terms cut ≡ true)
    ↔ ((i : ℕ) × (i < length terms) × IsGood (goods_of rows terms i) cut)
some_good rows [] cut some within = (λ holds. absurd (false≢true holds), λ w. absurd (omega (arith, w.1)))
some_good rows (term ∷ terms) cut some within =
    (to (some_good rows terms cut some within), from (some_good rows terms cut some within))
  where
    to : ((terms_hold rows terms cut ≡ true)
        ↔ ((i : ℕ) × (i < length terms) × IsGood (goods_of rows terms i) cut))
        → terms_hold rows (term ∷ terms) cut ≡ true
        → (i : ℕ) × (i < length (term ∷ terms)) × IsGood (goods_of rows (term ∷ terms) i) cut
    to rest holds = go rest (either_true (term_holds rows term cut) (terms_hold rows terms cut) holds)
      where
        go : ((terms_hold rows terms cut ≡ true)
            ↔ ((i : ℕ) × (i < length terms) × IsGood (goods_of rows terms i) cut))
            → (term_holds rows term cut ≡ true) ⊎ (terms_hold rows terms cut ≡ true)
            → (i : ℕ) × (i < length (term ∷ terms)) × IsGood (goods_of rows (term ∷ terms) i) cut
        go rest (inl here) = (0, omega arith, (term_good rows term cut some within).0 here)
        go rest (inr later) =
            let w = rest.0 later in (suc w.0, omega (arith, w.1), w.2)

    from : ((terms_hold rows terms cut ≡ true)
        ↔ ((i : ℕ) × (i < length terms) × IsGood (goods_of rows terms i) cut))
        → (i : ℕ) × (i < length (term ∷ terms)) × IsGood (goods_of rows (term ∷ terms) i) cut
        → terms_hold rows (term ∷ terms) cut ≡ true
    from rest (zero, lt, good) =
        true_left (term_holds rows term cut) (terms_hold rows terms cut)
        ((term_good rows term cut some within).1 good)
    from rest (suc i, lt, good) =
        true_right (term_holds rows term cut) (terms_hold rows terms cut)
        (rest.1 (i, omega arith, good))

-- what is true of each row is true of the one at a place
at_place : (P : TruthRow → Type 0) (rows : List TruthRow) (i : ℕ) (row : TruthRow) → All P rows
    → slice_get rows i ≡ Some row → P row
at_place P rows i row all at = go (slice_get_cases rows i).1
  where
    go : ((x : TruthRow) × (i < length rows) × (slice_get rows i ≡ Some x) × (get_or rows i x ≡ x))
        ⊎ ((length rows ≤ i) × (slice_get rows i ≡ None)) → P row
    go (inl w) =
        subst P (ap (λ (o : Option TruthRow). unwrap_or o w.0) (sym w.2 ∙ at)) (subst P w.3 (all i w.0 w.1))
    go (inr w) = absurd (subst (λ (o : Option TruthRow). IfNone o ⊥) (sym (sym w.1 ∙ at)) tt)

-- the opposite of a truth is the truth of the opposite
pub turned_test : (negated : Bool) (r : Recorded) (predicate : Predicate) (cut : List ℕ)
    → turned negated (test_of r predicate cut) ≡ test_of r (opposite_if negated predicate) cut
turned_test true r predicate cut = refl
turned_test false r predicate cut = refl

-- a consistent cut satisfies the predicate exactly if it is good for some term
pub good_for_some : (negated : Bool) (r : Recorded) (predicate : Predicate) (rows : List TruthRow)
    (terms : List (List ℕ)) → 1 ≤ length r.events → AreTermsOf r negated predicate rows terms → AreWithin r rows
    → IsGoodForSome r.events (test_of r (opposite_if negated predicate)) (goods_of rows terms) (length terms)
good_for_some negated r predicate rows terms some terms_of within cut consistent =
    let many : length cut ≡ length r.events = consistent.fits.one_each in
    let there : AreOfCut rows cut = λ i row at.
    rw many (at_place (λ (q : TruthRow). q.process < length r.events) rows i row within at) in
    let holds : terms_hold rows terms cut ≡ test_of r (opposite_if negated predicate) cut =
    terms_of.hold cut consistent.fits ∙ turned_test negated r predicate cut in
    let good = some_good rows terms cut (omega arith) there in (
      λ satisfies. good.0 (holds ∙ satisfies),
      λ w. sym holds ∙ good.1 w,
    )

-- the same of terms that were found
pub terms_good : (negated : Bool) (r : Recorded) (predicate : Predicate) (terms : Terms)
    → AreTermsOf r negated predicate terms.rows.items (numbers_view terms.terms.items)
    → AreWithin r terms.rows.items → 1 ≤ length r.events
    → IsGoodForSome r.events (test_of r (opposite_if negated predicate))
    (goods_of terms.rows.items (numbers_view terms.terms.items)) (length terms.terms.items)
terms_good negated r predicate terms holds within some =
    subst (λ (n : ℕ). IsGoodForSome r.events (test_of r (opposite_if negated predicate))
    (goods_of terms.rows.items (numbers_view terms.terms.items)) n)
    (length-map terms.terms.items (λ (term : Vec ℕ Global). term.items))
    (good_for_some negated r predicate terms.rows.items (numbers_view terms.terms.items) some holds within)
