-- Terms that are joined.
use Rattle.std.proofs.Common.{◌≡◌, ◌+◌, ◌<◌, ℕ, zero, suc, List, [], ◌∷◌, ◌++◌, All, length, length-append, get_or, map, take, append-nil, append_assoc, refl, sym, ap, ◌∙◌, subst, arith}
use Rattle.std.specs.Global.{Global}
use Rattle.std.specs.Prelude.{Bool, true, false, ◌&&◌, ◌||◌, not, cond, Option, Some, Vec, slice_get}
use Rattle.std.proofs.lemmas.Grind.{flat_map-append}
use Rattle.std.proofs.lemmas.List.{map-append, take_more}
use Rattle.std.proofs.lemmas.Option.{slice_get_within}
use Rattle.def_model.specs.Predicates.{Predicate, Recorded, And, Or, test_of}
use Rattle.wide_terms.specs.Rows.{AreOf, IsRowOf, MakesTerms, numbers_view, products, row_holds, term_holds, terms_hold, turned}
use Rattle.wide_terms.specs.declared.row.TruthRow.{TruthRow}

products_push : (xs : List (List ℕ)) (x : List ℕ) (ys : List (List ℕ)) → products (xs ++ x ∷ []) ys
    ≡ products xs ys ++ map (λ (other : List ℕ). x ++ other) ys
products_push xs x ys =
    flat_map-append (λ (term : List ℕ). map (λ (other : List ℕ). term ++ other) ys) xs (x ∷ [])
    ∙ ap (λ (zs : List (List ℕ)). products xs ys ++ zs) (append-nil (map (λ (other : List ℕ). x ++ other) ys))

-- one factor more
pub products_more : (first : List (Vec ℕ Global)) (i : ℕ) (d : Vec ℕ Global) (ys : List (List ℕ)) → i < length first
    → products (numbers_view (take (i + 1) first)) ys
    ≡ products (numbers_view (take i first)) ys ++ map (λ (other : List ℕ). (get_or first i d).items ++ other) ys
products_more first i d ys lt =
    ap (λ (terms : List (Vec ℕ Global)). products (numbers_view terms) ys) (take_more first i d lt)
    ∙ (ap (λ (terms : List (List ℕ)). products terms ys)
    (map-append (λ (term : Vec ℕ Global). term.items) (take i first) (get_or first i d ∷ []))
    ∙ products_push (numbers_view (take i first)) (get_or first i d).items ys)

-- no factor before changes nothing
pub map_same : (xs : List (List ℕ)) → map (λ (other : List ℕ). [] ++ other) xs ≡ xs
map_same [] = refl
map_same (x ∷ xs) = ap (λ (ys : List (List ℕ)). x ∷ ys) (map_same xs)

-- ---- what terms mean

-- a row that is there is there among more rows
row_more : (rows more : List TruthRow) (i : ℕ) → i < length rows → slice_get (rows ++ more) i ≡ slice_get rows i
row_more [] more i lt = absurd (omega arith)
row_more (row ∷ rows) more zero lt = refl
row_more (row ∷ rows) more (suc i) lt = row_more rows more i (omega arith)

pub all_head : {A : Type 0} (P : A → Type 0) (x : A) (xs : List A) → All P (x ∷ xs) → P x
all_head P x xs all = all 0 x (omega arith)

pub all_tail : {A : Type 0} (P : A → Type 0) (x : A) (xs : List A) → All P (x ∷ xs) → All P xs
all_tail P x xs all i d lt = all (suc i) d (omega arith)

-- a term means the same by more rows
term_more : (rows more : List TruthRow) (term : List ℕ) (cut : List ℕ) → All (λ i. i < length rows) term
    → term_holds (rows ++ more) term cut ≡ term_holds rows term cut
term_more rows more [] cut all = refl
term_more rows more (i ∷ term) cut all =
    ap (λ (row : Option TruthRow). row_holds row cut && term_holds (rows ++ more) term cut)
    (row_more rows more i (all_head (λ i. i < length rows) i term all))
    ∙ ap (λ (truth : Bool). row_holds (slice_get rows i) cut && truth)
    (term_more rows more term cut (all_tail (λ i. i < length rows) i term all))

pub terms_more : (rows more : List TruthRow) (terms : List (List ℕ)) (cut : List ℕ) → AreOf rows terms
    → terms_hold (rows ++ more) terms cut ≡ terms_hold rows terms cut
terms_more rows more [] cut all = refl
terms_more rows more (term ∷ terms) cut all =
    ap (λ (truth : Bool). truth || terms_hold (rows ++ more) terms cut)
    (term_more rows more term cut (all_head (All (λ i. i < length rows)) term terms all))
    ∙ ap (λ (truth : Bool). term_holds rows term cut || truth)
    (terms_more rows more terms cut (all_tail (All (λ i. i < length rows)) term terms all))

-- two terms together hold where both do
term_both : (rows : List TruthRow) (first second : List ℕ) (cut : List ℕ)
    → term_holds rows (first ++ second) cut ≡ (term_holds rows first cut && term_holds rows second cut)
term_both rows [] second cut = refl
term_both rows (i ∷ first) second cut =
    ap (λ (truth : Bool). row_holds (slice_get rows i) cut && truth) (term_both rows first second cut)
    ∙ and_assoc (row_holds (slice_get rows i) cut) (term_holds rows first cut) (term_holds rows second cut)
  where
    and_assoc : (a b c : Bool) → (a && (b && c)) ≡ ((a && b) && c)
    and_assoc true b c = refl
    and_assoc false b c = refl

-- terms beside others hold where one of both does
pub terms_either : (rows : List TruthRow) (first second : List (List ℕ)) (cut : List ℕ)
    → terms_hold rows (first ++ second) cut ≡ (terms_hold rows first cut || terms_hold rows second cut)
terms_either rows [] second cut = refl
terms_either rows (term ∷ first) second cut =
    ap (λ (truth : Bool). term_holds rows term cut || truth) (terms_either rows first second cut)
    ∙ or_assoc (term_holds rows term cut) (terms_hold rows first cut) (terms_hold rows second cut)
  where
    or_assoc : (a b c : Bool) → (a || (b || c)) ≡ ((a || b) || c)
    or_assoc true b c = refl
    or_assoc false b c = refl

-- a term with each of others holds where it and one of them does
with_each : (rows : List TruthRow) (term : List ℕ) (others : List (List ℕ)) (cut : List ℕ)
    → terms_hold rows (map (λ (other : List ℕ). term ++ other) others) cut
    ≡ (term_holds rows term cut && terms_hold rows others cut)
with_each rows term [] cut = none (term_holds rows term cut)
  where
    none : (a : Bool) → false ≡ (a && false)
    none true = refl
    none false = refl
with_each rows term (other ∷ others) cut =
    ap (λ (truth : Bool). truth || terms_hold rows (map (λ (o : List ℕ). term ++ o) others) cut)
    (term_both rows term other cut)
    ∙ (ap (λ (truth : Bool). (term_holds rows term cut && term_holds rows other cut) || truth)
    (with_each rows term others cut)
    ∙ share (term_holds rows term cut) (term_holds rows other cut) (terms_hold rows others cut))
  where
    share : (a b c : Bool) → ((a && b) || (a && c)) ≡ (a && (b || c))
    share true b c = refl
    share false b c = refl

-- each of the first terms with each of the second
pub terms_both : (rows : List TruthRow) (first second : List (List ℕ)) (cut : List ℕ)
    → terms_hold rows (products first second) cut ≡ (terms_hold rows first cut && terms_hold rows second cut)
terms_both rows [] second cut = refl
terms_both rows (term ∷ first) second cut =
    terms_either rows (map (λ (other : List ℕ). term ++ other) second) (products first second) cut
    ∙ (ap (λ (truth : Bool). truth || terms_hold rows (products first second) cut) (with_each rows term second cut)
    ∙ (ap (λ (truth : Bool). (term_holds rows term cut && terms_hold rows second cut) || truth)
    (terms_both rows first second cut)
    ∙ share (term_holds rows term cut) (terms_hold rows first cut) (terms_hold rows second cut)))
  where
    share : (a b c : Bool) → ((a && c) || (b && c)) ≡ ((a || b) && c)
    share true true true = refl
    share true true false = refl
    share true false true = refl
    share true false false = refl
    share false true c = refl
    share false false c = refl

-- ---- what is made

-- terms of rows that are there are of more rows too
of_more : (rows more : List TruthRow) (terms : List (List ℕ)) → AreOf rows terms → AreOf (rows ++ more) terms
of_more rows more terms all t d lt i e in_ =
    let there : get_or (get_or terms t d) i e < length rows = all t d lt i e in_ in
    rw (length-append rows more) (omega arith)

pub append_one : {A : Type 0} (P : A → Type 0) (xs ys : List A) → All P xs → All P ys → All P (xs ++ ys)
append_one P [] ys all others i d lt = others i d lt
append_one P (x ∷ xs) ys all others zero d lt = all zero d (omega arith)
append_one P (x ∷ xs) ys all others (suc i) d lt =
    append_one P xs ys (all_tail P x xs all) others i d (omega arith)

-- products of terms of rows that are there
of_products : (rows : List TruthRow) (first second : List (List ℕ)) → AreOf rows first → AreOf rows second
    → AreOf rows (products first second)
of_products rows [] second all others i d lt = absurd (omega arith)
of_products rows (term ∷ first) second all others i d lt =
    append_one (All (λ j. j < length rows)) (map (λ (other : List ℕ). term ++ other) second) (products first second)
    (with_all second others)
    (of_products rows first second (all_tail (All (λ j. j < length rows)) term first all) others) i d lt
  where
    with_all : (ys : List (List ℕ)) → AreOf rows ys → AreOf rows (map (λ (other : List ℕ). term ++ other) ys)
    with_all [] each k e in_ = absurd (omega arith)
    with_all (y ∷ ys) each zero e in_ =
        append_one (λ j. j < length rows) term y (all_head (All (λ j. j < length rows)) term first all)
        (all_head (All (λ j. j < length rows)) y ys each)
    with_all (y ∷ ys) each (suc k) e in_ =
        with_all ys (all_tail (All (λ j. j < length rows)) y ys each) k e (omega arith)

-- a constant adds no row
pub made_constant : (r : Recorded) (negated : Bool) (predicate : Predicate) (rows : List TruthRow) (truth : Bool)
    → ((cut : List ℕ) → turned negated (test_of r predicate cut) ≡ truth)
    → MakesTerms r negated predicate rows rows (cond truth ([] ∷ []) [])
made_constant r negated predicate rows true is = record {
  more = [];
  is = sym (append-nil rows);
  within = λ w. w;
  terms_of = record {
    speak = λ i d lt. one i d lt;
    hold = λ cut fits. sym (is cut);
  };
}
  where
    one : AreOf rows ([] ∷ [])
    one zero d lt k e in_ = absurd (omega arith)
    one (suc i) d lt k e in_ = absurd (omega arith)
made_constant r negated predicate rows false is = record {
  more = [];
  is = sym (append-nil rows);
  within = λ w. w;
  terms_of = record {
    speak = λ i d lt. absurd (omega arith);
    hold = λ cut fits. sym (is cut);
  };
}

-- a comparison adds its row
pub made_row : (r : Recorded) (negated : Bool) (predicate : Predicate) (rows : List TruthRow) (row : TruthRow)
    → IsRowOf r negated predicate row
    → MakesTerms r negated predicate rows (rows ++ row ∷ []) ((length rows ∷ []) ∷ [])
made_row r negated predicate rows row is = record {
  more = row ∷ [];
  is = refl;
  within = λ w. append_one (λ (q : TruthRow). q.process < length r.events) rows (row ∷ []) w last;
  terms_of = record {
    speak = one;
    hold = λ cut fits. always cut
        ∙ (ap (λ (found : Option TruthRow). row_holds found cut) (found rows) ∙ is.holds cut fits);
  };
}
  where
    last : All (λ (q : TruthRow). q.process < length r.events) (row ∷ [])
    last zero d lt = is.within
    last (suc i) d lt = absurd (omega arith)

    one : AreOf (rows ++ row ∷ []) ((length rows ∷ []) ∷ [])
    one zero d lt zero e in_ = rw (length-append rows (row ∷ [])) (omega arith)
    one zero d lt (suc k) e in_ = absurd (omega arith)
    one (suc i) d lt k e in_ = absurd (omega arith)

    found : (before : List TruthRow) → slice_get (before ++ row ∷ []) (length before) ≡ Some row
    found [] = refl
    found (first ∷ before) = found before

    always : (cut : List ℕ) → terms_hold (rows ++ row ∷ []) ((length rows ∷ []) ∷ []) cut
        ≡ row_holds (slice_get (rows ++ row ∷ []) (length rows)) cut
    always cut = go (row_holds (slice_get (rows ++ row ∷ []) (length rows)) cut)
      where
        go : (a : Bool) → ((a && true) || false) ≡ a
        go true = refl
        go false = refl

-- and an equal comparison after it has the same row
pub made_known : (r : Recorded) (negated : Bool) (predicate : Predicate) (rows : List TruthRow) (i : ℕ)
    (row : TruthRow) → slice_get rows i ≡ Some row → IsRowOf r negated predicate row
    → MakesTerms r negated predicate rows rows ((i ∷ []) ∷ [])
made_known r negated predicate rows i row at is = record {
  more = [];
  is = sym (append-nil rows);
  within = λ w. w;
  terms_of = record {
    speak = one;
    hold = λ cut fits. go (row_holds (slice_get rows i) cut)
        ∙ (ap (λ (found : Option TruthRow). row_holds found cut) at ∙ is.holds cut fits);
  };
}
  where
    one : AreOf rows ((i ∷ []) ∷ [])
    one zero d lt zero e in_ = slice_get_within rows i row at
    one zero d lt (suc k) e in_ = absurd (omega arith)
    one (suc j) d lt k e in_ = absurd (omega arith)

    go : (a : Bool) → ((a && true) || false) ≡ a
    go true = refl
    go false = refl

-- what two predicates make, of which a third one, or its opposite, holds where both do
pub made_both : (r : Recorded) (negated : Bool) (left right both : Predicate) (old mid new : List TruthRow)
    (first second : List (List ℕ)) → MakesTerms r negated left old mid first → MakesTerms r negated right mid new second
    → ((cut : List ℕ) → turned negated (test_of r both cut)
    ≡ (turned negated (test_of r left cut) && turned negated (test_of r right cut)))
    → MakesTerms r negated both old new (products first second)
made_both r negated left right both old mid new first second one two means = record {
  more = one.more ++ two.more;
  is = two.is ∙ (ap (λ (rows : List TruthRow). rows ++ two.more) one.is ∙ append_assoc old one.more two.more);
  within = λ w. two.within (one.within w);
  terms_of = record {
    speak = of_products new first second
        (subst (λ (rows : List TruthRow). AreOf rows first) (sym two.is)
        (of_more mid two.more first one.terms_of.speak)) two.terms_of.speak;
    hold = λ cut fits. terms_both new first second cut
        ∙ (ap (λ (truth : Bool). truth && terms_hold new second cut) (earlier cut ∙ one.terms_of.hold cut fits)
        ∙ (ap (λ (truth : Bool). turned negated (test_of r left cut) && truth) (two.terms_of.hold cut fits)
        ∙ sym (means cut)));
  };
}
  where
    earlier : (cut : List ℕ) → terms_hold new first cut ≡ terms_hold mid first cut
    earlier cut =
        ap (λ (rows : List TruthRow). terms_hold rows first cut) two.is
        ∙ terms_more mid two.more first cut one.terms_of.speak

-- or where one of both does
pub made_either : (r : Recorded) (negated : Bool) (left right either : Predicate) (old mid new : List TruthRow)
    (first second : List (List ℕ)) → MakesTerms r negated left old mid first → MakesTerms r negated right mid new second
    → ((cut : List ℕ) → turned negated (test_of r either cut)
    ≡ (turned negated (test_of r left cut) || turned negated (test_of r right cut)))
    → MakesTerms r negated either old new (first ++ second)
made_either r negated left right either old mid new first second one two means = record {
  more = one.more ++ two.more;
  is = two.is ∙ (ap (λ (rows : List TruthRow). rows ++ two.more) one.is ∙ append_assoc old one.more two.more);
  within = λ w. two.within (one.within w);
  terms_of = record {
    speak = append_one (All (λ i. i < length new)) first second
        (subst (λ (rows : List TruthRow). AreOf rows first) (sym two.is)
        (of_more mid two.more first one.terms_of.speak)) two.terms_of.speak;
    hold = λ cut fits. terms_either new first second cut
        ∙ (ap (λ (truth : Bool). truth || terms_hold new second cut) (earlier cut ∙ one.terms_of.hold cut fits)
        ∙ (ap (λ (truth : Bool). turned negated (test_of r left cut) || truth) (two.terms_of.hold cut fits)
        ∙ sym (means cut)));
  };
}
  where
    earlier : (cut : List ℕ) → terms_hold new first cut ≡ terms_hold mid first cut
    earlier cut =
        ap (λ (rows : List TruthRow). terms_hold rows first cut) two.is
        ∙ terms_more mid two.more first cut one.terms_of.speak

pub not_and : (a b : Bool) → not (a && b) ≡ (not a || not b)
not_and true b = refl
not_and false b = refl

not_or : (a b : Bool) → not (a || b) ≡ (not a && not b)
not_or true b = refl
not_or false b = refl

-- what an `and` makes of its parts
pub made_and : (r : Recorded) (negated : Bool) (left right : Predicate) (old mid new : List TruthRow)
    (first second : List (List ℕ)) → MakesTerms r negated left old mid first → MakesTerms r negated right mid new second
    → MakesTerms r negated (And left right) old new (cond negated (first ++ second) (products first second))
made_and r true left right old mid new first second one two =
    made_either r true left right (And left right) old mid new first second one two
    (λ cut. not_and (test_of r left cut) (test_of r right cut))
made_and r false left right old mid new first second one two =
    made_both r false left right (And left right) old mid new first second one two (λ cut. refl)

-- and an `or`
pub made_or : (r : Recorded) (negated : Bool) (left right : Predicate) (old mid new : List TruthRow)
    (first second : List (List ℕ)) → MakesTerms r negated left old mid first → MakesTerms r negated right mid new second
    → MakesTerms r negated (Or left right) old new (cond (not negated) (first ++ second) (products first second))
made_or r true left right old mid new first second one two =
    made_both r true left right (Or left right) old mid new first second one two
    (λ cut. not_or (test_of r left cut) (test_of r right cut))
made_or r false left right old mid new first second one two =
    made_either r false left right (Or left right) old mid new first second one two (λ cut. refl)
