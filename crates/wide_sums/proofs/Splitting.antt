-- A term is made of comparisons that name one process at most, and of sums.
use Rattle.std.proofs.Common.{◌≡◌, ◌↔◌, inl, inr, ◌<◌, ◌≤◌, ℕ, zero, suc, List, [], ◌∷◌, ◌++◌, All, length, append-nil, append_assoc, refl, sym, ap, ◌∙◌, subst, arith}
use Rattle.std.specs.Prelude.{Bool, true, false, ◌&&◌, Contains, Option, Some, None, slice_get}
use Rattle.std.proofs.lemmas.Bool.{and_from, false≢true}
use Rattle.std.proofs.lemmas.List.Elements.{All-cons, All-get_or, All-head, All-nil, All-tail}
use Rattle.std.proofs.lemmas.Option.{get_or_from_slice_get, slice_get_within}
use Rattle.def_model.specs.Cuts.{FitsProcesses, IsConsistent}
use Rattle.def_model.specs.Predicates.{Recorded}
use Rattle.def_wide.specs.Sums.{IsInSlice, IsLocalLiteral, IsLocalTerm, IsOnlySum}
use Rattle.def_wide.specs.Terms.{Literal, literal_holds}
use Rattle.wide_conjunctions.specs.LeastCuts.{IsGood}
use Rattle.wide_sums.specs.Places.{IsPlaceOf}
use Rattle.wide_sums.specs.Splits.{AreLocals, AreSums, IsPut, IsSplit}
use Rattle.wide_terms.specs.Rows.{AreWithin, row_holds, term_allows, term_holds}
use Rattle.wide_terms.specs.declared.row.TruthRow.{TruthRow}
use Rattle.wide_terms.proofs.Allowed.{AreOfCut, term_good}

-- ---- the sums of a term

-- what a term contains it contains with one comparison more
contains_later : (h : Literal) (term : List Literal) (l : Literal) → Contains term l → Contains (h ∷ term) l
contains_later h term l (k, lt, at) = (suc k, omega (arith, lt), at)

-- each sum is a comparison of the term that names several processes
pub sums_in : (term sums : List Literal) → AreSums term sums → (l : Literal) → Contains sums l
    → Contains term l × (¬ IsLocalLiteral l)
sums_in [] sums are l (k, lt, at) = absurd (let none : length sums ≡ 0 = ap length are in omega (arith, lt))
sums_in (h ∷ term) sums (inl (local, are)) l found =
    let w = sums_in term sums are l found in (contains_later h term l w.0, w.1)
sums_in (h ∷ term) sums (inr (several, (rest, is, are))) l found =
    go (λ later. sums_in term rest are l later) (subst (λ (s : List Literal). Contains s l) is found)
  where
    go : (Contains rest l → Contains term l × (¬ IsLocalLiteral l)) → Contains (h ∷ rest) l
        → Contains (h ∷ term) l × (¬ IsLocalLiteral l)
    go later (zero, lt, at) = ((0, omega arith, at), subst (λ (x : Literal). ¬ IsLocalLiteral x) at several)
    go later (suc k, lt, at) =
        let w = later (k, omega (arith, lt), at) in (contains_later h term l w.0, w.1)

-- each comparison of the term that names several processes is among the sums
pub in_sums : (term sums : List Literal) → AreSums term sums → (l : Literal) → Contains term l → ¬ IsLocalLiteral l
    → Contains sums l
in_sums [] sums are l (k, lt, at) several = absurd (omega (arith, lt))
in_sums (h ∷ term) sums (inl (local, are)) l (zero, lt, at) several =
    absurd (several (subst IsLocalLiteral at local))
in_sums (h ∷ term) sums (inl (local, are)) l (suc k, lt, at) several =
    in_sums term sums are l (k, omega (arith, lt), at) several
in_sums (h ∷ term) sums (inr (several', (rest, is, are))) l (zero, lt, at) several =
    subst (λ (s : List Literal). Contains s l) (sym is) (0, omega arith, at)
in_sums (h ∷ term) sums (inr (several', (rest, is, are))) l (suc k, lt, at) several =
    subst (λ (s : List Literal). Contains s l) (sym is)
    (contains_later h rest l (in_sums term rest are l (k, omega (arith, lt), at) several))

-- a term without sums is local, and a local term has no sums
pub no_sums : (term : List Literal) → AreSums term [] → IsLocalTerm term
no_sums [] are = All-nil IsLocalLiteral
no_sums (h ∷ term) (inl (local, are)) = All-cons IsLocalLiteral h term local (no_sums term are)
no_sums (h ∷ term) (inr (several, (rest, is, are))) = absurd (let other : [] ≡ h ∷ rest = is in cc)

pub local_sums : (term sums : List Literal) → AreSums term sums → IsLocalTerm term → sums ≡ []
local_sums [] sums are all = are
local_sums (h ∷ term) sums (inl (local, are)) all = local_sums term sums are (All-tail IsLocalLiteral h term all)
local_sums (h ∷ term) sums (inr (several, more)) all = absurd (several (All-head IsLocalLiteral h term all))

-- one that has some isn't
pub some_sums : (term : List Literal) (l : Literal) (sums : List Literal) → AreSums term (l ∷ sums) → ¬ IsLocalTerm term
some_sums term l sums are all =
    let none : l ∷ sums ≡ [] = local_sums term (l ∷ sums) are all in cc

-- a term that has a single one has only that one
pub one_sum : (term : List Literal) (l : Literal) → AreSums term (l ∷ []) → IsOnlySum term l
one_sum [] l are = absurd (let none : l ∷ [] ≡ [] = are in cc)
one_sum (h ∷ term) l (inl (local, are)) =
    let w = one_sum term l are in (
      h ∷ w.0,
      w.1,
      ap (λ (t : List Literal). h ∷ t) w.2,
      All-cons IsLocalLiteral h w.0 local w.3,
      w.4,
      w.5,
    )
one_sum (h ∷ term) l (inr (several, (rest, is, are))) =
    let same : h ≡ l = cc in
    let none : rest ≡ [] = cc in (
      [],
      term,
      ap (λ (x : Literal). x ∷ term) same,
      All-nil IsLocalLiteral,
      subst (λ (x : Literal). ¬ IsLocalLiteral x) same several,
      no_sums term (subst (λ (s : List Literal). AreSums term s) none are),
    )

-- and the other way around
pub only_sum : (term sums : List Literal) (l : Literal) → AreSums term sums → IsOnlySum term l → sums ≡ l ∷ []
only_sum term sums l are (before, after, is, all, several, others) =
    go before sums (subst (λ (t : List Literal). AreSums t sums) is are) all
  where
    go : (before sums : List Literal) → AreSums (before ++ l ∷ after) sums → All IsLocalLiteral before
        → sums ≡ l ∷ []
    go [] sums (inl (local, are)) all = absurd (several local)
    go [] sums (inr (several', (rest, is', are))) all =
        is' ∙ ap (λ (s : List Literal). l ∷ s) (local_sums after rest are others)
    go (h ∷ before) sums (inl (local, are)) all = go before sums are (All-tail IsLocalLiteral h before all)
    go (h ∷ before) sums (inr (several', more)) all = absurd (several' (All-head IsLocalLiteral h before all))

-- ---- how a term is taken apart

-- the sums, with one comparison more
pub sums_put : (r : Recorded) (rows : List TruthRow) (l : Literal) (place : Option ℕ) (rest whole : List Literal)
    (old_numbers new_numbers : List ℕ) (old new : List Literal) → IsPlaceOf r rows l place
    → IsPut place l old_numbers new_numbers old new
    → ((more : List Literal) → AreSums (l ∷ rest) more → AreSums whole (old ++ more))
    → (more : List Literal) → AreSums rest more → AreSums whole (new ++ more)
sums_put r rows l (Some number) rest whole old_numbers new_numbers old new place put before more are =
    rw put.1 (before more (inl (place.0, are)))
sums_put r rows l None rest whole old_numbers new_numbers old new place put before more are =
    rw (put.1, append_assoc old (l ∷ []) more) (before (l ∷ more) (inr (place, (more, refl, are))))

-- the numbers
pub locals_put : (r : Recorded) (rows : List TruthRow) (l : Literal) (place : Option ℕ) (rest whole : List Literal)
    (old new : List ℕ) (old_sums new_sums : List Literal) → IsPlaceOf r rows l place
    → IsPut place l old new old_sums new_sums
    → ((more : List ℕ) → AreLocals r rows (l ∷ rest) more → AreLocals r rows whole (old ++ more))
    → (more : List ℕ) → AreLocals r rows rest more → AreLocals r rows whole (new ++ more)
locals_put r rows l (Some number) rest whole old new old_sums new_sums place put before more are =
    rw (put.0, append_assoc old (number ∷ []) more)
    (before (number ∷ more) (inl (place.0, (number, more, refl, place.1, are))))
locals_put r rows l None rest whole old new old_sums new_sums place put before more are =
    rw put.0 (before more (inr (place, are)))

-- ---- what the parts mean

-- each number is that of a row
numbers_there : (r : Recorded) (rows : List TruthRow) (term : List Literal) (numbers : List ℕ)
    → AreLocals r rows term numbers → All (λ k. k < length rows) numbers
numbers_there r rows [] numbers are = rw are (All-nil (λ k. k < length rows))
numbers_there r rows (h ∷ term) numbers (inl (local, (number, rest, is, row, are))) =
    rw is
    (All-cons (λ k. k < length rows) number rest (slice_get_within rows number row.row row.at)
    (numbers_there r rows term rest are))
numbers_there r rows (h ∷ term) numbers (inr (several, are)) = numbers_there r rows term numbers are

both_left : (a b : Bool) → (a && b) ≡ true → a ≡ true
both_left true b all = refl
both_left false b all = absurd (false≢true all)

both_right : (a b : Bool) → (a && b) ≡ true → b ≡ true
both_right true b all = all
both_right false b all = absurd (false≢true all)

-- where all rows hold, the comparisons of the term that name one process at most do
rows_to_term : (r : Recorded) (rows : List TruthRow) (cut : List ℕ) → FitsProcesses r.events cut
    → (term : List Literal) (numbers : List ℕ) → AreLocals r rows term numbers → term_holds rows numbers cut ≡ true
    → (l : Literal) → Contains term l → IsLocalLiteral l → literal_holds r l cut ≡ true
rows_to_term r rows cut fits [] numbers are holds l (k, lt, at) local = absurd (omega (arith, lt))
rows_to_term r rows cut fits (h ∷ term) numbers (inl (local', (number, rest, is, row, are))) holds l found local =
    go (rows_to_term r rows cut fits term rest are (both_right here (term_holds rows rest cut) all) l) found
  where
    here : Bool
    here = row_holds (slice_get rows number) cut

    all : (row_holds (slice_get rows number) cut && term_holds rows rest cut) ≡ true
    all = sym (ap (λ (ks : List ℕ). term_holds rows ks cut) is) ∙ holds

    first : literal_holds r h cut ≡ true
    first =
        sym (row.holds cut fits)
        ∙ (sym (ap (λ (o : Option TruthRow). row_holds o cut) row.at)
        ∙ both_left (row_holds (slice_get rows number) cut) (term_holds rows rest cut) all)

    go : (Contains term l → IsLocalLiteral l → literal_holds r l cut ≡ true) → Contains (h ∷ term) l
        → literal_holds r l cut ≡ true
    go later (zero, lt, at) = subst (λ (x : Literal). literal_holds r x cut ≡ true) at first
    go later (suc k, lt, at) = later (k, omega (arith, lt), at) local
rows_to_term r rows cut fits (h ∷ term) numbers (inr (several, are)) holds l (zero, lt, at) local =
    absurd (several (subst IsLocalLiteral (sym at) local))
rows_to_term r rows cut fits (h ∷ term) numbers (inr (several, are)) holds l (suc k, lt, at) local =
    rows_to_term r rows cut fits term numbers are holds l (k, omega (arith, lt), at) local

-- and the other way around
term_to_rows : (r : Recorded) (rows : List TruthRow) (cut : List ℕ) → FitsProcesses r.events cut
    → (term : List Literal) (numbers : List ℕ) → AreLocals r rows term numbers
    → ((l : Literal) → Contains term l → IsLocalLiteral l → literal_holds r l cut ≡ true)
    → term_holds rows numbers cut ≡ true
term_to_rows r rows cut fits [] numbers are all = ap (λ (ks : List ℕ). term_holds rows ks cut) are
term_to_rows r rows cut fits (h ∷ term) numbers (inl (local, (number, rest, is, row, are))) all =
    ap (λ (ks : List ℕ). term_holds rows ks cut) is
    ∙ and_from (row_holds (slice_get rows number) cut) (term_holds rows rest cut)
    (ap (λ (o : Option TruthRow). row_holds o cut) row.at
    ∙ (row.holds cut fits ∙ all h (0, omega arith, refl) local))
    (term_to_rows r rows cut fits term rest are (λ l found local'. all l (contains_later h term l found) local'))
term_to_rows r rows cut fits (h ∷ term) numbers (inr (several, are)) all =
    term_to_rows r rows cut fits term numbers are (λ l found local'. all l (contains_later h term l found) local')

-- the parts of a term
pub split_by : (r : Recorded) (rows : List TruthRow) (term : List Literal) (numbers : List ℕ) (sums : List Literal)
    → 1 ≤ length r.events → AreWithin r rows → AreSums term sums → AreLocals r rows term numbers
    → IsSplit r rows term numbers sums
split_by r rows term numbers sums some within are locals = record {
  sums_of = are;
  there = numbers_there r rows term numbers locals;
  good = λ cut. (to cut, from cut);
}
  where
    good : (cut : List ℕ) → IsConsistent r.events cut
        → (term_holds rows numbers cut ≡ true) ↔ IsGood (term_allows rows numbers) cut
    good cut consistent =
        let of_cut : AreOfCut rows cut = λ i row at.
        rw consistent.fits.one_each
        (subst (λ (q : TruthRow). q.process < length r.events) (get_or_from_slice_get rows i row row at)
        (All-get_or (λ (q : TruthRow). q.process < length r.events) rows i row (slice_get_within rows i row at) within))
        in
        term_good rows numbers cut (omega (arith, consistent.fits.one_each, some)) of_cut

    to : (cut : List ℕ) → IsConsistent r.events cut × IsGood (term_allows rows numbers) cut → IsInSlice r term cut
    to cut (consistent, all) = record {
      consistent = consistent;
      local = rows_to_term r rows cut consistent.fits term numbers locals ((good cut consistent).1 all);
    }

    from : (cut : List ℕ) → IsInSlice r term cut → IsConsistent r.events cut × IsGood (term_allows rows numbers) cut
    from cut inside = (
      inside.consistent,
      (good cut inside.consistent).0
          (term_to_rows r rows cut inside.consistent.fits term numbers locals inside.local),
    )

-- nothing is left
pub sums_end : (rest whole sums : List Literal) → rest ≡ []
    → ((more : List Literal) → AreSums rest more → AreSums whole (sums ++ more)) → AreSums whole sums
sums_end rest whole sums none before =
    subst (AreSums whole) (append-nil sums)
    (before [] (subst (λ (t : List Literal). AreSums t []) (sym none) refl))

pub locals_end : (r : Recorded) (rows : List TruthRow) (rest whole : List Literal) (numbers : List ℕ) → rest ≡ []
    → ((more : List ℕ) → AreLocals r rows rest more → AreLocals r rows whole (numbers ++ more))
    → AreLocals r rows whole numbers
locals_end r rows rest whole numbers none before =
    subst (AreLocals r rows whole) (append-nil numbers)
    (before [] (subst (λ (t : List Literal). AreLocals r rows t []) (sym none) refl))
