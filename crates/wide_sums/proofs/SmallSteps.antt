-- Sums that events change by small steps.
use Rattle.std.proofs.Common.{◌≡◌, inl, inr, ℕ, zero, suc, ◌+◌, ◌<◌, ◌≤◌, List, [], ◌∷◌, length, get_or, refl, sym, ap, ◌∙◌, subst, ℤ, pos, ◌+ℤ◌, ◌<ℤ◌, ◌≤ℤ◌, ◌↔◌, arith}
use Rattle.std.proofs.lemmas.List.{get_or-set_other, get_or-set_same}
use Rattle.std.proofs.lemmas.Bool.{false≢true}
use Rattle.std.proofs.lemmas.Int.{ints}
use Rattle.std.specs.Global.{Global}
use Rattle.std.specs.Prelude.{Bool, true, false, IsTrue, Vec, int_lt, slice_index, slice_set}
use Rattle.std.proofs.Math.ListN.{length-set}
use Rattle.def_model.specs.Cuts.{FitsProcesses, empty_cut, one_more}
use Rattle.def_model.specs.Events.{Computation, event_count}
use Rattle.def_model.specs.Predicates.{Sign, Term, Recorded}
use Rattle.def_model.proofs.Counts.{empty_at, length_empty, length_more, more_other, more_same}
use Rattle.def_model.proofs.Decisions.{dec_eq}
use Rattle.def_wide.specs.Sums.{IsBySmallSteps, RisesByOne, excess}
use Rattle.def_wide.specs.Terms.{Literal}
use Rattle.wide_slice.specs.Values.{number_at, sum_at, value_of}
use Rattle.wide_sums.specs.SmallSteps.{RowRises}
use Rattle.wide_sums.specs.Values.{IsDifference}

-- the values of a process stand in its row
pub value_in_row : (values : List (Vec ℤ Global)) (p n : ℕ) (d : Vec ℤ Global) → p < length values
    → value_of values p n ≡ number_at (get_or values p d).items n
value_in_row [] p n d lt = absurd (omega arith)
value_in_row (row ∷ rows) zero n d lt = refl
value_in_row (row ∷ rows) (suc p) n d lt = value_in_row rows p n d (omega arith)

-- and so does what is read of it
pub row_value : (values : List (Vec ℤ Global)) (p : ℕ) (d : Vec ℤ Global) (row : List ℤ) → p < length values
    → row ≡ d.items → d ≡ get_or values p d → (n : ℕ) → number_at row n ≡ value_of values p n
row_value values p d row lt same is n =
    ap (λ (xs : List ℤ). number_at xs n) (same ∙ ap (λ (v : Vec ℤ Global). v.items) is)
    ∙ sym (value_in_row values p n d lt)

-- what is so of a row is so of its process
pub row_rises : (c : Computation) (values : List (Vec ℤ Global)) (p : ℕ) (row : List ℤ) (events : ℕ) (found : Bool)
    → events ≡ event_count c p → ((n : ℕ) → number_at row n ≡ value_of values p n)
    → (IsTrue found ↔ ((n : ℕ) → n < events → number_at row (n + 1) ≤ℤ (number_at row n +ℤ pos 1)))
    → IsTrue found ↔ RowRises c values p
row_rises c values p row events found many same tells = (
  λ is n lt.
      let step = tells.0 is n (omega (arith, many, lt)) in
      omega (arith, ints, step, same n, same (n + 1)),
  λ rises.
      tells.1 (λ n lt.
      let step = rises n (omega (arith, many, lt)) in omega (arith, ints, step, same n, same (n + 1))),
)

-- what one more event of a process adds
sum_more : (values : List (Vec ℤ Global)) (counts : List ℕ) (p : ℕ) → p < length counts
    → sum_at values (one_more counts p) +ℤ value_of values p (slice_index counts p)
    ≡ sum_at values counts +ℤ value_of values p (slice_index counts p + 1)
sum_more [] counts p lt = refl
sum_more (row ∷ rows) [] p lt = absurd (omega arith)
sum_more (row ∷ rows) (n ∷ counts) zero lt = omega (arith, ints)
sum_more (row ∷ rows) (n ∷ counts) (suc p) lt =
    let later = sum_more rows counts p (omega arith) in omega (arith, ints, later)

-- counts that fit with one more event fit
fits_before : (c : Computation) (counts : List ℕ) (p : ℕ) → p < length counts
    → FitsProcesses c (one_more counts p) → FitsProcesses c counts
fits_before c counts p lt fits = record {
  one_each = sym (length_more counts p) ∙ fits.one_each;
  within = λ q. go q (dec_eq q p);
}
  where
    go : (q : ℕ) → Dec (q ≡ p) → slice_index counts q ≤ event_count c q
    go q (yes same) =
        let at : get_or (one_more counts p) p 0 ≡ get_or counts p 0 + 1 = more_same counts p lt in
        let within : get_or (one_more counts p) p 0 ≤ event_count c p = fits.within p in
        subst (λ (x : ℕ). get_or counts x 0 ≤ event_count c x) (sym same) (omega arith)
    go q (no apart) =
        let at : get_or (one_more counts p) q 0 ≡ get_or counts q 0 = more_other counts p q apart in
        let within : get_or (one_more counts p) q 0 ≤ event_count c q = fits.within q in
        omega arith

-- the counts of no event but of process q, which has n
abbrev only_of : Computation → ℕ → ℕ → List ℕ
only_of c q n = slice_set (empty_cut c) q n

only_length : (c : Computation) (q n : ℕ) → length (only_of c q n) ≡ length c
only_length c q n = length-set (empty_cut c) q n ∙ length_empty c

only_at : (c : Computation) (q n : ℕ) → q < length c → get_or (only_of c q n) q 0 ≡ n
only_at c q n lt =
    let l : length (empty_cut c) ≡ length c = length_empty c in
    get_or-set_same (empty_cut c) q n 0 (omega arith)

only_fits : (c : Computation) (q n : ℕ) → q < length c → n < event_count c q
    → FitsProcesses c (one_more (only_of c q n) q)
only_fits c q n lt below = record {
  one_each = length_more (only_of c q n) q ∙ only_length c q n;
  within = λ p. go p (dec_eq p q);
}
  where
    go : (p : ℕ) → Dec (p ≡ q) → slice_index (one_more (only_of c q n) q) p ≤ event_count c p
    go p (yes same) =
        let l : length (only_of c q n) ≡ length c = only_length c q n in
        let more : get_or (one_more (only_of c q n) q) q 0 ≡ get_or (only_of c q n) q 0 + 1 =
        more_same (only_of c q n) q (omega arith) in
        let at : get_or (only_of c q n) q 0 ≡ n = only_at c q n lt in
        subst (λ (x : ℕ). get_or (one_more (only_of c q n) q) x 0 ≤ event_count c x) (sym same) (omega arith)
    go p (no apart) =
        let more : get_or (one_more (only_of c q n) q) p 0 ≡ get_or (only_of c q n) p 0 =
        more_other (only_of c q n) q p apart in
        let at : get_or (only_of c q n) p 0 ≡ get_or (empty_cut c) p 0 =
        get_or-set_other (empty_cut c) q p n 0 apart in
        let none : get_or (empty_cut c) p 0 ≡ 0 = empty_at c p in
        omega arith

module _ (r : Recorded) (left right : List (Sign × Term)) (values : List (Vec ℤ Global))
    (difference : IsDifference r left right values) (each : length values ≡ length r.events) where
  pub all_rise : ((q : ℕ) → q < length values → RowRises r.events values q) → RisesByOne r left right
  all_rise rises counts p lt fits =
      let l : length (one_more counts p) ≡ length r.events = fits.one_each in
      let m : length (one_more counts p) ≡ length counts = length_more counts p in
      let at : get_or (one_more counts p) p 0 ≡ get_or counts p 0 + 1 = more_same counts p lt in
      let within : get_or (one_more counts p) p 0 ≤ event_count r.events p = fits.within p in
      let step = rises p (omega arith) (slice_index counts p) (omega arith) in
      let more = sum_more values counts p lt in
      let new = difference (one_more counts p) fits in
      let old = difference counts (fits_before r.events counts p lt fits) in
      omega (arith, ints, step, more, new, old)

  pub rises_all : RisesByOne r left right → (q : ℕ) → q < length values → RowRises r.events values q
  rises_all by_one q lt n below =
      let c = r.events in
      let there : q < length c = omega arith in
      let counts = only_of c q n in
      let l : length counts ≡ length c = only_length c q n in
      let in_counts : q < length counts = omega arith in
      let at : get_or counts q 0 ≡ n = only_at c q n there in
      let fits : FitsProcesses c (one_more counts q) = only_fits c q n there below in
      let step = by_one counts q in_counts fits in
      let more = sum_more values counts q in_counts in
      let new = difference (one_more counts q) fits in
      let old = difference counts (fits_before c counts q in_counts fits) in
      let here : value_of values q (get_or counts q 0) ≡ value_of values q n =
      ap (λ (x : ℕ). value_of values q x) at in
      let next : value_of values q (get_or counts q 0 + 1) ≡ value_of values q (n + 1) =
      ap (λ (x : ℕ). value_of values q (x + 1)) at in
      omega (arith, ints, step, more, new, old, here, next)

  -- the test of all processes tells whether the difference rises by no more than 1
  pub rising : (found : Bool) → (found ≡ true → (q : ℕ) → q < length values → RowRises r.events values q)
      → (found ≡ false → (q : ℕ) × (q < length values) × ¬ RowRises r.events values q)
      → IsTrue found ↔ RisesByOne r left right
  rising true all some = (λ found. all_rise (all refl), λ by_one. refl)
  rising false all some = (
    λ found. absurd (false≢true found),
    λ by_one. absurd ((some refl).2 (rises_all by_one (some refl).0 (some refl).1)),
  )

-- ---- from the empty cut on

pub is_less : (x y : ℤ) → int_lt x y ≡ true → x <ℤ y
is_less x y is = grind (arith, ints)

-- below 0 at the empty cut, small steps are rises
pub from_below : (r : Recorded) (l : Literal) (found : Bool) → excess r l (empty_cut r.events) <ℤ pos 0
    → (IsTrue found ↔ RisesByOne r l.left l.right) → IsTrue found ↔ IsBySmallSteps r l
from_below r l found below tells = (λ is. inl (below, tells.0 is), back)
  where
    back : IsBySmallSteps r l → IsTrue found
    back (inl rises) = tells.1 rises.1
    back (inr falls) = absurd (omega (arith, ints, below, falls.0))

-- above 0 they are falls
pub from_above : (r : Recorded) (l : Literal) (found : Bool) → pos 0 <ℤ excess r l (empty_cut r.events)
    → (IsTrue found ↔ RisesByOne r l.right l.left) → IsTrue found ↔ IsBySmallSteps r l
from_above r l found above tells = (λ is. inr (above, tells.0 is), back)
  where
    back : IsBySmallSteps r l → IsTrue found
    back (inl rises) = absurd (omega (arith, ints, above, rises.0))
    back (inr falls) = tells.1 falls.1
