-- A sum of counts is a number of events.
use Rattle.std.proofs.Common.{◌≡◌, inl, inr, ◌⊎◌, ℕ, suc, ◌+◌, ◌*◌, ◌<◌, ◌≤◌, List, [], ◌∷◌, length, get_or, sum, ℤ, pos, ◌≤ℤ◌, refl, sym, ap, ◌∙◌, subst, arith, lit≤}
use Rattle.std.proofs.lemmas.Bool.{cases_lt}
use Rattle.std.proofs.lemmas.Int.{ints}
use Rattle.std.proofs.lemmas.List.{get_or_past}
use Rattle.std.specs.Prelude.{Vec, unsigned_abs}
use Rattle.std.specs.Global.{Global}
use Rattle.def_format.specs.Limits.{event_limit, process_limit}
use Rattle.def_model.specs.Events.{Computation, event_count}
use Rattle.def_model.specs.Cuts.{FitsProcesses, full_cut, total}
use Rattle.def_model.proofs.Counts.{full_at, length_full, sum_cons, sum_le}
use Rattle.def_wide.specs.Gates.{IsMostOf}
use Rattle.wide_slice.specs.Values.{AreValues, number_at, sum_at, value_limit, value_of}
use Rattle.wide_gates.proofs.Beside.{around}
use Rattle.wide_gates.proofs.Products.{value_at, value_past}
use Rattle.wide_gates.specs.Greatest.{AreMost, IsMost}
use Rattle.wide_gates.specs.Levels.{AreCounts, AreLevelNumbers, AreLevels, AreSame, IsCountRow}
use Rattle.wide_gates.specs.Spots.{IsAt, event_of}
use Rattle.wide_gates.specs.declared.spot.Spot.{Spot}

module _ (c : Computation) (rows : List (Vec ℤ Global)) (one_each : length rows ≡ length c)
    (each : (q : ℕ) (d : Vec ℤ Global) → q < length rows → IsCountRow (event_count c q) (get_or rows q d).items)
  where
    pub counts_small : AreValues c rows
    counts_small = record { one_each = one_each; small = λ p count. go p count (cases_lt p (length rows)) }
      where
        go : (p count : ℕ) → (p < length rows) ⊎ (length rows ≤ p) → unsigned_abs (value_of rows p count) ≤ value_limit
        go p count (inl lt) =
            let at : (row : Vec ℤ Global) × (value_of rows p count ≡ number_at (get_or rows p row).items count) =
            value_at rows p count lt in
            subst (λ (z : ℤ). unsigned_abs z ≤ value_limit) (sym at.1) ((each p at.0 lt).small count)
        go p count (inr le) =
            subst (λ (z : ℤ). unsigned_abs z ≤ value_limit) (sym (value_past rows p count le)) (lit≤ tt)

    pub counts_are : AreCounts c rows
    counts_are p count up = go (cases_lt p (length rows))
      where
        go : (p < length rows) ⊎ (length rows ≤ p) → value_of rows p count ≡ pos count
        go (inl lt) =
            let at : (row : Vec ℤ Global) × (value_of rows p count ≡ number_at (get_or rows p row).items count) =
            value_at rows p count lt in
            at.1 ∙ (each p at.0 lt).is count up
        go (inr le) =
            let none : event_count c p ≡ 0 = ap length (get_or_past c p [] (omega (arith, one_each, le))) in
            let zero : 0 ≡ count = omega (arith, none, up) in
            value_past rows p count le ∙ ap (λ (n : ℕ). pos n) zero

counting : (c : Computation) (rows : List (Vec ℤ Global)) (counts : List ℕ) → length rows ≡ length c
    → length counts ≡ length c → AreCounts c rows → ((p : ℕ) → get_or counts p 0 ≤ event_count c p)
    → sum_at rows counts ≡ pos (sum counts)
counting [] [] [] many one_each are within = refl
counting [] [] (count ∷ counts) many one_each are within = absurd (omega (arith, one_each))
counting [] (row ∷ rows) counts many one_each are within = absurd (omega (arith, many))
counting (events ∷ c) [] counts many one_each are within = absurd (omega (arith, many))
counting (events ∷ c) (row ∷ rows) [] many one_each are within = absurd (omega (arith, one_each))
counting (events ∷ c) (row ∷ rows) (count ∷ counts) many one_each are within =
    let first : number_at row.items count ≡ pos count = are 0 count (within 0) in
    let rest : sum_at rows counts ≡ pos (sum counts) =
    counting c rows counts (omega (arith, many)) (omega (arith, one_each)) (λ p n. are (suc p) n)
    (λ p. within (suc p)) in
    let whole : sum (count ∷ counts) ≡ count + sum counts = sum_cons count counts in
    omega (arith, ints, first, rest, whole)

-- the greatest sum of counts is the greatest number of events
module _ (c : Computation) (rows : List (Vec ℤ Global)) (one_each : length rows ≡ length c)
    (are : AreCounts c rows) where
  summed : (spot : Spot) (counts : List ℕ) → IsAt c spot counts
      → (sum_at rows counts ≡ pos (sum counts)) × (sum counts ≤ total c)
  summed spot counts at =
      let fits : FitsProcesses c counts = (around c spot.after (event_of spot) counts at).fits in (
        counting c rows counts one_each fits.one_each are fits.within,
        sum_le counts (full_cut c)
            (λ p. let l : get_or counts p 0 ≤ event_count c p = fits.within p in
            let f : get_or (full_cut c) p 0 ≡ event_count c p = full_at c p in omega (arith, l, f))
            (fits.one_each ∙ sym (length_full c)),
      )

  number_is : (spot : Spot) (x : ℤ) (most : IsMost (IsAt c spot) rows x)
      → (x ≡ pos (sum most.counts)) × (sum most.counts ≤ total c)
  number_is spot x most =
      let s = summed spot most.counts most.inside in
      (sym most.is ∙ s.0, s.1)

  level_is : (spot : Spot) (x : ℤ) (n : ℕ) → pos n ≡ x → IsMost (IsAt c spot) rows x → IsMostOf (IsAt c spot) n
  level_is spot x n same most = record {
    counts = most.counts;
    inside = most.inside;
    reached =
        let e : x ≡ pos (sum most.counts) = (number_is spot x most).0 in omega (arith, ints, e, same);
    none_more = λ other at.
        let e : sum_at rows other ≡ pos (sum other) = (summed spot other at).0 in
        let le : sum_at rows other ≤ℤ x = most.most other at in
        omega (arith, ints, e, le, same);
  }

  pub level_numbers : (spots : List Spot) (no_spot : Spot) (sums : List ℤ) → total c ≤ event_limit * process_limit
      → AreMost c spots rows sums → AreLevelNumbers sums
  level_numbers spots no_spot sums few most k lt =
      let n = number_is (get_or spots k no_spot) (get_or sums k (pos 0))
      (most.each k no_spot (omega (arith, lt, most.one_each))) in
      let m : ℕ = sum (most.each k no_spot (omega (arith, lt, most.one_each))).counts in
      let e : get_or sums k (pos 0) ≡ pos m = n.0 in
      let le : m ≤ total c = n.1 in
      (omega (arith, ints, e), omega (arith, ints, e, le, few))

  pub levels_are : (spots : List Spot) (sums : List ℤ) (levels : List ℕ) → AreMost c spots rows sums
      → AreSame sums levels → AreLevels c spots levels
  levels_are spots sums levels most same = record {
    one_each = same.one_each ∙ most.one_each;
    each = λ k d lt.
        level_is (get_or spots k d) (get_or sums k (pos 0)) (get_or levels k 0)
        (same.each k (omega (arith, lt, most.one_each))) (most.each k d lt);
  }
