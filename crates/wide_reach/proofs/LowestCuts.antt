-- The lowest bound within which a closed set of steps reaches what is lacking is the lowest cut.
use Rattle.std.proofs.Common.{◌≡◌, ℕ, suc, ◌<◌, Bool, true, false, cond, List, [], ◌∷◌, length, get_or, Option, Some, None, ℤ, pos, ◌+ℤ◌, ◌≤ℤ◌, refl, sym, ap, ◌∙◌, subst, inl, inr, ◌⊎◌, arith}
use Rattle.std.specs.Global.{Global}
use Rattle.std.specs.Prelude.{MatchOption, Vec, is_some}
use Rattle.std.proofs.lemmas.Int.{ints}
use Rattle.def_model.specs.Events.{Computation}
use Rattle.def_model.specs.Lattice.{IsWithin}
use Rattle.def_model.proofs.Counts.{same_or_below}
use Rattle.wide_conjunctions.specs.LeastCuts.{IsLeastGood}
use Rattle.wide_flow.specs.Steps.{step_at}
use Rattle.wide_flow.specs.declared.step.Step.{Step}
use Rattle.wide_slice.specs.Steps.{AreStepsOf, HasStep, weight_of}
use Rattle.wide_slice.specs.Values.{sum_at}
use Rattle.wide_reach.specs.declared.key.Key.{Key}
use Rattle.wide_reach.specs.Bounds.{AreUnordered, IsFull, IsLeastKey, IsLowestBound, Reaches}
use Rattle.wide_reach.specs.Reaches.{HasNoneWith, HasTotal, IsLowestWith}
use Rattle.wide_reach.proofs.CountKeys.{not_lower, within_lower}
use Rattle.wide_reach.proofs.Lowered.{widened}

-- a set that adds something has a step
some_step : (set : ℕ → ℕ → Bool) (steps : List Step) → pos 1 ≤ℤ weight_of set steps
    → (e : ℕ) × (e < length steps) × HasStep set (step_at steps e)
some_step set [] more = absurd (omega (arith, ints))
some_step set (step ∷ steps) more = go (set step.process step.count) refl more (some_step set steps)
  where
    go : (b : Bool) → set step.process step.count ≡ b → pos 1 ≤ℤ (cond b step.weight (pos 0) +ℤ weight_of set steps)
        → (pos 1 ≤ℤ weight_of set steps → (e : ℕ) × (e < length steps) × HasStep set (step_at steps e))
        → (e : ℕ) × (e < length (step ∷ steps)) × HasStep set (step_at (step ∷ steps) e)
    go true is some rest = (0, omega arith, is)
    go false is some rest = let later = rest (omega (arith, ints)) in (suc later.0, omega (arith, later.1), later.2)

-- the steps of a slice, as they are handed over with the counts of all events
pub unordered : (c : Computation) (good : ℕ → ℕ → Bool) (values : List (Vec ℤ Global)) (least : List ℕ)
    (steps steps' : List Step) (full full' : List ℕ) → AreStepsOf c good values least steps → IsFull c full
    → steps' ≡ steps → full' ≡ full → AreUnordered (length full') steps'
unordered c good values least steps steps' full full' are all same_steps same_full =
    subst (λ (t : List ℕ × List Step). AreUnordered (length t.0) t.1) (λ i. (sym same_full i, sym same_steps i))
    record {
      few = are.few;
      small = are.small;
      there = λ i lt. omega (arith, are.there i lt, all.one_each);
      one_each = λ i lt. are.one_each i lt ∙ sym all.one_each;
      own = are.own;
      transitive = are.transitive;
    }

enough_from : (lack : ℕ) (total first sum weight : ℤ) → total ≡ first +ℤ pos lack → total ≤ℤ sum
    → sum ≤ℤ (first +ℤ weight) → pos lack ≤ℤ weight
enough_from lack total first sum weight is le up = omega (arith, ints)

enough_at : (lack : ℕ) (total first sum weight : ℤ) → total ≡ first +ℤ pos lack → sum ≡ first +ℤ weight
    → pos lack ≤ℤ weight → total ≤ℤ sum
enough_at lack total first sum weight is same le = omega (arith, ints)

one_at_least : (lack : ℕ) (weight : ℤ) → 0 < lack → pos lack ≤ℤ weight → pos 1 ≤ℤ weight
one_at_least lack weight some le = omega (arith, ints)

module _ (c : Computation) (good : ℕ → ℕ → Bool) (values : List (Vec ℤ Global)) (least : List ℕ) (steps : List Step)
    (are : AreStepsOf c good values least steps) (total : ℤ) (lack : ℕ)
    (lacks : (0 < lack) × (total ≡ sum_at values least +ℤ pos lack)) (full : List ℕ) (all : IsFull c full) where
  within_full : (cut : List ℕ) → HasTotal c good values total cut → IsWithin cut full
  within_full cut has q = let i = has.0.0.fits.within q in let j = all.each q in omega (arith, i, j)

  -- the steps up to a cut with the total are enough
  reaches_cut : (cut : List ℕ) → HasTotal c good values total cut → Reaches steps lack cut
  reaches_cut cut has =
      let (set, closed, within, up) = are.from_cut cut has.0 in (
        set,
        record {
          closed = closed;
          within = within;
          enough =
              enough_from lack total (sum_at values least) (sum_at values cut) (weight_of set steps) lacks.1 has.1 up;
        },
      )

  -- and where enough steps have pasts within a bound, such a cut is within it
  cut_within : (bound : List ℕ) → Reaches steps lack bound
      → (cut : List ℕ) × HasTotal c good values total cut × IsWithin cut bound
  cut_within bound (set, is) =
      let (e, lt, has) = some_step set steps (one_at_least lack (weight_of set steps) lacks.0 is.enough) in
      let above : IsWithin least bound =
      λ q. let i = are.after_least e lt q in let j = is.within e lt has q in omega (arith, i, j) in
      let (cut, inside, within, same) = are.to_cut set is.closed bound above is.within in (
        cut,
        (
          inside,
          enough_at lack total (sum_at values least) (sum_at values cut) (weight_of set steps) lacks.1 same
              is.enough,
        ),
        within,
      )

  pub none_with : ¬ Reaches steps lack full → HasNoneWith c good values total
  none_with none cut has =
      let (set, is) = reaches_cut cut has in
      none (
        set,
        widened steps lack cut full set is (λ e lt member q.
            let i = is.within e lt member q in let j = within_full cut has q in omega (arith, i, j)),
      )

  same_cut : (bound cut : List ℕ) → IsLowestBound steps lack full bound → HasTotal c good values total cut
      → IsWithin cut bound → cut ≡ bound
  same_cut bound cut lowest has within =
      go (same_or_below cut bound (long ∙ sym lowest.one_each) within)
    where
      long : length cut ≡ length full
      long = has.0.0.fits.one_each ∙ sym all.one_each

      go : (cut ≡ bound) ⊎ ((p : ℕ) × (p < length cut) × (get_or cut p 0 < get_or bound p 0)) → cut ≡ bound
      go (inl same) = same
      go (inr (p, lt, less)) =
          absurd (not_lower cut bound within
          (lowest.lowest cut long (within_full cut has) (reaches_cut cut has) (λ same.
          let e = ap (λ (xs : List ℕ). get_or xs p 0) same in omega (arith, e, less))))

  pub lowest_cut : (bound : List ℕ) → IsLowestBound steps lack full bound → IsLowestWith c good values total bound
  lowest_cut bound lowest =
      let (cut, has, within) = cut_within bound lowest.reaches in
      record {
        has =
            subst (λ (xs : List ℕ). HasTotal c good values total xs) (same_cut bound cut lowest has within) has;
        lowest = λ other there apart.
            lowest.lowest other (there.0.0.fits.one_each ∙ sym all.one_each) (within_full other there)
            (reaches_cut other there) apart;
      }

  -- what a least key says of the cuts
  pub some_with : (key : Key) (found : Option ℕ)
      → MatchOption found (¬ Reaches steps lack full) (IsLeastKey steps lack full key) → is_some found ≡ true
      → (cut : List ℕ) × HasTotal c good values total cut
  some_with key None none is = absurd (cc)
  some_with key (Some k) key_is is =
      let (set, enough, up_to) = key_is.reached in
      let (cut, has, within) = cut_within full (set, enough) in
      (cut, has)

  pub none_found : (key : Key) (found : Option ℕ)
      → MatchOption found (¬ Reaches steps lack full) (IsLeastKey steps lack full key) → is_some found ≡ false
      → HasNoneWith c good values total
  none_found key None none is = none_with none
  none_found key (Some k) key_is is = absurd (cc)

-- the least cut, if the sum reaches the total there
pub least_lowest : (c : Computation) (good : ℕ → ℕ → Bool) (values : List (Vec ℤ Global)) (total : ℤ) (least : List ℕ)
    → IsLeastGood c good least → total ≤ℤ sum_at values least → IsLowestWith c good values total least
least_lowest c good values total least is reached = record {
  has = ((is.consistent, is.good_there), reached);
  lowest = λ other has apart.
      within_lower least other (is.consistent.fits.one_each ∙ sym has.0.0.fits.one_each)
      (is.least other has.0.0 has.0.1) apart;
}
