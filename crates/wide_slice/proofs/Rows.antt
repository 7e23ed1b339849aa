-- The points of a process, one after another.
use Rattle.std.proofs.Common.{◌≡◌, ℕ, ◌+◌, ◌<◌, ◌≤◌, Bool, List, [], ◌∷◌, ◌++◌, length, get_or, refl, sym, ap, ◌∙◌, subst, ◌⊎◌, inl, inr, arith}
use Rattle.std.proofs.lemmas.Bool.{cases_lt}
use Rattle.std.proofs.lemmas.List.{length_push}
use Rattle.def_format.specs.Limits.{event_limit}
use Rattle.def_model.specs.Events.{Computation, event_count}
use Rattle.wide_conjunctions.specs.LeastCuts.{HasNoGood, IsLeastGood}
use Rattle.wide_conjunctions.specs.Raises.{IsBelowGood}
use Rattle.wide_slice.specs.Goods.{IsInside, good_from}
use Rattle.wide_slice.specs.Points.{IsPoint, IsRow, count_at, past_at}
use Rattle.wide_slice.specs.declared.points.Point.{Point}
use Rattle.wide_slice.proofs.Goods.{count_there, good_there, good_up, least_there}
use Rattle.wide_slice.proofs.Lists.{point_each, push_last, push_left}

-- the points of process p with counts below `from`, and counts from which to go up to the next one
pub record IsRowUpTo (c : Computation) (good : ℕ → ℕ → Bool) (p low : ℕ) (points : List Point) (from : ℕ)
    (counts : List ℕ) : Type 0 where
  pub below : IsBelowGood c (good_from good p from) counts
  pub few : length points < from
  pub high : from ≤ event_count c p + 1
  pub after : low < from
  pub last : (k : ℕ) → k < length points → count_at points k < from
  pub each : (k : ℕ) → k < length points → IsLeastGood c (good_from good p (count_at points k)) (past_at points k)
  pub own : (k : ℕ) → k < length points → get_or (past_at points k) p 0 ≡ count_at points k
  pub above : (k : ℕ) → k < length points → low < count_at points k
  pub ordered : (i j : ℕ) → i < j → j < length points → count_at points i < count_at points j
  pub all : (cut : List ℕ) → IsInside c good cut → get_or cut p 0 < from
      → (get_or cut p 0 ≡ low) ⊎ ((k : ℕ) × (k < length points) × (count_at points k ≡ get_or cut p 0))

module _ (c : Computation) (good : ℕ → ℕ → Bool) (p : ℕ) (there : p < length c) where
  module _ (low : ℕ) (points : List Point) (from : ℕ) (counts : List ℕ)
      (so_far : IsRowUpTo c good p low points from counts) where
    -- one point more
    row_more : (point : Point) (new : List ℕ) → IsPoint c good p from new point
        → IsRowUpTo c good p low (points ++ point ∷ []) (point.count + 1) new
    row_more point new is = record {
      below = record {
        consistent = is.least.consistent;
        below = λ other ok all.
            is.least.least other ok
            (good_up good p from other (good_there good p (point.count + 1) other all) (omega (
              arith,
              up,
              count_there good p (point.count + 1) other (subst (λ (n : ℕ). p < n) (sym ok.fits.one_each) there) all,
            )));
      };
      few = omega (arith, length_push points point, so_far.few, up);
      high = let within : get_or new p 0 ≤ event_count c p = is.least.consistent.fits.within p in
          omega (arith, within, is.own);
      after = omega (arith, so_far.after, up);
      last =
          point_each (λ k n past. n < point.count + 1) points point
          (λ k lt. let low : count_at points k < from = so_far.last k lt in omega (arith, low, up)) (omega arith);
      each = point_each (λ k n past. IsLeastGood c (good_from good p n) past) points point so_far.each new_least;
      own = point_each (λ k n past. get_or past p 0 ≡ n) points point so_far.own new_own;
      above =
          point_each (λ k n past. low < n) points point so_far.above (omega (arith, so_far.after, up));
      ordered = λ i j less lt. point_each later points point old_order new_order j lt i less;
      all = λ cut inside lt. all cut inside lt (cases_lt (get_or cut p 0) from);
    }
      where
        in_new : p < length new
        in_new = subst (λ (n : ℕ). p < n) (sym is.least.consistent.fits.one_each) there

        up : from ≤ point.count
        up = let le : from ≤ get_or new p 0 = count_there good p from new in_new is.least.good_there in
            omega (arith, le, is.own)

        new_own : get_or point.past p 0 ≡ point.count
        new_own = ap (λ (xs : List ℕ). get_or xs p 0) is.past_is ∙ is.own

        new_least : IsLeastGood c (good_from good p point.count) point.past
        new_least =
            subst (λ (s : ℕ × List ℕ). IsLeastGood c (good_from good p s.0) s.1)
            (λ i. (is.own i, sym is.past_is i)) (least_there c good p from new in_new is.least)

        later : ℕ → ℕ → List ℕ → Type 0
        later j n past = (i : ℕ) → i < j → count_at (points ++ point ∷ []) i < n

        count_old : (i : ℕ) → i < length points → count_at (points ++ point ∷ []) i ≡ count_at points i
        count_old i lt = push_left (λ (x : Point). x.count) points point 0 i lt

        old_order : (j : ℕ) → j < length points → (i : ℕ) → i < j
            → count_at (points ++ point ∷ []) i < count_at points j
        old_order j lt i less =
            let order : count_at points i < count_at points j = so_far.ordered i j less lt in
            omega (arith, order, count_old i (omega (arith, less, lt)))

        new_order : (i : ℕ) → i < length points → count_at (points ++ point ∷ []) i < point.count
        new_order i lt =
            let before : count_at points i < from = so_far.last i lt in omega (arith, before, up, count_old i lt)

        all : (cut : List ℕ) → IsInside c good cut → get_or cut p 0 < point.count + 1
            → (get_or cut p 0 < from) ⊎ (from ≤ get_or cut p 0)
            → (get_or cut p 0 ≡ low) ⊎ ((k : ℕ) × (k < length (points ++ point ∷ []))
            × (count_at (points ++ point ∷ []) k ≡ get_or cut p 0))
        all cut inside lt (inl before) =
            elim (so_far.all cut inside before) [
              | inl same ↦ inl same
              | inr w ↦ inr (w.0, omega (arith, w.1, length_push points point), count_old w.0 w.1 ∙ w.2)
            ]
        all cut inside lt (inr after) =
            let within : get_or new p 0 ≤ get_or cut p 0 =
            is.least.least cut inside.0 (good_up good p from cut inside.1 after) p in
            inr (
              length points,
              omega (arith, length_push points point),
              push_last (λ (x : Point). x.count) points point 0 (length points) refl ∙ omega (
                arith,
                within,
                is.own,
                lt,
              ),
            )

    -- so it is for the list to which it was pushed
    pub row_next : (point : Point) (new : List ℕ) → IsPoint c good p from new point → (pushed : List Point)
        → pushed ≡ points ++ point ∷ [] → IsRowUpTo c good p low pushed (point.count + 1) new
    row_next point new is pushed same =
        subst (λ (xs : List Point). IsRowUpTo c good p low xs (point.count + 1) new) (sym same) (row_more point new is)

    row_done : event_count c p ≤ event_limit
        → ((cut : List ℕ) → IsInside c good cut → get_or cut p 0 < from) → IsRow c good p low points
    row_done short none = record {
      few = omega (arith, so_far.few, so_far.high, short);
      each = so_far.each;
      own = so_far.own;
      above = so_far.above;
      ordered = so_far.ordered;
      all = λ cut inside. so_far.all cut inside (none cut inside);
    }

    -- no cut of the slice has this count or more
    pub row_ended : event_count c p ≤ event_limit → HasNoGood c (good_from good p from) → IsRow c good p low points
    row_ended short none = row_done short (λ cut inside. go cut inside (cases_lt (get_or cut p 0) from))
      where
        go : (cut : List ℕ) → IsInside c good cut → (get_or cut p 0 < from) ⊎ (from ≤ get_or cut p 0)
            → get_or cut p 0 < from
        go cut inside (inl lt) = lt
        go cut inside (inr le) = absurd (none cut inside.0 (good_up good p from cut inside.1 le))

-- a process has no more events than that
pub count_within : (c : Computation) (good : ℕ → ℕ → Bool) (p low : ℕ) (points : List Point) → IsRow c good p low points
    → (k : ℕ) → k < length points → count_at points k ≤ event_count c p
count_within c good p low points row k lt =
    let within : get_or (past_at points k) p 0 ≤ event_count c p = (row.each k lt).consistent.fits.within p in
    omega (arith, within, row.own k lt)
