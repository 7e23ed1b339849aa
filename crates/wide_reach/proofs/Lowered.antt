-- A bound is lowered, one process after another.
use Rattle.std.proofs.Common.{◌≡◌, ◌≢◌, ℕ, zero, suc, ◌+◌, ◌<◌, ◌≤◌, Bool, min, List, [], ◌∷◌, length, get_or, map, set, Option, Some, None, refl, sym, ap, ◌∙◌, subst, inl, inr, ◌⊎◌, arith, length-set}
use Rattle.std.specs.Prelude.{MatchOption, unwrap_or}
use Rattle.std.proofs.lemmas.Bool.{cases_eq, cases_lt}
use Rattle.std.proofs.lemmas.Grind.{same_number_lists}
use Rattle.std.proofs.lemmas.List.{get_or-set_other, get_or-set_same, length-map}
use Rattle.def_model.specs.Answers.{LexBelow}
use Rattle.def_model.specs.Lattice.{IsWithin}
use Rattle.def_wide.specs.Heights.{IsLowerThan, height}
use Rattle.wide_conjunctions.proofs.CutsInOrder.{lex_at}
use Rattle.wide_flow.specs.Steps.{step_at}
use Rattle.wide_flow.specs.declared.step.Step.{Step}
use Rattle.wide_slice.specs.Steps.{ArePastsWithin}
use Rattle.wide_reach.specs.declared.key.Key.TheVariants.{Height, Count}
use Rattle.wide_reach.specs.Bounds.{IsEnough, IsLeastKey, IsLowestBound, Reaches}
use Rattle.wide_reach.specs.Lowering.{AgreesUpTo, IsAfter, IsLowered}
use Rattle.wide_reach.proofs.CountKeys.{height-ge, height-le, height_within}

-- a set whose pasts are within one bound has them within another
pub widened : (steps : List Step) (target : ℕ) (a b : List ℕ) (chosen : ℕ → ℕ → Bool) → IsEnough steps target a chosen
    → ArePastsWithin steps chosen b → IsEnough steps target b chosen
widened steps target a b chosen is within = record { closed = is.closed; within = within; enough = is.enough }

cut_at : (full : List ℕ) (high q : ℕ) → get_or (map (λ count. min count high) full) q 0 ≡ min (get_or full q 0) high
cut_at [] high q = omega arith
cut_at (count ∷ full) high zero = refl
cut_at (count ∷ full) high (suc q) = cut_at full high q

module _ (steps : List Step) (target : ℕ) (full : List ℕ) (high : ℕ)
    (least : IsLeastKey steps target full Height high) where
  none_lower : (other : List ℕ) → IsWithin other full → Reaches steps target other → high ≤ height other
  none_lower other within (chosen, is) = go (cases_lt (height other) high)
    where
      go : (height other < high) ⊎ (high ≤ height other) → high ≤ height other
      go (inr ge) = ge
      go (inl less) =
          absurd (least.least (height other) less (
            chosen,
            widened steps target other full chosen is (λ e lt has q.
                let i = is.within e lt has q in let j = within q in omega (arith, i, j)),
            λ e lt has. height_within (step_at steps e).past.now other (is.within e lt has),
          ))

  start_reaches : (bound : List ℕ) → ((q : ℕ) → get_or bound q 0 ≡ min (get_or full q 0) high)
      → Reaches steps target bound
  start_reaches bound each =
      let (chosen, is, up_to) = least.reached in (
        chosen,
        widened steps target full bound chosen is (λ e lt has q.
            let i = is.within e lt has q in
            let j = up_to e lt has in
            let k = height-ge (step_at steps e).past.now q in
            let l = each q in
            omega (arith, i, j, k, l)),
      )

  -- at the beginning the counts are no greater than the height
  pub lowered_none : (bound : List ℕ) → bound ≡ map (λ count. min count high) full
      → IsLowered steps target full high bound 0
  lowered_none bound is =
      let each : (q : ℕ) → get_or bound q 0 ≡ min (get_or full q 0) high =
      λ q. ap (λ (xs : List ℕ). get_or xs q 0) is ∙ cut_at full high q in
      record {
        one_each = ap (λ (xs : List ℕ). length xs) is ∙ length-map full (λ count. min count high);
        within = λ q. let i = each q in omega (arith, i);
        up_to = λ q. let i = each q in omega (arith, i);
        rest = λ q le. each q;
        reaches = start_reaches bound each;
        no_lower = λ other same within reaches. none_lower other within reaches;
        first = λ other same within reaches low. inl (λ q lt. absurd (omega arith));
      }

module _ (steps : List Step) (target : ℕ) (full : List ℕ) (high : ℕ) (bound : List ℕ) (p k : ℕ)
    (lowered : IsLowered steps target full high bound p) (there : p < length full)
    (least : IsLeastKey steps target bound (Count p) k) where
  no_more : k ≤ get_or bound p 0
  no_more = go (cases_lt (get_or bound p 0) k)
    where
      go : (get_or bound p 0 < k) ⊎ (k ≤ get_or bound p 0) → k ≤ get_or bound p 0
      go (inr le) = le
      go (inl less) =
          let (chosen, is, up_to) = least.reached in
          absurd (least.least (get_or bound p 0) less (chosen, is, λ e lt has. is.within e lt has p))

  at_place : get_or (set bound p k) p 0 ≡ k
  at_place = get_or-set_same bound p k 0 (omega (arith, there, lowered.one_each))

  elsewhere : (q : ℕ) → q ≢ p → get_or (set bound p k) q 0 ≡ get_or bound q 0
  elsewhere q apart = get_or-set_other bound p q k 0 apart

  no_greater : (q : ℕ) → get_or (set bound p k) q 0 ≤ get_or bound q 0
  no_greater q = go (cases_eq q p)
    where
      go : (q ≡ p) ⊎ (q ≢ p) → get_or (set bound p k) q 0 ≤ get_or bound q 0
      go (inl same) =
          subst (λ (r : ℕ). get_or (set bound p k) r 0 ≤ get_or bound r 0) (sym same)
          (omega (arith, at_place, no_more))
      go (inr apart) = omega (arith, elsewhere q apart)

  held : (past : List ℕ) → IsWithin past bound → get_or past p 0 ≤ k → IsWithin past (set bound p k)
  held past within le q = go (cases_eq q p)
    where
      go : (q ≡ p) ⊎ (q ≢ p) → get_or past q 0 ≤ get_or (set bound p k) q 0
      go (inl same) =
          subst (λ (r : ℕ). get_or past r 0 ≤ get_or (set bound p k) r 0) (sym same) (omega (arith, at_place, le))
      go (inr apart) = let i = within q in omega (arith, elsewhere q apart, i)

  still_reaches : Reaches steps target (set bound p k)
  still_reaches =
      let (chosen, is, up_to) = least.reached in (
        chosen,
        widened steps target bound (set bound p k) chosen is (λ e lt has.
            held (step_at steps e).past.now (is.within e lt has) (up_to e lt has)),
      )

  -- what agrees with the bound so far has no lesser count here
  no_less : (other : List ℕ) → IsWithin other full → Reaches steps target other → height other ≤ high
      → AgreesUpTo other bound p → k ≤ get_or other p 0
  no_less other within (chosen, is) low agrees = go (cases_lt (get_or other p 0) k)
    where
      inside : (q : ℕ) → (q < p) ⊎ (p ≤ q) → get_or other q 0 ≤ get_or bound q 0
      inside q (inl less) = omega (arith, agrees q less)
      inside q (inr ge) =
          let i = within q in
          let j = height-ge other q in
          let l = lowered.rest q ge in
          omega (arith, i, j, l, low)

      go : (get_or other p 0 < k) ⊎ (k ≤ get_or other p 0) → k ≤ get_or other p 0
      go (inr le) = le
      go (inl less) =
          absurd (least.least (get_or other p 0) less (
            chosen,
            widened steps target other bound chosen is (λ e lt has q.
                let i = is.within e lt has q in let j = inside q (cases_lt q p) in omega (arith, i, j)),
            λ e lt has. is.within e lt has p,
          ))

  agrees_before : (other : List ℕ) (n : ℕ) → n ≤ p → AgreesUpTo other bound n → AgreesUpTo other (set bound p k) n
  agrees_before other n le agrees q less = agrees q less ∙ sym (elsewhere q (λ same. omega (arith, same, le, less)))

  compared : (other : List ℕ) → AgreesUpTo other bound p → k ≤ get_or other p 0
      → (k ≡ get_or other p 0) ⊎ (k ≢ get_or other p 0)
      → AgreesUpTo other (set bound p k) (p + 1) ⊎ IsAfter other (set bound p k) (p + 1)
  compared other agrees le (inl same) =
      inl (λ q less. go q (cases_eq q p) (λ apart. agrees_before other p (omega arith) agrees q (omega arith)))
    where
      go : (q : ℕ) → (q ≡ p) ⊎ (q ≢ p) → (q ≢ p → get_or other q 0 ≡ get_or (set bound p k) q 0)
          → get_or other q 0 ≡ get_or (set bound p k) q 0
      go q (inl here) before =
          subst (λ (r : ℕ). get_or other r 0 ≡ get_or (set bound p k) r 0) (sym here) (sym same ∙ sym at_place)
      go q (inr apart) before = before apart
  compared other agrees le (inr apart) =
      inr (p, omega arith, omega (arith, at_place, le, apart), agrees_before other p (omega arith) agrees)

  later : (other : List ℕ) → IsWithin other full → Reaches steps target other → height other ≤ high
      → AgreesUpTo other bound p ⊎ IsAfter other bound p
      → AgreesUpTo other (set bound p k) (p + 1) ⊎ IsAfter other (set bound p k) (p + 1)
  later other within reaches low (inl agrees) =
      compared other agrees (no_less other within reaches low agrees) (cases_eq k (get_or other p 0))
  later other within reaches low (inr (q, less, above, agrees)) =
      inr (
        q,
        omega arith,
        omega (arith, above, elsewhere q (λ same. omega (arith, same, less))),
        agrees_before other q (omega arith) agrees,
      )

  -- one process more
  pub lowered_more : IsLowered steps target full high (set bound p k) (p + 1)
  lowered_more = record {
    one_each = length-set bound p k ∙ lowered.one_each;
    within = λ q. let i = no_greater q in let j = lowered.within q in omega (arith, i, j);
    up_to = λ q. let i = no_greater q in let j = lowered.up_to q in omega (arith, i, j);
    rest = λ q le. elsewhere q (λ same. omega (arith, same, le)) ∙ lowered.rest q (omega arith);
    reaches = still_reaches;
    no_lower = lowered.no_lower;
    first = λ other same within reaches low.
        later other within reaches low (lowered.first other same within reaches low);
  }

-- the count that was found is put in its place
pub lowered_by : (steps : List Step) (target : ℕ) (full : List ℕ) (high : ℕ) (bound : List ℕ) (p : ℕ)
    (count : Option ℕ) (kept new : ℕ) → IsLowered steps target full high bound p → p < length full
    → MatchOption count (¬ Reaches steps target bound) (IsLeastKey steps target bound (Count p))
    → new ≡ unwrap_or count kept → IsLowered steps target full high (set bound p new) (p + 1)
lowered_by steps target full high bound p None kept new lowered there none same = absurd (none lowered.reaches)
lowered_by steps target full high bound p (Some k) kept new lowered there least is =
    subst (λ (n : ℕ). IsLowered steps target full high (set bound p n) (p + 1)) (sym is)
    (lowered_more steps target full high bound p k lowered there least)

-- after the last process no other bound is as low
pub lowered_all : (steps : List Step) (target : ℕ) (full : List ℕ) (high : ℕ) (bound : List ℕ) (n : ℕ)
    → IsLowered steps target full high bound n → n ≡ length full → IsLowestBound steps target full bound
lowered_all steps target full high bound n lowered all =
    record {
      one_each = lowered.one_each;
      within = lowered.within;
      reaches = lowered.reaches;
      lowest = λ other same within reaches apart.
          go other same within reaches apart (cases_lt high (height other));
    }
  where
    low : height bound ≤ high
    low = height-le bound high lowered.up_to

    as_high : high ≤ height bound
    as_high = lowered.no_lower bound lowered.one_each lowered.within lowered.reaches

    after : (other : List ℕ) → length other ≡ length full → ¬ (other ≡ bound)
        → AgreesUpTo other bound n ⊎ IsAfter other bound n → LexBelow bound other
    after other same apart (inl agrees) =
        absurd (apart (same_number_lists other bound (same ∙ sym lowered.one_each) (λ q lt.
        agrees q (omega (arith, lt, same, all)))))
    after other same apart (inr (q, less, above, agrees)) =
        (lex_at bound other q (lowered.one_each ∙ sym same) (omega (arith, less, lowered.one_each, all))
        (λ r lt. sym (agrees r lt)) (λ e. omega (arith, e, above))).0 above

    go : (other : List ℕ) → length other ≡ length full → IsWithin other full → Reaches steps target other
        → ¬ (other ≡ bound) → (high < height other) ⊎ (height other ≤ high) → IsLowerThan bound other
    go other same within reaches apart (inl less) = inl (omega (arith, low, less))
    go other same within reaches apart (inr le) =
        inr (
          omega (arith, low, as_high, le, lowered.no_lower other same within reaches),
          after other same apart (lowered.first other same within reaches le),
        )
