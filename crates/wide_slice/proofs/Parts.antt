-- The steps of one process, one after another.
use Rattle.std.proofs.Common.{◌≡◌, ℕ, ◌+◌, ◌<◌, ◌≤◌, Bool, true, false, cond, List, [], ◌∷◌, ◌++◌, length, ℤ, ◌-ℤ◌, ◌≤ℤ◌, refl, sym, ap, ◌∙◌, subst, append_assoc, arith}
use Rattle.std.specs.Prelude.{nat_le, unsigned_abs}
use Rattle.std.proofs.lemmas.Bool.{cond-false, cond-true, false≢true, le-leb, lt-leb}
use Rattle.std.proofs.lemmas.Int.{ints}
use Rattle.std.proofs.lemmas.List.{length_push}
use Rattle.wide_flow.specs.Steps.{no_step, size_limit}
use Rattle.wide_flow.specs.declared.step.Step.{Step}
use Rattle.wide_flow.proofs.Lists.{push_each}
use Rattle.wide_slice.specs.Parts.{AreInOrder, IsChain, IsPartUpTo, IsStepOf, kept_to, last_kept}
use Rattle.wide_slice.specs.Points.{count_at, flag, past_at}
use Rattle.wide_slice.specs.declared.points.Point.{Point}
use Rattle.wide_slice.proofs.Lists.{one_more}

module _ (v : ℕ → ℤ) where
  pub last_after : (low : ℕ) (part : List Step) → IsChain v low part → low ≤ last_kept low part
  last_after low [] chain = omega arith
  last_after low (step ∷ part) (lt, weight, chain) =
      let up : step.count ≤ last_kept step.count part = last_after step.count part chain in
      omega (arith, lt, up)

  -- the last one up to a number that is no less than all is the last of all
  pub kept_last : (low : ℕ) (part : List Step) → IsChain v low part → (count : ℕ) → last_kept low part ≤ count
      → kept_to low part count ≡ last_kept low part
  kept_last low [] chain count le = refl
  kept_last low (step ∷ part) (lt, weight, chain) count le =
      let up : step.count ≤ last_kept step.count part = last_after step.count part chain in
      cond-true (nat_le step.count count) (kept_to step.count part count) low
      (le-leb step.count count (omega (arith, up, le)))
      ∙ kept_last step.count part chain count le

  pub chain_push : (low : ℕ) (part : List Step) (step : Step) → IsChain v low part → last_kept low part < step.count
      → step.weight ≡ v step.count -ℤ v (last_kept low part) → IsChain v low (part ++ step ∷ [])
  chain_push low [] step chain lt weight = (lt, weight, tt)
  chain_push low (first ∷ part) step (up, rise, chain) lt weight =
      (up, rise, chain_push first.count part step chain lt weight)

pub last_push : (low : ℕ) (part : List Step) (step : Step) → last_kept low (part ++ step ∷ []) ≡ step.count
last_push low [] step = refl
last_push low (first ∷ part) step = last_push first.count part step

-- a step after a number changes nothing up to it
pub kept_push : (low : ℕ) (part : List Step) (step : Step) (count : ℕ) → count < step.count
    → kept_to low (part ++ step ∷ []) count ≡ kept_to low part count
kept_push low [] step count lt = cond-false (nat_le step.count count) step.count low (lt-leb step.count count lt)
kept_push low (first ∷ part) step count lt =
    ap (λ (n : ℕ). cond (nat_le first.count count) n low) (kept_push first.count part step count lt)

-- The steps of the first `many` points of process p were added, and the number of the last one is `high`.
pub record IsAddedUpTo (points : List Point) (flags : List Bool) (v : ℕ → ℤ) (p low many : ℕ) (old new : List Step)
    (high : ℤ) : Type 0 where
  pub part : List Step
  pub steps_are : new ≡ old ++ part
  pub is : IsPartUpTo points flags v p low many part
  pub high_is : high ≡ v (last_kept low part)

module _ (points : List Point) (flags : List Bool) (v : ℕ → ℤ) (p low : ℕ) (ordered : AreInOrder points)
    (old : List Step) (many : ℕ) (lt : many < length points) (new : List Step) (high : ℤ)
    (so_far : IsAddedUpTo points flags v p low many old new high) where
  later_than : (k : ℕ) → many + 1 ≤ k → k < length points → last_kept low so_far.part < count_at points k
  later_than k le there = so_far.is.later k (omega (arith, le)) there

  -- the point is idle
  pub added_skip : (number : ℤ) → number ≡ v (count_at points many) → number ≤ℤ high
      → flag flags (count_at points many) ≡ false → IsAddedUpTo points flags v p low (many + 1) old new high
  added_skip number same no_more unmarked = record {
    part = so_far.part;
    steps_are = so_far.steps_are;
    is = record {
      few = omega (arith, so_far.is.few);
      each = so_far.is.each;
      chain = so_far.is.chain;
      later = later_than;
      high =
          one_more (λ k. v (count_at points k) ≤ℤ v (kept_to low so_far.part (count_at points k))) many
          so_far.is.high here;
      asked =
          one_more
          (λ k. flag flags (count_at points k) ≡ true
          → kept_to low so_far.part (count_at points k) ≡ count_at points k) many
          so_far.is.asked (λ marked. absurd (false≢true (sym unmarked ∙ marked)));
    };
    high_is = so_far.high_is;
  }
    where
      last : kept_to low so_far.part (count_at points many) ≡ last_kept low so_far.part
      last =
          let up : last_kept low so_far.part < count_at points many =
          so_far.is.later many (omega arith) lt in
          kept_last v low so_far.part so_far.is.chain (count_at points many) (omega (arith, up))

      here : v (count_at points many) ≤ℤ v (kept_to low so_far.part (count_at points many))
      here =
          subst (λ (s : ℤ × ℤ). s.0 ≤ℤ s.1) (λ i. (same i, (so_far.high_is ∙ ap v (sym last)) i)) no_more

  -- the point is kept
  pub added_more : (number : ℤ) → number ≡ v (count_at points many) → (step : Step) → step.process ≡ p
      → step.count ≡ count_at points many → step.past.now ≡ past_at points many
      → step.weight ≡ number -ℤ high → unsigned_abs step.weight < size_limit
      → IsAddedUpTo points flags v p low (many + 1) old (new ++ step ∷ []) number
  added_more number same step own count_is past_is weight small = record {
    part = so_far.part ++ step ∷ [];
    steps_are =
        ap (λ (steps : List Step). steps ++ step ∷ []) so_far.steps_are
        ∙ append_assoc old so_far.part (step ∷ []);
    is = record {
      few = omega (arith, so_far.is.few, length_push so_far.part step);
      each =
          push_each (IsStepOf points p) so_far.part step no_step so_far.is.each
          (record {
            own = own;
            small = small;
            place = many;
            there = lt;
            count_is = count_is;
            past_is = past_is;
          });
      chain = chain;
      later = λ k le there.
          let order : count_at points many < count_at points k = ordered many k (omega (arith, le)) there in
          omega (arith, order, count_is, last_push low so_far.part step);
      high =
          one_more (λ k. v (count_at points k) ≤ℤ v (kept_to low (so_far.part ++ step ∷ []) (count_at points k))) many
          (λ k less.
          subst (λ (n : ℕ). v (count_at points k) ≤ℤ v n) (sym (stays k less)) (so_far.is.high k less))
          (subst (λ (n : ℕ). v (count_at points many) ≤ℤ v n) (sym here) (omega (arith, ints)));
      asked =
          one_more
          (λ k. flag flags (count_at points k) ≡ true
          → kept_to low (so_far.part ++ step ∷ []) (count_at points k) ≡ count_at points k) many
          (λ k less marked. stays k less ∙ so_far.is.asked k less marked) (λ marked. here);
    };
    high_is = same ∙ ap v (sym (last_push low so_far.part step ∙ count_is));
  }
    where
      after : last_kept low so_far.part < step.count
      after =
          let up : last_kept low so_far.part < count_at points many = so_far.is.later many (omega arith) lt in
          omega (arith, up, count_is)

      chain : IsChain v low (so_far.part ++ step ∷ [])
      chain =
          chain_push v low so_far.part step so_far.is.chain after
          (weight ∙ (λ i. (same ∙ ap v (sym count_is)) i -ℤ so_far.high_is i))

      stays : (k : ℕ) → k < many
          → kept_to low (so_far.part ++ step ∷ []) (count_at points k) ≡ kept_to low so_far.part (count_at points k)
      stays k less =
          let order : count_at points k < count_at points many = ordered k many less lt in
          kept_push low so_far.part step (count_at points k) (omega (arith, order, count_is))

      here : kept_to low (so_far.part ++ step ∷ []) (count_at points many) ≡ count_at points many
      here =
          kept_last v low (so_far.part ++ step ∷ []) chain (count_at points many)
          (omega (arith, last_push low so_far.part step, count_is))
          ∙ (last_push low so_far.part step ∙ count_is)
