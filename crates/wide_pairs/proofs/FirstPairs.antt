-- The first satisfying cut, one count of the first process more at a time.
use Rattle.std.proofs.Common.{◌≡◌, ℕ, ◌+◌, ◌<◌, ◌≤◌, ◌⊎◌, inl, inr, Bool, true, false, List, [], ◌∷◌, length, get_or, sum, Option, Some, None, IfSome, refl, sym, ap, ◌∙◌, subst, arith}
use Rattle.std.proofs.lemmas.Bool.{cases_lt, cases_order, false≢true}
use Rattle.def_model.specs.Answers.{LexBelow}
use Rattle.def_model.specs.Cuts.{IsConsistent, total}
use Rattle.def_model.specs.Events.{Computation, event_count}
use Rattle.def_model.specs.Lattice.{IsWithin}
use Rattle.def_model.proofs.Counts.{same_from_sum, sum_le}
use Rattle.def_model.proofs.Steps.{sum_within}
use Rattle.wide_conjunctions.specs.CutOrder.{ComesBefore}
use Rattle.wide_conjunctions.proofs.CutsInOrder.{before_onward}
use Rattle.wide_pairs.specs.FirstCuts.{ComesFirst, IsFirstAt, IsFirstSoFar}
use Rattle.wide_pairs.specs.LeastCuts.{IsLeastWithBoth}
use Rattle.wide_pairs.specs.Pairs.{IsFirstByPairs, IsNeverByPairs, IsPair}
use Rattle.wide_pairs.specs.Rows.{IsFirstTrue, IsRow}

-- ---- the order of two cuts

lex_cases : (xs ys : List ℕ) → length xs ≡ length ys → LexBelow xs ys ⊎ ((xs ≡ ys) ⊎ LexBelow ys xs)
lex_cases [] [] l = inr (inl refl)
lex_cases [] (y ∷ ys) l = absurd (omega arith)
lex_cases (x ∷ xs) [] l = absurd (omega arith)
lex_cases (x ∷ xs) (y ∷ ys) l = go (cases_order x y) (lex_cases xs ys (omega arith))
  where
    go : (x ≡ y) ⊎ ((x < y) ⊎ (y < x)) → LexBelow xs ys ⊎ ((xs ≡ ys) ⊎ LexBelow ys xs)
        → LexBelow (x ∷ xs) (y ∷ ys) ⊎ ((x ∷ xs ≡ y ∷ ys) ⊎ LexBelow (y ∷ ys) (x ∷ xs))
    go (inr (inl less)) r = inl (inl less)
    go (inr (inr more)) r = inr (inr (inl more))
    go (inl e) (inl b) = inl (inr (e, b))
    go (inl e) (inr (inl s)) = inr (inl (cc))
    go (inl e) (inr (inr b)) = inr (inr (inr (sym e, b)))

-- what isn't before another comes after it, or is it
pub first_if_not_after : (a b : List ℕ) → length a ≡ length b → ¬ ComesBefore b a → ComesFirst a b
first_if_not_after a b l not_before = go (cases_order (sum a) (sum b)) (lex_cases a b l)
  where
    go : (sum a ≡ sum b) ⊎ ((sum a < sum b) ⊎ (sum b < sum a)) → LexBelow a b ⊎ ((a ≡ b) ⊎ LexBelow b a)
        → ComesFirst a b
    go (inr (inl less)) r = inr (inl less)
    go (inr (inr more)) r = absurd (not_before (inl more))
    go (inl e) (inl below) = inr (inr (e, below))
    go (inl e) (inr (inl s)) = inl s
    go (inl e) (inr (inr below)) = absurd (not_before (inr (sym e, below)))

pub first_onward : (a b d : List ℕ) → ComesFirst a b → ComesFirst b d → ComesFirst a d
first_onward a b d (inl same) r = subst (λ (x : List ℕ). ComesFirst x d) (sym same) r
first_onward a b d (inr before) (inl same) = inr (subst (λ (x : List ℕ). ComesBefore a x) same before)
first_onward a b d (inr before) (inr onward) = inr (before_onward a b d before onward)

pub same_length : (c : Computation) (a b : List ℕ) → IsConsistent c a → IsConsistent c b → length a ≡ length b
same_length c a b oka okb = oka.fits.one_each ∙ sym okb.fits.one_each

-- a cut within another comes first
within_first : (c : Computation) (a b : List ℕ) → IsConsistent c a → IsConsistent c b → IsWithin a b → ComesFirst a b
within_first c a b oka okb within = go (cases_lt (sum a) (sum b))
  where
    l : length a ≡ length b
    l = same_length c a b oka okb

    go : (sum a < sum b) ⊎ (sum b ≤ sum a) → ComesFirst a b
    go (inl less) = inr (inl less)
    go (inr le) =
        let up : sum a ≤ sum b = sum_le a b within l in inl (same_from_sum a b l within (omega arith))

-- ---- one count of p

-- the least cut of the least good pair is the first
pub first_at : (c : Computation) (good : ℕ → ℕ → Bool) (p q i low end j : ℕ) (cut : List ℕ)
    → IsRow c p q i low end → IsFirstTrue (good i) low end (Some j) → IsLeastWithBoth c p q i j cut
    → IsFirstAt c good p q i cut
first_at c good p q i low end j cut row (from, lt, is, none) both =
    record { consistent = both.consistent; is_good = is_good; first = first }
  where
    pair : IsPair c p q i j
    pair = (row j).1 (from, lt)

    at_p : get_or cut p 0 ≡ i
    at_p =
        let w : IsPair c p q i j = pair in
        let here : get_or w.0 p 0 ≡ i = w.2 in
        let there : get_or w.0 q 0 ≡ j = w.3 in
        let below : get_or cut p 0 ≤ get_or w.0 p 0 = both.least w.0 w.1 (omega arith) (omega arith) p in
        let above : i ≤ get_or cut p 0 = both.first in
        omega arith

    at_q : get_or cut q 0 ≡ j
    at_q =
        let w : IsPair c p q i j = pair in
        let here : get_or w.0 p 0 ≡ i = w.2 in
        let there : get_or w.0 q 0 ≡ j = w.3 in
        let below : get_or cut q 0 ≤ get_or w.0 q 0 = both.least w.0 w.1 (omega arith) (omega arith) q in
        let above : j ≤ get_or cut q 0 = both.second in
        omega arith

    is_good : good (get_or cut p 0) (get_or cut q 0) ≡ true
    is_good = ap (λ (n : ℕ). good n (get_or cut q 0)) at_p ∙ ap (λ (n : ℕ). good i n) at_q ∙ is

    first : (other : List ℕ) → IsConsistent c other → get_or other p 0 ≡ i
        → good (get_or other p 0) (get_or other q 0) ≡ true → ComesFirst cut other
    first other ok at passes = go (cases_lt (get_or other q 0) j)
      where
        in_row : (low ≤ get_or other q 0) × (get_or other q 0 < end)
        in_row = (row (get_or other q 0)).0 (other, ok, at, refl)

        go : (get_or other q 0 < j) ⊎ (j ≤ get_or other q 0) → ComesFirst cut other
        go (inl less) =
            absurd (false≢true (sym (none (get_or other q 0) in_row.0 less)
            ∙ (sym (ap (λ (n : ℕ). good n (get_or other q 0)) at) ∙ passes)))
        go (inr le) = within_first c cut other both.consistent ok (both.least other ok (omega arith) le)

-- if no pair of it is good, no cut satisfies
pub none_at : (c : Computation) (good : ℕ → ℕ → Bool) (p q i low end : ℕ) → IsRow c p q i low end
    → IsFirstTrue (good i) low end None → (other : List ℕ) → IsConsistent c other → get_or other p 0 ≡ i
    → good (get_or other p 0) (get_or other q 0) ≡ false
none_at c good p q i low end row none other ok at =
    let in_row : (low ≤ get_or other q 0) × (get_or other q 0 < end) =
    (row (get_or other q 0)).0 (other, ok, at, refl) in
    ap (λ (n : ℕ). good n (get_or other q 0)) at ∙ none (get_or other q 0) in_row.0 in_row.1

-- ---- one count more

pub first_one : (c : Computation) (good : ℕ → ℕ → Bool) (p q i : ℕ) (cut : List ℕ)
    → IsFirstSoFar c good p q i None → IsFirstAt c good p q i cut → IsFirstSoFar c good p q (i + 1) (Some cut)
first_one c good p q i cut none at =
    record {
      consistent = at.consistent;
      is_good = at.is_good;
      first = λ other ok lt passes. go other ok lt passes (cases_lt (get_or other p 0) i);
    }
  where
    go : (other : List ℕ) → IsConsistent c other → get_or other p 0 < i + 1
        → good (get_or other p 0) (get_or other q 0) ≡ true → (get_or other p 0 < i) ⊎ (i ≤ get_or other p 0)
        → ComesFirst cut other
    go other ok lt passes (inl below) = absurd (false≢true (sym (none other ok below) ∙ passes))
    go other ok lt passes (inr le) = at.first other ok (omega arith) passes

pub first_new : (c : Computation) (good : ℕ → ℕ → Bool) (p q i : ℕ) (known cut : List ℕ)
    → IsFirstSoFar c good p q i (Some known) → IsFirstAt c good p q i cut → ComesBefore cut known
    → IsFirstSoFar c good p q (i + 1) (Some cut)
first_new c good p q i known cut so_far at earlier =
    record {
      consistent = at.consistent;
      is_good = at.is_good;
      first = λ other ok lt passes. go other ok lt passes (cases_lt (get_or other p 0) i);
    }
  where
    go : (other : List ℕ) → IsConsistent c other → get_or other p 0 < i + 1
        → good (get_or other p 0) (get_or other q 0) ≡ true → (get_or other p 0 < i) ⊎ (i ≤ get_or other p 0)
        → ComesFirst cut other
    go other ok lt passes (inl below) =
        first_onward cut known other (inr earlier) (so_far.first other ok below passes)
    go other ok lt passes (inr le) = at.first other ok (omega arith) passes

pub first_old : (c : Computation) (good : ℕ → ℕ → Bool) (p q i : ℕ) (known cut : List ℕ)
    → IsFirstSoFar c good p q i (Some known) → IsFirstAt c good p q i cut → ¬ ComesBefore cut known
    → IsFirstSoFar c good p q (i + 1) (Some known)
first_old c good p q i known cut so_far at later =
    record {
      consistent = so_far.consistent;
      is_good = so_far.is_good;
      first = λ other ok lt passes. go other ok lt passes (cases_lt (get_or other p 0) i);
    }
  where
    go : (other : List ℕ) → IsConsistent c other → get_or other p 0 < i + 1
        → good (get_or other p 0) (get_or other q 0) ≡ true → (get_or other p 0 < i) ⊎ (i ≤ get_or other p 0)
        → ComesFirst known other
    go other ok lt passes (inl below) = so_far.first other ok below passes
    go other ok lt passes (inr le) =
        first_onward known cut other
        (first_if_not_after known cut (same_length c known cut so_far.consistent at.consistent) later)
        (at.first other ok (omega arith) passes)

-- no cut with this count satisfies
pub none_more : (c : Computation) (good : ℕ → ℕ → Bool) (p q i : ℕ) (first : Option (List ℕ))
    → IsFirstSoFar c good p q i first
    → ((other : List ℕ) → IsConsistent c other → get_or other p 0 ≡ i
    → good (get_or other p 0) (get_or other q 0) ≡ false) → IsFirstSoFar c good p q (i + 1) first
none_more c good p q i None so_far none = λ other ok lt. go other ok lt (cases_lt (get_or other p 0) i)
  where
    go : (other : List ℕ) → IsConsistent c other → get_or other p 0 < i + 1
        → (get_or other p 0 < i) ⊎ (i ≤ get_or other p 0) → good (get_or other p 0) (get_or other q 0) ≡ false
    go other ok lt (inl below) = so_far other ok below
    go other ok lt (inr le) = none other ok (omega arith)
none_more c good p q i (Some cut) so_far none =
    record {
      consistent = so_far.consistent;
      is_good = so_far.is_good;
      first = λ other ok lt passes. go other ok lt passes (cases_lt (get_or other p 0) i);
    }
  where
    go : (other : List ℕ) → IsConsistent c other → get_or other p 0 < i + 1
        → good (get_or other p 0) (get_or other q 0) ≡ true → (get_or other p 0 < i) ⊎ (i ≤ get_or other p 0)
        → ComesFirst cut other
    go other ok lt passes (inl below) = so_far.first other ok below passes
    go other ok lt passes (inr le) = absurd (false≢true (sym (none other ok (omega arith)) ∙ passes))

-- ---- all counts

pub first_of_all : (c : Computation) (good : ℕ → ℕ → Bool) (p q n : ℕ) (cut : List ℕ) → event_count c p < n
    → IsFirstSoFar c good p q n (Some cut) → IsFirstByPairs c good p q cut
first_of_all c good p q n cut all so_far test of =
    record {
      consistent = so_far.consistent;
      satisfies = of cut so_far.consistent ∙ so_far.is_good;
      first = λ other ok passes apart. go other apart (so_far.first other ok
          (let within : get_or other p 0 ≤ event_count c p = ok.fits.within p in omega arith)
          (sym (of other ok) ∙ passes));
    }
  where
    go : (other : List ℕ) → ¬ (other ≡ cut) → ComesFirst cut other → ComesBefore cut other
    go other apart (inl same) = absurd (apart (sym same))
    go other apart (inr before) = before

pub none_of_all : (c : Computation) (good : ℕ → ℕ → Bool) (p q n : ℕ) → event_count c p < n
    → IsFirstSoFar c good p q n None → IsNeverByPairs c good p q
none_of_all c good p q n all none test of (cut, ok, passes) =
    let within : get_or cut p 0 ≤ event_count c p = ok.fits.within p in
    false≢true (sym (none cut ok (omega arith)) ∙ (sym (of cut ok) ∙ passes))

-- a first cut has no more events than there are
pub so_far_small : (c : Computation) (good : ℕ → ℕ → Bool) (p q n most : ℕ) (first : Option (List ℕ)) → total c ≤ most
    → IsFirstSoFar c good p q n first → IfSome first (λ known. sum known ≤ most)
so_far_small c good p q n most None le none = tt
so_far_small c good p q n most (Some cut) le so_far =
    let s : sum cut ≤ total c = sum_within c cut so_far.consistent in omega arith
