-- The first good cut of those that were seen, and more of them.
use Rattle.std.proofs.Common.{◌≡◌, ℕ, ◌<◌, ◌≤◌, inl, inr, ◌⊎◌, List, [], ◌∷◌, Option, Some, None, length, sum, refl, sym, ◌∙◌, subst, IfSome, arith}
use Rattle.std.proofs.lemmas.Bool.{cases_order}
use Rattle.def_model.specs.Answers.{LexBelow}
use Rattle.def_model.specs.Cuts.{FitsProcesses, full_cut, total}
use Rattle.def_model.specs.Events.{Computation}
use Rattle.def_model.specs.Predicates.{Predicate, Recorded}
use Rattle.def_model.proofs.Counts.{full_at, length_full, sum_le}
use Rattle.wide_conjunctions.specs.CutOrder.{ComesBefore}
use Rattle.wide_conjunctions.proofs.CutsInOrder.{before_onward, not_before_itself}
use Rattle.wide_gates.specs.Seen.{AfterBest, IsFirstSeen, IsGood}

-- counts that fit have no more events than there are
pub fits_total : (c : Computation) (cut : List ℕ) → FitsProcesses c cut → sum cut ≤ total c
fits_total c cut fits =
    sum_le cut (full_cut c)
    (λ p. let le = fits.within p in let at = full_at c p in omega arith) (fits.one_each ∙ sym (length_full c))

-- ---- the order of cuts is total

lex_cases : (xs ys : List ℕ) → length xs ≡ length ys → LexBelow xs ys ⊎ ((xs ≡ ys) ⊎ LexBelow ys xs)
lex_cases [] [] l = inr (inl refl)
lex_cases [] (y ∷ ys) l = absurd (omega arith)
lex_cases (x ∷ xs) [] l = absurd (omega arith)
lex_cases (x ∷ xs) (y ∷ ys) l = go (cases_order x y) (lex_cases xs ys (omega arith))
  where
    go : (x ≡ y) ⊎ ((x < y) ⊎ (y < x)) → LexBelow xs ys ⊎ ((xs ≡ ys) ⊎ LexBelow ys xs)
        → LexBelow (x ∷ xs) (y ∷ ys) ⊎ ((x ∷ xs ≡ y ∷ ys) ⊎ LexBelow (y ∷ ys) (x ∷ xs))
    go (inr (inl less)) r = inl (inl less)
    go (inr (inr more)) r = inr (inr (inl more))
    go (inl e) (inl below) = inl (inr (e, below))
    go (inl e) (inr (inl s)) = inr (inl (cc))
    go (inl e) (inr (inr below)) = inr (inr (inr (sym e, below)))

pub order_cases : (a b : List ℕ) → length a ≡ length b → ComesBefore a b ⊎ ((a ≡ b) ⊎ ComesBefore b a)
order_cases a b l = go (cases_order (sum a) (sum b)) (lex_cases a b l)
  where
    go : (sum a ≡ sum b) ⊎ ((sum a < sum b) ⊎ (sum b < sum a)) → LexBelow a b ⊎ ((a ≡ b) ⊎ LexBelow b a)
        → ComesBefore a b ⊎ ((a ≡ b) ⊎ ComesBefore b a)
    go (inr (inl less)) r = inl (inl less)
    go (inr (inr more)) r = inr (inr (inl more))
    go (inl e) (inl below) = inl (inr (e, below))
    go (inl e) (inr (inl s)) = inr (inl s)
    go (inl e) (inr (inr below)) = inr (inr (inr (sym e, below)))

module _ (r : Recorded) (predicate : Predicate) where
  -- ---- one cut more

  -- a cut that isn't good, or doesn't come before the best one, changes nothing
  pub best_stays : (best : Option (List ℕ)) (cut : List ℕ) → IfSome best (IsGood r predicate)
      → ¬ (IsGood r predicate cut × IfSome best (ComesBefore cut))
      → IsFirstSeen r predicate (AfterBest best (λ other. other ≡ cut)) best
  best_stays None cut good worse = λ other seen is. go other seen is
    where
      go : (other : List ℕ) → AfterBest None (λ another. another ≡ cut) other → ¬ IsGood r predicate other
      go other (inl e) is = cc
      go other (inr same) is = worse (subst (IsGood r predicate) same is, tt)
  best_stays (Some least) cut good worse = (inl refl, good, λ other seen is before. go other seen is before)
    where
      go : (other : List ℕ) → AfterBest (Some least) (λ another. another ≡ cut) other → IsGood r predicate other
          → ¬ ComesBefore other least
      go other (inl e) is before =
          let same : least ≡ other = cc in
          not_before_itself other (subst (ComesBefore other) same before)
      go other (inr same) is before =
          worse (subst (IsGood r predicate) same is, subst (λ (x : List ℕ). ComesBefore x least) same before)

  -- a good one that comes before it is the best
  pub cut_is_best : (best : Option (List ℕ)) (cut : List ℕ) → IfSome best (ComesBefore cut)
      → IsGood r predicate cut → IsFirstSeen r predicate (AfterBest best (λ other. other ≡ cut)) (Some cut)
  cut_is_best best cut first good = (inr refl, good, λ other seen is before. go best first other seen before)
    where
      go : (best : Option (List ℕ)) → IfSome best (ComesBefore cut) → (other : List ℕ)
          → AfterBest best (λ another. another ≡ cut) other → ¬ ComesBefore other cut
      go None first other (inl e) before = cc
      go (Some least) first other (inl e) before =
          let same : least ≡ other = cc in
          not_before_itself cut (before_onward cut other cut (subst (ComesBefore cut) same first) before)
      go best first other (inr same) before =
          not_before_itself cut (subst (λ (x : List ℕ). ComesBefore x cut) same before)

  -- ---- more of them

  -- the best of those seen is good
  pub best_is_good : (Seen : List ℕ → Type 0) (best : Option (List ℕ)) → IsFirstSeen r predicate Seen best
      → IfSome best (IsGood r predicate)
  best_is_good Seen None first = tt
  best_is_good Seen (Some cut) first = first.1

  -- what is seen after the best of others is seen after all of these
  pub seen_more : (Seen More : List ℕ → Type 0) (best found : Option (List ℕ)) → IsFirstSeen r predicate Seen best
      → IsFirstSeen r predicate (AfterBest best More) found
      → IsFirstSeen r predicate (λ cut. Seen cut ⊎ More cut) found
  seen_more Seen More None None first then = λ cut seen good. go cut seen good
    where
      go : (cut : List ℕ) → Seen cut ⊎ More cut → ¬ IsGood r predicate cut
      go cut (inl seen) good = first cut seen good
      go cut (inr more) good = then cut (inr more) good
  seen_more Seen More (Some least) None first then = absurd (then least (inl refl) first.1)
  seen_more Seen More best (Some cut) first then =
      (seen then.0, then.1, λ other has good before. go best first then other has good before)
    where
      seen : AfterBest best More cut → Seen cut ⊎ More cut
      seen (inr more) = inr more
      seen (inl is) = inl (subst (IsFirstSeen r predicate Seen) is first).0

      go : (best : Option (List ℕ)) → IsFirstSeen r predicate Seen best
          → IsFirstSeen r predicate (AfterBest best More) (Some cut) → (other : List ℕ) → Seen other ⊎ More other
          → IsGood r predicate other → ¬ ComesBefore other cut
      go best first then other (inr more) good before = then.2 other (inr more) good before
      go None first then other (inl seen) good before = first other seen good
      go (Some least) first then other (inl seen) good before = pick (order_cases least cut same)
        where
          same : length least ≡ length cut
          same = first.1.0.fits.one_each ∙ sym then.1.0.fits.one_each

          pick : ComesBefore least cut ⊎ ((least ≡ cut) ⊎ ComesBefore cut least) → ⊥
          pick (inl less) = then.2 least (inl refl) first.1 less
          pick (inr (inl is)) = first.2 other seen good (subst (ComesBefore other) (sym is) before)
          pick (inr (inr more)) = first.2 other seen good (before_onward other cut least before more)

  -- the same cuts in other words
  pub seen_as : (Seen Other : List ℕ → Type 0) (best : Option (List ℕ)) → ((cut : List ℕ) → Seen cut → Other cut)
      → ((cut : List ℕ) → Other cut → Seen cut) → IsFirstSeen r predicate Seen best
      → IsFirstSeen r predicate Other best
  seen_as Seen Other None to from first = λ cut has. first cut (from cut has)
  seen_as Seen Other (Some cut) to from first =
      (to cut first.0, first.1, λ other has. first.2 other (from other has))
