-- Where no level is over the width, no answer is unknown. Each computation has a width that no level is over, and an
-- answer whatever the width is the answer under it.
use Rattle.std.proofs.Common.{◌≡◌, ℕ, zero, suc, ◌+◌, ◌<◌, ◌≤◌, Bool, List, [], ◌∷◌, length, Contains, refl, sym, ◌∙◌, subst, inl, inr, ◌⊎◌, arith}
use Rattle.std.proofs.lemmas.Bool.{cases_lt}
use Rattle.def_model.specs.Events.{Computation, Linked}
use Rattle.def_model.specs.Cuts.{IsOfLevel, total}
use Rattle.def_model.specs.Observations.{IsAvoiding}
use Rattle.def_model.specs.Answers.{LexBelow, IsListOf, MoreThan, PossiblyAnswer, PossiblyYes, PossiblyNo, PossiblyUnknown, DefinitelyAnswer, DefinitelyYes, DefinitelyNo, DefinitelyUnknown, IsExactPossibly, IsPossiblyAnswer, IsExactDefinitely, IsDefinitelyAnswer}
use Rattle.def_model.proofs.Decisions.{dec_list}
use Rattle.def_model.proofs.LevelsListed.{level_has_list}
use Rattle.def_model.proofs.OneAnswer.{below_rest, ascending_rest, contains_cases, contains_later, lex_asymmetric, lex_irreflexive}
use Rattle.def_model.proofs.Paths.{avoiding_level}
use Rattle.def_model.proofs.WalkSteps.{not_more}
use Rattle.def_judgement.specs.Headline.{IsNarrow}
use Rattle.def_judgement.proofs.Widths.{none_past}

-- An ascending list whose elements all stand in another is no longer than that one.
pub no_longer : (xs ys : List (List ℕ)) → Linked LexBelow xs → Linked LexBelow ys
    → ((cut : List ℕ) → Contains xs cut → Contains ys cut) → length xs ≤ length ys
no_longer [] ys a b within = omega arith
no_longer (x ∷ xs) [] a b within = let w : Contains [] x = within x (0, omega arith, refl) in let lt : w.0 < 0 =
    w.1 in absurd (omega arith)
no_longer (x ∷ xs) (y ∷ ys) a b within =
    go (no_longer xs ys (ascending_rest x xs a) (ascending_rest y ys b))
    (no_longer (x ∷ xs) ys a (ascending_rest y ys b)) (dec_list x y)
  where
    go : (((cut : List ℕ) → Contains xs cut → Contains ys cut) → length xs ≤ length ys)
        → (((cut : List ℕ) → Contains (x ∷ xs) cut → Contains ys cut) → length (x ∷ xs) ≤ length ys) → Dec (x ≡ y)
        → length (x ∷ xs) ≤ length (y ∷ ys)
    go both one (yes e) = let rest : length xs ≤ length ys = both later in omega arith
      where
        later : (cut : List ℕ) → Contains xs cut → Contains ys cut
        later cut has = pick (contains_cases y cut ys (within cut (contains_later x cut xs has)))
          where
            pick : (y ≡ cut) ⊎ Contains ys cut → Contains ys cut
            pick (inl f) =
                absurd (lex_irreflexive cut (subst (λ (w : List ℕ). LexBelow w cut) (e
                ∙ f) (below_rest x cut xs a has)))
            pick (inr h) = h
    go both one (no apart) = let rest : length (x ∷ xs) ≤ length ys = one later in omega arith
      where
        first : Contains ys x
        first = pick (contains_cases y x ys (within x (0, omega arith, refl)))
          where
            pick : (y ≡ x) ⊎ Contains ys x → Contains ys x
            pick (inl f) = absurd (apart (sym f))
            pick (inr h) = h

        later : (cut : List ℕ) → Contains (x ∷ xs) cut → Contains ys cut
        later cut has = pick (contains_cases x cut xs has) (contains_cases y cut ys (within cut has))
          where
            pick : (x ≡ cut) ⊎ Contains xs cut → (y ≡ cut) ⊎ Contains ys cut → Contains ys cut
            pick here (inr h) = h
            pick (inl e) there = subst (Contains ys) e first
            pick (inr h) (inl f) =
                absurd (lex_asymmetric x y (below_rest x y xs a (subst (Contains xs) (sym f) h))
                (below_rest y x ys b first))

-- what holds of all cuts of a narrow level's list holds of no more than w cuts
pub not_more_within : (P Q : List ℕ → Type 0) (w : ℕ) (cuts : List (List ℕ)) → IsListOf P cuts → length cuts ≤ w
    → ((cut : List ℕ) → Q cut → P cut) → ¬ MoreThan w Q
not_more_within P Q w cuts list le within (some, list', lt) =
    let n : length some ≤ length cuts =
    no_longer some cuts list'.ascending list.ascending (λ cut has.
    (list.just cut).1 (within cut ((list'.just cut).0 has))) in
    omega arith

-- ---- no answer is unknown

module _ (c : Computation) (test : List ℕ → Bool) (w : ℕ) (narrow : IsNarrow c w) where
  pub level_is_narrow : (k : ℕ) → ¬ MoreThan w (IsOfLevel c k)
  level_is_narrow k = let n : (cuts : List (List ℕ)) × IsListOf (IsOfLevel c k) cuts × (length cuts ≤ w) =
      narrow k in not_more (IsOfLevel c k) w n.0 n.1 n.2

  pub avoided_narrowly : (k : ℕ) → ¬ MoreThan w (IsAvoiding c test k)
  avoided_narrowly k =
      let n : (cuts : List (List ℕ)) × IsListOf (IsOfLevel c k) cuts × (length cuts ≤ w) = narrow k in
      not_more_within (IsOfLevel c k) (IsAvoiding c test k) w n.0 n.1 n.2 (avoiding_level c test k)

-- ---- a width that no level is over

-- the cuts of this many levels, from the lowest on
cuts_of_levels : Computation → ℕ → ℕ
cuts_of_levels c zero = 0
cuts_of_levels c (suc n) = cuts_of_levels c n + length (level_has_list c n).0

level_within : (c : Computation) (n k : ℕ) → k < n → length (level_has_list c k).0 ≤ cuts_of_levels c n
unfolding cuts_of_levels
level_within c zero k lt = absurd (omega arith)
level_within c (suc n) k lt = go (level_within c n k) (cases_lt k n)
  where
    go : (k < n → length (level_has_list c k).0 ≤ cuts_of_levels c n) → (k < n) ⊎ (n ≤ k)
        → length (level_has_list c k).0 ≤ cuts_of_levels c n + length (level_has_list c n).0
    go earlier (inl below) = let le : length (level_has_list c k).0 ≤ cuts_of_levels c n = earlier below in omega arith
    go earlier (inr le) =
        let same : n ≡ k = omega arith in
        subst (λ j. length (level_has_list c j).0 ≤ cuts_of_levels c n + length (level_has_list c n).0) same
        (omega arith)

pub narrow_width : (c : Computation) → (w : ℕ) × IsNarrow c w
narrow_width c = (w, λ k. ((level_has_list c k).0, (level_has_list c k).1, short k (cases_lt k (suc (total c)))))
  where
    w : ℕ
    w = cuts_of_levels c (suc (total c))

    short : (k : ℕ) → (k < suc (total c)) ⊎ (suc (total c) ≤ k) → length (level_has_list c k).0 ≤ w
    short k (inl lt) = level_within c (suc (total c)) k lt
    short k (inr past) =
        let e : length (level_has_list c k).0 ≡ 0 =
        none_past c k (level_has_list c k).0 (level_has_list c k).1 (omega arith) in
        omega arith

-- ---- answers whatever the width

pub exact_possibly_at : (c : Computation) (test : List ℕ → Bool) (w : ℕ) (p : PossiblyAnswer) → IsNarrow c w
    → IsExactPossibly c test p → IsPossiblyAnswer c test w p
exact_possibly_at c test w (PossiblyYes cut) narrow exact = (λ k u. level_is_narrow c test w narrow k u.wide, exact)
exact_possibly_at c test w PossiblyNo narrow exact = (λ k u. level_is_narrow c test w narrow k u.wide, exact)
exact_possibly_at c test w (PossiblyUnknown k) narrow exact = absurd exact

pub exact_definitely_at : (c : Computation) (test : List ℕ → Bool) (w : ℕ) (d : DefinitelyAnswer) → IsNarrow c w
    → IsExactDefinitely c test d → IsDefinitelyAnswer c test w d
exact_definitely_at c test w (DefinitelyYes level) narrow exact =
    (λ k u. avoided_narrowly c test w narrow k u.wide, exact.0, exact.1)
exact_definitely_at c test w (DefinitelyNo path) narrow exact =
    (λ k u. avoided_narrowly c test w narrow k u.wide, exact.0, exact.1)
exact_definitely_at c test w (DefinitelyUnknown k) narrow exact = absurd exact
