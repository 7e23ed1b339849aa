-- The lowest of some cuts, and of these and others.
use Rattle.std.proofs.Common.{◌≡◌, ◌⊎◌, inl, inr, ℕ, ◌<◌, List, [], ◌∷◌, length, Option, Some, None, IfSome, refl, sym, ◌∙◌, subst, arith}
use Rattle.std.proofs.lemmas.Bool.{cases_order}
use Rattle.def_model.specs.Answers.{LexBelow}
use Rattle.def_model.proofs.Decisions.{dec_list}
use Rattle.def_model.proofs.OneAnswer.{lex_transitive}
use Rattle.def_wide.specs.Heights.{IsLowerThan, height}
use Rattle.wide_sums.specs.FirstCuts.{IsLowerOf, IsLowestIfAny, IsLowestOf}

-- ---- the order of two cuts

-- the cut is the other, or lower
abbrev IsNotHigher : List ℕ → List ℕ → Type 0
IsNotHigher cut other = (cut ≡ other) ⊎ IsLowerThan cut other

lex_unless_after : (xs ys : List ℕ) → length xs ≡ length ys → (¬ LexBelow ys xs) → (xs ≡ ys) ⊎ LexBelow xs ys
lex_unless_after [] [] same later = inl refl
lex_unless_after [] (y ∷ ys) same later = absurd (omega arith)
lex_unless_after (x ∷ xs) [] same later = absurd (omega arith)
lex_unless_after (x ∷ xs) (y ∷ ys) same later =
    go (cases_order x y) (λ e. lex_unless_after xs ys (omega arith) (λ below. later (inr (sym e, below))))
  where
    go : (x ≡ y) ⊎ ((x < y) ⊎ (y < x)) → (x ≡ y → (xs ≡ ys) ⊎ LexBelow xs ys)
        → (x ∷ xs ≡ y ∷ ys) ⊎ LexBelow (x ∷ xs) (y ∷ ys)
    go (inr (inl less)) rest = inr (inl less)
    go (inr (inr more)) rest = absurd (later (inl more))
    go (inl e) rest = elim (rest e) [ inl is ↦ inl (cc) | inr below ↦ inr (inr (e, below)) ]

not_higher : (a b : List ℕ) → length a ≡ length b → (¬ IsLowerThan b a) → IsNotHigher a b
not_higher a b same later = go (cases_order (height a) (height b))
  where
    go : (height a ≡ height b) ⊎ ((height a < height b) ⊎ (height b < height a)) → IsNotHigher a b
    go (inr (inl less)) = inr (inl less)
    go (inr (inr more)) = absurd (later (inl more))
    go (inl e) =
        elim (lex_unless_after a b same (λ below. later (inr (sym e, below)))) [
          | inl is ↦ inl is
          | inr below ↦ inr (inr (e, below))
        ]

lower_onward : (a b d : List ℕ) → IsLowerThan a b → IsLowerThan b d → IsLowerThan a d
lower_onward a b d (inl x) (inl y) = inl (omega arith)
lower_onward a b d (inl x) (inr (e, below)) = inl (omega arith)
lower_onward a b d (inr (e, below)) (inl y) = inl (omega arith)
lower_onward a b d (inr (e, below)) (inr (e', below')) = inr (e ∙ e', lex_transitive a b d below below')

not_higher_onward : (a b d : List ℕ) → IsNotHigher a b → IsNotHigher b d → IsNotHigher a d
not_higher_onward a b d (inl same) rest = subst (λ (x : List ℕ). IsNotHigher x d) (sym same) rest
not_higher_onward a b d (inr lower) (inl same) = inr (subst (λ (x : List ℕ). IsLowerThan a x) same lower)
not_higher_onward a b d (inr lower) (inr onward) = inr (lower_onward a b d lower onward)

-- ---- the lowest of some cuts

-- it is no higher than any of them
lowest_not_higher : (IsWanted : List ℕ → Type 0) (cut other : List ℕ) → IsLowestOf IsWanted cut → IsWanted other
    → IsNotHigher cut other
lowest_not_higher IsWanted cut other is wanted = go (dec_list other cut)
  where
    go : Dec (other ≡ cut) → IsNotHigher cut other
    go (yes same) = inl (sym same)
    go (no apart) = inr (is.lowest other wanted apart)

-- and one that is no higher is the lowest
lowest_if : (IsWanted : List ℕ → Type 0) (cut : List ℕ) → IsWanted cut
    → ((other : List ℕ) → IsWanted other → IsNotHigher cut other) → IsLowestOf IsWanted cut
lowest_if IsWanted cut wanted each =
    record { wanted = wanted; lowest = λ other there apart. go other apart (each other there) }
  where
    go : (other : List ℕ) → ¬ (other ≡ cut) → IsNotHigher cut other → IsLowerThan cut other
    go other apart (inl same) = absurd (apart (sym same))
    go other apart (inr lower) = lower

-- the same cuts have the same lowest one
pub lowest_same : (One Two : List ℕ → Type 0) → ((cut : List ℕ) → One cut → Two cut)
    → ((cut : List ℕ) → Two cut → One cut) → (found : Option (List ℕ)) → IsLowestIfAny One found
    → IsLowestIfAny Two found
lowest_same One Two to from None none = λ cut there. none cut (from cut there)
lowest_same One Two to from (Some cut) is = record {
  wanted = to cut is.wanted;
  lowest = λ other there apart. is.lowest other (from other there) apart;
}

-- ---- the lowest of some cuts and of others

-- each of these cuts is one of the first or of the second, and has this many counts
pub record IsEitherOf (n : ℕ) (One Two Both : List ℕ → Type 0) : Type 0 where
  pub first : (cut : List ℕ) → One cut → Both cut
  pub second : (cut : List ℕ) → Two cut → Both cut
  pub either : (cut : List ℕ) → Both cut → One cut ⊎ Two cut
  pub long : (cut : List ℕ) → Both cut → length cut ≡ n

module _ (n : ℕ) (One Two Both : List ℕ → Type 0) (of : IsEitherOf n One Two Both) where
  pub same_lengths : (first second : Option (List ℕ)) → IsLowestIfAny One first → IsLowestIfAny Two second
      → IfSome first (λ a. IfSome second (λ b. length a ≡ length b))
  same_lengths None second one two = tt
  same_lengths (Some a) None one two = tt
  same_lengths (Some a) (Some b) one two =
      of.long a (of.first a one.wanted) ∙ sym (of.long b (of.second b two.wanted))

  -- what is no higher than those of the first and of the second is the lowest
  lowest_of_both : (cut : List ℕ) → Both cut → ((other : List ℕ) → One other → IsNotHigher cut other)
      → ((other : List ℕ) → Two other → IsNotHigher cut other) → IsLowestOf Both cut
  lowest_of_both cut there by_one by_two = lowest_if Both cut there (λ other both. go other (of.either other both))
    where
      go : (other : List ℕ) → One other ⊎ Two other → IsNotHigher cut other
      go other (inl one) = by_one other one
      go other (inr two) = by_two other two

  first_lower : (a b : List ℕ) → IsLowestOf One a → IsLowestOf Two b → (¬ IsLowerThan b a) → IsLowestOf Both a
  first_lower a b one two later =
      let same : length a ≡ length b =
      of.long a (of.first a one.wanted) ∙ sym (of.long b (of.second b two.wanted)) in
      lowest_of_both a (of.first a one.wanted) (λ other there. lowest_not_higher One a other one there)
      (λ other there.
      not_higher_onward a b other (not_higher a b same later) (lowest_not_higher Two b other two there))

  second_lower : (a b : List ℕ) → IsLowestOf One a → IsLowestOf Two b → IsLowerThan b a → IsLowestOf Both b
  second_lower a b one two lower =
      lowest_of_both b (of.second b two.wanted)
      (λ other there. not_higher_onward b a other (inr lower) (lowest_not_higher One a other one there))
      (λ other there. lowest_not_higher Two b other two there)

  neither : (second : Option (List ℕ)) → ((cut : List ℕ) → ¬ One cut) → IsLowestIfAny Two second
      → IsLowestIfAny Both second
  neither second none two =
      lowest_same Two Both of.second
      (λ cut both. elim (of.either cut both) [ inl one ↦ absurd (none cut one) | inr there ↦ there ]) second two

  -- the lower of both lowest ones is the lowest of all
  pub lowest_either : (first second found : Option (List ℕ)) → IsLowestIfAny One first → IsLowestIfAny Two second
      → IsLowerOf first second found → IsLowestIfAny Both found
  lowest_either None second found one two is =
      subst (λ (o : Option (List ℕ)). IsLowestIfAny Both o) (sym is) (neither second one two)
  lowest_either (Some a) None found one two is =
      subst (λ (o : Option (List ℕ)). IsLowestIfAny Both o) (sym is)
      (lowest_of_both a (of.first a one.wanted) (λ other there. lowest_not_higher One a other one there)
      (λ other there. absurd (two other there)))
  lowest_either (Some a) (Some b) found one two (inl (lower, is)) =
      subst (λ (o : Option (List ℕ)). IsLowestIfAny Both o) (sym is) (second_lower a b one two lower)
  lowest_either (Some a) (Some b) found one two (inr (later, is)) =
      subst (λ (o : Option (List ℕ)). IsLowestIfAny Both o) (sym is) (first_lower a b one two later)
