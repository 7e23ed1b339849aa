-- A misplaced token has one fault.
use Rattle.std.proofs.Common.{◌≡◌, suc, zero, true, List, [], ◌∷◌, ◌++◌, refl, sym, ◌∙◌, subst, append_assoc, inl, inr}
use Rattle.std.specs.Prelude.{codes, Option, Some, None, is_some, option_and_then}
use Rattle.std.proofs.lemmas.Slice.Eq.{bytes_eq-Decides}
use Rattle.def_format.specs.Names.{ProcessNames}
use Rattle.def_format.specs.Tokens.{Token, Word, Digits, OpenParen, CloseParen, Relates, Signs, Star, Dot, End}
use Rattle.def_format.specs.Grammar.{AnyName, SpellsWhole, CanGoOn, word_not}
use Rattle.def_format.specs.PredicateTexts.{opens, PredicateFault, Long, Character, Number, Expected, UnknownName, Depth, IsFaulty, IsUnknownName}
use Rattle.def_format.specs.PrefixWalk.{AtOperand, AtSum, AtTerm, AfterNumber, AfterStar, AfterName, AfterDot, AfterTerm, AfterOperand, OnLeft, OnRight, State, Inside, AtEnd, walk, start}
use Rattle.def_format.proofs.Prefixes.{walk-append, begins_of_can}

not_and_dot : (s : State) → walk s (word_not ∷ Dot ∷ []) ≡ None
not_and_dot (Inside AtOperand d) = refl
not_and_dot (Inside AtSum d) = refl
not_and_dot (Inside (AtTerm side) d) = refl
not_and_dot (Inside (AfterNumber OnLeft) d) = refl
not_and_dot (Inside (AfterNumber OnRight) d) = refl
not_and_dot (Inside (AfterStar side) d) = refl
not_and_dot (Inside (AfterName side) d) = refl
not_and_dot (Inside (AfterDot side) d) = refl
not_and_dot (Inside (AfterTerm OnLeft) d) = refl
not_and_dot (Inside (AfterTerm OnRight) d) = refl
not_and_dot (Inside AfterOperand d) = refl
not_and_dot AtEnd = refl

dot_and_not : (s : State) → walk s (Dot ∷ word_not ∷ []) ≡ None
dot_and_not (Inside AtOperand d) = refl
dot_and_not (Inside AtSum d) = refl
dot_and_not (Inside (AtTerm side) d) = refl
dot_and_not (Inside (AfterNumber OnLeft) d) = refl
dot_and_not (Inside (AfterNumber OnRight) d) = refl
dot_and_not (Inside (AfterStar side) d) = refl
dot_and_not (Inside (AfterName side) d) = refl
dot_and_not (Inside (AfterDot side) d) = refl
dot_and_not (Inside (AfterTerm OnLeft) d) = refl
dot_and_not (Inside (AfterTerm OnRight) d) = refl
dot_and_not (Inside AfterOperand zero) = refl
dot_and_not (Inside AfterOperand (suc d)) = refl
dot_and_not AtEnd = refl

-- what leads nowhere from any state leads nowhere after any tokens
nowhere : (xs ys : List Token) → ((s : State) → walk s ys ≡ None) → CanGoOn (xs ++ ys) → ⊥
nowhere xs ys none can = go (walk start xs) (sym (walk-append start xs ys)) (begins_of_can (xs ++ ys) can)
  where
    go : (o : Option State) → option_and_then (λ later. walk later ys) o ≡ walk start (xs ++ ys)
        → is_some (walk start (xs ++ ys)) ≡ true → ⊥
    go None e h = let bad = rw (sym e) at h in cc
    go (Some s) e h = let bad = rw (sym e, none s) at h in cc

-- an unknown name is no `not`
no_opener : (names : List ProcessNames) (before : List Token) (t : Token) → IsUnknownName names before t
    → opens t ≡ true → ⊥
no_opener names before (Word w) (inl u) h =
    let same : w ≡ codes "not" = (bytes_eq-Decides w (codes "not")).0 h in
    nowhere before (word_not ∷ Dot ∷ []) not_and_dot (rw same at u.0)
no_opener names before (Word w) (inr u) h =
    let same : w ≡ codes "not" = (bytes_eq-Decides w (codes "not")).0 h in
    let whole : before ++ Word w ∷ [] ≡ (u.prefix ++ Word u.name ∷ []) ++ Dot ∷ word_not ∷ [] =
    rw (
      u.after_dot,
      same,
      append_assoc u.prefix (Word u.name ∷ Dot ∷ []) (word_not ∷ []),
      append_assoc u.prefix (Word u.name ∷ []) (Dot ∷ word_not ∷ []),
    ) refl in
    nowhere (u.prefix ++ Word u.name ∷ []) (Dot ∷ word_not ∷ []) dot_and_not (subst CanGoOn whole u.fits)
no_opener names before (Digits n) u h = absurd u
no_opener names before OpenParen u h = absurd u
no_opener names before CloseParen u h = absurd u
no_opener names before (Relates c) u h = absurd u
no_opener names before (Signs sign) u h = absurd u
no_opener names before Star u h = absurd u
no_opener names before Dot u h = absurd u
no_opener names before End u h = absurd u

can_of_unknown : (names : List ProcessNames) (before : List Token) (t : Token) → IsUnknownName names before t
    → CanGoOn (before ++ t ∷ [])
can_of_unknown names before (Word w) (inl u) = (
  Dot ∷ u.0.0,
  u.0.1,
  subst (λ ts. SpellsWhole AnyName ts u.0.1) (append_assoc before (Word w ∷ Dot ∷ []) u.0.0
      ∙ sym (append_assoc before (Word w ∷ []) (Dot ∷ u.0.0))) u.0.2,
)
can_of_unknown names before (Word w) (inr u) = u.fits
can_of_unknown names before (Digits n) u = absurd u
can_of_unknown names before OpenParen u = absurd u
can_of_unknown names before CloseParen u = absurd u
can_of_unknown names before (Relates c) u = absurd u
can_of_unknown names before (Signs sign) u = absurd u
can_of_unknown names before Star u = absurd u
can_of_unknown names before Dot u = absurd u
can_of_unknown names before End u = absurd u

pub one_fault : (names : List ProcessNames) (before : List Token) (t : Token) (f g : PredicateFault)
    → IsFaulty names f before t → IsFaulty names g before t → f ≡ g
one_fault names before t Long g h k = absurd h
one_fault names before t Character g h k = absurd h
one_fault names before t Number g h k = absurd h
one_fault names before t Expected Expected h k = refl
one_fault names before t UnknownName UnknownName h k = refl
one_fault names before t Depth Depth h k = refl
one_fault names before t Expected UnknownName h k = absurd (h (can_of_unknown names before t k))
one_fault names before t Expected Depth h k = absurd (h k.0)
one_fault names before t UnknownName Expected h k = absurd (k (can_of_unknown names before t h))
one_fault names before t UnknownName Depth h k = absurd (no_opener names before t h k.1)
one_fault names before t Depth Expected h k = absurd (k h.0)
one_fault names before t Depth UnknownName h k = absurd (no_opener names before t k h.1)
one_fault names before t Expected Long h k = absurd k
one_fault names before t Expected Character h k = absurd k
one_fault names before t Expected Number h k = absurd k
one_fault names before t UnknownName Long h k = absurd k
one_fault names before t UnknownName Character h k = absurd k
one_fault names before t UnknownName Number h k = absurd k
one_fault names before t Depth Long h k = absurd k
one_fault names before t Depth Character h k = absurd k
one_fault names before t Depth Number h k = absurd k
