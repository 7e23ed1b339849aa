-- From each state of the walk some tokens lead to the end, so the walk finds exactly which tokens begin a predicate.
use Rattle.std.proofs.Common.{◌≡◌, ℕ, suc, zero, Bool, true, false, List, [], ◌∷◌, ◌++◌, refl, ◌∙◌, ap, ◌⊎◌, inl, inr}
use Rattle.std.specs.Prelude.{Option, Some, None, is_some, option_and_then, codes, ◌↔◌}
use Rattle.def_model.specs.Predicates.{Equals}
use Rattle.def_format.specs.Tokens.{Token, Word, Digits, CloseParen, Relates, Dot, End}
use Rattle.def_format.specs.Grammar.{CanGoOn}
use Rattle.def_format.specs.PrefixWalk.{Side, OnLeft, OnRight, Mode, AtOperand, AtSum, AtTerm, AfterNumber, AfterStar, AfterName, AfterDot, AfterTerm, AfterOperand, State, Inside, AtEnd, walk, start, begins}
use Rattle.def_format.proofs.Prefixes.{IsAfter, IsAfterTerm, an_operand, a_sum, a_number, a_term, end_after, close_after, relation_after, walk-append, begins_of_can, spelled_of_walk}

closing : ℕ → List Token
closing zero = End ∷ []
closing (suc d) = CloseParen ∷ closing d

compared : Side → ℕ → List Token
compared OnLeft d = Relates Equals ∷ Digits 0 ∷ closing d
compared OnRight d = closing d

a_name : List ℕ
a_name = codes "a"

completion : State → List Token
completion (Inside AtOperand d) = Word (codes "true") ∷ closing d
completion (Inside AtSum d) = Digits 0 ∷ closing d
completion (Inside (AtTerm side) d) = Digits 0 ∷ compared side d
completion (Inside (AfterNumber side) d) = compared side d
completion (Inside (AfterStar side) d) = Word a_name ∷ Dot ∷ Word a_name ∷ compared side d
completion (Inside (AfterName side) d) = Dot ∷ Word a_name ∷ compared side d
completion (Inside (AfterDot side) d) = Word a_name ∷ compared side d
completion (Inside (AfterTerm side) d) = compared side d
completion (Inside AfterOperand d) = closing d
completion AtEnd = []

closing_ends : (d : ℕ) (mode : Mode) → IsAfter mode → walk (Inside mode d) (closing d) ≡ Some AtEnd
unfolding closing
closing_ends zero mode b = rw (end_after mode b) refl
closing_ends (suc d) mode b = rw (close_after mode d b) (closing_ends d AfterOperand an_operand)

compared_ends : (side : Side) (d : ℕ) (mode : Mode) → IsAfterTerm side mode → walk (Inside mode d) (compared side d)
    ≡ Some AtEnd
unfolding compared
compared_ends OnRight d mode b = closing_ends d mode (a_sum b)
compared_ends OnLeft d mode b =
    rw (relation_after mode d Equals b) (closing_ends d (AfterNumber OnRight) (a_sum a_number))

completion_ends : (s : State) → walk s (completion s) ≡ Some AtEnd
unfolding completion a_name
completion_ends (Inside AtOperand d) = closing_ends d AfterOperand an_operand
completion_ends (Inside AtSum d) = closing_ends d (AfterNumber OnRight) (a_sum a_number)
completion_ends (Inside (AtTerm side) d) = compared_ends side d (AfterNumber side) a_number
completion_ends (Inside (AfterNumber side) d) = compared_ends side d (AfterNumber side) a_number
completion_ends (Inside (AfterStar side) d) = compared_ends side d (AfterTerm side) a_term
completion_ends (Inside (AfterName side) d) = compared_ends side d (AfterTerm side) a_term
completion_ends (Inside (AfterDot side) d) = compared_ends side d (AfterTerm side) a_term
completion_ends (Inside (AfterTerm side) d) = compared_ends side d (AfterTerm side) a_term
completion_ends (Inside AfterOperand d) = closing_ends d AfterOperand an_operand
completion_ends AtEnd = refl

pub can_of_begins : (tokens : List Token) → begins tokens ≡ true → CanGoOn tokens
can_of_begins tokens h = go (walk start tokens) refl h
  where
    go : (o : Option State) → walk start tokens ≡ o → is_some o ≡ true → CanGoOn tokens
    go None e h = absurd (cc)
    go (Some s) e h =
        let whole =
        spelled_of_walk (tokens ++ completion s) (walk-append start tokens (completion s)
        ∙ ap (λ o. option_and_then (λ later. walk later (completion s)) o) e ∙ completion_ends s) in
        (completion s, whole.0, whole.1)

-- The walk finds exactly which tokens begin a predicate.
pub begins_is_exact : (tokens : List Token) → (begins tokens ≡ true) ↔ CanGoOn tokens
begins_is_exact tokens = (can_of_begins tokens, begins_of_can tokens)

pub prefixes_are_decided_lem : (tokens : List Token) → CanGoOn tokens ⊎ (¬ (CanGoOn tokens))
prefixes_are_decided_lem tokens = go (begins tokens) refl
  where
    go : (b : Bool) → begins tokens ≡ b → CanGoOn tokens ⊎ (¬ (CanGoOn tokens))
    go true e = inl (can_of_begins tokens e)
    go false e = inr (λ can. let yes = begins_of_can tokens can in cc)
