-- What follows for the first token from a walk that comes to the end, and where the walk goes on.
use Rattle.std.proofs.Common.{◌≡◌, ℕ, suc, false, List, [], ◌∷◌, refl, ap}
use Rattle.std.specs.Prelude.{Some, option_and_then, codes}
use Rattle.std.specs.Str.{bytes_eq}
use Rattle.def_model.specs.Predicates.{Plus, Minus}
use Rattle.def_format.specs.Names.{is_keyword}
use Rattle.def_format.specs.Tokens.{Token, Word, Digits, CloseParen, Signs, Star, Dot, End}
use Rattle.def_format.specs.PrefixWalk.{WordKind, ANot, AJoin, ATruth, AName, word_kind, Side, OnRight, Mode, AtSum, AtTerm, AfterNumber, AfterName, AfterDot, AfterTerm, AfterOperand, Inside, AtEnd, if_name, if_join, walk}
use Rattle.def_format.proofs.Prefixes.{IsKind, is_and, is_or, is_not, is_true, is_false, is_name, kind_of_word}
use Rattle.pd_pred.specs.Building.{begins_with_word, begins_with_sign, begins_with_star, without_minus}

-- ---- names

name_of_kind : (w : List ℕ) (k : WordKind) → k ≡ AName → IsKind w k → is_keyword w ≡ false
name_of_kind w AName e (is_name h) = h
name_of_kind w AJoin e (is_and h) = absurd (cc)
name_of_kind w AJoin e (is_or h) = absurd (cc)
name_of_kind w ANot e (is_not h) = absurd (cc)
name_of_kind w ATruth e (is_true h) = absurd (cc)
name_of_kind w ATruth e (is_false h) = absurd (cc)

-- a word that is no keyword, and the walk after it
pub record NameStep (to : Mode) (d : ℕ) (w : List ℕ) (rest : List Token) : Type 0 where
  pub is_no_keyword : is_keyword w ≡ false
  pub goes_on : walk (Inside to d) rest ≡ Some AtEnd

pub name_step : (to : Mode) (d : ℕ) (w : List ℕ) (rest : List Token)
    → option_and_then (λ later. walk later rest) (if_name to d (word_kind w)) ≡ Some AtEnd → NameStep to d w rest
name_step to d w rest h = go (word_kind w) refl h
  where
    go : (k : WordKind) → word_kind w ≡ k → option_and_then (λ later. walk later rest) (if_name to d k) ≡ Some AtEnd
        → NameStep to d w rest
    go AName e h = record { is_no_keyword = name_of_kind w (word_kind w) e (kind_of_word w); goes_on = h }
    go ANot e h = absurd (cc)
    go AJoin e h = absurd (cc)
    go ATruth e h = absurd (cc)

pub record DotStep (side : Side) (d : ℕ) (t : Token) (rest : List Token) : Type 0 where
  pub is_dot : t ≡ Dot
  pub goes_on : walk (Inside (AfterDot side) d) rest ≡ Some AtEnd

pub dot_step : (side : Side) (d : ℕ) (t : Token) (rest : List Token) → walk (Inside (AfterName side) d) (t ∷ rest)
    ≡ Some AtEnd → DotStep side d t rest
dot_step side d Dot rest h = record { is_dot = refl; goes_on = h }
dot_step side d _ rest h = absurd (cc)

-- ---- terms

-- a number with no `*` after it
pub number_is_term : (side : Side) (d : ℕ) (ts : List Token) → begins_with_star ts ≡ false
    → walk (Inside (AfterNumber side) d) ts ≡ Some AtEnd → walk (Inside (AfterTerm side) d) ts ≡ Some AtEnd
number_is_term side d [] n h = absurd (cc)
number_is_term side d (Star ∷ rest) n h = absurd (cc)
number_is_term side d (_ ∷ rest) n h = h

-- ---- sums

-- the right side's first term
pub sum_begins : (d : ℕ) (ts : List Token) → walk (Inside AtSum d) ts ≡ Some AtEnd
    → walk (Inside (AtTerm OnRight) d) (without_minus ts) ≡ Some AtEnd
sum_begins d [] h = absurd (cc)
sum_begins d (Signs Minus ∷ rest) h = h
sum_begins d (Signs Plus ∷ rest) h = absurd (cc)
sum_begins d (Word w ∷ rest) h = h
sum_begins d (Digits n ∷ rest) h = h
sum_begins d (_ ∷ rest) h = absurd (cc)

-- after the right side an operand is over
pub operand_is_over : (d : ℕ) (ts : List Token) → begins_with_sign ts ≡ false → walk (Inside (AfterTerm OnRight) d) ts
    ≡ Some AtEnd → walk (Inside AfterOperand d) ts ≡ Some AtEnd
operand_is_over d [] n h = absurd (cc)
operand_is_over d (Signs s ∷ rest) n h = absurd (cc)
operand_is_over d (Word w ∷ rest) n h = h
operand_is_over d (CloseParen ∷ rest) n h = h
operand_is_over d (End ∷ rest) n h = h
operand_is_over d (_ ∷ rest) n h = absurd (cc)

-- ---- rows

no_join : (w : List ℕ) (k : WordKind) → k ≡ AJoin → IsKind w k → bytes_eq w (codes "and") ≡ false
    → bytes_eq w (codes "or") ≡ false → ⊥
no_join w AJoin e (is_and h) a o = let bad = rw h at a in cc
no_join w AJoin e (is_or h) a o = let bad = rw h at o in cc
no_join w AName e (is_name h) a o = cc
no_join w ANot e (is_not h) a o = cc
no_join w ATruth e (is_true h) a o = cc
no_join w ATruth e (is_false h) a o = cc

-- a word after an operand joins it to the next
word_joins : (d : ℕ) (w : List ℕ) (rest : List Token) → walk (Inside AfterOperand d) (Word w ∷ rest) ≡ Some AtEnd
    → word_kind w ≡ AJoin
word_joins d w rest h = go (word_kind w) h
  where
    go : (k : WordKind) → option_and_then (λ later. walk later rest) (if_join d k) ≡ Some AtEnd → k ≡ AJoin
    go AJoin h = refl
    go AName h = absurd (cc)
    go ANot h = absurd (cc)
    go ATruth h = absurd (cc)

-- what no `and` and no `or` goes on with is over: inside parentheses `)` stands there
pub paren_closes : (d : ℕ) (t : Token) (rest : List Token) → begins_with_word (codes "and") (t ∷ rest) ≡ false
    → begins_with_word (codes "or") (t ∷ rest) ≡ false → walk (Inside AfterOperand (suc d)) (t ∷ rest) ≡ Some AtEnd
    → t ≡ CloseParen
paren_closes d (Word w) rest a o h = absurd (no_join w (word_kind w) (word_joins (suc d) w rest h) (kind_of_word w) a o)
paren_closes d CloseParen rest a o h = refl
paren_closes d _ rest a o h = absurd (cc)

only_end : (ts : List Token) → walk AtEnd ts ≡ Some AtEnd → ts ≡ []
only_end [] h = refl
only_end (t ∷ rest) h = absurd (cc)

-- and outside of them the end
pub end_stands : (ts : List Token) → begins_with_word (codes "and") ts ≡ false → begins_with_word (codes "or") ts
    ≡ false → walk (Inside AfterOperand 0) ts ≡ Some AtEnd → ts ≡ End ∷ []
end_stands [] a o h = absurd (cc)
end_stands (Word w ∷ rest) a o h = absurd (no_join w (word_kind w) (word_joins 0 w rest h) (kind_of_word w) a o)
end_stands (End ∷ rest) a o h = ap (λ ts. End ∷ ts) (only_end rest h)
end_stands (_ ∷ rest) a o h = absurd (cc)
