-- A walk over tokens ends exactly on the tokens of a predicate.
use Rattle.std.proofs.Common.{◌≡◌, ℕ, suc, zero, Bool, true, false, cond, List, [], ◌∷◌, ◌++◌, refl, sym, ◌∙◌, ap, append_assoc}
use Rattle.std.specs.Prelude.{Option, Some, None, is_some, option_and_then, codes}
use Rattle.std.specs.Str.{bytes_eq}
use Rattle.std.proofs.lemmas.Slice.Eq.{bytes_eq-Decides}
use Rattle.def_model.specs.Predicates.{Term, Number, Variable, Times, Sign, Plus, Minus, Comparison, Predicate, Always, Never, Compare, Not, And, Or}
use Rattle.def_format.specs.Names.{is_keyword}
use Rattle.def_format.specs.Tokens.{Token, Word, Digits, OpenParen, CloseParen, Relates, Signs, Star, Dot, End}
use Rattle.def_format.specs.Grammar.{AnyName, SpellsReference, SpellsTerm, SpellsSigned, SpellsSum, Rule, OrRule, AndRule, word_or, word_and, word_not, Spells, either, no_or, both, no_and, negated, in_parens, always, never, compare, SpellsWhole, CanGoOn}
use Rattle.def_format.specs.PrefixWalk.{WordKind, ANot, AJoin, ATruth, AName, word_kind, Side, OnLeft, OnRight, Mode, AtOperand, AtSum, AtTerm, AfterNumber, AfterStar, AfterName, AfterDot, AfterTerm, AfterOperand, State, Inside, AtEnd, goes, if_name, operand_word, operand_next, sum_next, term_next, if_join, after_operand_next, after_term_next, after_number_next, name_next, dot_next, next, step, walk, start, begins}

-- ---- words

pub data IsKind (w : List ℕ) : WordKind → Type 0 where
  is_and : w ≡ codes "and" → IsKind w AJoin
  is_or : w ≡ codes "or" → IsKind w AJoin
  is_not : w ≡ codes "not" → IsKind w ANot
  is_true : w ≡ codes "true" → IsKind w ATruth
  is_false : w ≡ codes "false" → IsKind w ATruth
  is_name : is_keyword w ≡ false → IsKind w AName

pub kind_of_word : (w : List ℕ) → IsKind w (word_kind w)
kind_of_word w =
    go (bytes_eq w (codes "and")) (bytes_eq w (codes "or")) (bytes_eq w (codes "not")) (bytes_eq w (codes "true"))
    (bytes_eq w (codes "false")) refl refl refl refl refl
  where
    same : (v : List ℕ) → bytes_eq w v ≡ true → w ≡ v
    same v = (bytes_eq-Decides w v).0

    go : (a b c d e : Bool) → bytes_eq w (codes "and") ≡ a → bytes_eq w (codes "or") ≡ b → bytes_eq w (codes "not") ≡ c
        → bytes_eq w (codes "true") ≡ d → bytes_eq w (codes "false") ≡ e
        → IsKind w (cond a AJoin (cond b AJoin (cond c ANot (cond d ATruth (cond e ATruth AName)))))
    go true b c d e ea eb ec ed ee = is_and (same (codes "and") ea)
    go false true c d e ea eb ec ed ee = is_or (same (codes "or") eb)
    go false false true d e ea eb ec ed ee = is_not (same (codes "not") ec)
    go false false false true e ea eb ec ed ee = is_true (same (codes "true") ed)
    go false false false false true ea eb ec ed ee = is_false (same (codes "false") ee)
    go false false false false false ea eb ec ed ee = is_name (rw (ea, eb, ec, ed, ee) refl)

pub kind_of_name : (w : List ℕ) → is_keyword w ≡ false → word_kind w ≡ AName
kind_of_name w h = go (word_kind w) (kind_of_word w)
  where
    go : (k : WordKind) → IsKind w k → k ≡ AName
    go AJoin (is_and e) = absurd (let bad = rw e at h in cc)
    go AJoin (is_or e) = absurd (let bad = rw e at h in cc)
    go ANot (is_not e) = absurd (let bad = rw e at h in cc)
    go ATruth (is_true e) = absurd (let bad = rw e at h in cc)
    go ATruth (is_false e) = absurd (let bad = rw e at h in cc)
    go AName (is_name e) = refl

-- ---- the walk

pub walk-append : (s : State) (xs ys : List Token)
    → walk s (xs ++ ys) ≡ option_and_then (λ later. walk later ys) (walk s xs)
walk-append s [] ys = refl
walk-append s (x ∷ xs) ys = go (step s x) (λ later. walk-append later xs ys)
  where
    go : (o : Option State) → ((later : State)
        → walk later (xs ++ ys) ≡ option_and_then (λ l. walk l ys) (walk later xs))
        → option_and_then (λ l. walk l (xs ++ ys)) o
        ≡ option_and_then (λ l. walk l ys) (option_and_then (λ l. walk l xs) o)
    go None ih = refl
    go (Some later) ih = ih later

-- ---- what is spelled is walked

-- after a term
pub data IsAfterTerm (side : Side) : Mode → Type 0 where
  a_term : IsAfterTerm side (AfterTerm side)
  a_number : IsAfterTerm side (AfterNumber side)

-- a mode in which a term may begin
record Begins (mode : Mode) (side : Side) (d : ℕ) : Type 0 where
  on_name : (w : List ℕ) → is_keyword w ≡ false → next mode d (Word w) ≡ goes (AfterName side) d
  on_number : (n : ℕ) → next mode d (Digits n) ≡ goes (AfterNumber side) d

begins_term : (side : Side) (d : ℕ) → Begins (AtTerm side) side d
begins_term side d = record { on_name = λ w h. rw (kind_of_name w h) refl; on_number = λ n. refl }

begins_sum : (d : ℕ) → Begins AtSum OnRight d
begins_sum d = record { on_name = λ w h. rw (kind_of_name w h) refl; on_number = λ n. refl }

begins_operand : (d : ℕ) → Begins AtOperand OnLeft d
begins_operand d = record { on_name = λ w h. rw (kind_of_name w h) refl; on_number = λ n. refl }

-- a walk goes on over tokens to a mode of which P holds
record Goes (mode : Mode) (d : ℕ) (tokens : List Token) (P : Mode → Type 0) : Type 0 where
  to : Mode
  there : P to
  walked : (rest : List Token) → walk (Inside mode d) (tokens ++ rest) ≡ walk (Inside to d) rest

walk_one : (mode to : Mode) (d e : ℕ) (t : Token) (rest : List Token) → next mode d t ≡ goes to e
    → walk (Inside mode d) (t ∷ rest) ≡ walk (Inside to e) rest
walk_one mode to d e t rest h = rw h refl

walk_reference : (mode : Mode) (side : Side) (d : ℕ) (tokens : List Token) (p v : ℕ)
    → ((w : List ℕ) → is_keyword w ≡ false → next mode d (Word w) ≡ goes (AfterName side) d)
    → SpellsReference AnyName tokens p v → Goes mode d tokens (IsAfterTerm side)
walk_reference mode side d tokens p v on_name spelled = record { to = AfterTerm side; there = a_term; walked = walked }
  where
    walked : (rest : List Token) → walk (Inside mode d) (tokens ++ rest) ≡ walk (Inside (AfterTerm side) d) rest
    walked rest = rw (spelled.2, on_name spelled.0 spelled.3, kind_of_name spelled.1 spelled.4) refl

walk_term : (mode : Mode) (side : Side) (d : ℕ) (tokens : List Token) (t : Term) → Begins mode side d
    → SpellsTerm AnyName tokens t → Goes mode d tokens (IsAfterTerm side)
walk_term mode side d tokens (Number n) b spelled =
    record { to = AfterNumber side; there = a_number; walked = λ rest. rw (spelled, b.on_number n) refl }
walk_term mode side d tokens (Variable p v) b spelled = walk_reference mode side d tokens p v b.on_name spelled
walk_term mode side d tokens (Times n p v) b spelled =
    let factor = walk_reference (AfterStar side) side d spelled.0 p v (λ w h. rw (kind_of_name w h) refl) spelled.2 in
    record { to = factor.to; there = factor.there; walked = λ rest. rw (spelled.1, b.on_number n) (factor.walked rest) }

sign_after : (side : Side) (mode : Mode) (d : ℕ) (sign : Sign) → IsAfterTerm side mode
    → next mode d (Signs sign) ≡ goes (AtTerm side) d
sign_after OnLeft mode d sign a_term = refl
sign_after OnLeft mode d sign a_number = refl
sign_after OnRight mode d sign a_term = refl
sign_after OnRight mode d sign a_number = refl

walk_signed : (side : Side) (mode : Mode) (d : ℕ) (tokens : List Token) (xs : List (Sign × Term))
    → IsAfterTerm side mode → SpellsSigned AnyName tokens xs → Goes mode d tokens (IsAfterTerm side)
walk_signed side mode d tokens [] following spelled =
    record { to = mode; there = following; walked = λ rest. rw spelled refl }
walk_signed side mode d tokens ((sign, term) ∷ others) following spelled =
    let first = walk_term (AtTerm side) side d spelled.0 term (begins_term side d) spelled.3 in
    let later = walk_signed side first.to d spelled.1 others first.there spelled.4 in
    record {
      to = later.to;
      there = later.there;
      walked =
          λ rest. rw (spelled.2, sign_after side mode d sign following, append_assoc spelled.0 spelled.1 rest)
          (first.walked (spelled.1 ++ rest) ∙ later.walked rest);
    }

-- a mode in which a sum may begin
record BeginsSum (mode : Mode) (side : Side) (d : ℕ) : Type 0 where
  term : Begins mode side d
  on_minus : next mode d (Signs Minus) ≡ goes (AtTerm side) d

walk_sum : (mode : Mode) (side : Side) (d : ℕ) (tokens : List Token) (xs : List (Sign × Term)) → BeginsSum mode side d
    → SpellsSum AnyName tokens xs → Goes mode d tokens (IsAfterTerm side)
walk_sum mode side d tokens [] b spelled = absurd spelled
walk_sum mode side d tokens ((Plus, term) ∷ others) b spelled =
    let first = walk_term mode side d spelled.0 term b.term spelled.3 in
    let later = walk_signed side first.to d spelled.1 others first.there spelled.4 in
    let same : tokens ≡ spelled.0 ++ spelled.1 = let e = spelled.2 in cc in
    record {
      to = later.to;
      there = later.there;
      walked =
          λ rest. rw (same, append_assoc spelled.0 spelled.1 rest) (first.walked (spelled.1 ++ rest)
          ∙ later.walked rest);
    }
walk_sum mode side d tokens ((Minus, term) ∷ others) b spelled =
    let first = walk_term (AtTerm side) side d spelled.0 term (begins_term side d) spelled.3 in
    let later = walk_signed side first.to d spelled.1 others first.there spelled.4 in
    record {
      to = later.to;
      there = later.there;
      walked =
          λ rest. rw (spelled.2, b.on_minus, append_assoc spelled.0 spelled.1 rest) (first.walked (spelled.1 ++ rest)
          ∙ later.walked rest);
    }

-- after an operand
pub data IsAfter : Mode → Type 0 where
  an_operand : IsAfter AfterOperand
  a_sum : {mode : Mode} → IsAfterTerm OnRight mode → IsAfter mode

join_after : (mode : Mode) (d : ℕ) (w : List ℕ) → word_kind w ≡ AJoin → IsAfter mode
    → next mode d (Word w) ≡ goes AtOperand d
join_after mode d w k an_operand = rw k refl
join_after mode d w k (a_sum a_term) = rw k refl
join_after mode d w k (a_sum a_number) = rw k refl

pub close_after : (mode : Mode) (d : ℕ) → IsAfter mode → next mode (suc d) CloseParen ≡ goes AfterOperand d
close_after mode d an_operand = refl
close_after mode d (a_sum a_term) = refl
close_after mode d (a_sum a_number) = refl

pub end_after : (mode : Mode) → IsAfter mode → next mode 0 End ≡ Some AtEnd
end_after mode an_operand = refl
end_after mode (a_sum a_term) = refl
end_after mode (a_sum a_number) = refl

pub relation_after : (mode : Mode) (d : ℕ) (c : Comparison) → IsAfterTerm OnLeft mode
    → next mode d (Relates c) ≡ goes AtSum d
relation_after mode d c a_term = refl
relation_after mode d c a_number = refl

-- two walks with a word between them
walk_joined : (d : ℕ) (left right : List Token) (w : List ℕ) → word_kind w ≡ AJoin → Goes AtOperand d left IsAfter
    → Goes AtOperand d right IsAfter → Goes AtOperand d (left ++ Word w ∷ right) IsAfter
walk_joined d left right w k first later =
    record {
      to = later.to;
      there = later.there;
      walked =
          λ rest. rw (
            append_assoc left (Word w ∷ right) rest,
            first.walked (Word w ∷ (right ++ rest)),
            join_after first.to d w k first.there,
          ) (later.walked rest);
    }

walk_spelled : {rule : Rule} {tokens : List Token} {a : Predicate} (d : ℕ) → Spells AnyName rule tokens a
    → Goes AtOperand d tokens IsAfter
walk_spelled d (either left right l r) =
    walk_joined d left right (codes "or") refl (walk_spelled d l) (walk_spelled d r)
walk_spelled d (no_or s) = walk_spelled d s
walk_spelled d (both left right l r) = walk_joined d left right (codes "and") refl (walk_spelled d l) (walk_spelled d r)
walk_spelled d (no_and s) = walk_spelled d s
walk_spelled d (negated s) =
    let inner = walk_spelled d s in
    record { to = inner.to; there = inner.there; walked = λ rest. inner.walked rest }
walk_spelled d (in_parens tokens s) =
    let inner = walk_spelled (suc d) s in
    record {
      to = AfterOperand;
      there = an_operand;
      walked =
          λ rest. rw (
            append_assoc tokens (CloseParen ∷ []) rest,
            inner.walked (CloseParen ∷ rest),
            close_after inner.to d inner.there,
          ) refl;
    }
walk_spelled d always = record { to = AfterOperand; there = an_operand; walked = λ rest. refl }
walk_spelled d never = record { to = AfterOperand; there = an_operand; walked = λ rest. refl }
walk_spelled d (compare left right {xs = xs} {ys = ys} {comparison = c} l r) =
    let first = walk_sum AtOperand OnLeft d left xs (record { term = begins_operand d; on_minus = refl }) l in
    let later = walk_sum AtSum OnRight d right ys (record { term = begins_sum d; on_minus = refl }) r in
    record {
      to = later.to;
      there = a_sum later.there;
      walked =
          λ rest. rw (
            append_assoc left (Relates c ∷ right) rest,
            first.walked (Relates c ∷ (right ++ rest)),
            relation_after first.to d c first.there,
          ) (later.walked rest);
    }

walk_whole : (tokens : List Token) (a : Predicate) → SpellsWhole AnyName tokens a → walk start tokens ≡ Some AtEnd
walk_whole tokens a spelled =
    let inner = walk_spelled 0 spelled.2 in
    rw (spelled.1, inner.walked (End ∷ []), end_after inner.to inner.there) refl

pub begins_of_can : (tokens : List Token) → CanGoOn tokens → begins tokens ≡ true
begins_of_can tokens can =
    go (walk start tokens) (sym (walk-append start tokens can.0) ∙ walk_whole (tokens ++ can.0) can.1 can.2)
  where
    go : (o : Option State) → option_and_then (λ later. walk later can.0) o ≡ Some AtEnd → is_some o ≡ true
    go None e = absurd (cc)
    go (Some s) e = refl

-- ---- what is walked to the end is spelled

-- the tokens are by this rule some predicate's
abbrev By : Rule → List Token → Type 0
By rule tokens = (a : Predicate) × Spells AnyName rule tokens a

by_or : {a : Predicate} {tokens : List Token} {c : Predicate} (left : List Token) → Spells AnyName OrRule left a
    → Spells AnyName OrRule tokens c → By OrRule (left ++ word_or ∷ tokens)
by_or left l (either left' right' {b = b'} l' r') =
    let first = by_or left l l' in (
      Or first.0 b',
      rw (sym (append_assoc left (word_or ∷ left') (word_or ∷ right')))
          (either (left ++ word_or ∷ left') right' first.1 r'),
    )
by_or {a = a} {tokens = tokens} {c = c} left l (no_or s) = (Or a c, either left tokens l s)

and_and : {a : Predicate} {tokens : List Token} {c : Predicate} (left : List Token) → Spells AnyName AndRule left a
    → Spells AnyName AndRule tokens c → By AndRule (left ++ word_and ∷ tokens)
and_and left l (both left' right' {b = b'} l' r') =
    let first = and_and left l l' in (
      And first.0 b',
      rw (sym (append_assoc left (word_and ∷ left') (word_and ∷ right')))
          (both (left ++ word_and ∷ left') right' first.1 r'),
    )
and_and {a = a} {tokens = tokens} {c = c} left l (no_and s) = (And a c, both left tokens l s)

or_and : {a : Predicate} {left : List Token} {c : Predicate} (right : List Token) → Spells AnyName OrRule left a
    → Spells AnyName AndRule right c → By OrRule (left ++ word_and ∷ right)
or_and right (either left' right' {a = a'} l' r') r =
    let last = and_and right' r' r in (
      Or a' last.0,
      rw (append_assoc left' (word_or ∷ right') (word_and ∷ right))
          (either left' (right' ++ word_and ∷ right) l' last.1),
    )
or_and {left = left} right (no_or s) r =
    let whole = and_and left s r in
    (whole.0, no_or whole.1)

by_and : {a : Predicate} {tokens : List Token} {c : Predicate} (left : List Token) → Spells AnyName OrRule left a
    → Spells AnyName OrRule tokens c → By OrRule (left ++ word_and ∷ tokens)
by_and left l (either left' right' {b = b'} l' r') =
    let first = by_and left l l' in (
      Or first.0 b',
      rw (sym (append_assoc left (word_and ∷ left') (word_or ∷ right')))
          (either (left ++ word_and ∷ left') right' first.1 r'),
    )
by_and {tokens = tokens} left l (no_or s) = or_and tokens l s

not_and : {tokens : List Token} {c : Predicate} → Spells AnyName AndRule tokens c → By AndRule (word_not ∷ tokens)
not_and (both left right {b = b} l r) = let first = not_and l in (And first.0 b, both (word_not ∷ left) right first.1 r)
not_and {c = c} (no_and s) = (Not c, no_and (negated s))

by_not : {tokens : List Token} {c : Predicate} → Spells AnyName OrRule tokens c → By OrRule (word_not ∷ tokens)
by_not (either left right {b = b} l r) = let first =
    by_not l in (Or first.0 b, either (word_not ∷ left) right first.1 r)
by_not (no_or s) = let inner = not_and s in (inner.0, no_or inner.1)

-- the word of the kind joins two predicates
by_join : (w : List ℕ) (left right : List Token) → IsKind w AJoin → By OrRule left → By OrRule right
    → By OrRule (left ++ Word w ∷ right)
by_join w left right (is_and e) (a, l) (b, r) = rw e (by_and left l r)
by_join w left right (is_or e) (a, l) (b, r) = rw e (by_or left l r)

mutual
  -- the parentheses that are open are closed, and the end comes
  data Closes : ℕ → List Token → Type 0 where
    by_end : Closes zero (End ∷ [])
    by_paren : {d : ℕ} {rest : List Token} → Follows d rest → Closes (suc d) (CloseParen ∷ rest)

  -- after an operand: that, or a word that joins, a predicate, and that
  data Follows : ℕ → List Token → Type 0 where
    directly : {d : ℕ} {rest : List Token} → Closes d rest → Follows d rest
    by_word : {d : ℕ} (w : List ℕ) (inner rest : List Token) → IsKind w AJoin → By OrRule inner → Closes d rest
        → Follows d (Word w ∷ (inner ++ rest))

-- an operand, and what closes
record IsOperand (d : ℕ) (tokens : List Token) : Type 0 where
  inner : List Token
  rest : List Token
  parts : tokens ≡ inner ++ rest
  spelled : By OrRule inner
  closes : Closes d rest

finish : (d : ℕ) (inner rest : List Token) → By OrRule inner → Follows d rest → IsOperand d (inner ++ rest)
finish d inner rest spelled (directly closes) =
    record { inner = inner; rest = rest; parts = refl; spelled = spelled; closes = closes }
finish d inner rest spelled (by_word w more last join others closes) =
    record {
      inner = inner ++ Word w ∷ more;
      rest = last;
      parts = sym (append_assoc inner (Word w ∷ more) last);
      spelled = by_join w inner more join spelled others;
      closes = closes;
    }

abbrev IsSum : List Token → Type 0
IsSum tokens = (xs : List (Sign × Term)) × SpellsSum AnyName tokens xs

-- after a sum: on the left, a comparison and a sum come first
data AfterSum (d : ℕ) : Side → List Token → Type 0 where
  on_right : {rest : List Token} → Follows d rest → AfterSum d OnRight rest
  on_left : (c : Comparison) (sum rest : List Token) → IsSum sum → Follows d rest
      → AfterSum d OnLeft (Relates c ∷ (sum ++ rest))

-- after a term: signed terms, and what comes after the sum
record AfterTerms (d : ℕ) (side : Side) (tokens : List Token) : Type 0 where
  inner : List Token
  rest : List Token
  parts : tokens ≡ inner ++ rest
  terms : List (Sign × Term)
  spelled : SpellsSigned AnyName inner terms
  following : AfterSum d side rest

-- a term, and what comes after it
record IsTerms (d : ℕ) (side : Side) (tokens : List Token) : Type 0 where
  first : List Token
  rest : List Token
  parts : tokens ≡ first ++ rest
  term : Term
  spelled : SpellsTerm AnyName first term
  following : AfterTerms d side rest

-- what the tokens from here to the end are, in each mode
data IsDot (d : ℕ) (side : Side) : List Token → Type 0 where
  a_dot : (w : List ℕ) {rest : List Token} → is_keyword w ≡ false → AfterTerms d side rest
      → IsDot d side (Dot ∷ Word w ∷ rest)

data IsVar (d : ℕ) (side : Side) : List Token → Type 0 where
  a_var : (w : List ℕ) {rest : List Token} → is_keyword w ≡ false → AfterTerms d side rest
      → IsVar d side (Word w ∷ rest)

data IsFactor (d : ℕ) (side : Side) : List Token → Type 0 where
  a_factor : (w : List ℕ) {rest : List Token} → is_keyword w ≡ false → IsDot d side rest
      → IsFactor d side (Word w ∷ rest)

data IsAfterNumber (d : ℕ) (side : Side) : List Token → Type 0 where
  no_factor : {rest : List Token} → AfterTerms d side rest → IsAfterNumber d side rest
  by_star : {rest : List Token} → IsFactor d side rest → IsAfterNumber d side (Star ∷ rest)

record IsSumAndMore (d : ℕ) (tokens : List Token) : Type 0 where
  inner : List Token
  rest : List Token
  parts : tokens ≡ inner ++ rest
  spelled : IsSum inner
  follows : Follows d rest

abbrev Means : Mode → ℕ → List Token → Type 0
Means AtOperand d tokens = IsOperand d tokens
Means AtSum d tokens = IsSumAndMore d tokens
Means (AtTerm side) d tokens = IsTerms d side tokens
Means (AfterNumber side) d tokens = IsAfterNumber d side tokens
Means (AfterStar side) d tokens = IsFactor d side tokens
Means (AfterName side) d tokens = IsDot d side tokens
Means (AfterDot side) d tokens = IsVar d side tokens
Means (AfterTerm side) d tokens = AfterTerms d side tokens
Means AfterOperand d tokens = Follows d tokens

-- ---- how the modes' meanings fit together

no_terms : (d : ℕ) (side : Side) (rest : List Token) → AfterSum d side rest → AfterTerms d side rest
no_terms d side rest following = record {
  inner = [];
  rest = rest;
  parts = refl;
  terms = [];
  spelled = refl;
  following =
      following;
}

more_terms : (d : ℕ) (side : Side) (sign : Sign) (tokens : List Token) → IsTerms d side tokens
    → AfterTerms d side (Signs sign ∷ tokens)
more_terms d side sign tokens t =
    record {
      inner = Signs sign ∷ (t.first ++ t.following.inner);
      rest = t.following.rest;
      parts =
          ap (λ ts. Signs sign ∷ ts) (t.parts ∙ ap (λ ts. t.first ++ ts) t.following.parts
          ∙ sym (append_assoc t.first t.following.inner t.following.rest));
      terms = (sign, t.term) ∷ t.following.terms;
      spelled = (t.first, t.following.inner, refl, t.spelled, t.following.spelled);
      following =
          t.following.following;
    }

terms_of_dot : (d : ℕ) (side : Side) (w : List ℕ) (tokens : List Token) → is_keyword w ≡ false → IsDot d side tokens
    → IsTerms d side (Word w ∷ tokens)
terms_of_dot d side w tokens h (a_dot v {rest = rest} k following) =
    record {
      first = Word w ∷ Dot ∷ Word v ∷ [];
      rest = rest;
      parts = refl;
      term = Variable 0 0;
      spelled =
          (w, v, refl, h, k, tt);
      following = following;
    }

terms_of_number : (d : ℕ) (side : Side) (n : ℕ) (tokens : List Token) → IsAfterNumber d side tokens
    → IsTerms d side (Digits n ∷ tokens)
terms_of_number d side n tokens (no_factor following) =
    record {
      first = Digits n ∷ [];
      rest = tokens;
      parts = refl;
      term = Number n;
      spelled = refl;
      following =
          following;
    }
terms_of_number d side n tokens (by_star (a_factor w h (a_dot v {rest = rest} k following))) =
    record {
      first = Digits n ∷ Star ∷ Word w ∷ Dot ∷ Word v ∷ [];
      rest = rest;
      parts = refl;
      term =
          Times n 0 0;
      spelled = (Word w ∷ Dot ∷ Word v ∷ [], refl, (w, v, refl, h, k, tt));
      following = following;
    }

-- a sum whose first sign is written or not, with what comes after it
record IsWholeSum (d : ℕ) (side : Side) (tokens : List Token) : Type 0 where
  inner : List Token
  rest : List Token
  parts : tokens ≡ inner ++ rest
  spelled : IsSum inner
  following : AfterSum d side rest

plain_sum : (d : ℕ) (side : Side) (tokens : List Token) → IsTerms d side tokens → IsWholeSum d side tokens
plain_sum d side tokens t =
    record {
      inner = t.first ++ t.following.inner;
      rest = t.following.rest;
      parts =
          t.parts ∙ ap (λ ts. t.first ++ ts) t.following.parts
          ∙ sym (append_assoc t.first t.following.inner t.following.rest);
      spelled =
          ((Plus, t.term) ∷ t.following.terms, (t.first, t.following.inner, refl, t.spelled, t.following.spelled));
      following = t.following.following;
    }

minus_sum : (d : ℕ) (side : Side) (tokens : List Token) → IsTerms d side tokens
    → IsWholeSum d side (Signs Minus ∷ tokens)
minus_sum d side tokens t =
    record {
      inner = Signs Minus ∷ (t.first ++ t.following.inner);
      rest = t.following.rest;
      parts =
          ap (λ ts. Signs Minus ∷ ts) (t.parts ∙ ap (λ ts. t.first ++ ts) t.following.parts
          ∙ sym (append_assoc t.first t.following.inner t.following.rest));
      spelled =
          ((Minus, t.term) ∷ t.following.terms, (t.first, t.following.inner, refl, t.spelled, t.following.spelled));
      following = t.following.following;
    }

right_sum : (d : ℕ) (tokens : List Token) → IsWholeSum d OnRight tokens → IsSumAndMore d tokens
right_sum d tokens s = record {
  inner = s.inner;
  rest = s.rest;
  parts = s.parts;
  spelled = s.spelled;
  follows =
      follows s.following;
}
  where
    follows : AfterSum d OnRight s.rest → Follows d s.rest
    follows (on_right f) = f

left_sum : (d : ℕ) (tokens : List Token) → IsWholeSum d OnLeft tokens → IsOperand d tokens
left_sum d tokens s = rw s.parts (compared s.rest s.following)
  where
    compared : (rest : List Token) → AfterSum d OnLeft rest → IsOperand d (s.inner ++ rest)
    compared rest (on_left c sum last right follows) =
        rw (sym (append_assoc s.inner (Relates c ∷ sum) last))
        (finish d (s.inner ++ Relates c ∷ sum) last (
          Compare s.spelled.0 c right.0,
          no_or (no_and (compare s.inner sum s.spelled.1 right.1)),
        ) follows)

negated_operand : (d : ℕ) (tokens : List Token) → IsOperand d tokens → IsOperand d (word_not ∷ tokens)
negated_operand d tokens o =
    record {
      inner = word_not ∷ o.inner;
      rest = o.rest;
      parts = ap (λ ts. word_not ∷ ts) o.parts;
      spelled =
          by_not o.spelled.1;
      closes = o.closes;
    }

operand_in_parens : (d : ℕ) (tokens : List Token) → IsOperand (suc d) tokens → IsOperand d (OpenParen ∷ tokens)
operand_in_parens d tokens o = rw o.parts (closed o.closes)
  where
    closed : {rest : List Token} → Closes (suc d) rest → IsOperand d (OpenParen ∷ (o.inner ++ rest))
    closed (by_paren {rest = later} follows) =
        rw (sym (append_assoc o.inner (CloseParen ∷ []) later))
        (finish d (OpenParen ∷ (o.inner ++ CloseParen ∷ [])) later (
          o.spelled.0,
          no_or (no_and (in_parens o.inner o.spelled.1)),
        ) follows)

follows_word : (d : ℕ) (w : List ℕ) (tokens : List Token) → IsKind w AJoin → IsOperand d tokens
    → Follows d (Word w ∷ tokens)
follows_word d w tokens join o = rw o.parts (by_word w o.inner o.rest join o.spelled o.closes)

-- ---- a walk to the end

-- a step leads to a state from which the rest means something
abbrev MeansState : State → List Token → Type 0
MeansState (Inside mode d) tokens = Means mode d tokens
MeansState AtEnd tokens = tokens ≡ []

-- where a step leads, and what the tokens after it mean then
data Leads : Option State → List Token → Type 0 where
  leads : (s : State) {tokens : List Token} → MeansState s tokens → Leads (Some s) tokens

operand_means : (d : ℕ) (t : Token) (tokens : List Token) → Leads (operand_next d t) tokens → IsOperand d (t ∷ tokens)
operand_means d (Word w) tokens l = go (word_kind w) (kind_of_word w) l
  where
    go : (k : WordKind) → IsKind w k → Leads (operand_word d k) tokens → IsOperand d (Word w ∷ tokens)
    go ANot (is_not e) (leads s m) = rw e (negated_operand d tokens m)
    go ATruth (is_true e) (leads s m) =
        rw e (finish d (Word (codes "true") ∷ []) tokens (Always, no_or (no_and always)) m)
    go ATruth (is_false e) (leads s m) =
        rw e (finish d (Word (codes "false") ∷ []) tokens (Never, no_or (no_and never)) m)
    go AName (is_name h) (leads s m) =
        left_sum d (Word w ∷ tokens) (plain_sum d OnLeft (Word w ∷ tokens) (terms_of_dot d OnLeft w tokens h m))
    go AJoin k l = elim l [ ]
operand_means d (Digits n) tokens (leads s m) =
    left_sum d (Digits n ∷ tokens) (plain_sum d OnLeft (Digits n ∷ tokens) (terms_of_number d OnLeft n tokens m))
operand_means d OpenParen tokens (leads s m) = operand_in_parens d tokens m
operand_means d CloseParen tokens l = elim l [ ]
operand_means d (Relates c) tokens l = elim l [ ]
operand_means d (Signs Plus) tokens l = elim l [ ]
operand_means d (Signs Minus) tokens (leads s m) = left_sum d (Signs Minus ∷ tokens) (minus_sum d OnLeft tokens m)
operand_means d Star tokens l = elim l [ ]
operand_means d Dot tokens l = elim l [ ]
operand_means d End tokens l = elim l [ ]

-- a name leads on, and no other word does
named : {B : Type 0} (mode : Mode) (d : ℕ) (w : List ℕ) (tokens : List Token)
    → (is_keyword w ≡ false → Means mode d tokens → B) → Leads (if_name mode d (word_kind w)) tokens → B
named {B} mode d w tokens f l = go (word_kind w) (kind_of_word w) l
  where
    go : (k : WordKind) → IsKind w k → Leads (if_name mode d k) tokens → B
    go AName (is_name h) (leads s m) = f h m
    go ANot k l = elim l [ ]
    go AJoin k l = elim l [ ]
    go ATruth k l = elim l [ ]

term_means : (side : Side) (d : ℕ) (t : Token) (tokens : List Token) → Leads (term_next side d t) tokens
    → IsTerms d side (t ∷ tokens)
term_means side d (Word w) tokens l = named (AfterName side) d w tokens (λ h m. terms_of_dot d side w tokens h m) l
term_means side d (Digits n) tokens (leads s m) = terms_of_number d side n tokens m
term_means side d OpenParen tokens l = elim l [ ]
term_means side d CloseParen tokens l = elim l [ ]
term_means side d (Relates c) tokens l = elim l [ ]
term_means side d (Signs sign) tokens l = elim l [ ]
term_means side d Star tokens l = elim l [ ]
term_means side d Dot tokens l = elim l [ ]
term_means side d End tokens l = elim l [ ]

sum_means : (d : ℕ) (t : Token) (tokens : List Token) → Leads (sum_next d t) tokens → IsSumAndMore d (t ∷ tokens)
sum_means d (Word w) tokens l =
    named (AfterName OnRight) d w tokens
    (λ h m. right_sum d (Word w ∷ tokens) (plain_sum d OnRight (Word w ∷ tokens) (terms_of_dot d OnRight w tokens h m)))
    l
sum_means d (Digits n) tokens (leads s m) =
    right_sum d (Digits n ∷ tokens) (plain_sum d OnRight (Digits n ∷ tokens) (terms_of_number d OnRight n tokens m))
sum_means d OpenParen tokens l = elim l [ ]
sum_means d CloseParen tokens l = elim l [ ]
sum_means d (Relates c) tokens l = elim l [ ]
sum_means d (Signs Plus) tokens l = elim l [ ]
sum_means d (Signs Minus) tokens (leads s m) = right_sum d (Signs Minus ∷ tokens) (minus_sum d OnRight tokens m)
sum_means d Star tokens l = elim l [ ]
sum_means d Dot tokens l = elim l [ ]
sum_means d End tokens l = elim l [ ]

after_operand_means : (d : ℕ) (t : Token) (tokens : List Token) → Leads (after_operand_next d t) tokens
    → Follows d (t ∷ tokens)
after_operand_means d (Word w) tokens l = go (word_kind w) (kind_of_word w) l
  where
    go : (k : WordKind) → IsKind w k → Leads (if_join d k) tokens → Follows d (Word w ∷ tokens)
    go AJoin k (leads s m) = follows_word d w tokens k m
    go ANot k l = elim l [ ]
    go ATruth k l = elim l [ ]
    go AName k l = elim l [ ]
after_operand_means zero End tokens (leads s m) = rw m (directly by_end)
after_operand_means (suc d) End tokens l = elim l [ ]
after_operand_means zero CloseParen tokens l = elim l [ ]
after_operand_means (suc d) CloseParen tokens (leads s m) = directly (by_paren m)
after_operand_means d (Digits n) tokens l = elim l [ ]
after_operand_means d OpenParen tokens l = elim l [ ]
after_operand_means d (Relates c) tokens l = elim l [ ]
after_operand_means d (Signs sign) tokens l = elim l [ ]
after_operand_means d Star tokens l = elim l [ ]
after_operand_means d Dot tokens l = elim l [ ]

after_term_means : (side : Side) (d : ℕ) (t : Token) (tokens : List Token) → Leads (after_term_next side d t) tokens
    → AfterTerms d side (t ∷ tokens)
after_term_means side d (Signs sign) tokens (leads s m) = more_terms d side sign tokens m
after_term_means OnLeft d (Relates c) tokens (leads s m) =
    no_terms d OnLeft (Relates c ∷ tokens) (rw m.parts (on_left c m.inner m.rest m.spelled m.follows))
after_term_means OnLeft d (Word w) tokens l = elim l [ ]
after_term_means OnLeft d (Digits n) tokens l = elim l [ ]
after_term_means OnLeft d OpenParen tokens l = elim l [ ]
after_term_means OnLeft d CloseParen tokens l = elim l [ ]
after_term_means OnLeft d Star tokens l = elim l [ ]
after_term_means OnLeft d Dot tokens l = elim l [ ]
after_term_means OnLeft d End tokens l = elim l [ ]
after_term_means OnRight d (Word w) tokens l =
    no_terms d OnRight (Word w ∷ tokens) (on_right (after_operand_means d (Word w) tokens l))
after_term_means OnRight d CloseParen tokens l =
    no_terms d OnRight (CloseParen ∷ tokens) (on_right (after_operand_means d CloseParen tokens l))
after_term_means OnRight d End tokens l =
    no_terms d OnRight (End ∷ tokens) (on_right (after_operand_means d End tokens l))
after_term_means OnRight d (Digits n) tokens l = elim l [ ]
after_term_means OnRight d OpenParen tokens l = elim l [ ]
after_term_means OnRight d (Relates c) tokens l = elim l [ ]
after_term_means OnRight d Star tokens l = elim l [ ]
after_term_means OnRight d Dot tokens l = elim l [ ]

factor_means : (side : Side) (d : ℕ) (t : Token) (tokens : List Token) → Leads (name_next (AfterName side) d t) tokens
    → IsFactor d side (t ∷ tokens)
factor_means side d (Word w) tokens l = named (AfterName side) d w tokens (λ h m. a_factor w h m) l
factor_means side d (Digits n) tokens l = elim l [ ]
factor_means side d OpenParen tokens l = elim l [ ]
factor_means side d CloseParen tokens l = elim l [ ]
factor_means side d (Relates c) tokens l = elim l [ ]
factor_means side d (Signs sign) tokens l = elim l [ ]
factor_means side d Star tokens l = elim l [ ]
factor_means side d Dot tokens l = elim l [ ]
factor_means side d End tokens l = elim l [ ]

var_means : (side : Side) (d : ℕ) (t : Token) (tokens : List Token) → Leads (name_next (AfterTerm side) d t) tokens
    → IsVar d side (t ∷ tokens)
var_means side d (Word w) tokens l = named (AfterTerm side) d w tokens (λ h m. a_var w h m) l
var_means side d (Digits n) tokens l = elim l [ ]
var_means side d OpenParen tokens l = elim l [ ]
var_means side d CloseParen tokens l = elim l [ ]
var_means side d (Relates c) tokens l = elim l [ ]
var_means side d (Signs sign) tokens l = elim l [ ]
var_means side d Star tokens l = elim l [ ]
var_means side d Dot tokens l = elim l [ ]
var_means side d End tokens l = elim l [ ]

-- a dot, where what follows it means a variable's name
dot_means : (side : Side) (d : ℕ) (t : Token) (tokens : List Token) → Leads (dot_next side d t) tokens
    → IsDot d side (t ∷ tokens)
dot_means side d Dot tokens (leads s m) = of_var m
  where
    of_var : {ts : List Token} → IsVar d side ts → IsDot d side (Dot ∷ ts)
    of_var (a_var w h following) = a_dot w h following
dot_means side d (Word w) tokens l = elim l [ ]
dot_means side d (Digits n) tokens l = elim l [ ]
dot_means side d OpenParen tokens l = elim l [ ]
dot_means side d CloseParen tokens l = elim l [ ]
dot_means side d (Relates c) tokens l = elim l [ ]
dot_means side d (Signs sign) tokens l = elim l [ ]
dot_means side d Star tokens l = elim l [ ]
dot_means side d End tokens l = elim l [ ]

number_means : (side : Side) (d : ℕ) (t : Token) (tokens : List Token) → Leads (after_number_next side d t) tokens
    → IsAfterNumber d side (t ∷ tokens)
number_means side d Star tokens (leads s m) = by_star m
number_means side d (Word w) tokens l = no_factor (after_term_means side d (Word w) tokens l)
number_means side d (Digits n) tokens l = no_factor (after_term_means side d (Digits n) tokens l)
number_means side d OpenParen tokens l = no_factor (after_term_means side d OpenParen tokens l)
number_means side d CloseParen tokens l = no_factor (after_term_means side d CloseParen tokens l)
number_means side d (Relates c) tokens l = no_factor (after_term_means side d (Relates c) tokens l)
number_means side d (Signs sign) tokens l = no_factor (after_term_means side d (Signs sign) tokens l)
number_means side d Dot tokens l = no_factor (after_term_means side d Dot tokens l)
number_means side d End tokens l = no_factor (after_term_means side d End tokens l)

next_means : (mode : Mode) (d : ℕ) (t : Token) (tokens : List Token) → Leads (next mode d t) tokens
    → Means mode d (t ∷ tokens)
next_means AtOperand d t tokens l = operand_means d t tokens l
next_means AtSum d t tokens l = sum_means d t tokens l
next_means (AtTerm side) d t tokens l = term_means side d t tokens l
next_means (AfterNumber side) d t tokens l = number_means side d t tokens l
next_means (AfterStar side) d t tokens l = factor_means side d t tokens l
next_means (AfterName side) d t tokens l = dot_means side d t tokens l
next_means (AfterDot side) d t tokens l = var_means side d t tokens l
next_means (AfterTerm side) d t tokens l = after_term_means side d t tokens l
next_means AfterOperand d t tokens l = after_operand_means d t tokens l

-- a walk to the end finds what the tokens are
walk_means : (tokens : List Token) (s : State) → walk s tokens ≡ Some AtEnd → MeansState s tokens
walk_means [] (Inside mode d) e = absurd (cc)
walk_means [] AtEnd e = refl
walk_means (t ∷ tokens) AtEnd e = absurd (cc)
walk_means (t ∷ tokens) (Inside mode d) e =
    next_means mode d t tokens (go (next mode d t) e (λ s h. walk_means tokens s h))
  where
    go : (o : Option State) → option_and_then (λ later. walk later tokens) o ≡ Some AtEnd
        → ((s : State) → walk s tokens ≡ Some AtEnd → MeansState s tokens) → Leads o tokens
    go None e ih = absurd (cc)
    go (Some s) e ih = leads s (ih s e)

end_of : (d : ℕ) (rest : List Token) → d ≡ 0 → Closes d rest → rest ≡ End ∷ []
end_of d rest e by_end = refl
end_of d rest e (by_paren f) = absurd (cc)

pub spelled_of_walk : (tokens : List Token) → walk start tokens ≡ Some AtEnd → (a : Predicate)
    × SpellsWhole AnyName tokens a
spelled_of_walk tokens e =
    let o = walk_means tokens start e in
    (o.spelled.0, (o.inner, o.parts ∙ ap (λ ts. o.inner ++ ts) (end_of 0 o.rest refl o.closes), o.spelled.1))
