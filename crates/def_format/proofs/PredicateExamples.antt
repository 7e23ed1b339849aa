-- Texts of predicates, and their refusals.
use Rattle.std.proofs.Common.{◌≡◌, ℕ, suc, zero, ◌+◌, ◌≤◌, Bool, true, false, List, [], ◌∷◌, ◌++◌, length, reverse, replicate, refl, sym, ◌∙◌, ap, subst, append_assoc, inl, inr, leb-true, arith, lit<}
use Rattle.std.specs.Prelude.{Option, Some, None, is_none, ◌&&◌, ◌||◌, not, codes, nat_le}
use Rattle.def_model.specs.Predicates.{Predicate, And, Compare, Variable, Number, Equals, Differs, IsLess, IsAtMost, IsGreater, IsAtLeast, Minus, Plus}
use Rattle.def_format.specs.Names.{ProcessNames, process_named, var_named}
use Rattle.def_format.specs.Tokens.{Token, Word, Digits, OpenParen, CloseParen, Relates, Signs, Star, Dot, End, Placed, placed, Lexes, IsSpelling, BeginsNoToken, AreSpaces, IsLongest, continues}
use Rattle.def_format.specs.PredicateTexts.{tokens_of, depth_after, opens, is_too_large, NumbersFit, PredicateFault, Long, Character, Number, Expected, UnknownName, Depth, IsFaulty, IsMisplaced, IsUnknownName, HasMisplaced, HasTooLarge, IsRefusedPredicate, IsPredicate}
use Rattle.def_format.specs.Limits.{depth_limit, predicate_byte_limit}
use Rattle.def_format.specs.Grammar.{NamedBy, SpellsSum, no_or, no_and, both, compare, word_and}
use Rattle.def_format.specs.PrefixWalk.{begins}
use Rattle.def_format.proofs.Prefixes.{begins_of_can}
use Rattle.def_format.proofs.Completions.{can_of_begins}
use Rattle.def_format.proofs.Examples.{names as processes}
use Rattle.std.proofs.lemmas.List.{reverse-append, append-nil}
use Rattle.std.proofs.lemmas.Bool.{and_parts, le-leb}

-- ---- tests of what the definitions say of a token

-- the name before a dot at the end of the tokens, which are given backward
abbrev before_dot : List Token → Option (List ℕ)
before_dot (Dot ∷ Word w ∷ rest) = Some w
before_dot _ = None

abbrev lacks_var : List ProcessNames → List ℕ → Option (List ℕ) → Bool
lacks_var names w None = false
lacks_var names w (Some process) = lacks (process_named names process)
  where
    lacks : Option ℕ → Bool
    lacks None = false
    lacks (Some p) = is_none (var_named names p w)

abbrev is_unknown : List ProcessNames → List Token → Token → Bool
is_unknown names before (Word w) = (begins (before ++ Word w ∷ Dot ∷ []) && is_none (process_named names w))
    || lacks_var names w (before_dot (reverse before))
is_unknown names before _ = false

-- the token is well placed
abbrev fits : List ProcessNames → List Token → Token → Bool
fits names before t =
    begins (before ++ t ∷ []) && (not (is_unknown names before t)
    && not (opens t && nat_le depth_limit (depth_after before)))

-- so are these, after others
abbrev all_fit : List ProcessNames → List Placed → List Placed → Bool
all_fit names before [] = true
all_fit names before (t ∷ rest) = fits names (tokens_of before) t.token && all_fit names (before ++ t ∷ []) rest

or_left : (a b : Bool) → a ≡ true → (a || b) ≡ true
or_left a b h = rw h refl

or_right : (a b : Bool) → b ≡ true → (a || b) ≡ true
or_right true b h = refl
or_right false b h = h

not_true : (b : Bool) → not b ≡ true → b ≡ true → ⊥
not_true true h e = cc
not_true false h e = cc

name_before_dot : (before prefix : List Token) (name : List ℕ) → before ≡ prefix ++ Word name ∷ Dot ∷ []
    → before_dot (reverse before) ≡ Some name
name_before_dot before prefix name e = rw (e, reverse-append prefix (Word name ∷ Dot ∷ [])) refl

known : (names : List ProcessNames) (before : List Token) (t : Token) → is_unknown names before t ≡ true
    → not (is_unknown names before t) ≡ true → ⊥
known names before t h k = not_true (is_unknown names before t) k h

is_unknown_name : (names : List ProcessNames) (before : List Token) (t : Token) → IsUnknownName names before t
    → is_unknown names before t ≡ true
is_unknown_name names before (Word w) (inl (can, none)) =
    or_left _ (lacks_var names w (before_dot (reverse before)))
    (rw (begins_of_can (before ++ Word w ∷ Dot ∷ []) can, none) refl)
is_unknown_name names before (Word w) (inr u) =
    or_right (begins (before ++ Word w ∷ Dot ∷ []) && is_none (process_named names w)) _
    (rw (name_before_dot before u.prefix u.name u.after_dot, u.is_process, u.is_no_var) refl)
is_unknown_name names before (Digits n) u = absurd u
is_unknown_name names before OpenParen u = absurd u
is_unknown_name names before CloseParen u = absurd u
is_unknown_name names before (Relates c) u = absurd u
is_unknown_name names before (Signs sign) u = absurd u
is_unknown_name names before Star u = absurd u
is_unknown_name names before Dot u = absurd u
is_unknown_name names before End u = absurd u

not_faulty : (names : List ProcessNames) (before : List Token) (t : Token) → fits names before t ≡ true
    → (fault : PredicateFault) → IsFaulty names fault before t → ⊥
not_faulty names before t h fault bad = go fault bad
  where
    can : begins (before ++ t ∷ []) ≡ true
    can = (and_parts (begins (before ++ t ∷ [])) _ h).0

    rest : (not (is_unknown names before t) && not (opens t && nat_le depth_limit (depth_after before))) ≡ true
    rest = (and_parts (begins (before ++ t ∷ [])) _ h).1

    go : (fault : PredicateFault) → IsFaulty names fault before t → ⊥
    go Long b = b
    go Character b = b
    go Number b = b
    go Expected b = b (can_of_begins (before ++ t ∷ []) can)
    go UnknownName b =
        not_true (is_unknown names before t) ((and_parts (not (is_unknown names before t)) _ rest).0)
        (is_unknown_name names before t b)
    go Depth b =
        not_true (opens t && nat_le depth_limit (depth_after before))
        ((and_parts (not (is_unknown names before t)) _ rest).1)
        (rw (b.1, le-leb depth_limit (depth_after before) b.2) refl)

none_misplaced : (names : List ProcessNames) (done rest : List Placed) → all_fit names done rest ≡ true
    → (prefix : List Placed) (t : Placed) (back after : List Placed) → rest ≡ prefix ++ t ∷ back
    → IsMisplaced names (done ++ prefix) t after → ⊥
none_misplaced names done [] h [] t back after e bad = cc
none_misplaced names done [] h (x ∷ prefix) t back after e bad = cc
none_misplaced names done (y ∷ rest) h [] t back after e (fault, bad) =
    let same : y ≡ t = cc in
    not_faulty names (tokens_of done) t.token (rw same at (and_parts (fits names (tokens_of done) y.token) _ h).0) fault
    (rw (append-nil done) at bad)
none_misplaced names done (y ∷ rest) h (x ∷ prefix) t back after e bad =
    let same : y ≡ x = cc in
    let tail : rest ≡ prefix ++ t ∷ back = cc in
    none_misplaced names (done ++ y ∷ []) rest (and_parts (fits names (tokens_of done) y.token) _ h).1 prefix t back
    after tail (let moved : done ++ x ∷ prefix ≡ (done ++ y ∷ []) ++ prefix =
    ap (λ z. done ++ z ∷ prefix) (sym same) ∙ sym (append_assoc done (y ∷ []) prefix) in
    subst (λ (b : List Placed). IsMisplaced names b t after) moved bad)

-- ---- numbers

abbrev no_large : List Placed → Bool
no_large [] = true
no_large (t ∷ rest) = not (is_too_large t.token rest) && no_large rest

numbers_fit : (tokens : List Placed) → no_large tokens ≡ true → NumbersFit tokens
numbers_fit [] h [] t after e bad = cc
numbers_fit [] h (x ∷ prefix) t after e bad = cc
numbers_fit (y ∷ rest) h [] t after e bad =
    let same : y ≡ t = cc in
    let tail : rest ≡ after = cc in
    not_true (is_too_large t.token after) (rw (same, tail) at (and_parts (not (is_too_large y.token rest)) _ h).0) bad
numbers_fit (y ∷ rest) h (x ∷ prefix) t after e bad =
    let tail : rest ≡ prefix ++ t ∷ after = cc in
    numbers_fit rest (and_parts (not (is_too_large y.token rest)) _ h).1 prefix t after tail bad

-- ---- a text as pieces

record Part : Type 0 where
  spaces : List ℕ
  spelling : List ℕ
  token : Token
  are_spaces : AreSpaces spaces
  spelled : IsSpelling spelling token

abbrev text_of : List Part → List ℕ
text_of [] = []
text_of (p ∷ ps) = p.spaces ++ (p.spelling ++ text_of ps)

abbrev placed_from : ℕ → List Part → List Placed
placed_from at [] = []
placed_from at (p ∷ ps) =
    placed (at + length p.spaces) p.token ∷ placed_from (at + length p.spaces + length p.spelling) ps

abbrev end_from : ℕ → List Part → ℕ
end_from at [] = at
end_from at (p ∷ ps) = end_from (at + length p.spaces + length p.spelling) ps

abbrev ends : Token → List ℕ → Bool
ends token [] = true
ends token (byte ∷ rest) = not (continues token byte)

abbrev all_end : List Part → Bool
all_end [] = true
all_end (p ∷ ps) = ends p.token (text_of ps) && all_end ps

is_longest : (token : Token) (rest : List ℕ) → ends token rest ≡ true → IsLongest token rest
is_longest token [] h = tt
is_longest token (byte ∷ rest) h = false_of (continues token byte) h
  where
    false_of : (b : Bool) → not b ≡ true → b ≡ false
    false_of true h = cc
    false_of false h = refl

lexes : (at : ℕ) (ps : List Part) → all_end ps ≡ true → Lexes at (text_of ps) (placed_from at ps) (end_from at ps) []
lexes at [] h = ([], refl, refl, omega arith)
lexes at (p ∷ ps) h =
    let parts = and_parts (ends p.token (text_of ps)) _ h in (
      p.spaces,
      p.spelling,
      text_of ps,
      p.are_spaces,
      refl,
      refl,
      p.spelled,
      is_longest p.token (text_of ps) parts.0,
      lexes (at + length p.spaces + length p.spelling) ps parts.1,
    )

le_of_test : (a b : ℕ) → nat_le a b ≡ true → a ≤ b
le_of_test a b h = omega (arith, leb-true a b h)

misplaced : (text : List ℕ) (ps : List Part) (before : List Placed) (t : Placed) (after : List Placed)
    (fault : PredicateFault) → text ≡ text_of ps → nat_le (length text) predicate_byte_limit ≡ true → all_end ps ≡ true
    → end_from 1 ps ≡ length text + 1 → placed_from 1 ps ++ placed (length text + 1) End ∷ [] ≡ before ++ t ∷ after
    → no_large (before ++ t ∷ after) ≡ true → all_fit processes [] before ≡ true
    → IsFaulty processes fault (tokens_of before) t.token → HasMisplaced processes text fault t.at
misplaced text ps before t after fault whole short ended end parts large fit faulty = record {
  short = le_of_test (length text) predicate_byte_limit short;
  tokens = before ++ t ∷ after;
  are_tokens = (placed_from 1 ps, sym parts, rw (sym end, whole) (lexes 1 ps ended));
  numbers_fit = numbers_fit (before ++ t ∷ after) large;
  before = before;
  token = t.token;
  after = after;
  first = record {
    parts = refl;
    here = (fault, faulty);
    none_before =
        λ prefix y back e bad. none_misplaced processes [] before fit prefix y back (back ++ t ∷ after) e bad;
  };
  stands = faulty;
}

-- ---- the examples

part : (spaces spelling : List ℕ) (token : Token) → AreSpaces spaces → IsSpelling spelling token → Part
part spaces spelling token a b = record {
  spaces = spaces;
  spelling = spelling;
  token = token;
  are_spaces = a;
  spelled =
      b;
}

a_dot_x : List Part
a_dot_x = part [] (codes "a") (Word (codes "a")) refl (refl, refl) ∷ part [] (codes ".") Dot refl refl
    ∷ part [] (codes "x") (Word (codes "x")) refl (refl, refl) ∷ []

equals_one : List Part
equals_one =
    part (codes " ") (codes "==") (Relates Equals) refl refl ∷ part (codes " ") (codes "1") (Digits 1) refl (refl, refl)
    ∷ []

cannot : (before : List Placed) (t : Placed) → begins (tokens_of before ++ t.token ∷ []) ≡ false
    → IsFaulty processes Expected (tokens_of before) t.token
cannot before t h can = let yes = begins_of_can (tokens_of before ++ t.token ∷ []) can in cc

abbrev up_to_and : List Placed
up_to_and = placed 1 (Word (codes "a")) ∷ placed 2 Dot ∷ placed 3 (Word (codes "x")) ∷ placed 5 (Relates Equals)
    ∷ placed 8 (Digits 1) ∷ placed 10 (Word (codes "and")) ∷ []

abbrev up_to_x : List Placed
up_to_x = placed 1 (Word (codes "a")) ∷ placed 2 Dot ∷ placed 3 (Word (codes "x")) ∷ []

-- `a.x == 1 and` ends too early
pub ends_with_and : IsRefusedPredicate processes (codes "a.x == 1 and") Expected 13
unfolding part a_dot_x equals_one
ends_with_and =
    misplaced (codes "a.x == 1 and") (a_dot_x ++ equals_one ++ part (codes " ") (codes "and") (Word (codes "and")) refl
    (refl, refl) ∷ [])
    up_to_and (placed 13 End) [] Expected
    refl refl refl refl refl refl refl (cannot up_to_and (placed 13 End) refl)

-- `a.x` is no comparison
pub no_comparison : IsRefusedPredicate processes (codes "a.x") Expected 4
unfolding part a_dot_x
no_comparison =
    misplaced (codes "a.x") a_dot_x
    up_to_x (placed 4 End) [] Expected
    refl refl refl refl refl refl refl (cannot up_to_x (placed 4 End) refl)

-- `a.z == 1`: a has no variable z
pub no_such_var : IsRefusedPredicate processes (codes "a.z == 1") UnknownName 3
unfolding part equals_one
no_such_var =
    misplaced (codes "a.z == 1") (part [] (codes "a") (Word (codes "a")) refl (refl, refl)
    ∷ part [] (codes ".") Dot refl refl ∷ part [] (codes "z") (Word (codes "z")) refl (refl, refl) ∷ equals_one)
    (placed 1 (Word (codes "a")) ∷ placed 2 Dot ∷ []) (placed 3 (Word (codes "z"))) (placed 5 (Relates Equals)
    ∷ placed 8 (Digits 1) ∷ placed 9 End ∷ []) UnknownName
    refl refl refl refl refl refl refl
    (inr (record {
      prefix = [];
      name = codes "a";
      process = 0;
      after_dot = refl;
      fits =
          can_of_begins (Word (codes "a") ∷ Dot ∷ Word (codes "z") ∷ []) refl;
      is_process = refl;
      is_no_var = refl;
    }))

-- 65 times `not `, and `true`
nots : ℕ → List Part
nots zero = []
nots (suc n) = part [] (codes "not") (Word (codes "not")) refl (refl, refl) ∷ rest n
  where
    rest : ℕ → List Part
    rest zero = []
    rest (suc m) = part (codes " ") (codes "not") (Word (codes "not")) refl (refl, refl) ∷ rest m

abbrev pub nots_text : ℕ → List ℕ
nots_text zero = codes "true"
nots_text (suc n) = codes "not " ++ nots_text n

placed_nots : ℕ → ℕ → List Placed
placed_nots at zero = []
placed_nots at (suc n) = placed at (Word (codes "not")) ∷ placed_nots (at + 4) n

pub too_deep : IsRefusedPredicate processes (nots_text 65) Depth 257
unfolding part nots placed_nots
too_deep =
    misplaced (nots_text 65) (nots 65 ++ part (codes " ") (codes "true") (Word (codes "true")) refl (refl, refl) ∷ [])
    (placed_nots 1 64) (placed 257 (Word (codes "not"))) (placed 261 (Word (codes "true")) ∷ placed 265 End ∷ []) Depth
    refl refl refl refl refl refl refl (
      can_of_begins (tokens_of (placed_nots 1 64) ++ Word (codes "not") ∷ []) refl,
      refl,
      le_of_test 64 (depth_after (tokens_of (placed_nots 1 64))) refl,
    )

-- ---- numbers

too_large : (text : List ℕ) (ps : List Part) (t : Placed) (after : List Placed) → text ≡ text_of ps
    → nat_le (length text) predicate_byte_limit ≡ true → all_end ps ≡ true → end_from 1 ps ≡ length text + 1
    → placed_from 1 ps ++ placed (length text + 1) End ∷ [] ≡ t ∷ after → is_too_large t.token after ≡ true
    → HasTooLarge text t.at
too_large text ps t after whole short ended end parts large = record {
  short = le_of_test (length text) predicate_byte_limit short;
  tokens = t ∷ after;
  are_tokens = (placed_from 1 ps, sym parts, rw (sym end, whole) (lexes 1 ps ended));
  before = [];
  token = t.token;
  after = after;
  first = record { parts = refl; here = large; none_before = λ prefix y back e. absurd (no_parts prefix y back e) };
}
  where
    no_parts : (prefix : List Placed) (y : Placed) (back : List Placed) → [] ≡ prefix ++ y ∷ back → ⊥
    no_parts [] y back e = cc
    no_parts (z ∷ prefix) y back e = cc

spaced_a_dot_x : List Part
spaced_a_dot_x = part (codes " ") (codes "a") (Word (codes "a")) refl (refl, refl) ∷ part [] (codes ".") Dot refl refl
    ∷ part [] (codes "x") (Word (codes "x")) refl (refl, refl) ∷ []

pub past_63_bits : IsRefusedPredicate processes (codes "9223372036854775808 > a.x") Number 1
unfolding part spaced_a_dot_x
past_63_bits =
    too_large (codes "9223372036854775808 > a.x") (part [] (codes "9223372036854775808") (Digits 9223372036854775808)
    refl (refl, refl) ∷ part (codes " ") (codes ">") (Relates IsGreater) refl refl ∷ spaced_a_dot_x)
    (placed 1 (Digits 9223372036854775808)) (placed 21 (Relates IsGreater) ∷ placed 23 (Word (codes "a"))
    ∷ placed 24 Dot ∷ placed 25 (Word (codes "x")) ∷ placed 26 End ∷ [])
    refl refl refl refl refl refl

pub past_31_bits : IsRefusedPredicate processes (codes "2147483648 * a.x > 0") Number 1
unfolding part spaced_a_dot_x
past_31_bits =
    too_large (codes "2147483648 * a.x > 0") (part [] (codes "2147483648") (Digits 2147483648) refl (refl, refl)
    ∷ part (codes " ") (codes "*") Star refl refl
    ∷ (spaced_a_dot_x ++ part (codes " ") (codes ">") (Relates IsGreater) refl refl
    ∷ part (codes " ") (codes "0") (Digits 0) refl (refl, refl) ∷ []))
    (placed 1 (Digits 2147483648)) (placed 12 Star ∷ placed 14 (Word (codes "a")) ∷ placed 15 Dot
    ∷ placed 16 (Word (codes "x")) ∷ placed 18 (Relates IsGreater) ∷ placed 20 (Digits 0) ∷ placed 21 End ∷ [])
    refl refl refl refl refl refl

-- ---- a byte that begins no token

no_token : BeginsNoToken (codes "= 1")
no_token [] rest (Word w) e h = let bad = h.0 in cc
no_token [] rest (Digits n) e h = let bad = h.0 in cc
no_token [] rest OpenParen e h = cc
no_token [] rest CloseParen e h = cc
no_token [] rest (Relates Equals) e h = cc
no_token [] rest (Relates Differs) e h = cc
no_token [] rest (Relates IsLess) e h = cc
no_token [] rest (Relates IsAtMost) e h = cc
no_token [] rest (Relates IsGreater) e h = cc
no_token [] rest (Relates IsAtLeast) e h = cc
no_token [] rest (Signs Plus) e h = cc
no_token [] rest (Signs Minus) e h = cc
no_token [] rest Star e h = cc
no_token [] rest Dot e h = cc
no_token [] rest End e h = h
no_token (x ∷ s) rest token e h = go token h
  where
    first : x ≡ 61
    first = cc

    go : (token : Token) → IsSpelling (x ∷ s) token → ⊥
    go (Word w) h = let bad = rw first at h.0 in cc
    go (Digits n) h = let bad = rw first at h.0 in cc
    go OpenParen h = let bad : ◌≡◌ {A = ℕ} 61 40 = cc in omega arith
    go CloseParen h = let bad : ◌≡◌ {A = ℕ} 61 41 = cc in omega arith
    go (Relates Equals) h = let bad : ◌≡◌ {A = ℕ} 32 61 = cc in omega arith
    go (Relates Differs) h = let bad : ◌≡◌ {A = ℕ} 61 33 = cc in omega arith
    go (Relates IsLess) h = let bad : ◌≡◌ {A = ℕ} 61 60 = cc in omega arith
    go (Relates IsAtMost) h = let bad : ◌≡◌ {A = ℕ} 61 60 = cc in omega arith
    go (Relates IsGreater) h = let bad : ◌≡◌ {A = ℕ} 61 62 = cc in omega arith
    go (Relates IsAtLeast) h = let bad : ◌≡◌ {A = ℕ} 61 62 = cc in omega arith
    go (Signs Plus) h = let bad : ◌≡◌ {A = ℕ} 61 43 = cc in omega arith
    go (Signs Minus) h = let bad : ◌≡◌ {A = ℕ} 61 45 = cc in omega arith
    go Star h = let bad : ◌≡◌ {A = ℕ} 61 42 = cc in omega arith
    go Dot h = let bad : ◌≡◌ {A = ℕ} 61 46 = cc in omega arith
    go End h = h

-- `a.x = 1`: a lone `=` is no token
pub lone_equals : IsRefusedPredicate processes (codes "a.x = 1") Character 5
lone_equals = (
  le_of_test 7 predicate_byte_limit refl,
  record {
    tokens = placed 1 (Word (codes "a")) ∷ placed 2 Dot ∷ placed 3 (Word (codes "x")) ∷ [];
    byte = 61;
    rest = codes " 1";
    before = (
      [],
      codes "a",
      codes ".x = 1",
      refl,
      refl,
      refl,
      (refl, refl),
      refl,
      (
        [],
        codes ".",
        codes "x = 1",
        refl,
        refl,
        refl,
        refl,
        refl,
        ([], codes "x", codes " = 1", refl, refl, refl, (refl, refl), refl, (codes " ", refl, refl, refl)),
      ),
    );
    no_space = refl;
    no_token = no_token;
  },
)

-- a text of 4097 bytes
pub too_long : IsRefusedPredicate processes (replicate 4097 32) Long 4097
too_long = (lit< tt, refl)

-- ---- a text that is a predicate

both_one : List Part
both_one = a_dot_x ++ equals_one ++ part (codes " ") (codes "and") (Word (codes "and")) refl (refl, refl)
    ∷ part (codes " ") (codes "b") (Word (codes "b")) refl (refl, refl) ∷ part [] (codes ".") Dot refl refl
    ∷ part [] (codes "y") (Word (codes "y")) refl (refl, refl) ∷ equals_one

abbrev placed_both : List Placed
placed_both =
    placed 1 (Word (codes "a")) ∷ placed 2 Dot ∷ placed 3 (Word (codes "x")) ∷ placed 5 (Relates Equals)
    ∷ placed 8 (Digits 1) ∷ placed 10 (Word (codes "and"))
    ∷ placed 14 (Word (codes "b")) ∷ placed 15 Dot ∷ placed 16 (Word (codes "y")) ∷ placed 18 (Relates Equals)
    ∷ placed 21 (Digits 1) ∷ []

abbrev of_x : List Token
of_x = Word (codes "a") ∷ Dot ∷ Word (codes "x") ∷ []

abbrev of_y : List Token
of_y = Word (codes "b") ∷ Dot ∷ Word (codes "y") ∷ []

abbrev pub both_tree : Predicate
both_tree =
    And (Compare ((Plus, Variable 0 0) ∷ []) Equals ((Plus, Number 1) ∷ []))
    (Compare ((Plus, Variable 1 0) ∷ []) Equals ((Plus, Number 1) ∷ []))

one_sum : SpellsSum (NamedBy processes) (Digits 1 ∷ []) ((Plus, Number 1) ∷ [])
one_sum = (Digits 1 ∷ [], [], refl, refl, refl)

x_sum : SpellsSum (NamedBy processes) of_x ((Plus, Variable 0 0) ∷ [])
x_sum = (
  of_x,
  [],
  refl,
  (
    codes "a",
    codes "x",
    refl,
    refl,
    refl,
    (record { name = codes "a"; vars = codes "x" ∷ [] }, refl, refl, refl),
  ),
  refl,
)

y_sum : SpellsSum (NamedBy processes) of_y ((Plus, Variable 1 0) ∷ [])
y_sum = (
  of_y,
  [],
  refl,
  (
    codes "b",
    codes "y",
    refl,
    refl,
    refl,
    (record { name = codes "b"; vars = codes "y" ∷ [] }, refl, refl, refl),
  ),
  refl,
)

pub both_are_one : IsPredicate processes (codes "a.x == 1 and b.y == 1") both_tree
unfolding part a_dot_x equals_one both_one
both_are_one = record {
  short = le_of_test 21 predicate_byte_limit refl;
  tokens = placed_both ++ placed 22 End ∷ [];
  are_tokens = (placed_both, refl, lexes 1 both_one refl);
  numbers_fit = numbers_fit (placed_both ++ placed 22 End ∷ []) refl;
  well_placed =
      λ before t after e bad. none_misplaced processes [] (placed_both ++ placed 22 End ∷ []) refl before t after after
      e bad;
  spells = (
    of_x ++ Relates Equals ∷ Digits 1 ∷ word_and ∷ (of_y ++ Relates Equals ∷ Digits 1 ∷ []),
    refl,
    no_or (both (of_x ++ Relates Equals ∷ Digits 1 ∷ []) (of_y ++ Relates Equals ∷ Digits 1 ∷ [])
        (no_and (compare of_x (Digits 1 ∷ []) x_sum one_sum)) (compare of_y (Digits 1 ∷ []) y_sum one_sum)),
  );
}
