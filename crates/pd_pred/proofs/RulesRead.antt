-- Predicates that are read from the prefix of tokens.
use Rattle.std.proofs.Common.{◌≡◌, ℕ, suc, false, List, [], ◌∷◌, ◌++◌, length, sym, ◌∙◌, ap, subst, append_assoc, arith}
use Rattle.std.specs.Prelude.{Some, codes}
use Rattle.def_model.specs.Predicates.{Term, Sign, Comparison, Predicate, Always, Never, Compare, Not, And, Or}
use Rattle.def_format.specs.Names.{ProcessNames}
use Rattle.def_format.specs.Tokens.{Token, Word, OpenParen, CloseParen, Relates, End}
use Rattle.def_format.specs.Grammar.{NamedBy, Rule, OrRule, AndRule, NotRule, word_or, word_and, word_not, Spells, either, no_or, both, no_and, negated, in_parens, always, never, compare, SpellsWhole}
use Rattle.def_format.specs.PrefixWalk.{OnLeft, OnRight, AtOperand, AtTerm, AfterTerm, AfterOperand, Inside, AtEnd, walk, start}
use Rattle.pd_pred.specs.Tokens.{token_view}
use Rattle.pd_pred.specs.Building.{tokens_view, Follows, begins_with_sign, begins_with_word, without_minus, Leads, GoesOn, IsSumRead, IsRead}
use Rattle.pd_pred.specs.declared.token.Placed.{Placed}
use Rattle.pd_pred.proofs.Prefixes.{tokens_view-append, tokens_view-parts, tokens_view-follows, fewer_follow}
use Rattle.pd_pred.proofs.WalkSteps.{sum_begins, operand_is_over, paren_closes, end_stands}
use Rattle.pd_pred.proofs.TermsRead.{same_walk, longer_parts}

-- ---- looser rules

pub alone_in_or : (names : List ProcessNames) (tokens rest : List Placed) (a : Predicate)
    → IsRead names AndRule tokens rest a → IsRead names OrRule tokens rest a
alone_in_or names tokens rest a r = record {
  prefix = r.prefix;
  parts = r.parts;
  fewer = r.fewer;
  spells =
      no_or r.spells;
  goes_on = r.goes_on;
}

pub alone_in_and : (names : List ProcessNames) (tokens rest : List Placed) (a : Predicate)
    → IsRead names NotRule tokens rest a → IsRead names AndRule tokens rest a
alone_in_and names tokens rest a r = record {
  prefix = r.prefix;
  parts = r.parts;
  fewer = r.fewer;
  spells =
      no_and r.spells;
  goes_on = r.goes_on;
}

-- ---- rows

-- one more operand, after a word that joins
joined : (names : List ProcessNames) (rule other : Rule) (word : List ℕ) (tokens middle following rest : List Placed)
    (a b c : Predicate) → ((d : ℕ) (ts : List Token) → walk (Inside AfterOperand d) (Word word ∷ ts) ≡ Some AtEnd
    → walk (Inside AtOperand d) ts ≡ Some AtEnd)
    → ((left right : List Token) → Spells (NamedBy names) rule left a → Spells (NamedBy names) other right b
    → Spells (NamedBy names) rule (left ++ Word word ∷ right) c) → IsRead names rule tokens middle a
    → Follows (Word word) middle following → IsRead names other following rest b → IsRead names rule tokens rest c
joined names rule other word tokens middle following rest a b c step join r f q =
    let all : tokens_view (r.prefix ++ f.first ∷ q.prefix) ≡ tokens_view r.prefix ++ Word word ∷ tokens_view q.prefix =
    tokens_view-append r.prefix (f.first ∷ q.prefix)
    ∙ ap (λ t. tokens_view r.prefix ++ t ∷ tokens_view q.prefix) f.is in
    let P : List Token → Type 0 = λ ts. Spells (NamedBy names) rule ts c in
    record {
      prefix = r.prefix ++ f.first ∷ q.prefix;
      parts = longer_parts tokens r.prefix middle following q.prefix rest f.first r.parts f.parts q.parts;
      fewer = omega (arith, r.fewer, fewer_follow (Word word) middle following f, q.fewer);
      spells = subst P (sym all) (join (tokens_view r.prefix) (tokens_view q.prefix) r.spells q.spells);
      goes_on =
          λ d h. q.goes_on d (step d (tokens_view following)
          (same_walk AfterOperand d (tokens_view middle) (Word word ∷ tokens_view following)
          (tokens_view-follows (Word word) middle following f) (r.goes_on d h)));
    }

or_step : (d : ℕ) (ts : List Token) → walk (Inside AfterOperand d) (word_or ∷ ts) ≡ Some AtEnd
    → walk (Inside AtOperand d) ts ≡ Some AtEnd
or_step d ts h = h

and_step : (d : ℕ) (ts : List Token) → walk (Inside AfterOperand d) (word_and ∷ ts) ≡ Some AtEnd
    → walk (Inside AtOperand d) ts ≡ Some AtEnd
and_step d ts h = h

pub one_more_in_or : (names : List ProcessNames) (tokens middle following rest : List Placed) (a b : Predicate)
    → IsRead names OrRule tokens middle a → Follows word_or middle following → IsRead names AndRule following rest b
    → IsRead names OrRule tokens rest (Or a b)
one_more_in_or names tokens middle following rest a b r f q =
    joined names OrRule AndRule (codes "or") tokens middle following rest a b (Or a b) or_step (λ left right x y.
    either left right x y) r f q

pub one_more_in_and : (names : List ProcessNames) (tokens middle following rest : List Placed) (a b : Predicate)
    → IsRead names AndRule tokens middle a → Follows word_and middle following → IsRead names NotRule following rest b
    → IsRead names AndRule tokens rest (And a b)
one_more_in_and names tokens middle following rest a b r f q =
    joined names AndRule NotRule (codes "and") tokens middle following rest a b (And a b) and_step (λ left right x y.
    both left right x y) r f q

-- what stands after a word that joins
pub leads_after_or : (names : List ProcessNames) (rule : Rule) (tokens middle following : List Placed) (a : Predicate)
    → Leads AtOperand (tokens_view tokens) → IsRead names rule tokens middle a → Follows word_or middle following
    → Leads AtOperand (tokens_view following)
leads_after_or names rule tokens middle following a (d, h) r f = (
  d,
  or_step d (tokens_view following)
      (same_walk AfterOperand d (tokens_view middle) (word_or ∷ tokens_view following)
      (tokens_view-follows word_or middle following f) (r.goes_on d h)),
)

pub leads_after_and : (names : List ProcessNames) (rule : Rule) (tokens middle following : List Placed) (a : Predicate)
    → Leads AtOperand (tokens_view tokens) → IsRead names rule tokens middle a → Follows word_and middle following
    → Leads AtOperand (tokens_view following)
leads_after_and names rule tokens middle following a (d, h) r f = (
  d,
  and_step d (tokens_view following)
      (same_walk AfterOperand d (tokens_view middle) (word_and ∷ tokens_view following)
      (tokens_view-follows word_and middle following f) (r.goes_on d h)),
)

-- ---- operands

not_step : (d : ℕ) (ts : List Token) → walk (Inside AtOperand d) (word_not ∷ ts) ≡ Some AtEnd
    → walk (Inside AtOperand d) ts ≡ Some AtEnd
not_step d ts h = h

after_not : (d : ℕ) (tokens following : List Placed) → Follows word_not tokens following
    → walk (Inside AtOperand d) (tokens_view tokens) ≡ Some AtEnd → walk (Inside AtOperand d) (tokens_view following)
    ≡ Some AtEnd
after_not d tokens following f h =
    not_step d (tokens_view following) (same_walk AtOperand d (tokens_view tokens) (word_not ∷ tokens_view following)
    (tokens_view-follows word_not tokens following f) h)

pub leads_after_not : (tokens following : List Placed) → Leads AtOperand (tokens_view tokens)
    → Follows word_not tokens following → Leads AtOperand (tokens_view following)
leads_after_not tokens following (d, h) f = (d, after_not d tokens following f h)

pub negation_is_read : (names : List ProcessNames) (tokens following rest : List Placed) (a : Predicate)
    → Follows word_not tokens following → IsRead names NotRule following rest a
    → IsRead names NotRule tokens rest (Not a)
negation_is_read names tokens following rest a f r =
    let P : List Token → Type 0 = λ ts. Spells (NamedBy names) NotRule ts (Not a) in
    record {
      prefix = f.first ∷ r.prefix;
      parts = f.parts ∙ ap (λ ts. f.first ∷ ts) r.parts;
      fewer = omega (arith, fewer_follow word_not tokens following f, r.fewer);
      spells = subst P (sym (ap (λ t. t ∷ tokens_view r.prefix) f.is)) (negated r.spells);
      goes_on = λ d h. r.goes_on d (after_not d tokens following f h);
    }

truth_step : (d : ℕ) (ts : List Token) → walk (Inside AtOperand d) (Word (codes "true") ∷ ts) ≡ Some AtEnd
    → walk (Inside AfterOperand d) ts ≡ Some AtEnd
truth_step d ts h = h

falsehood_step : (d : ℕ) (ts : List Token) → walk (Inside AtOperand d) (Word (codes "false") ∷ ts) ≡ Some AtEnd
    → walk (Inside AfterOperand d) ts ≡ Some AtEnd
falsehood_step d ts h = h

-- a token that is an operand
constant_is_read : (names : List ProcessNames) (word : List ℕ) (tokens rest : List Placed) (a : Predicate)
    → ((d : ℕ) (ts : List Token) → walk (Inside AtOperand d) (Word word ∷ ts) ≡ Some AtEnd
    → walk (Inside AfterOperand d) ts ≡ Some AtEnd) → Spells (NamedBy names) NotRule (Word word ∷ []) a
    → Follows (Word word) tokens rest → IsRead names NotRule tokens rest a
constant_is_read names word tokens rest a step spelled f =
    let P : List Token → Type 0 = λ ts. Spells (NamedBy names) NotRule ts a in
    record {
      prefix = f.first ∷ [];
      parts = f.parts;
      fewer = omega (arith, fewer_follow (Word word) tokens rest f);
      spells = subst P (sym (ap (λ t. t ∷ []) f.is)) spelled;
      goes_on =
          λ d h. step d (tokens_view rest) (same_walk AtOperand d (tokens_view tokens) (Word word ∷ tokens_view rest)
          (tokens_view-follows (Word word) tokens rest f) h);
    }

pub truth_is_read : (names : List ProcessNames) (tokens rest : List Placed) → Follows (Word (codes "true")) tokens rest
    → IsRead names NotRule tokens rest Always
truth_is_read names tokens rest f = constant_is_read names (codes "true") tokens rest Always truth_step always f

pub falsehood_is_read : (names : List ProcessNames) (tokens rest : List Placed)
    → Follows (Word (codes "false")) tokens rest → IsRead names NotRule tokens rest Never
falsehood_is_read names tokens rest f = constant_is_read names (codes "false") tokens rest Never falsehood_step never f

-- ---- parentheses

after_paren : (d : ℕ) (tokens inside : List Placed) → Follows OpenParen tokens inside
    → walk (Inside AtOperand d) (tokens_view tokens) ≡ Some AtEnd → walk (Inside AtOperand (suc d)) (tokens_view inside)
    ≡ Some AtEnd
after_paren d tokens inside f h =
    same_walk AtOperand d (tokens_view tokens) (OpenParen ∷ tokens_view inside)
    (tokens_view-follows OpenParen tokens inside f) h

pub leads_after_paren : (tokens inside : List Placed) → Leads AtOperand (tokens_view tokens)
    → Follows OpenParen tokens inside → Leads AtOperand (tokens_view inside)
leads_after_paren tokens inside (d, h) f = (suc d, after_paren d tokens inside f h)

closes : (names : List ProcessNames) (d : ℕ) (tokens inside closing rest : List Placed) (x : Placed) (a : Predicate)
    → walk (Inside AtOperand d) (tokens_view tokens) ≡ Some AtEnd → Follows OpenParen tokens inside
    → IsRead names OrRule inside closing a → begins_with_word (codes "and") (tokens_view closing) ≡ false
    → begins_with_word (codes "or") (tokens_view closing) ≡ false → closing ≡ x ∷ rest → token_view x.token ≡ CloseParen
closes names d tokens inside closing rest x a h f r ands ors e =
    paren_closes d (token_view x.token) (tokens_view rest)
    (sym (ap (λ ts. begins_with_word (codes "and") (tokens_view ts)) e) ∙ ands)
    (sym (ap (λ ts. begins_with_word (codes "or") (tokens_view ts)) e) ∙ ors)
    (same_walk AfterOperand (suc d) (tokens_view closing) (token_view x.token ∷ tokens_view rest) (ap tokens_view e)
    (r.goes_on (suc d) (after_paren d tokens inside f h)))

pub parens_are_read : (names : List ProcessNames) (tokens inside closing rest : List Placed) (x : Placed)
    (a : Predicate) → Leads AtOperand (tokens_view tokens) → Follows OpenParen tokens inside
    → IsRead names OrRule inside closing a → begins_with_word (codes "and") (tokens_view closing) ≡ false
    → begins_with_word (codes "or") (tokens_view closing) ≡ false → closing ≡ x ∷ rest
    → IsRead names NotRule tokens rest a
parens_are_read names tokens inside closing rest x a (k, l) f r ands ors e =
    let close : token_view x.token ≡ CloseParen = closes names k tokens inside closing rest x a l f r ands ors e in
    let all : tokens_view (f.first ∷ (r.prefix ++ x ∷ [])) ≡ OpenParen ∷ (tokens_view r.prefix ++ CloseParen ∷ []) =
    ap (λ t. t ∷ tokens_view (r.prefix ++ x ∷ [])) f.is
    ∙ ap (λ ts. OpenParen ∷ ts) (tokens_view-append r.prefix (x ∷ [])
    ∙ ap (λ t. tokens_view r.prefix ++ t ∷ []) close) in
    let P : List Token → Type 0 = λ ts. Spells (NamedBy names) NotRule ts a in
    record {
      prefix = f.first ∷ (r.prefix ++ x ∷ []);
      parts = f.parts ∙ ap (λ ts. f.first ∷ ts) (r.parts ∙ ap (λ ts. r.prefix ++ ts) e
          ∙ sym (append_assoc r.prefix (x ∷ []) rest));
      fewer = omega (arith, fewer_follow OpenParen tokens inside f, r.fewer, ap length e);
      spells = subst P (sym all) (in_parens (tokens_view r.prefix) r.spells);
      goes_on =
          λ d h. same_walk AfterOperand (suc d) (tokens_view closing) (CloseParen ∷ tokens_view rest) (ap tokens_view e
          ∙ ap (λ t. t ∷ tokens_view rest) close) (r.goes_on (suc d) (after_paren d tokens inside f h));
    }

-- ---- comparisons

after_relation : (names : List ProcessNames) (d : ℕ) (c : Comparison) (tokens related following : List Placed)
    (xs : List (Sign × Term)) → IsSumRead names tokens related xs → Follows (Relates c) related following
    → walk (Inside (AtTerm OnLeft) d) (without_minus (tokens_view tokens)) ≡ Some AtEnd
    → walk (Inside (AtTerm OnRight) d) (without_minus (tokens_view following)) ≡ Some AtEnd
after_relation names d c tokens related following xs l f h =
    sum_begins d (tokens_view following)
    (same_walk (AfterTerm OnLeft) d (tokens_view related) (Relates c ∷ tokens_view following)
    (tokens_view-follows (Relates c) related following f) (l.goes_on OnLeft d h))

pub comparison_is_read : (names : List ProcessNames) (c : Comparison) (tokens related following rest : List Placed)
    (xs ys : List (Sign × Term)) → GoesOn AtOperand (tokens_view tokens) (AtTerm OnLeft)
    (without_minus (tokens_view tokens)) → IsSumRead names tokens related xs → Follows (Relates c) related following
    → IsSumRead names following rest ys → begins_with_sign (tokens_view rest) ≡ false
    → IsRead names NotRule tokens rest (Compare xs c ys)
comparison_is_read names c tokens related following rest xs ys begins l f r no_sign =
    let all : tokens_view (l.prefix ++ f.first ∷ r.prefix) ≡ tokens_view l.prefix ++ Relates c ∷ tokens_view r.prefix =
    tokens_view-append l.prefix (f.first ∷ r.prefix)
    ∙ ap (λ t. tokens_view l.prefix ++ t ∷ tokens_view r.prefix) f.is in
    let P : List Token → Type 0 = λ ts. Spells (NamedBy names) NotRule ts (Compare xs c ys) in
    record {
      prefix = l.prefix ++ f.first ∷ r.prefix;
      parts = longer_parts tokens l.prefix related following r.prefix rest f.first l.parts f.parts r.parts;
      fewer = omega (arith, l.fewer, fewer_follow (Relates c) related following f, r.fewer);
      spells = subst P (sym all) (compare (tokens_view l.prefix) (tokens_view r.prefix) l.spells r.spells);
      goes_on =
          λ d h. operand_is_over d (tokens_view rest) no_sign
          (r.goes_on OnRight d (after_relation names d c tokens related following xs l f (begins d h)));
    }

-- ---- the whole

pub whole_is_read : (names : List ProcessNames) (tokens rest : List Placed) (a : Predicate)
    → walk start (tokens_view tokens) ≡ Some AtEnd → IsRead names OrRule tokens rest a
    → begins_with_word (codes "and") (tokens_view rest) ≡ false → begins_with_word (codes "or") (tokens_view rest)
    ≡ false → SpellsWhole (NamedBy names) (tokens_view tokens) a
whole_is_read names tokens rest a h r ands ors =
    let ends : tokens_view rest ≡ End ∷ [] = end_stands (tokens_view rest) ands ors (r.goes_on 0 h) in (
      tokens_view r.prefix,
      tokens_view-parts tokens r.prefix rest r.parts ∙ ap (λ ts. tokens_view r.prefix ++ ts) ends,
      r.spells,
    )
