-- Numbers, references, terms and sums that are read from the prefix of tokens.
use Rattle.std.proofs.Common.{◌≡◌, ℕ, ◌≤◌, Bool, true, false, List, [], ◌∷◌, ◌++◌, length, get_or, refl, sym, ◌∙◌, ap, subst, append_assoc, arith}
use Rattle.std.specs.Prelude.{IsTrue, Some, slice_get, nat_lt, ◌||◌, ◌&&◌, position}
use Rattle.std.specs.Str.{bytes_eq}
use Rattle.std.proofs.lemmas.Bool.Decides.{nat_tests}
use Rattle.std.proofs.lemmas.List.Quantifiers.{position-Some}
use Rattle.std.proofs.lemmas.Option.{slice_get-get_or}
use Rattle.std.proofs.lemmas.Slice.Eq.{bytes_eq-Decides}
use Rattle.def_model.specs.Predicates.{Term, Number, Variable, Times, Sign, Plus, Minus}
use Rattle.def_format.specs.Names.{ProcessNames, process_named, var_named, is_keyword}
use Rattle.def_format.specs.Tokens.{Token, Word, Digits, Signs, Star, Dot}
use Rattle.def_format.specs.PredicateTexts.{NumbersFit, is_too_large, begins_with_star as star_follows}
use Rattle.def_format.specs.Grammar.{Naming, NamedBy, SpellsTerm, SpellsSigned, SpellsSum}
use Rattle.def_format.specs.PrefixWalk.{Side, OnLeft, OnRight, Mode, AtTerm, AfterStar, AfterName, AfterTerm, Inside, AtEnd, walk}
use Rattle.pd_pred.specs.Tokens.{lexed_view, placed_view, token_view}
use Rattle.pd_pred.specs.Building.{tokens_view, Follows, IsFirstSign, begins_with_sign, begins_with_star, without_minus, LeadsOnSide, AreReadable, IsKnown, IsTermRead, IsSumRead}
use Rattle.pd_pred.specs.Trees.{terms_view, signed_term_view}
use Rattle.pd_pred.specs.declared.token.Placed.{Placed}
use Rattle.pd_pred.specs.declared.tree.SignedTerm.{SignedTerm}
use Rattle.pd_pred.proofs.Prefixes.{tokens_view-append, tokens_view-follows, fewer_follow, readable_rest, readable_follows}
use Rattle.pd_pred.proofs.WalkSteps.{name_step, dot_step, number_is_term}

append_nil : (ts : List Token) → ts ++ [] ≡ ts
append_nil [] = refl
append_nil (t ∷ rest) = ap (λ ts. t ∷ ts) (append_nil rest)

pub same_walk : (mode : Mode) (d : ℕ) (ts us : List Token) → ts ≡ us → walk (Inside mode d) ts ≡ Some AtEnd
    → walk (Inside mode d) us ≡ Some AtEnd
same_walk mode d ts us e h = sym (ap (walk (Inside mode d)) e) ∙ h

-- ---- numbers

not_over : (limit n : ℕ) → nat_lt limit n ≡ false → n ≤ limit
not_over limit n h = grind (arith, nat_tests)

fits_at : (n : ℕ) (tokens rest : List Placed) → Follows (Digits n) tokens rest → NumbersFit (lexed_view tokens)
    → ¬ (IsTrue (is_too_large (Digits n) (lexed_view rest)))
fits_at n tokens rest f fit =
    λ large. fit [] (placed_view f.first) (lexed_view rest) (ap lexed_view f.parts) (rw f.is large)

or_false : (a b : Bool) → ¬ (IsTrue (a || b)) → (a ≡ false) × (b ≡ false)
or_false true b h = absurd (h refl)
or_false false true h = absurd (h refl)
or_false false false h = (refl, refl)

pub number_fits : (n : ℕ) (tokens rest : List Placed) → Follows (Digits n) tokens rest → NumbersFit (lexed_view tokens)
    → n ≤ 9223372036854775807
number_fits n tokens rest f fit = not_over 9223372036854775807 n (or_false _ _ (fits_at n tokens rest f fit)).0

and_true : (a b : Bool) → b ≡ true → (a && b) ≡ false → a ≡ false
and_true true b e h = sym e ∙ h
and_true false b e h = refl

star_first : (following factored : List Placed) → Follows Star following factored → star_follows (lexed_view following)
    ≡ true
star_first following factored s = ap star_follows (ap lexed_view s.parts) ∙ (rw s.is refl)

pub factor_fits : (n : ℕ) (tokens following factored : List Placed) → Follows (Digits n) tokens following
    → Follows Star following factored → NumbersFit (lexed_view tokens) → n ≤ 2147483647
factor_fits n tokens following factored f s fit =
    not_over 2147483647 n (and_true _ _ (star_first following factored s)
    (or_false _ _ (fits_at n tokens following f fit)).1)

-- ---- references

nobody : ProcessNames
nobody = record { name = []; vars = [] }

named_by : (names : List ProcessNames) (process var : List ℕ) (p v : ℕ) → process_named names process ≡ Some p
    → var_named names p var ≡ Some v → NamedBy names process var p v
named_by names process var p v ep ev =
    let at = position-Some (λ (entry : ProcessNames). bytes_eq entry.name process) names p nobody ep in
    let entry : ProcessNames = get_or names p nobody in
    let found : slice_get names p ≡ Some entry = slice_get-get_or names p nobody at.0 in
    let here : position (λ x. bytes_eq x var) entry.vars ≡ Some v = rw found at ev in
    let var_at = position-Some (λ x. bytes_eq x var) entry.vars v [] here in
    let same : get_or entry.vars v [] ≡ var = (bytes_eq-Decides (get_or entry.vars v []) var).0 var_at.1 in (
      entry,
      found,
      (bytes_eq-Decides entry.name process).0 at.1,
      slice_get-get_or entry.vars v [] var_at.0
          ∙ ap (λ x. Some x) same,
    )

record ReferenceStep (side : Side) (d : ℕ) (process var : List ℕ) (t : Token) (rest : List Token) : Type 0 where
  is_dot : t ≡ Dot
  process_fits : is_keyword process ≡ false
  var_fits : is_keyword var ≡ false
  goes_on : walk (Inside (AfterTerm side) d) rest ≡ Some AtEnd

reference_step : (side : Side) (d : ℕ) (process var : List ℕ) (t : Token) (rest : List Token)
    → walk (Inside (AfterStar side) d) (Word process ∷ t ∷ Word var ∷ rest) ≡ Some AtEnd
    → ReferenceStep side d process var t rest
reference_step side d process var t rest h =
    let one = name_step (AfterName side) d process (t ∷ Word var ∷ rest) h in
    let two = dot_step side d t (Word var ∷ rest) one.goes_on in
    let three = name_step (AfterTerm side) d var rest two.goes_on in
    record {
      is_dot = two.is_dot;
      process_fits = one.is_no_keyword;
      var_fits = three.is_no_keyword;
      goes_on =
          three.goes_on;
    }

view_reference : (tokens dotted following rest : List Placed) (process var : List ℕ) (x : Placed)
    → Follows (Word process) tokens dotted → dotted ≡ x ∷ following → Follows (Word var) following rest
    → tokens_view tokens ≡ Word process ∷ token_view x.token ∷ Word var ∷ tokens_view rest
view_reference tokens dotted following rest process var x f e g =
    tokens_view-follows (Word process) tokens dotted f
    ∙ ap (λ ts. Word process ∷ ts) (ap tokens_view e
    ∙ ap (λ ts. token_view x.token ∷ ts) (tokens_view-follows (Word var) following rest g))

steps_over : (side : Side) (d : ℕ) (tokens dotted following rest : List Placed) (process var : List ℕ) (x : Placed)
    → Follows (Word process) tokens dotted → dotted ≡ x ∷ following → Follows (Word var) following rest
    → walk (Inside (AfterStar side) d) (tokens_view tokens) ≡ Some AtEnd
    → ReferenceStep side d process var (token_view x.token) (tokens_view rest)
steps_over side d tokens dotted following rest process var x f e g h =
    reference_step side d process var (token_view x.token) (tokens_view rest)
    (same_walk (AfterStar side) d (tokens_view tokens) (Word process ∷ token_view x.token ∷ Word var
    ∷ tokens_view rest) (view_reference tokens dotted following rest process var x f e g) h)

-- the names that stand there are known
pub reference_is_known : (names : List ProcessNames) (tokens dotted following rest : List Placed) (process var : List ℕ)
    (x : Placed) → AreReadable names tokens → LeadsOnSide AfterStar (tokens_view tokens)
    → Follows (Word process) tokens dotted → dotted ≡ x ∷ following → Follows (Word var) following rest
    → IsKnown names process var
reference_is_known names tokens dotted following rest process var x r (side, (d, h)) f e g =
    let step = steps_over side d tokens dotted following rest process var x f e g h in
    r.known [] (tokens_view rest) process var (view_reference tokens dotted following rest process var x f e g
    ∙ ap (λ t. Word process ∷ t ∷ Word var ∷ tokens_view rest) step.is_dot)

pub reference_is_read : (names : List ProcessNames) (tokens dotted following rest : List Placed) (process var : List ℕ)
    (x : Placed) (p v : ℕ) → LeadsOnSide AfterStar (tokens_view tokens) → Follows (Word process) tokens dotted
    → dotted ≡ x ∷ following → Follows (Word var) following rest → process_named names process ≡ Some p
    → var_named names p var ≡ Some v → IsTermRead names AfterStar tokens rest (Variable p v)
reference_is_read names tokens dotted following rest process var x p v (side, (d, h)) f e g ep ev =
    let step = steps_over side d tokens dotted following rest process var x f e g h in
    record {
      prefix = f.first ∷ x ∷ g.first ∷ [];
      parts = f.parts ∙ ap (λ ts. f.first ∷ ts) (e ∙ ap (λ ts. x ∷ ts) g.parts);
      fewer = omega (
        arith,
        fewer_follow (Word process) tokens dotted f,
        ap length e,
        fewer_follow (Word var) following rest g,
      );
      spells = (
        process,
        var,
        rw (f.is, step.is_dot, g.is) refl,
        step.process_fits,
        step.var_fits,
        named_by names process var p v ep ev,
      );
      goes_on = λ other k l. (steps_over other k tokens dotted following rest process var x f e g l).goes_on;
    }

-- ---- terms

pub number_is_read : (names : List ProcessNames) (n : ℕ) (tokens rest : List Placed) → Follows (Digits n) tokens rest
    → begins_with_star (tokens_view rest) ≡ false → IsTermRead names AtTerm tokens rest (Number n)
number_is_read names n tokens rest f no_star = record {
  prefix = f.first ∷ [];
  parts = f.parts;
  fewer = omega (arith, fewer_follow (Digits n) tokens rest f);
  spells = ap (λ t. t ∷ []) f.is;
  goes_on =
      λ side d h. number_is_term side d (tokens_view rest) no_star
      (same_walk (AtTerm side) d (tokens_view tokens) (Digits n ∷ tokens_view rest)
      (tokens_view-follows (Digits n) tokens rest f) h);
}

pub times_is_read : (names : List ProcessNames) (n p v : ℕ) (tokens following factored rest : List Placed)
    → Follows (Digits n) tokens following → Follows Star following factored
    → IsTermRead names AfterStar factored rest (Variable p v) → IsTermRead names AtTerm tokens rest (Times n p v)
times_is_read names n p v tokens following factored rest f s r =
    let whole : tokens_view tokens ≡ Digits n ∷ Star ∷ tokens_view factored =
    tokens_view-follows (Digits n) tokens following f
    ∙ ap (λ ts. Digits n ∷ ts) (tokens_view-follows Star following factored s) in
    record {
      prefix = f.first ∷ s.first ∷ r.prefix;
      parts = f.parts ∙ ap (λ ts. f.first ∷ ts) (s.parts ∙ ap (λ ts. s.first ∷ ts) r.parts);
      fewer = omega (
        arith,
        fewer_follow (Digits n) tokens following f,
        fewer_follow Star following factored s,
        r.fewer,
      );
      spells = (tokens_view r.prefix, rw (f.is, s.is) refl, r.spells);
      goes_on =
          λ side d h. r.goes_on side d (same_walk (AtTerm side) d (tokens_view tokens) (Digits n ∷ Star
          ∷ tokens_view factored) whole h);
    }

-- ---- sums

signed_and_more : (Refers : Naming) (ts us : List Token) (xs : List (Sign × Term)) (sign : Sign) (x : Term)
    → SpellsSigned Refers ts xs → SpellsTerm Refers us x
    → SpellsSigned Refers (ts ++ Signs sign ∷ us) (xs ++ (sign, x) ∷ [])
signed_and_more Refers ts us [] sign x none term = (
  us,
  [],
  ap (λ prefix. prefix ++ Signs sign ∷ us) none ∙ ap (λ back. Signs sign ∷ back) (sym (append_nil us)),
  term,
  refl,
)
signed_and_more Refers ts us ((s, y) ∷ others) sign x (prefix, back, e, first, later) term = (
  prefix,
  back ++ Signs sign ∷ us,
  ap (λ all. all ++ Signs sign ∷ us) e
      ∙ ap (λ all. Signs s ∷ all) (append_assoc prefix back (Signs sign ∷ us)),
  first,
  signed_and_more Refers back us others sign x later term,
)

sum_and_more : (Refers : Naming) (ts us : List Token) (xs : List (Sign × Term)) (sign : Sign) (x : Term)
    → SpellsSum Refers ts xs → SpellsTerm Refers us x → SpellsSum Refers (ts ++ Signs sign ∷ us) (xs ++ (sign, x) ∷ [])
sum_and_more Refers ts us [] sign x sum term = absurd sum
sum_and_more Refers ts us ((Plus, y) ∷ others) sign x sum term =
    signed_and_more Refers (Signs Plus ∷ ts) us ((Plus, y) ∷ others) sign x sum term
sum_and_more Refers ts us ((Minus, y) ∷ others) sign x sum term =
    signed_and_more Refers ts us ((Minus, y) ∷ others) sign x sum term

unsigned_is_same : (ts : List Token) → begins_with_sign ts ≡ false → without_minus ts ≡ ts
unsigned_is_same [] n = refl
unsigned_is_same (Signs Plus ∷ rest) n = refl
unsigned_is_same (Signs Minus ∷ rest) n = absurd (cc)
unsigned_is_same (_ ∷ rest) n = refl

-- what follows the sign of the first term
after_first_sign : (sign : Sign) (tokens following : List Placed) → IsFirstSign sign tokens following
    → without_minus (tokens_view tokens) ≡ tokens_view following
after_first_sign Plus tokens following (e, n) = unsigned_is_same (tokens_view tokens) n ∙ ap tokens_view e
after_first_sign Minus tokens following f = ap without_minus (tokens_view-follows (Signs Minus) tokens following f)

pub readable_after_first : (names : List ProcessNames) (sign : Sign) (tokens following : List Placed)
    → IsFirstSign sign tokens following → AreReadable names tokens → AreReadable names following
readable_after_first names Plus tokens following (e, n) r = readable_rest names tokens [] following e r
readable_after_first names Minus tokens following f r = readable_follows names (Signs Minus) tokens following f r

pub terms-append : (xs : List SignedTerm) (x : SignedTerm) → terms_view (xs ++ x ∷ [])
    ≡ terms_view xs ++ signed_term_view x ∷ []
terms-append [] x = refl
terms-append (y ∷ ys) x = ap (λ (ts : List (Sign × Term)). signed_term_view y ∷ ts) (terms-append ys x)

pub first_is_read : (names : List ProcessNames) (sign : Sign) (x : Term) (tokens following rest : List Placed)
    → IsFirstSign sign tokens following → IsTermRead names AtTerm following rest x
    → IsSumRead names tokens rest ((sign, x) ∷ [])
first_is_read names Plus x tokens following rest f t = record {
  prefix = t.prefix;
  parts = f.0 ∙ t.parts;
  fewer = omega (arith, t.fewer, ap length f.0);
  spells = (
    tokens_view t.prefix,
    [],
    ap (λ ts. Signs Plus ∷ ts) (sym (append_nil (tokens_view t.prefix))),
    t.spells,
    refl,
  );
  goes_on =
      λ side d h. t.goes_on side d (same_walk (AtTerm side) d (without_minus (tokens_view tokens))
      (tokens_view following) (after_first_sign Plus tokens following f) h);
}
first_is_read names Minus x tokens following rest f t = record {
  prefix = f.first ∷ t.prefix;
  parts = f.parts ∙ ap (λ ts. f.first ∷ ts) t.parts;
  fewer = omega (arith, t.fewer, fewer_follow (Signs Minus) tokens following f);
  spells = (
    tokens_view t.prefix,
    [],
    ap (λ s. s ∷ tokens_view t.prefix) f.is
        ∙ ap (λ ts. Signs Minus ∷ ts) (sym (append_nil (tokens_view t.prefix))),
    t.spells,
    refl,
  );
  goes_on =
      λ side d h. t.goes_on side d (same_walk (AtTerm side) d (without_minus (tokens_view tokens))
      (tokens_view following) (after_first_sign Minus tokens following f) h);
}

sign_step : (side : Side) (d : ℕ) (sign : Sign) (rest : List Token)
    → walk (Inside (AfterTerm side) d) (Signs sign ∷ rest) ≡ Some AtEnd → walk (Inside (AtTerm side) d) rest
    ≡ Some AtEnd
sign_step OnLeft d sign rest h = h
sign_step OnRight d sign rest h = h

-- the walk after a sign between terms
after_sign : (side : Side) (d : ℕ) (sign : Sign) (tokens following : List Placed)
    → Follows (Signs sign) tokens following → walk (Inside (AfterTerm side) d) (tokens_view tokens) ≡ Some AtEnd
    → walk (Inside (AtTerm side) d) (tokens_view following) ≡ Some AtEnd
after_sign side d sign tokens following f h =
    sign_step side d sign (tokens_view following)
    (same_walk (AfterTerm side) d (tokens_view tokens) (Signs sign ∷ tokens_view following)
    (tokens_view-follows (Signs sign) tokens following f) h)

pub longer_parts : (tokens prefix middle following back rest : List Placed) (first : Placed) → tokens ≡ prefix ++ middle
    → middle ≡ first ∷ following → following ≡ back ++ rest → tokens ≡ (prefix ++ first ∷ back) ++ rest
longer_parts tokens prefix middle following back rest first e f g =
    e ∙ ap (λ ts. prefix ++ ts) (f ∙ ap (λ ts. first ∷ ts) g) ∙ sym (append_assoc prefix (first ∷ back) rest)

pub more_is_read : (names : List ProcessNames) (sign : Sign) (xs : List (Sign × Term)) (x : Term)
    (tokens middle following rest : List Placed) → IsSumRead names tokens middle xs
    → Follows (Signs sign) middle following → IsTermRead names AtTerm following rest x
    → IsSumRead names tokens rest (xs ++ (sign, x) ∷ [])
more_is_read names sign xs x tokens middle following rest r f t =
    let all : tokens_view (r.prefix ++ f.first ∷ t.prefix) ≡ tokens_view r.prefix ++ Signs sign ∷ tokens_view t.prefix =
    tokens_view-append r.prefix (f.first ∷ t.prefix)
    ∙ ap (λ s. tokens_view r.prefix ++ s ∷ tokens_view t.prefix) f.is in
    let P : List Token → Type 0 = λ ts. SpellsSum (NamedBy names) ts (xs ++ (sign, x) ∷ []) in
    record {
      prefix = r.prefix ++ f.first ∷ t.prefix;
      parts = longer_parts tokens r.prefix middle following t.prefix rest f.first r.parts f.parts t.parts;
      fewer = omega (arith, r.fewer, fewer_follow (Signs sign) middle following f, t.fewer);
      spells = subst P (sym all) (sum_and_more (NamedBy names) (tokens_view r.prefix) (tokens_view t.prefix) xs sign x
          r.spells t.spells);
      goes_on = λ side d h. t.goes_on side d (after_sign side d sign middle following f (r.goes_on side d h));
    }
