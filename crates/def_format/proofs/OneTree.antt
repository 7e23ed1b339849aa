-- No tokens spell two predicates.
use Rattle.std.proofs.Common.{◌≡◌, ℕ, suc, zero, ◌≤◌, Bool, true, false, List, [], ◌∷◌, ◌++◌, length, refl, sym, ◌∙◌, ap, append_assoc, length-append, ◌⊎◌, inl, inr, arith}
use Rattle.std.specs.Prelude.{codes, ◌&&◌, not}
use Rattle.std.specs.Str.{bytes_eq}
use Rattle.std.proofs.lemmas.Slice.Eq.{bytes_eq-Decides}
use Rattle.std.proofs.lemmas.Bool.{and_parts, not-true}
use Rattle.std.proofs.lemmas.List.{append-nil}
use Rattle.def_model.specs.Predicates.{Term, Number, Variable, Times, Sign, Plus, Minus, Predicate, And, Or}
use Rattle.def_format.specs.Tokens.{Token, Word, Digits, OpenParen, CloseParen, Relates, Signs, Star, Dot, End}
use Rattle.def_format.specs.Grammar.{Naming, SpellsReference, SpellsTerm, SpellsSigned, SpellsSum, Rule, OrRule, AndRule, NotRule, word_or, word_and, Spells, either, no_or, both, no_and, negated, in_parens, always, never, compare, SpellsWhole}
use Rattle.def_format.specs.PrefixWalk.{WordKind, ANot, AJoin, ATruth, AName, word_kind}
use Rattle.def_format.proofs.Prefixes.{kind_of_name}

-- names refer to one variable at most
abbrev pub IsClear : Naming → Type 0
IsClear Refers = (process var : List ℕ) (p v q w : ℕ) → Refers process var p v → Refers process var q w
    → (p ≡ q) × (v ≡ w)

cancel : (xs : List Token) {ys zs : List Token} → xs ++ ys ≡ xs ++ zs → ys ≡ zs
cancel [] e = e
cancel (x ∷ xs) e = cancel xs (cc)

-- ---- what may stand after a sum, after a row of `and`, and after a row of `or`

abbrev stops_sum : List Token → Bool
stops_sum [] = true
stops_sum (Star ∷ rest) = false
stops_sum (Signs sign ∷ rest) = false
stops_sum (_ ∷ rest) = true

abbrev is_this : List ℕ → Token → Bool
is_this word (Word w) = bytes_eq w word
is_this word _ = false

abbrev begins_with : List ℕ → List Token → Bool
begins_with word [] = false
begins_with word (t ∷ rest) = is_this word t

abbrev stops : Rule → List Token → Bool
stops NotRule tokens = stops_sum tokens
stops AndRule tokens = stops_sum tokens && not (begins_with (codes "and") tokens)
stops OrRule tokens =
    stops_sum tokens && (not (begins_with (codes "and") tokens) && not (begins_with (codes "or") tokens))

-- ---- terms and sums

module _ (Refers : Naming) (clear : IsClear Refers) where
  one_reference : (ts us x y : List Token) (p v q w : ℕ) → SpellsReference Refers ts p v → SpellsReference Refers us q w
      → ts ++ x ≡ us ++ y → (ts ≡ us) × (p ≡ q) × (v ≡ w)
  one_reference ts us x y p v q w (a, b, e, ka, kb, r) (c, d, f, kc, kd, s) h =
      let whole : Word a ∷ Dot ∷ Word b ∷ x ≡ Word c ∷ Dot ∷ Word d ∷ y =
      sym (ap (λ zs. zs ++ x) e) ∙ h ∙ ap (λ zs. zs ++ y) f in
      let first : a ≡ c = cc in
      let second : b ≡ d = cc in
      let same = clear c d p v q w (rw (first, second) at r) s in
      (rw (e, f, first, second) refl, same.0, same.1)

  one_term : (ts us x y : List Token) (t u : Term) → SpellsTerm Refers ts t → SpellsTerm Refers us u → ts ++ x ≡ us ++ y
      → stops_sum x ≡ true ⊎ ((sign : Sign) × (rest : List Token) × (x ≡ Signs sign ∷ rest)) → stops_sum y ≡ true
      ⊎ ((sign : Sign) × (rest : List Token) × (y ≡ Signs sign ∷ rest)) → (ts ≡ us) × (t ≡ u)
  one_term ts us x y (Number n) (Number m) s r h sx sy = let whole : Digits n ∷ x ≡ Digits m ∷ y =
      sym (ap (λ zs. zs ++ x) s) ∙ h ∙ ap (λ zs. zs ++ y) r in let e : n ≡ m =
      cc in (rw (s, r, e) refl, ap (λ k. Number k) e)
  one_term ts us x y (Number n) (Variable q w) s (c, d, f, kc, kd, r) h sx sy =
      let whole : Digits n ∷ x ≡ Word c ∷ Dot ∷ Word d ∷ y = sym (ap (λ zs. zs ++ x) s) ∙ h ∙ ap (λ zs. zs ++ y) f in
      absurd (cc)
  one_term ts us x y (Variable p v) (Number m) (a, b, e, ka, kb, s) r h sx sy =
      let whole : Word a ∷ Dot ∷ Word b ∷ x ≡ Digits m ∷ y = sym (ap (λ zs. zs ++ x) e) ∙ h ∙ ap (λ zs. zs ++ y) r in
      absurd (cc)
  one_term ts us x y (Variable p v) (Variable q w) s r h sx sy = let same = one_reference ts us x y p v q w s r h in
      (same.0, rw (same.1, same.2) refl)
  one_term ts us x y (Variable p v) (Times m q w) (a, b, e, ka, kb, s) (us', f, r) h sx sy =
      let whole : Word a ∷ Dot ∷ Word b ∷ x ≡ Digits m ∷ Star ∷ (us' ++ y) =
      sym (ap (λ zs. zs ++ x) e) ∙ h ∙ ap (λ zs. zs ++ y) f in absurd (cc)
  one_term ts us x y (Times n p v) (Variable q w) (ts', e, s) (c, d, f, kc, kd, r) h sx sy =
      let whole : Digits n ∷ Star ∷ (ts' ++ x) ≡ Word c ∷ Dot ∷ Word d ∷ y =
      sym (ap (λ zs. zs ++ x) e) ∙ h ∙ ap (λ zs. zs ++ y) f in absurd (cc)
  one_term ts us x y (Times n p v) (Times m q w) (ts', e, s) (us', f, r) h sx sy =
      let whole : Digits n ∷ Star ∷ (ts' ++ x) ≡ Digits m ∷ Star ∷ (us' ++ y) =
      sym (ap (λ zs. zs ++ x) e) ∙ h ∙ ap (λ zs. zs ++ y) f in
      let number : n ≡ m = cc in
      let same = one_reference ts' us' x y p v q w s r (cc) in
      (rw (e, f, number, same.0) refl, rw (number, same.1, same.2) refl)
  one_term ts us x y (Number n) (Times m q w) s (us', f, r) h sx sy =
      let whole : Digits n ∷ x ≡ Digits m ∷ Star ∷ (us' ++ y) = sym (ap (λ zs. zs ++ x) s) ∙ h ∙ ap (λ zs. zs ++ y) f in
      absurd (no_star x (us' ++ y) (cc) sx)
    where
      no_star : (x rest : List Token) → x ≡ Star ∷ rest → stops_sum x ≡ true
          ⊎ ((sign : Sign) × (rest : List Token) × (x ≡ Signs sign ∷ rest)) → ⊥
      no_star x rest e (inl h) = let bad = rw e at h in cc
      no_star x rest e (inr (sign, others, h)) = cc
  one_term ts us x y (Times n p v) (Number m) (ts', e, s) r h sx sy =
      let whole : Digits n ∷ Star ∷ (ts' ++ x) ≡ Digits m ∷ y = sym (ap (λ zs. zs ++ x) e) ∙ h ∙ ap (λ zs. zs ++ y) r in
      absurd (no_star y (ts' ++ x) (cc) sy)
    where
      no_star : (y rest : List Token) → y ≡ Star ∷ rest → stops_sum y ≡ true
          ⊎ ((sign : Sign) × (rest : List Token) × (y ≡ Signs sign ∷ rest)) → ⊥
      no_star y rest e (inl h) = let bad = rw e at h in cc
      no_star y rest e (inr (sign, others, h)) = cc

  -- after a term stand signed terms, or what stops a sum
  after_term : (tokens x : List Token) (xs : List (Sign × Term)) → SpellsSigned Refers tokens xs → stops_sum x ≡ true
      → stops_sum (tokens ++ x) ≡ true ⊎ ((sign : Sign) × (rest : List Token) × (tokens ++ x ≡ Signs sign ∷ rest))
  after_term tokens x [] s h = inl (rw s h)
  after_term tokens x ((sign, term) ∷ others) s h = inr (sign, (s.0 ++ s.1) ++ x, ap (λ ts. ts ++ x) s.2)

  no_sign : (x rest : List Token) (sign : Sign) → stops_sum x ≡ true → x ≡ Signs sign ∷ rest → ⊥
  no_sign x rest sign h e = let bad = rw e at h in cc

  one_signed : (ts us x y : List Token) (xs ys : List (Sign × Term)) → SpellsSigned Refers ts xs
      → SpellsSigned Refers us ys → ts ++ x ≡ us ++ y → stops_sum x ≡ true → stops_sum y ≡ true → (ts ≡ us) × (xs ≡ ys)
  one_signed ts us x y [] [] s r h sx sy = (s ∙ sym r, refl)
  one_signed ts us x y [] ((sign, term) ∷ ys) s r h sx sy =
      absurd (no_sign x ((r.0 ++ r.1) ++ y) sign sx (sym (ap (λ zs. zs ++ x) s) ∙ h ∙ ap (λ zs. zs ++ y) r.2))
  one_signed ts us x y ((sign, term) ∷ xs) [] s r h sx sy =
      absurd (no_sign y ((s.0 ++ s.1) ++ x) sign sy (sym (ap (λ zs. zs ++ y) r) ∙ sym h ∙ ap (λ zs. zs ++ x) s.2))
  one_signed ts us x y ((sign, term) ∷ xs) ((sign', term') ∷ ys) (f, b, e, s, t) (f', b', e', s', t') h sx sy =
      let whole : Signs sign ∷ (f ++ (b ++ x)) ≡ Signs sign' ∷ (f' ++ (b' ++ y)) =
      ap (λ zs. Signs sign ∷ zs) (sym (append_assoc f b x)) ∙ sym (ap (λ zs. zs ++ x) e) ∙ h ∙ ap (λ zs. zs ++ y) e'
      ∙ ap (λ zs. Signs sign' ∷ zs) (append_assoc f' b' y) in
      let same_sign : sign ≡ sign' = cc in
      let inner : f ++ (b ++ x) ≡ f' ++ (b' ++ y) = cc in
      let first =
      one_term f f' (b ++ x) (b' ++ y) term term' s s' inner (after_term b x xs t sx) (after_term b' y ys t' sy) in
      let later = one_signed b b' x y xs ys t t' (cancel f (inner ∙ ap (λ zs. zs ++ (b' ++ y)) (sym first.0))) sx sy in
      (rw (e, e', same_sign, first.0, later.0) refl, rw (same_sign, first.1, later.1) refl)

  -- whether the first token of a sum is a minus
  abbrev starts_minus : List Token → Bool
  starts_minus [] = false
  starts_minus (Signs sign ∷ rest) = true
  starts_minus (_ ∷ rest) = false

  term_not_minus : (tokens rest : List Token) (t : Term) → SpellsTerm Refers tokens t
      → starts_minus (tokens ++ rest) ≡ false
  term_not_minus tokens rest (Number n) s = rw s refl
  term_not_minus tokens rest (Variable p v) (a, b, e, ka, kb, s) = rw e refl
  term_not_minus tokens rest (Times n p v) (ts, e, s) = rw e refl

  one_sum : (ts us x y : List Token) (xs ys : List (Sign × Term)) → SpellsSum Refers ts xs → SpellsSum Refers us ys
      → ts ++ x ≡ us ++ y → stops_sum x ≡ true → stops_sum y ≡ true → (ts ≡ us) × (xs ≡ ys)
  one_sum ts us x y [] ys s r h sx sy = absurd s
  one_sum ts us x y ((Plus, t) ∷ xs) [] s r h sx sy = absurd r
  one_sum ts us x y ((Minus, t) ∷ xs) [] s r h sx sy = absurd r
  one_sum ts us x y ((Plus, t) ∷ xs) ((Plus, u) ∷ ys) s r h sx sy =
      let same =
      one_signed (Signs Plus ∷ ts) (Signs Plus ∷ us) x y ((Plus, t) ∷ xs) ((Plus, u) ∷ ys) s r
      (ap (λ zs. Signs Plus ∷ zs) h) sx sy in
      let tokens : ts ≡ us = let e = same.0 in cc in
      (tokens, same.1)
  one_sum ts us x y ((Minus, t) ∷ xs) ((Minus, u) ∷ ys) s r h sx sy =
      one_signed ts us x y ((Minus, t) ∷ xs) ((Minus, u) ∷ ys) s r h sx sy
  one_sum ts us x y ((Plus, t) ∷ xs) ((Minus, u) ∷ ys) (f, b, e, s, q) (f', b', e', s', q') h sx sy =
      let same : ts ≡ f ++ b = cc in
      absurd (differ (f ++ (b ++ x)) (Signs Minus ∷ ((f' ++ b') ++ y)) (term_not_minus f (b ++ x) t s) refl
      (sym (append_assoc f b x) ∙ sym (ap (λ zs. zs ++ x) same) ∙ h ∙ ap (λ zs. zs ++ y) e'))
    where
      differ : (a b : List Token) → starts_minus a ≡ false → b ≡ Signs Minus ∷ ((f' ++ b') ++ y) → a ≡ b → ⊥
      differ a b h e g = let bad = rw (g, e) at h in cc
  one_sum ts us x y ((Minus, t) ∷ xs) ((Plus, u) ∷ ys) (f, b, e, s, q) (f', b', e', s', q') h sx sy =
      let same : us ≡ f' ++ b' = cc in
      absurd (differ (f' ++ (b' ++ y)) (Signs Minus ∷ ((f ++ b) ++ x)) (term_not_minus f' (b' ++ y) u s') refl
      (sym (append_assoc f' b' y) ∙ sym (ap (λ zs. zs ++ y) same) ∙ sym h ∙ ap (λ zs. zs ++ x) e))
    where
      differ : (c d : List Token) → starts_minus c ≡ false → d ≡ Signs Minus ∷ ((f ++ b) ++ x) → c ≡ d → ⊥
      differ c d h e g = let bad = rw (g, e) at h in cc

  -- ---- rows of one word

  abbrev Join : Type 0
  Join = Predicate → Predicate → Predicate

  -- after what is taken together so far: the word and one more, and so on
  data Row (rule : Rule) (word : List ℕ) (join : Join) : Predicate → List Token → Predicate → Type 0 where
    last : {so_far : Predicate} → Row rule word join so_far [] so_far
    more : {so_far next whole : Predicate} (piece rest : List Token) → Spells Refers rule piece next
        → Row rule word join (join so_far next) rest whole
        → Row rule word join so_far (Word word ∷ (piece ++ rest)) whole

  record IsRow (rule : Rule) (word : List ℕ) (join : Join) (tokens : List Token) (a : Predicate) : Type 0 where
    first : List Token
    rest : List Token
    parts : tokens ≡ first ++ rest
    head : Predicate
    spelled : Spells Refers rule first head
    row : Row rule word join head rest a

  row_snoc : {rule : Rule} {word : List ℕ} {join : Join} {so_far a b : Predicate} {tokens : List Token}
      (right : List Token) → Row rule word join so_far tokens a → Spells Refers rule right b
      → Row rule word join so_far (tokens ++ Word word ∷ right) (join a b)
  row_snoc {rule = rule} {word = word} {join = join} {so_far = so_far} {b = b} right last s =
      let one : Row rule word join so_far (Word word ∷ (right ++ [])) (join so_far b) = more right [] s last in
      rw (append-nil right) at one
  row_snoc {word = word} right (more piece rest p row) s =
      rw (append_assoc piece rest (Word word ∷ right)) (more piece (rest ++ Word word ∷ right) p (row_snoc right row s))

  row_of_or : {tokens : List Token} {a : Predicate} → Spells Refers OrRule tokens a
      → IsRow AndRule (codes "or") Or tokens a
  row_of_or (either left right l r) =
      let row = row_of_or l in
      record {
        first = row.first;
        rest = row.rest ++ word_or ∷ right;
        parts = ap (λ ts. ts ++ word_or ∷ right) row.parts
            ∙ append_assoc row.first row.rest (word_or ∷ right);
        head = row.head;
        spelled = row.spelled;
        row =
            row_snoc right row.row r;
      }
  row_of_or {tokens = tokens} {a = a} (no_or s) =
      record { first = tokens; rest = []; parts = sym (append-nil tokens); head = a; spelled = s; row = last }

  row_of_and : {tokens : List Token} {a : Predicate} → Spells Refers AndRule tokens a
      → IsRow NotRule (codes "and") And tokens a
  row_of_and (both left right l r) =
      let row = row_of_and l in
      record {
        first = row.first;
        rest = row.rest ++ word_and ∷ right;
        parts =
            ap (λ ts. ts ++ word_and ∷ right) row.parts ∙ append_assoc row.first row.rest (word_and ∷ right);
        head =
            row.head;
        spelled = row.spelled;
        row = row_snoc right row.row r;
      }
  row_of_and {tokens = tokens} {a = a} (no_and s) =
      record { first = tokens; rest = []; parts = sym (append-nil tokens); head = a; spelled = s; row = last }

  -- tokens of at most this many spell one predicate by this rule, whatever stops it
  abbrev OneUpTo : ℕ → Rule → Type 0
  OneUpTo n rule = (ts us x y : List Token) (a b : Predicate) → Spells Refers rule ts a → Spells Refers rule us b
      → ts ++ x ≡ us ++ y → stops rule x ≡ true → stops rule y ≡ true → length ts ≤ n → (ts ≡ us) × (a ≡ b)

  -- a row of pieces of which each is one, taken together one way
  one_row : (rule : Rule) (word : List ℕ) (join : Join) (n : ℕ) → OneUpTo n rule
      → ((tokens : List Token) → stops rule (Word word ∷ tokens) ≡ true)
      → {so_far a b : Predicate} {ts us : List Token} (x y : List Token) → Row rule word join so_far ts a
      → Row rule word join so_far us b → ts ++ x ≡ us ++ y → stops rule x ≡ true → stops rule y ≡ true
      → begins_with word x ≡ false → begins_with word y ≡ false → length ts ≤ n → (ts ≡ us) × (a ≡ b)
  one_row rule word join n one wordstops {so_far = so_far} x y last r h sx sy wx wy bound = against r h
    where
      same_word : is_this word (Word word) ≡ true
      same_word = (bytes_eq-Decides word word).1 refl

      against : {us : List Token} {b : Predicate} → Row rule word join so_far us b → x ≡ us ++ y
          → ([] ≡ us) × (so_far ≡ b)
      against last h = (refl, refl)
      against (more piece rest p row) h = absurd (let bad = rw (h, same_word) at wx in cc)
  one_row rule word join n one wordstops {so_far = so_far} {a = a} x y (more {next = next} piece rest p row) r h sx sy
      wx wy bound =
      against (λ us' b' row' h'. one_row rule word join n one wordstops x y row row' h' sx sy wx wy
      (omega (arith, length-append piece rest))) r h
    where
      same_word : is_this word (Word word) ≡ true
      same_word = (bytes_eq-Decides word word).1 refl

      stops_after : {t : Predicate} {c : Predicate} (tokens z : List Token) → Row rule word join t tokens c
          → stops rule z ≡ true → stops rule (tokens ++ z) ≡ true
      stops_after tokens z last sz = sz
      stops_after tokens z (more piece' rest' p' row') sz = wordstops ((piece' ++ rest') ++ z)

      against : ((us : List Token) (b : Predicate) → Row rule word join (join so_far next) us b → rest ++ x ≡ us ++ y
          → (rest ≡ us) × (a ≡ b)) → {us : List Token} {b : Predicate} → Row rule word join so_far us b
          → (Word word ∷ (piece ++ rest)) ++ x ≡ us ++ y → (Word word ∷ (piece ++ rest) ≡ us) × (a ≡ b)
      against ih last h = absurd (let bad = rw (sym h, same_word) at wy in cc)
      against ih (more {next = next'} {whole = b'} piece' rest' p' row') h =
          let tails : (piece ++ rest) ++ x ≡ (piece' ++ rest') ++ y = cc in
          let inner : piece ++ (rest ++ x) ≡ piece' ++ (rest' ++ y) = sym (append_assoc piece rest x) ∙ tails
          ∙ append_assoc piece' rest' y in
          let first =
          one piece piece' (rest ++ x) (rest' ++ y) next next' p p' inner (stops_after rest x row sx)
          (stops_after rest' y row' sy) (omega (arith, length-append piece rest)) in
          let later =
          ih rest' b' (rw (sym first.1) at row')
          (cancel piece (inner ∙ ap (λ zs. zs ++ (rest' ++ y)) (sym first.0))) in
          (rw (first.0, later.0) refl, later.1)

  one_of_rows : (rule : Rule) (word : List ℕ) (join : Join) (n : ℕ) → OneUpTo n rule
      → ((tokens : List Token) → stops rule (Word word ∷ tokens) ≡ true) → (ts us x y : List Token) (a b : Predicate)
      → IsRow rule word join ts a → IsRow rule word join us b → ts ++ x ≡ us ++ y → stops rule x ≡ true
      → stops rule y ≡ true → begins_with word x ≡ false → begins_with word y ≡ false → length ts ≤ n
      → (ts ≡ us) × (a ≡ b)
  one_of_rows rule word join n one wordstops ts us x y a b r s h sx sy wx wy bound =
      let inner : r.first ++ (r.rest ++ x) ≡ s.first ++ (s.rest ++ y) = sym (append_assoc r.first r.rest x)
      ∙ ap (λ zs. zs ++ x) (sym r.parts) ∙ h ∙ ap (λ zs. zs ++ y) s.parts ∙ append_assoc s.first s.rest y in
      let first =
      one r.first s.first (r.rest ++ x) (s.rest ++ y) r.head s.head r.spelled s.spelled inner
      (stops_after r.rest x r.row sx) (stops_after s.rest y s.row sy)
      (omega (arith, length-append r.first r.rest, ap length r.parts)) in
      let later =
      one_row rule word join n one wordstops x y r.row (rw (sym first.1) at s.row)
      (cancel r.first (inner ∙ ap (λ zs. zs ++ (s.rest ++ y)) (sym first.0))) sx sy wx wy
      (omega (arith, length-append r.first r.rest, ap length r.parts)) in
      (rw (r.parts, s.parts, first.0, later.0) refl, later.1)
    where
      stops_after : {t : Predicate} {c : Predicate} (tokens z : List Token) → Row rule word join t tokens c
          → stops rule z ≡ true → stops rule (tokens ++ z) ≡ true
      stops_after tokens z last sz = sz
      stops_after tokens z (more piece' rest' p' row') sz = wordstops ((piece' ++ rest') ++ z)

  -- one by and_rule, if one by not_rule, and one by or_rule, if one by and_rule
  one_and : (n : ℕ) → OneUpTo n NotRule → OneUpTo n AndRule
  one_and n one ts us x y a b r s h sx sy bound =
      let cx = and_parts (stops_sum x) (not (begins_with (codes "and") x)) sx in
      let cy = and_parts (stops_sum y) (not (begins_with (codes "and") y)) sy in
      one_of_rows NotRule (codes "and") And n one (λ tokens. refl) ts us x y a b (row_of_and r) (row_of_and s) h cx.0
      cy.0 (not-true (begins_with (codes "and") x) cx.1) (not-true (begins_with (codes "and") y) cy.1) bound

  one_or : (n : ℕ) → OneUpTo n AndRule → OneUpTo n OrRule
  one_or n one ts us x y a b r s h sx sy bound =
      let cx = and_parts (stops_sum x) (not (begins_with (codes "and") x) && not (begins_with (codes "or") x)) sx in
      let cy = and_parts (stops_sum y) (not (begins_with (codes "and") y) && not (begins_with (codes "or") y)) sy in
      let dx = and_parts (not (begins_with (codes "and") x)) (not (begins_with (codes "or") x)) cx.1 in
      let dy = and_parts (not (begins_with (codes "and") y)) (not (begins_with (codes "or") y)) cy.1 in
      one_of_rows AndRule (codes "or") Or n one (λ tokens. refl) ts us x y a b (row_of_or r) (row_of_or s) h
      (rw (cx.0, dx.0) refl) (rw (cy.0, dy.0) refl) (not-true (begins_with (codes "or") x) dx.1)
      (not-true (begins_with (codes "or") y) dy.1) bound

  -- ---- the tightest rule, by its first token

  abbrev tag : List Token → ℕ
  tag [] = 0
  tag (OpenParen ∷ rest) = 1
  tag (Word w ∷ rest) = of_word (word_kind w) (bytes_eq w (codes "true"))
    where
      of_word : WordKind → Bool → ℕ
      of_word ANot b = 2
      of_word ATruth true = 3
      of_word ATruth false = 4
      of_word AJoin b = 5
      of_word AName b = 0
  tag (_ ∷ rest) = 0

  term_tag : (tokens rest : List Token) (t : Term) → SpellsTerm Refers tokens t → tag (tokens ++ rest) ≡ 0
  term_tag tokens rest (Number n) s = rw s refl
  term_tag tokens rest (Variable p v) (a, b, e, ka, kb, s) = rw (e, kind_of_name a ka) refl
  term_tag tokens rest (Times n p v) (ts, e, s) = rw e refl

  sum_tag : (tokens rest : List Token) (xs : List (Sign × Term)) → SpellsSum Refers tokens xs → tag (tokens ++ rest) ≡ 0
  sum_tag tokens rest [] s = absurd s
  sum_tag tokens rest ((Plus, t) ∷ xs) (f, b, e, s, q) =
      let same : tokens ≡ f ++ b = cc in
      rw (same, append_assoc f b rest) (term_tag f (b ++ rest) t s)
  sum_tag tokens rest ((Minus, t) ∷ xs) (f, b, e, s, q) = rw e refl

  kind : {ts : List Token} {a : Predicate} → Spells Refers NotRule ts a → ℕ
  kind (negated s) = 2
  kind (in_parens tokens s) = 1
  kind always = 3
  kind never = 4
  kind (compare left right l r) = 0

  kind_is_tag : {ts : List Token} {a : Predicate} (rest : List Token) (r : Spells Refers NotRule ts a)
      → tag (ts ++ rest) ≡ kind r
  unfolding kind
  kind_is_tag rest (negated s) = refl
  kind_is_tag rest (in_parens tokens s) = refl
  kind_is_tag rest always = refl
  kind_is_tag rest never = refl
  kind_is_tag rest (compare left right {xs = xs} {comparison = c} l r) =
      rw (append_assoc left (Relates c ∷ right) rest) (sum_tag left (Relates c ∷ (right ++ rest)) xs l)

  not_empty : {ts : List Token} {a : Predicate} → Spells Refers NotRule ts a → 1 ≤ length ts
  not_empty (negated s) = omega arith
  not_empty (in_parens tokens s) = omega arith
  not_empty always = omega arith
  not_empty never = omega arith
  not_empty (compare left right {comparison = c} l r) = omega (arith, length-append left (Relates c ∷ right))

  same_kind : (m : ℕ) → OneUpTo m NotRule → OneUpTo m OrRule
      → (x y : List Token) {ts us : List Token} {a b : Predicate} (r : Spells Refers NotRule ts a)
      (s : Spells Refers NotRule us b) → kind r ≡ kind s → ts ++ x ≡ us ++ y → stops_sum x ≡ true → stops_sum y ≡ true
      → length ts ≤ suc m → (ts ≡ us) × (a ≡ b)
  unfolding kind
  same_kind m one_n one_o x y (negated {tokens = ts} {a = a} r) (negated {tokens = us} {a = b} s) k h sx sy bound =
      let same = one_n ts us x y a b r s (cc) sx sy (omega arith) in
      (rw same.0 refl, rw same.1 refl)
  same_kind m one_n one_o x y (in_parens ts {a = a} r) (in_parens us {a = b} s) k h sx sy bound =
      let tails : (ts ++ CloseParen ∷ []) ++ x ≡ (us ++ CloseParen ∷ []) ++ y = cc in
      let same =
      one_o ts us (CloseParen ∷ x) (CloseParen ∷ y) a b r s (sym (append_assoc ts (CloseParen ∷ []) x) ∙ tails
      ∙ append_assoc us (CloseParen ∷ []) y) refl refl (omega (arith, length-append ts (CloseParen ∷ []))) in
      (rw same.0 refl, same.1)
  same_kind m one_n one_o x y always always k h sx sy bound = (refl, refl)
  same_kind m one_n one_o x y never never k h sx sy bound = (refl, refl)
  same_kind m one_n one_o x y (compare left right {xs = xs} {ys = ys} {comparison = c} l r) (compare left' right' {xs =
      xs'} {ys = ys'} {comparison = c'} l' r') k h sx sy bound =
      let whole : left ++ (Relates c ∷ (right ++ x)) ≡ left' ++ (Relates c' ∷ (right' ++ y)) =
      sym (append_assoc left (Relates c ∷ right) x) ∙ h ∙ append_assoc left' (Relates c' ∷ right') y in
      let first = one_sum left left' (Relates c ∷ (right ++ x)) (Relates c' ∷ (right' ++ y)) xs xs' l l' whole refl refl
      in
      let rests : Relates c ∷ (right ++ x) ≡ Relates c' ∷ (right' ++ y) =
      cancel left (whole ∙ ap (λ zs. zs ++ (Relates c' ∷ (right' ++ y))) (sym first.0)) in
      let same_c : c ≡ c' = cc in
      let last = one_sum right right' x y ys ys' r r' (cc) sx sy in
      (rw (first.0, same_c, last.0) refl, rw (first.1, same_c, last.1) refl)
  same_kind m one_n one_o x y _ _ k h sx sy bound = absurd (omega arith)

  one_not : (n : ℕ) → OneUpTo n NotRule
  one_not zero ts us x y a b r s h sx sy bound = absurd (omega (arith, not_empty r))
  one_not (suc m) ts us x y a b r s h sx sy bound =
      same_kind m (one_not m) (one_or m (one_and m (one_not m))) x y r s (sym (kind_is_tag x r) ∙ ap tag h
      ∙ kind_is_tag y s) h sx sy bound

  pub one_tree : (tokens : List Token) (a b : Predicate) → SpellsWhole Refers tokens a → SpellsWhole Refers tokens b
      → a ≡ b
  one_tree tokens a b (ts, e, r) (us, f, s) =
      (one_or (length ts) (one_and (length ts) (one_not (length ts))) ts us (End ∷ []) (End ∷ []) a b r s (sym e
      ∙ f) refl refl (omega arith)).1
