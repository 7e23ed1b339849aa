-- The depth after tokens, as a stack of what is open.
use Rattle.std.proofs.Common.{◌≡◌, ℕ, suc, zero, Bool, true, false, cond, List, [], ◌∷◌, ◌++◌, length, refl, sym, length-append, arith}
use Rattle.std.specs.Prelude.{codes, ◌&&◌}
use Rattle.std.specs.Str.{bytes_eq}
use Rattle.std.proofs.lemmas.Slice.Eq.{bytes_eq-Decides}
use Rattle.std.proofs.lemmas.List.{append-nil}
use Rattle.def_format.specs.Tokens.{Token, Word, Digits, OpenParen, CloseParen, Relates, Signs, Star, Dot, End}
use Rattle.def_format.specs.PredicateTexts.{paren_is_open, operand_is_open, is_and_or, depth_after}
use Rattle.def_format.specs.OpenerStack.{Opener, Paren, Negation, drop_nots, drop_one, opened, all_opened}

parens : List Opener → ℕ
parens [] = 0
parens (Paren ∷ stack) = suc (parens stack)
parens (Negation ∷ stack) = parens stack

-- nothing but negations, or a parenthesis below some
data Top (stack : List Opener) : Type 0 where
  no_paren : parens stack ≡ 0 → drop_nots stack ≡ [] → drop_nots (stack ++ Paren ∷ []) ≡ Paren ∷ []
      → drop_nots (stack ++ Negation ∷ []) ≡ [] → Top stack
  a_paren : (below : List Opener) → parens stack ≡ suc (parens below) → drop_nots stack ≡ Paren ∷ below
      → ((x : Opener) → drop_nots (stack ++ x ∷ []) ≡ Paren ∷ (below ++ x ∷ [])) → Top stack

top : (stack : List Opener) → Top stack
unfolding parens
top [] = no_paren refl refl refl refl
top (Paren ∷ stack) = a_paren stack refl refl (λ x. refl)
top (Negation ∷ stack) = go (top stack)
  where
    go : Top stack → Top (Negation ∷ stack)
    go (no_paren a b c d) = no_paren a b c d
    go (a_paren below a b c) = a_paren below a b c

-- whether x at the bottom, below these, is still open after the tokens
abbrev stays : Opener → ℕ → List Token → Bool
stays Paren inner tokens = paren_is_open inner tokens
stays Negation inner tokens = operand_is_open inner tokens

abbrev if_open : Bool → Opener → List Opener
if_open b x = cond b (x ∷ []) []

bottom : (x : Opener) (stack : List Opener) (tokens : List Token) → all_opened (stack ++ x ∷ []) tokens
    ≡ all_opened stack tokens ++ if_open (stays x (parens stack) tokens) x
unfolding parens
bottom Paren stack [] = refl
bottom Negation stack [] = refl
bottom Paren stack (OpenParen ∷ rest) = bottom Paren (Paren ∷ stack) rest
bottom Negation stack (OpenParen ∷ rest) = bottom Negation (Paren ∷ stack) rest
bottom Paren stack (CloseParen ∷ rest) = go (λ o. bottom Paren o rest) (top stack)
  where
    go : ((o : List Opener) → all_opened (o ++ Paren ∷ []) rest ≡ all_opened o rest
        ++ if_open (paren_is_open (parens o) rest) Paren) → Top stack
        → all_opened (drop_one (drop_nots (stack ++ Paren ∷ []))) rest ≡ all_opened (drop_one (drop_nots stack)) rest
        ++ if_open (paren_is_open (parens stack) (CloseParen ∷ rest)) Paren
    go ih (no_paren a b c d) = rw (a, b, c) (sym (append-nil (all_opened [] rest)))
    go ih (a_paren below a b c) = rw (a, b, c Paren) (ih below)
bottom Negation stack (CloseParen ∷ rest) = go (λ o. bottom Negation o rest) (top stack)
  where
    go : ((o : List Opener) → all_opened (o ++ Negation ∷ []) rest ≡ all_opened o rest
        ++ if_open (operand_is_open (parens o) rest) Negation) → Top stack
        → all_opened (drop_one (drop_nots (stack ++ Negation ∷ []))) rest ≡ all_opened (drop_one (drop_nots stack)) rest
        ++ if_open (operand_is_open (parens stack) (CloseParen ∷ rest)) Negation
    go ih (no_paren a b c d) = rw (a, b, d) (sym (append-nil (all_opened [] rest)))
    go ih (a_paren below a b c) = rw (a, b, c Negation) (ih below)
bottom Paren stack (Word w ∷ rest) = go (λ o. bottom Paren o rest) (bytes_eq w (codes "not")) (is_and_or w) (top stack)
  where
    go : ((o : List Opener) → all_opened (o ++ Paren ∷ []) rest ≡ all_opened o rest
        ++ if_open (paren_is_open (parens o) rest) Paren) → (a b : Bool) → Top stack
        → all_opened (cond a (Negation ∷ (stack ++ Paren ∷ []))
        (cond b (drop_nots (stack ++ Paren ∷ [])) (stack ++ Paren ∷ []))) rest
        ≡ all_opened (cond a (Negation ∷ stack) (cond b (drop_nots stack) stack)) rest
        ++ if_open (paren_is_open (parens stack) rest) Paren
    go ih true b t = ih (Negation ∷ stack)
    go ih false true (no_paren a b c d) = rw (a, b, c) (ih [])
    go ih false true (a_paren below a b c) = rw (a, b, c Paren) (ih (Paren ∷ below))
    go ih false false t = ih stack
bottom Negation stack (Word w ∷ rest) =
    go (λ o. bottom Negation o rest) (bytes_eq w (codes "not")) (is_and_or w) refl refl (top stack)
  where
    passes : (n : ℕ) → is_and_or w ≡ false → operand_is_open n (Word w ∷ rest) ≡ operand_is_open n rest
    passes zero h = rw h refl
    passes (suc n) h = refl

    passes_inner : (n m : ℕ) → n ≡ suc m → operand_is_open n (Word w ∷ rest) ≡ operand_is_open (suc m) rest
    passes_inner n m h = rw h refl

    ended : (n : ℕ) → n ≡ 0 → is_and_or w ≡ true → operand_is_open n (Word w ∷ rest) ≡ false
    ended n h k = rw (h, k) refl

    no_join : bytes_eq w (codes "not") ≡ true → is_and_or w ≡ false
    no_join h = rw ((bytes_eq-Decides w (codes "not")).0 h) refl

    go : ((o : List Opener) → all_opened (o ++ Negation ∷ []) rest ≡ all_opened o rest
        ++ if_open (operand_is_open (parens o) rest) Negation) → (a b : Bool) → bytes_eq w (codes "not") ≡ a
        → is_and_or w ≡ b → Top stack → all_opened
        (cond a (Negation ∷ (stack ++ Negation ∷ []))
        (cond b (drop_nots (stack ++ Negation ∷ [])) (stack ++ Negation ∷ []))) rest
        ≡ all_opened (cond a (Negation ∷ stack) (cond b (drop_nots stack) stack)) rest
        ++ if_open (operand_is_open (parens stack) (Word w ∷ rest)) Negation
    go ih true b e f t = rw (passes (parens stack) (no_join e)) (ih (Negation ∷ stack))
    go ih false true e f (no_paren a b c d) =
        rw (ended (parens stack) a f, b, d) (sym (append-nil (all_opened [] rest)))
    go ih false true e f (a_paren below a b c) =
        rw (passes_inner (parens stack) (parens below) a, b, c Negation) (ih (Paren ∷ below))
    go ih false false e f t = rw (passes (parens stack) f) (ih stack)
bottom Paren stack (Digits n ∷ rest) = bottom Paren stack rest
bottom Paren stack (Relates c ∷ rest) = bottom Paren stack rest
bottom Paren stack (Signs sign ∷ rest) = bottom Paren stack rest
bottom Paren stack (Star ∷ rest) = bottom Paren stack rest
bottom Paren stack (Dot ∷ rest) = bottom Paren stack rest
bottom Paren stack (End ∷ rest) = bottom Paren stack rest
bottom Negation stack (Digits n ∷ rest) = bottom Negation stack rest
bottom Negation stack (Relates c ∷ rest) = bottom Negation stack rest
bottom Negation stack (Signs sign ∷ rest) = bottom Negation stack rest
bottom Negation stack (Star ∷ rest) = bottom Negation stack rest
bottom Negation stack (Dot ∷ rest) = bottom Negation stack rest
bottom Negation stack (End ∷ rest) = bottom Negation stack rest

counted : (b : Bool) (x : Opener) (stack : List Opener) (d : ℕ) → d ≡ length stack
    → cond b (suc d) d ≡ length (stack ++ if_open b x)
counted true x stack d h = rw (length-append stack (x ∷ [])) (omega arith)
counted false x stack d h = rw (append-nil stack) h

-- The depth after tokens is the height of the stack.
pub depth_is_height : (tokens : List Token) → depth_after tokens ≡ length (all_opened [] tokens)
unfolding parens
depth_is_height [] = refl
depth_is_height (OpenParen ∷ rest) =
    rw (bottom Paren [] rest) (counted (paren_is_open 0 rest) Paren (all_opened [] rest) (depth_after rest)
    (depth_is_height rest))
depth_is_height (Word w ∷ rest) = go (depth_is_height rest) (bytes_eq w (codes "not")) (is_and_or w)
  where
    go : depth_after rest ≡ length (all_opened [] rest) → (a b : Bool)
        → cond (a && operand_is_open 0 rest) (suc (depth_after rest)) (depth_after rest)
        ≡ length (all_opened (cond a (Negation ∷ []) (cond b [] [])) rest)
    go ih true b =
        rw (bottom Negation [] rest) (counted (operand_is_open 0 rest) Negation (all_opened [] rest) (depth_after rest)
        ih)
    go ih false true = ih
    go ih false false = ih
depth_is_height (CloseParen ∷ rest) = depth_is_height rest
depth_is_height (Digits n ∷ rest) = depth_is_height rest
depth_is_height (Relates c ∷ rest) = depth_is_height rest
depth_is_height (Signs sign ∷ rest) = depth_is_height rest
depth_is_height (Star ∷ rest) = depth_is_height rest
depth_is_height (Dot ∷ rest) = depth_is_height rest
depth_is_height (End ∷ rest) = depth_is_height rest

pub all_opened-append : (stack : List Opener) (xs ys : List Token)
    → all_opened stack (xs ++ ys) ≡ all_opened (all_opened stack xs) ys
all_opened-append stack [] ys = refl
all_opened-append stack (x ∷ xs) ys = all_opened-append (opened stack x) xs ys
