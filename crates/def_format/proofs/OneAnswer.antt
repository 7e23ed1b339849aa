-- A text is one predicate or is refused with one fault at one place, and never both.
use Rattle.std.proofs.Common.{◌≡◌, ℕ, ◌+◌, ◌≤◌, ◌<◌, List, [], ◌∷◌, ◌++◌, length, refl, sym, ◌∙◌, ap, subst, arith}
use Rattle.def_model.specs.Predicates.{Predicate}
use Rattle.def_format.specs.Lists.{IsFirst}
use Rattle.def_format.specs.Names.{ProcessNames}
use Rattle.def_format.specs.Tokens.{Placed, AreTokens, IsStray}
use Rattle.def_format.specs.Grammar.{NamedBy, SpellsWhole}
use Rattle.def_format.specs.PredicateTexts.{tokens_of, PredicateFault, Long, Character, Number, Expected, UnknownName, Depth, IsTooLarge, IsMisplaced, HasMisplaced, HasTooLarge, IsRefusedPredicate, IsPredicate}
use Rattle.def_format.specs.Limits.{predicate_byte_limit}
use Rattle.def_format.specs.Laws.{AreClear}
use Rattle.def_format.proofs.OneTree.{one_tree}
use Rattle.def_format.proofs.OneFault.{one_fault}
use Rattle.def_format.proofs.OneLexing.{one_token_list, no_stray, one_stray}

-- two places in one list: the same, or one before the other
data Places {A : Type 0} (b : List A) (x : A) (a b' : List A) (x' : A) (a' : List A) : Type 0 where
  same : b ≡ b' → x ≡ x' → Places b x a b' x' a'
  earlier : (mid : List A) → b' ≡ b ++ x ∷ mid → a ≡ mid ++ x' ∷ a' → Places b x a b' x' a'
  later : (mid : List A) → b ≡ b' ++ x' ∷ mid → a' ≡ mid ++ x ∷ a → Places b x a b' x' a'

places : {A : Type 0} (b : List A) (x : A) (a b' : List A) (x' : A) (a' : List A) → b ++ x ∷ a ≡ b' ++ x' ∷ a'
    → Places b x a b' x' a'
places [] x a [] x' a' e = same refl (cc)
places [] x a (y ∷ b') x' a' e = earlier b' (cc) (cc)
places (z ∷ b) x a [] x' a' e = later b (cc) (cc)
places (z ∷ b) x a (y ∷ b') x' a' e = go (places b x a b' x' a' (cc))
  where
    head : z ≡ y
    head = cc

    go : Places b x a b' x' a' → Places (z ∷ b) x a (y ∷ b') x' a'
    go (same g h) = same (rw (head, g) refl) h
    go (earlier mid h k) = earlier mid (rw (head, h) refl) k
    go (later mid h k) = later mid (rw (head, h) refl) k

one_first : {A : Type 0} (P : List A → A → List A → Type 0) (xs b a b' a' : List A) (x x' : A) → IsFirst P xs b x a
    → IsFirst P xs b' x' a' → (b ≡ b') × (x ≡ x')
one_first P xs b a b' a' x x' f g = go (places b x a b' x' a' (sym f.parts ∙ g.parts))
  where
    go : Places b x a b' x' a' → (b ≡ b') × (x ≡ x')
    go (same g h) = (g, h)
    go (earlier mid h k) = absurd (g.none_before b x mid h (subst (P b x) k f.here))
    go (later mid h k) = absurd (f.none_before b' x' mid h (subst (P b' x') k g.here))

pub predicate_not_refused_lem : (names : List ProcessNames) (text : List ℕ) (a : Predicate) (fault : PredicateFault)
    (at : ℕ) → IsPredicate names text a → IsRefusedPredicate names text fault at → ⊥
predicate_not_refused_lem names text a fault at p refused = go fault refused
  where
    misplaced : (fault : PredicateFault) → HasMisplaced names text fault at → ⊥
    misplaced fault m =
        p.well_placed m.before (record { at = at; token = m.token }) m.after
        (one_token_list text p.tokens m.tokens p.are_tokens m.are_tokens ∙ m.first.parts) m.first.here

    go : (fault : PredicateFault) → IsRefusedPredicate names text fault at → ⊥
    go Long r = let short : length text ≤ predicate_byte_limit = p.short in omega (arith, r.0)
    go Character r = no_stray text p.tokens at p.are_tokens r.1
    go Number r =
        p.numbers_fit r.before (record { at = at; token = r.token }) r.after
        (one_token_list text p.tokens r.tokens p.are_tokens r.are_tokens ∙ r.first.parts) r.first.here
    go Expected r = misplaced Expected r
    go UnknownName r = misplaced UnknownName r
    go Depth r = misplaced Depth r

pub one_predicate_lem : (names : List ProcessNames) → AreClear names → (text : List ℕ) (a b : Predicate)
    → IsPredicate names text a → IsPredicate names text b → a ≡ b
one_predicate_lem names clear text a b p q =
    one_tree (NamedBy names) clear (tokens_of p.tokens) a b p.spells
    (subst (λ ts. Spelled ts) (sym (one_token_list text p.tokens q.tokens p.are_tokens q.are_tokens)) q.spells)
  where
    Spelled : List Placed → Type 0
    Spelled ts = SpellsWhole (NamedBy names) (tokens_of ts) b

-- what refuses a text: the limit, a stray byte, a number that is too large, or a misplaced token
data Stands (names : List ProcessNames) (text : List ℕ) : PredicateFault → ℕ → Type 0 where
  past : {at : ℕ} → predicate_byte_limit < length text → at ≡ predicate_byte_limit + 1 → Stands names text Long at
  stray : {at : ℕ} → length text ≤ predicate_byte_limit → IsStray text at → Stands names text Character at
  large : {at : ℕ} → HasTooLarge text at → Stands names text Number at
  misplaced : {fault : PredicateFault} {at : ℕ} → HasMisplaced names text fault at → Stands names text fault at

stands : (names : List ProcessNames) (text : List ℕ) (fault : PredicateFault) (at : ℕ)
    → IsRefusedPredicate names text fault at → Stands names text fault at
stands names text Long at r = past r.0 r.1
stands names text Character at r = stray r.0 r.1
stands names text Number at r = large r
stands names text Expected at r = misplaced r
stands names text UnknownName at r = misplaced r
stands names text Depth at r = misplaced r

first_at : (P : List Placed → Placed → List Placed → Type 0) (text : List ℕ) (xs ys b a b' a' : List Placed)
    (x x' : Placed) → AreTokens text xs → AreTokens text ys → IsFirst P xs b x a → IsFirst P ys b' x' a'
    → (b ≡ b') × (x ≡ x')
first_at P text xs ys b a b' a' x x' h k f g =
    one_first P xs b a b' a' x x' f (subst (λ zs. IsFirst P zs b' x' a') (sym (one_token_list text xs ys h k)) g)

no_large_there : (names : List ProcessNames) (text : List ℕ) (at other : ℕ) (fault : PredicateFault)
    → HasTooLarge text at → HasMisplaced names text fault other → ⊥
no_large_there names text at other fault r m =
    m.numbers_fit r.before (record { at = at; token = r.token }) r.after
    (one_token_list text m.tokens r.tokens m.are_tokens r.are_tokens ∙ r.first.parts) r.first.here

one_misplaced : (names : List ProcessNames) (text : List ℕ) (f g : PredicateFault) (at other : ℕ)
    → HasMisplaced names text f at → HasMisplaced names text g other → (f ≡ g) × (at ≡ other)
one_misplaced names text f g at other r m =
    let same =
    first_at (IsMisplaced names) text r.tokens m.tokens r.before r.after m.before m.after (record {
      at = at;
      token =
          r.token;
    }) (record { at = other; token = m.token }) r.are_tokens m.are_tokens r.first m.first in
    let token : r.token ≡ m.token = ap (λ (t : Placed). t.token) same.1 in (
      one_fault names (tokens_of r.before) r.token f g r.stands (rw (sym same.0, sym token) at m.stands),
      ap (λ (t : Placed). t.at) same.1,
    )

one_refusal : (names : List ProcessNames) (text : List ℕ) (f g : PredicateFault) (at other : ℕ) → Stands names text f at
    → Stands names text g other → (f ≡ g) × (at ≡ other)
one_refusal names text f g at other (past h e) (past k e') = (refl, e ∙ sym e')
one_refusal names text f g at other (past h e) (stray k s) = absurd (omega arith)
one_refusal names text f g at other (past h e) (large m) =
    absurd (let short : length text ≤ predicate_byte_limit = m.short in omega arith)
one_refusal names text f g at other (past h e) (misplaced m) =
    absurd (let short : length text ≤ predicate_byte_limit = m.short in omega arith)
one_refusal names text f g at other (stray h s) (past k e) = absurd (omega arith)
one_refusal names text f g at other (stray h s) (stray k s') = (refl, one_stray text at other s s')
one_refusal names text f g at other (stray h s) (large m) = absurd (no_stray text m.tokens at m.are_tokens s)
one_refusal names text f g at other (stray h s) (misplaced m) = absurd (no_stray text m.tokens at m.are_tokens s)
one_refusal names text f g at other (large r) (past k e) =
    absurd (let short : length text ≤ predicate_byte_limit = r.short in omega arith)
one_refusal names text f g at other (large r) (stray k s) = absurd (no_stray text r.tokens other r.are_tokens s)
one_refusal names text f g at other (large r) (large m) = (
  refl,
  ap (λ (t : Placed). t.at) (first_at IsTooLarge text r.tokens m.tokens r.before r.after m.before m.after
      (record { at = at; token = r.token }) (record { at = other; token = m.token }) r.are_tokens m.are_tokens r.first
      m.first).1,
)
one_refusal names text f g at other (large r) (misplaced m) = absurd (no_large_there names text at other g r m)
one_refusal names text f g at other (misplaced r) (past k e) =
    absurd (let short : length text ≤ predicate_byte_limit = r.short in omega arith)
one_refusal names text f g at other (misplaced r) (stray k s) = absurd (no_stray text r.tokens other r.are_tokens s)
one_refusal names text f g at other (misplaced r) (large m) = absurd (no_large_there names text other at f m r)
one_refusal names text f g at other (misplaced r) (misplaced m) = one_misplaced names text f g at other r m

pub refused_once_lem : (names : List ProcessNames) (text : List ℕ) (f g : PredicateFault) (at other : ℕ)
    → IsRefusedPredicate names text f at → IsRefusedPredicate names text g other → (f ≡ g) × (at ≡ other)
refused_once_lem names text f g at other r s =
    one_refusal names text f g at other (stands names text f at r) (stands names text g other s)
