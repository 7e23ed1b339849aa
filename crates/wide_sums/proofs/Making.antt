-- Terms are made of comparisons that are put after others.
use Rattle.std.proofs.Common.{◌≡◌, ◌+◌, ◌<◌, ℕ, List, [], ◌∷◌, ◌++◌, All, length, length-append, get_or, map, append-nil, append_assoc, refl, sym, ap, ◌∙◌, arith}
use Rattle.std.specs.Prelude.{flat_map, Bool, true, false, cond, not}
use Rattle.std.proofs.lemmas.List.{get_or_append_left, get_or_push, length-map, length_push, map-append}
use Rattle.std.proofs.lemmas.List.Elements.{All-append, All-cons, All-head, All-map, All-nil, All-tail, All-weaker}
use Rattle.def_model.specs.Predicates.{Always, Never}
use Rattle.def_wide.specs.Terms as model
use Rattle.wide_sums.specs.Literals.{AreOf, IsNumberOf, IsWhole, MakesTerms, TakesLiteral, literal_at, literal_view, no_literal, term_at, terms_at}
use Rattle.wide_sums.specs.declared.literal.Literal.{Literal}
use Rattle.wide_terms.specs.Rows.{products}

-- ---- more comparisons

-- a comparison that is there is the same among more
literal_more : (literals more : List Literal) (i : ℕ) → i < length literals
    → literal_at (literals ++ more) i ≡ literal_at literals i
literal_more literals more i lt =
    ap (λ (ls : List model.Literal). get_or ls i no_literal) (map-append literal_view literals more)
    ∙ get_or_append_left (map literal_view literals) (map literal_view more) no_literal i
    (omega (arith, length-map literals literal_view))

term_more : (literals more : List Literal) (term : List ℕ) → All (λ i. i < length literals) term
    → term_at (literals ++ more) term ≡ term_at literals term
term_more literals more [] all = refl
term_more literals more (i ∷ term) all =
    ap (λ (l : model.Literal). l ∷ term_at (literals ++ more) term)
    (literal_more literals more i (All-head (λ k. k < length literals) i term all))
    ∙ ap (λ (ls : List model.Literal). literal_at literals i ∷ ls)
    (term_more literals more term (All-tail (λ k. k < length literals) i term all))

terms_more : (literals more : List Literal) (terms : List (List ℕ)) → AreOf literals terms
    → terms_at (literals ++ more) terms ≡ terms_at literals terms
terms_more literals more [] all = refl
terms_more literals more (term ∷ terms) all =
    ap (λ (t : List model.Literal). t ∷ terms_at (literals ++ more) terms)
    (term_more literals more term (All-head (All (λ k. k < length literals)) term terms all))
    ∙ ap (λ (ts : List (List model.Literal)). term_at literals term ∷ ts)
    (terms_more literals more terms (All-tail (All (λ k. k < length literals)) term terms all))

of_more : (literals more : List Literal) (terms : List (List ℕ)) → AreOf literals terms → AreOf (literals ++ more) terms
of_more literals more terms all =
    All-weaker (All (λ k. k < length literals)) (All (λ k. k < length (literals ++ more)))
    (λ term each. All-weaker (λ k. k < length literals) (λ k. k < length (literals ++ more))
    (λ k lt. omega (arith, length-append literals more)) term each) terms all

-- ---- products

pub of_products : {A : Type 0} (P : A → Type 0) (first second : List (List A)) → All (All P) first
    → All (All P) second
    → All (All P) (flat_map (λ (term : List A). map (λ (other : List A). term ++ other) second) first)
of_products P [] second all others = All-nil (All P)
of_products {A = A} P (term ∷ first) second all others =
    All-append (All P) (map (λ (other : List A). term ++ other) second)
    (flat_map (λ (t : List A). map (λ (other : List A). t ++ other) second) first)
    (All-map (All P) (λ (other : List A). term ++ other) second
    (All-weaker (All P) (λ (other : List A). All P (term ++ other))
    (λ other each. All-append P term other (All-head (All P) term first all) each) second others))
    (of_products P first second (All-tail (All P) term first all) others)

-- a term with each of others
with_each : (f : ℕ → model.Literal) (term : List ℕ) (others : List (List ℕ))
    → map (map f) (map (λ (other : List ℕ). term ++ other) others)
    ≡ map (λ (other : List model.Literal). map f term ++ other) (map (map f) others)
with_each f term [] = refl
with_each f term (other ∷ others) =
    ap (λ (t : List model.Literal). t ∷ map (map f) (map (λ (o : List ℕ). term ++ o) others)) (map-append f term other)
    ∙ ap (λ (ts : List (List model.Literal)). (map f term ++ map f other) ∷ ts) (with_each f term others)

products_at : (f : ℕ → model.Literal) (first second : List (List ℕ))
    → map (map f) (products first second) ≡ model.products (map (map f) first) (map (map f) second)
products_at f [] second = refl
products_at f (term ∷ first) second =
    map-append (map f) (map (λ (other : List ℕ). term ++ other) second) (products first second)
    ∙ (ap (λ (ts : List (List model.Literal)). ts ++ map (map f) (products first second)) (with_each f term second)
    ∙ ap (λ (ts : List (List model.Literal)). map (λ (other : List model.Literal). map f term ++ other)
    (map (map f) second) ++ ts) (products_at f first second))

-- ---- what makes terms

constant_made : (truth : Bool) (old : List Literal)
    → MakesTerms (cond truth ([] ∷ []) []) old old (cond truth ([] ∷ []) [])
constant_made true old = record {
  more = [];
  is = sym (append-nil old);
  whole = All-nil IsWhole;
  speak = All-cons (All (λ k. k < length old)) [] [] (All-nil (λ k. k < length old))
      (All-nil (All (λ k. k < length old)));
  same = refl;
}
constant_made false old = record {
  more = [];
  is = sym (append-nil old);
  whole = All-nil IsWhole;
  speak = All-nil (All (λ k. k < length old));
  same = refl;
}

-- a constant
pub made_constant : (truth : Bool) (wanted : List (List model.Literal)) (old : List Literal) (terms : List (List ℕ))
    → terms ≡ cond truth ([] ∷ []) [] → wanted ≡ cond truth ([] ∷ []) [] → MakesTerms wanted old old terms
made_constant truth wanted old terms is wants = rw (is, wants) (constant_made truth old)

pub terms_of_always : (negated : Bool) → model.terms_of negated Always ≡ cond (not negated) ([] ∷ []) []
terms_of_always true = refl
terms_of_always false = refl

pub terms_of_never : (negated : Bool) → model.terms_of negated Never ≡ cond negated ([] ∷ []) []
terms_of_never true = refl
terms_of_never false = refl

-- a comparison that is new, and one that was there
pub taken_new : (literal : Literal) (old new : List Literal) (number : ℕ) → IsWhole literal
    → new ≡ old ++ literal ∷ [] → number ≡ length old → TakesLiteral (literal_view literal) old new number
taken_new literal old new number whole is last =
    let many : length new ≡ length old + 1 = ap length is ∙ length_push old literal in
    record {
      more = literal ∷ [];
      is = is;
      whole = All-cons IsWhole literal [] whole (All-nil IsWhole);
      number_of = record {
        there = omega (arith, last);
        at = ap (λ (ls : List Literal). literal_at ls number) is
            ∙ (ap (λ (ls : List model.Literal). get_or ls number no_literal)
            (map-append literal_view old (literal ∷ []))
            ∙ get_or_push (map literal_view old) (literal_view literal) no_literal number
            (length-map old literal_view ∙ sym last));
      };
    }

pub taken_known : (l : model.Literal) (old : List Literal) (number : ℕ) → IsNumberOf old l number
    → TakesLiteral l old old number
taken_known l old number found = record {
  more = [];
  is = sym (append-nil old);
  whole = All-nil IsWhole;
  number_of = found;
}

-- the term of a comparison
pub made_literal : (l : model.Literal) (wanted : List (List model.Literal)) (old new : List Literal) (number : ℕ)
    (terms : List (List ℕ)) → TakesLiteral l old new number → terms ≡ (number ∷ []) ∷ [] → wanted ≡ (l ∷ []) ∷ []
    → MakesTerms wanted old new terms
made_literal l wanted old new number terms takes is wants = record {
  more = takes.more;
  is = takes.is;
  whole = takes.whole;
  speak = rw is (All-cons (All (λ k. k < length new)) (number ∷ []) []
      (All-cons (λ k. k < length new) number [] takes.number_of.there (All-nil (λ k. k < length new)))
      (All-nil (All (λ k. k < length new))));
  same = ap (terms_at new) is ∙ (ap (λ (x : model.Literal). (x ∷ []) ∷ []) takes.number_of.at ∙ sym wants);
}

-- the terms that were made first are the same after the others are made
first_later : (wanted : List (List model.Literal)) (old mid more new : List Literal) (first : List (List ℕ))
    → MakesTerms wanted old mid first → new ≡ mid ++ more
    → AreOf new first × (terms_at new first ≡ wanted)
first_later wanted old mid more new first made is = (
  rw is (of_more mid more first made.speak),
  ap (λ (ls : List Literal). terms_at ls first) is ∙ (terms_more mid more first made.speak ∙ made.same),
)

-- two predicates
pub made_joined : (is_or : Bool) (one two wanted : List (List model.Literal)) (old mid new : List Literal)
    (first second terms : List (List ℕ)) → MakesTerms one old mid first → MakesTerms two mid new second
    → terms ≡ cond is_or (first ++ second) (products first second)
    → wanted ≡ cond is_or (one ++ two) (model.products one two) → MakesTerms wanted old new terms
made_joined is_or one two wanted old mid new first second terms made made' is wants = record {
  more = made.more ++ made'.more;
  is = made'.is ∙ (ap (λ (ls : List Literal). ls ++ made'.more) made.is ∙ append_assoc old made.more made'.more);
  whole = All-append IsWhole made.more made'.more made.whole made'.whole;
  speak = rw is (speak is_or);
  same = ap (terms_at new) is ∙ (same is_or ∙ sym wants);
}
  where
    later : AreOf new first × (terms_at new first ≡ one)
    later = first_later one old mid made'.more new first made made'.is

    speak : (b : Bool) → AreOf new (cond b (first ++ second) (products first second))
    speak true = All-append (All (λ k. k < length new)) first second later.0 made'.speak
    speak false = of_products (λ k. k < length new) first second later.0 made'.speak

    same : (b : Bool)
        → terms_at new (cond b (first ++ second) (products first second)) ≡ cond b (one ++ two) (model.products one two)
    same true =
        map-append (term_at new) first second
        ∙ (ap (λ (ts : List (List model.Literal)). ts ++ terms_at new second) later.1
        ∙ ap (λ (ts : List (List model.Literal)). one ++ ts) made'.same)
    same false =
        products_at (literal_at new) first second
        ∙ (ap (λ (ts : List (List model.Literal)). model.products ts (terms_at new second)) later.1
        ∙ ap (λ (ts : List (List model.Literal)). model.products one ts) made'.same)

-- a choice and the opposite one
pub choice_turned : (b : Bool) (xs ys : List (List model.Literal)) → cond b xs ys ≡ cond (not b) ys xs
choice_turned true xs ys = refl
choice_turned false xs ys = refl
