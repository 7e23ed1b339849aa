-- Answers are single, and those of Possibly and Definitely fit together.
use Rattle.std.proofs.Common.{◌≡◌, ℕ, zero, suc, ◌<◌, ◌≤◌, Bool, true, List, [], ◌∷◌, length, get_or, sum, reverse, Contains, refl, sym, ap, ◌∙◌, subst, inl, inr, ◌⊎◌, ◌↔◌, arith}
use Rattle.std.proofs.lemmas.Bool.{cases_lt, cases_order, false_from_ne_true}
use Rattle.std.proofs.lemmas.List.{reverse-reverse}
use Rattle.std.proofs.lemmas.List.Elements.{All-contains}
use Rattle.def_model.specs.Events.{Computation, Place, IsBefore, Linked}
use Rattle.def_model.specs.Messages.{Version, Fault, SendTwice, Orphan, SelfMessage, ReceivedTwice, IsFirstPlace, IsSentAgain, IsOrphan, IsSelfMessage, IsBadReceipt, IsReported}
use Rattle.def_model.specs.Order.{HasNoCycle}
use Rattle.def_model.specs.Cuts.{IsConsistent, IsOfLevel, one_less, empty_cut, full_cut, total}
use Rattle.def_model.specs.Observations.{IsObservation, HasSatisfying, Possibly, Definitely, IsAvoiding}
use Rattle.def_model.specs.Answers.{LexBelow, MoreThan, PossiblyAnswer, PossiblyYes, PossiblyNo, PossiblyUnknown, DefinitelyAnswer, DefinitelyYes, DefinitelyNo, DefinitelyUnknown, IsFirstSatisfying, IsPossiblyAnswer, IsLeastFree, LeavesAvoiding, IsUndoing, IsDefinitelyAnswer}
use Rattle.def_model.proofs.Decisions.{dec_list}
use Rattle.def_model.proofs.Counts.{empty_at}
use Rattle.def_model.proofs.Chains.{same_place}
use Rattle.def_model.proofs.Steps.{empty_consistent, sum_within}
use Rattle.def_model.proofs.Walks.{walk_level, walk_length}
use Rattle.def_model.proofs.Paths.{every_cut_is_observed, observed_avoiding}

pub lex_transitive : (xs ys zs : List ℕ) → LexBelow xs ys → LexBelow ys zs → LexBelow xs zs
lex_transitive [] ys zs h k = absurd h
lex_transitive (x ∷ xs) [] zs h k = absurd h
lex_transitive (x ∷ xs) (y ∷ ys) [] h k = absurd k
lex_transitive (x ∷ xs) (y ∷ ys) (z ∷ zs) (inl a) (inl b) = inl (omega arith)
lex_transitive (x ∷ xs) (y ∷ ys) (z ∷ zs) (inl a) (inr (e, b)) = inl (omega arith)
lex_transitive (x ∷ xs) (y ∷ ys) (z ∷ zs) (inr (e, a)) (inl b) = inl (omega arith)
lex_transitive (x ∷ xs) (y ∷ ys) (z ∷ zs) (inr (e, a)) (inr (f, b)) = inr (e ∙ f, lex_transitive xs ys zs a b)

pub lex_irreflexive : (xs : List ℕ) → ¬ LexBelow xs xs
lex_irreflexive [] h = h
lex_irreflexive (x ∷ xs) (inl a) = omega arith
lex_irreflexive (x ∷ xs) (inr (e, a)) = lex_irreflexive xs a

pub lex_asymmetric : (xs ys : List ℕ) → LexBelow xs ys → ¬ LexBelow ys xs
lex_asymmetric xs ys h k = lex_irreflexive xs (lex_transitive xs ys xs h k)

pub contains_cases : (x z : List ℕ) (xs : List (List ℕ)) → Contains (x ∷ xs) z → (x ≡ z) ⊎ Contains xs z
contains_cases x z xs (zero, lt, at) = inl at
contains_cases x z xs (suc k, lt, at) = inr (k, omega arith, at)

pub contains_later : (x z : List ℕ) (xs : List (List ℕ)) → Contains xs z → Contains (x ∷ xs) z
contains_later x z xs (k, lt, at) = (suc k, omega arith, at)

-- the first of an ascending list is below each later one
pub below_rest : (x z : List ℕ) (xs : List (List ℕ)) → Linked LexBelow (x ∷ xs) → Contains xs z → LexBelow x z
below_rest x z [] links (k, lt, at) = absurd (omega arith)
below_rest x z (y ∷ xs) links has = go (contains_cases y z xs has) (below_rest y z xs links.1)
  where
    go : (y ≡ z) ⊎ Contains xs z → (Contains xs z → LexBelow y z) → LexBelow x z
    go (inl e) rest = subst (λ (w : List ℕ). LexBelow x w) e links.0
    go (inr later) rest = lex_transitive x y z links.0 (rest later)

pub ascending_rest : (x : List ℕ) (xs : List (List ℕ)) → Linked LexBelow (x ∷ xs) → Linked LexBelow xs
ascending_rest x [] links = tt
ascending_rest x (y ∷ xs) links = links.1

-- ascending lists of the same cuts are equal
pub one_list : (xs ys : List (List ℕ)) → Linked LexBelow xs → Linked LexBelow ys
    → ((cut : List ℕ) → Contains xs cut ↔ Contains ys cut) → xs ≡ ys
one_list [] [] a b same = refl
one_list [] (y ∷ ys) a b same = let w : Contains [] y = (same y).1 (0, omega arith, refl) in let lt : w.0 < 0 =
    w.1 in absurd (omega arith)
one_list (x ∷ xs) [] a b same = let w : Contains [] x = (same x).0 (0, omega arith, refl) in let lt : w.0 < 0 =
    w.1 in absurd (omega arith)
one_list (x ∷ xs) (y ∷ ys) a b same =
    let e : x ≡ y =
    first (contains_cases y x ys ((same x).0 (0, omega arith, refl)))
    (contains_cases x y xs ((same y).1 (0, omega arith, refl))) in
    let rest : xs ≡ ys = one_list xs ys (ascending_rest x xs a) (ascending_rest y ys b) (λ cut. (to e cut, from e cut))
    in
    cc
  where
    first : (y ≡ x) ⊎ Contains ys x → (x ≡ y) ⊎ Contains xs y → x ≡ y
    first (inl e) r = sym e
    first (inr l) (inl e) = e
    first (inr l) (inr r) = absurd (lex_asymmetric x y (below_rest x y xs a r) (below_rest y x ys b l))

    to : x ≡ y → (cut : List ℕ) → Contains xs cut → Contains ys cut
    to e cut has = go (contains_cases y cut ys ((same cut).0 (contains_later x cut xs has)))
      where
        go : (y ≡ cut) ⊎ Contains ys cut → Contains ys cut
        go (inl f) =
            absurd (lex_irreflexive cut (subst (λ (w : List ℕ). LexBelow w cut) (e ∙ f) (below_rest x cut xs a has)))
        go (inr later) = later

    from : x ≡ y → (cut : List ℕ) → Contains ys cut → Contains xs cut
    from e cut has = go (contains_cases x cut xs ((same cut).1 (contains_later y cut ys has)))
      where
        go : (x ≡ cut) ⊎ Contains xs cut → Contains xs cut
        go (inl f) =
            absurd (lex_irreflexive cut (subst (λ (w : List ℕ). LexBelow w cut) (sym e
            ∙ f) (below_rest y cut ys b has)))
        go (inr later) = later

-- the least number with P is one
one_least : (P : ℕ → Type 0) (a b : ℕ) → P a → ((j : ℕ) → j < a → ¬ P j) → P b → ((j : ℕ) → j < b → ¬ P j) → a ≡ b
one_least P a b pa la pb lb = go (cases_order a b)
  where
    go : (a ≡ b) ⊎ ((a < b) ⊎ (b < a)) → a ≡ b
    go (inl e) = e
    go (inr (inl h)) = absurd (lb a h pa)
    go (inr (inr h)) = absurd (la b h pb)

one_first : (c : Computation) (test : List ℕ → Bool) (a b : List ℕ) → IsFirstSatisfying c test a
    → IsFirstSatisfying c test b → a ≡ b
one_first c test a b fa fb = go (dec_list a b)
  where
    clash : (sum a < sum b) ⊎ ((sum a ≡ sum b) × LexBelow a b) → (sum b < sum a) ⊎ ((sum b ≡ sum a) × LexBelow b a) → ⊥
    clash (inl h) (inl k) = omega arith
    clash (inl h) (inr (e, k)) = omega arith
    clash (inr (e, h)) (inl k) = omega arith
    clash (inr (e, h)) (inr (f, k)) = lex_asymmetric a b h k

    go : Dec (a ≡ b) → a ≡ b
    go (yes e) = e
    go (no n) =
        absurd (clash (fa.first b fb.consistent fb.satisfies (λ e. n (sym e)))
        (fb.first a fa.consistent fa.satisfies n))

pub one_possibly_answer : (c : Computation) (test : List ℕ → Bool) (w : ℕ) (a b : PossiblyAnswer)
    → IsPossiblyAnswer c test w a → IsPossiblyAnswer c test w b → a ≡ b
one_possibly_answer c test w (PossiblyYes x) (PossiblyYes y) (n, fx) (m, fy) =
    ap PossiblyYes (one_first c test x y fx fy)
one_possibly_answer c test w (PossiblyYes x) PossiblyNo (n, fx) (m, none) =
    absurd (none (x, fx.consistent, fx.satisfies))
one_possibly_answer c test w (PossiblyYes x) (PossiblyUnknown k) (n, fx) u = absurd (n k u)
one_possibly_answer c test w PossiblyNo (PossiblyYes y) (n, none) (m, fy) =
    absurd (none (y, fy.consistent, fy.satisfies))
one_possibly_answer c test w PossiblyNo PossiblyNo a b = refl
one_possibly_answer c test w PossiblyNo (PossiblyUnknown k) (n, none) u = absurd (n k u)
one_possibly_answer c test w (PossiblyUnknown j) (PossiblyYes y) u (m, fy) = absurd (m j u)
one_possibly_answer c test w (PossiblyUnknown j) PossiblyNo u (m, none) = absurd (m j u)
one_possibly_answer c test w (PossiblyUnknown j) (PossiblyUnknown k) u v =
    ap PossiblyUnknown (one_least (λ i. MoreThan w (IsOfLevel c i)) j k u.wide u.least v.wide v.least)

one_undoing : (c : Computation) (test : List ℕ → Bool) (cut : List ℕ) (ps qs : List ℕ) → IsUndoing c test cut ps
    → IsUndoing c test cut qs → ps ≡ qs
one_undoing c test cut [] [] a b = refl
one_undoing c test cut [] (q ∷ qs) e (leaves, least, back) =
    let z : get_or cut q 0 ≡ 0 = ap (λ (xs : List ℕ). get_or xs q 0) e ∙ empty_at c q in let h : 0 < get_or cut q 0 =
    leaves.0 in absurd (omega arith)
one_undoing c test cut (p ∷ ps) [] (leaves, least, back) e =
    let z : get_or cut p 0 ≡ 0 = ap (λ (xs : List ℕ). get_or xs p 0) e ∙ empty_at c p in let h : 0 < get_or cut p 0 =
    leaves.0 in absurd (omega arith)
one_undoing c test cut (p ∷ ps) (q ∷ qs) (leaves, least, back) (leaves', least', back') =
    let e : p ≡ q = one_least (LeavesAvoiding c test cut) p q leaves least leaves' least' in
    let r : ps ≡ qs =
    one_undoing c test (one_less cut p) ps qs back
    (subst (λ (n : ℕ). IsUndoing c test (one_less cut n) qs) (sym e) back') in
    cc

one_free : (c : Computation) (test : List ℕ → Bool) (a b : ℕ) → IsLeastFree c test a → IsLeastFree c test b → a ≡ b
one_free c test a b fa fb = go (cases_order a b)
  where
    go : (a ≡ b) ⊎ ((a < b) ⊎ (b < a)) → a ≡ b
    go (inl e) = e
    go (inr (inl h)) = let w : (cut : List ℕ) × IsAvoiding c test a cut = fb.below a h in absurd (fa.none w.0 w.1)
    go (inr (inr h)) = let w : (cut : List ℕ) × IsAvoiding c test b cut = fa.below b h in absurd (fb.none w.0 w.1)

pub one_definitely_answer : (c : Computation) (test : List ℕ → Bool) (w : ℕ) (a b : DefinitelyAnswer)
    → IsDefinitelyAnswer c test w a → IsDefinitelyAnswer c test w b → a ≡ b
one_definitely_answer c test w (DefinitelyYes k) (DefinitelyYes l) (n, d, f) (m, e, g) =
    ap DefinitelyYes (one_free c test k l f g)
one_definitely_answer c test w (DefinitelyYes k) (DefinitelyNo path) (n, d, f) (m, not_so, p) = absurd (not_so d)
one_definitely_answer c test w (DefinitelyYes k) (DefinitelyUnknown l) (n, d, f) u = absurd (n l u)
one_definitely_answer c test w (DefinitelyNo path) (DefinitelyYes l) (n, not_so, p) (m, e, g) = absurd (not_so e)
one_definitely_answer c test w (DefinitelyNo path) (DefinitelyNo other) (n, d, p) (m, e, q) =
    let r : reverse path ≡ reverse other = one_undoing c test (full_cut c) (reverse path) (reverse other) p.1 q.1 in
    ap DefinitelyNo (sym (reverse-reverse path) ∙ (ap reverse r ∙ reverse-reverse other))
one_definitely_answer c test w (DefinitelyNo path) (DefinitelyUnknown l) (n, d, p) u = absurd (n l u)
one_definitely_answer c test w (DefinitelyUnknown k) (DefinitelyYes l) u (m, e, g) = absurd (m k u)
one_definitely_answer c test w (DefinitelyUnknown k) (DefinitelyNo path) u (m, e, q) = absurd (m k u)
one_definitely_answer c test w (DefinitelyUnknown k) (DefinitelyUnknown l) u v =
    ap DefinitelyUnknown (one_least (λ i. MoreThan w (IsAvoiding c test i)) k l u.wide u.least v.wide v.least)

-- Definitely in a computation with no cycle gives Possibly
pub definite_is_possible : (c : Computation) → HasNoCycle c → (test : List ℕ → Bool) → Definitely c test
    → Possibly c test
definite_is_possible c acyclic test d =
    let w : (cuts : List (List ℕ)) × IsObservation c cuts × Contains cuts (empty_cut c) =
    every_cut_is_observed c acyclic (empty_cut c) (empty_consistent c) in
    let s : HasSatisfying test w.0 = d w.0 w.1 in
    (s.0, All-contains (IsConsistent c) w.0 s.0 w.1.consistent s.1, s.2)

pub cut_below_level : (c : Computation) → HasNoCycle c → (test : List ℕ → Bool) (level : ℕ) (cut : List ℕ)
    → IsFirstSatisfying c test cut → IsLeastFree c test level → sum cut ≤ level
cut_below_level c acyclic test level cut f free = go (cases_lt level (sum cut))
  where
    go : (level < sum cut) ⊎ (sum cut ≤ level) → sum cut ≤ level
    go (inr le) = le
    go (inl lt) =
        let w : (cuts : List (List ℕ)) × IsObservation c cuts × Contains cuts cut =
        every_cut_is_observed c acyclic cut f.consistent in
        let within : sum cut ≤ total c = sum_within c cut f.consistent in
        let l : length w.0 ≡ suc (total c) = walk_length c w.0 (full_cut c) w.1 in
        absurd (free.none (get_or w.0 level [])
        (observed_avoiding c test w.0 w.1 level (omega arith) (λ i le.
        false_from_ne_true (test (get_or w.0 i [])) (fails w.0 w.1 i (omega arith) (omega arith)))))
      where
        fails : (cuts : List (List ℕ)) → IsObservation c cuts → (i : ℕ) → i < length cuts → i < sum cut
            → ¬ (test (get_or cuts i []) ≡ true)
        fails cuts w i there early yes' =
            let s : sum (get_or cuts i []) ≡ i = walk_level c cuts (full_cut c) w i there in
            clash s (f.first (get_or cuts i []) (w.consistent i [] there) yes' (λ e. let t : sum (get_or cuts i [])
            ≡ sum cut = ap sum e in omega arith))
          where
            clash : sum (get_or cuts i []) ≡ i → (sum cut < sum (get_or cuts i []))
                ⊎ ((sum cut ≡ sum (get_or cuts i [])) × LexBelow cut (get_or cuts i [])) → ⊥
            clash s (inl h) = omega arith
            clash s (inr (e, h)) = omega arith

place_order : (d e : Place) → (d ≡ e) ⊎ (IsBefore d e ⊎ IsBefore e d)
place_order d e = go (cases_order d.process e.process) (cases_order d.number e.number)
  where
    go : (d.process ≡ e.process) ⊎ ((d.process < e.process) ⊎ (e.process < d.process)) → (d.number ≡ e.number)
        ⊎ ((d.number < e.number) ⊎ (e.number < d.number)) → (d ≡ e) ⊎ (IsBefore d e ⊎ IsBefore e d)
    go (inr (inl h)) n = inr (inl (inl h))
    go (inr (inr h)) n = inr (inr (inl h))
    go (inl p) (inl n) = inl (same_place d e p n)
    go (inl p) (inr (inl h)) = inr (inl (inr (p, h)))
    go (inl p) (inr (inr h)) = inr (inr (inr (sym p, h)))

one_first_place : (P : Place → Type 0) (d e : Place) → IsFirstPlace P d → IsFirstPlace P e → d ≡ e
one_first_place P d e (pd, ld) (pe, le) = go (place_order d e)
  where
    go : (d ≡ e) ⊎ (IsBefore d e ⊎ IsBefore e d) → d ≡ e
    go (inl s) = s
    go (inr (inl h)) = absurd (le d h pd)
    go (inr (inr h)) = absurd (ld e h pe)

one_bad : (version : Version) (c : Computation) (d e : Place) → IsFirstPlace (IsBadReceipt version c) d
    → IsFirstPlace (IsBadReceipt version c) e → d ≡ e
one_bad version c = one_first_place (IsBadReceipt version c)

pub one_fault : (version : Version) (c : Computation) (a b : Fault) → IsReported version c a → IsReported version c b
    → a ≡ b
one_fault version c (SendTwice d) (SendTwice e) x y = ap SendTwice (one_first_place (IsSentAgain c) d e x y)
one_fault version c (SendTwice d) (Orphan e) x y = absurd (y.0 d x.0)
one_fault version c (SendTwice d) (SelfMessage e) x y = absurd (y.0 d x.0)
one_fault version c (SendTwice d) (ReceivedTwice e) x y = absurd (y.0 d x.0)
one_fault version c (Orphan d) (SendTwice e) x y = absurd (x.0 e y.0)
one_fault version c (Orphan d) (Orphan e) x y = ap Orphan (one_bad version c d e x.1 y.1)
one_fault version c (Orphan d) (SelfMessage e) x y = let s : d ≡ e = one_bad version c d e x.1 y.1 in
    absurd (y.2 (subst (IsOrphan c) s x.2))
one_fault version c (Orphan d) (ReceivedTwice e) x y = let s : d ≡ e = one_bad version c d e x.1 y.1 in
    absurd (y.2 (subst (IsOrphan c) s x.2))
one_fault version c (SelfMessage d) (SendTwice e) x y = absurd (x.0 e y.0)
one_fault version c (SelfMessage d) (Orphan e) x y = let s : e ≡ d = one_bad version c e d y.1 x.1 in
    absurd (x.2 (subst (IsOrphan c) s y.2))
one_fault version c (SelfMessage d) (SelfMessage e) x y = ap SelfMessage (one_bad version c d e x.1 y.1)
one_fault version c (SelfMessage d) (ReceivedTwice e) x y = let s : d ≡ e = one_bad version c d e x.1 y.1 in
    absurd (y.3 (subst (IsSelfMessage c) s x.3))
one_fault version c (ReceivedTwice d) (SendTwice e) x y = absurd (x.0 e y.0)
one_fault version c (ReceivedTwice d) (Orphan e) x y = let s : e ≡ d = one_bad version c e d y.1 x.1 in
    absurd (x.2 (subst (IsOrphan c) s y.2))
one_fault version c (ReceivedTwice d) (SelfMessage e) x y = let s : e ≡ d = one_bad version c e d y.1 x.1 in
    absurd (x.3 (subst (IsSelfMessage c) s y.3))
one_fault version c (ReceivedTwice d) (ReceivedTwice e) x y = ap ReceivedTwice (one_bad version c d e x.1 y.1)
