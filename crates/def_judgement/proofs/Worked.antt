-- The worked example: the computation with one message is narrow, and its report is true.
use Rattle.std.proofs.Common.{◌≡◌, ℕ, zero, suc, ◌+◌, ◌<◌, ◌≤◌, Bool, true, false, List, [], ◌∷◌, length, get_or, sum, Contains, Some, refl, sym, ap, subst, inr, arith}
use Rattle.def_model.specs.Events.{Send, Receive, Place, place, kind_at, event_count}
use Rattle.def_model.specs.Messages.{One, IsMessage, AreReceived}
use Rattle.def_model.specs.Cuts.{Includes, IsConsistent, IsOfLevel}
use Rattle.def_model.specs.Predicates.{satisfies}
use Rattle.def_model.specs.Observations.{IsAvoiding, HasNoAvoiding}
use Rattle.def_model.specs.Answers.{LexBelow, IsListOf, PossiblyYes, DefinitelyYes, IsFirstSatisfying, IsDefinitelyAnswer}
use Rattle.def_model.specs.Examples.{zeros, one_message, both}
use Rattle.def_model.proofs.Chains.{same_place, step_happens}
use Rattle.def_model.proofs.Consistency.{closed_from_messages}
use Rattle.def_model.proofs.Counts.{sum_cons}
use Rattle.def_model.proofs.LevelsListed.{level_has_list}
use Rattle.def_model.proofs.OneAnswer.{lex_irreflexive}
use Rattle.def_model.proofs.Tried.{cycle_of_receipts}
use Rattle.def_model.proofs.Walks.{Reached, reached_from_avoiding, avoiding_from_reached, reached_level, reached_fails, reached_consistent}
use Rattle.def_model.proofs.WalkSteps.{definitely_free}
use Rattle.def_judgement.specs.Judgements.{possibly_within, definitely_within, IsTracesReport, of_answers}
use Rattle.def_judgement.specs.Examples.{OneCutALevel, OneTrueReport, asks_both, message_traces, both_report}
use Rattle.def_judgement.proofs.HeadlineFacts.{headline_lem}
use Rattle.def_judgement.proofs.Narrow.{level_is_narrow, avoided_narrowly}

-- ---- the one message

sends_at : (p n : ℕ) (id : List ℕ) → kind_at one_message (place p n) ≡ Some (Send id) → (p ≡ 0) × (n ≡ 1)
sends_at zero zero id e = cc
sends_at zero (suc zero) id e = (refl, refl)
sends_at zero (suc (suc n)) id e = cc
sends_at (suc zero) zero id e = cc
sends_at (suc zero) (suc zero) id e = cc
sends_at (suc zero) (suc (suc n)) id e = cc
sends_at (suc (suc p)) zero id e = cc
sends_at (suc (suc p)) (suc n) id e = cc

receives_at : (p n : ℕ) (id : List ℕ) → kind_at one_message (place p n) ≡ Some (Receive id) → (p ≡ 1) × (n ≡ 1)
receives_at zero zero id e = cc
receives_at zero (suc zero) id e = cc
receives_at zero (suc (suc n)) id e = cc
receives_at (suc zero) zero id e = cc
receives_at (suc zero) (suc zero) id e = (refl, refl)
receives_at (suc zero) (suc (suc n)) id e = cc
receives_at (suc (suc p)) zero id e = cc
receives_at (suc (suc p)) (suc n) id e = cc

message : IsMessage one_message (place 0 1) (place 1 1)
message = (109 ∷ [], refl, refl, (λ e. omega arith))

one_is_received : AreReceived one_message (place 0 1 ∷ [])
one_is_received = record { ascending = tt; just = λ send. (to send, from send) }
  where
    to : (send : Place) → Contains (place 0 1 ∷ []) send → (receipt : Place) × IsMessage one_message send receipt
    to send (zero, lt, e) = (place 1 1, subst (λ (d : Place). IsMessage one_message d (place 1 1)) e message)
    to send (suc k, lt, e) = absurd (omega arith)

    from : (send : Place) → (receipt : Place) × IsMessage one_message send receipt → Contains (place 0 1 ∷ []) send
    from send (receipt, m) =
        let s = sends_at send.process send.number m.0 m.1 in
        let same : place 0 1 ≡ send = sym (same_place send (place 0 1) s.0 s.1) in
        (0, omega arith, same)

-- ---- its cuts

consistent : (a b : ℕ) → a ≤ 1 → b ≤ a → IsConsistent one_message (a ∷ b ∷ [])
consistent a b ha hb =
    record {
      fits = record { one_each = refl; within = within };
      closed = closed_from_messages one_message (a ∷ b ∷ []) keeps;
    }
  where
    within : (p : ℕ) → get_or (a ∷ b ∷ []) p 0 ≤ event_count one_message p
    within zero = ha
    within (suc zero) = omega arith
    within (suc (suc p)) = omega arith

    keeps : (s r : Place) → IsMessage one_message s r → Includes (a ∷ b ∷ []) r → Includes (a ∷ b ∷ []) s
    keeps s r m i =
        let from = sends_at s.process s.number m.0 m.1 in
        let to = receives_at r.process r.number m.0 m.2 in
        let n : s.number ≡ 1 = from.1 in
        let o : r.number ≡ 1 = to.1 in
        let x : get_or (a ∷ b ∷ []) s.process 0 ≡ a = ap (λ (p : ℕ). get_or (a ∷ b ∷ []) p 0) from.0 in
        let y : get_or (a ∷ b ∷ []) r.process 0 ≡ b = ap (λ (p : ℕ). get_or (a ∷ b ∷ []) p 0) to.0 in
        let z : r.number ≤ get_or (a ∷ b ∷ []) r.process 0 = i.1 in
        (omega arith, omega arith)

-- a consistent cut has two counts up to one, and no receipt alone
counts : (cut : List ℕ) → IsConsistent one_message cut
    → (a : ℕ) × (b : ℕ) × (cut ≡ a ∷ b ∷ []) × (a ≤ 1) × (b ≤ a)
counts [] ok = absurd (let e : 0 ≡ 2 = ok.fits.one_each in omega arith)
counts (a ∷ []) ok = absurd (let e : 1 ≡ 2 = ok.fits.one_each in omega arith)
counts (a ∷ zero ∷ []) ok = (a, 0, refl, ok.fits.within 0, omega arith)
counts (a ∷ suc b ∷ []) ok =
    let le : suc b ≤ 1 = ok.fits.within 1 in
    let i : Includes (a ∷ suc b ∷ []) (place 0 1) =
    ok.closed (place 0 1) (place 1 1) (step_happens one_message (place 0 1) (place 1 1) (inr message))
    (omega arith, omega arith) in
    let h : 1 ≤ a = i.1 in
    (a, suc b, refl, ok.fits.within 0, omega arith)
counts (a ∷ b ∷ d ∷ more) ok =
    absurd (let e : length (a ∷ b ∷ d ∷ more) ≡ 2 = ok.fits.one_each in omega arith)

sum_of_two : (a b : ℕ) → sum (a ∷ b ∷ []) ≡ a + b
sum_of_two a b =
    let t : sum (a ∷ b ∷ []) ≡ a + sum (b ∷ []) = sum_cons a (b ∷ []) in
    let u : sum (b ∷ []) ≡ b + sum [] = sum_cons b [] in
    omega arith

one_of_level : (k : ℕ) (x y : List ℕ) → IsOfLevel one_message k x → IsOfLevel one_message k y → x ≡ y
one_of_level k x y p q = go (counts x p.0) (counts y q.0)
  where
    go : (a : ℕ) × (b : ℕ) × (x ≡ a ∷ b ∷ []) × (a ≤ 1) × (b ≤ a)
        → (a : ℕ) × (b : ℕ) × (y ≡ a ∷ b ∷ []) × (a ≤ 1) × (b ≤ a) → x ≡ y
    go (a, b, e, ha, hb) (d, f, g, hd, hf) =
        let s : sum x ≡ sum (a ∷ b ∷ []) = ap sum e in
        let t : sum y ≡ sum (d ∷ f ∷ []) = ap sum g in
        let u : sum (a ∷ b ∷ []) ≡ a + b = sum_of_two a b in
        let v : sum (d ∷ f ∷ []) ≡ d + f = sum_of_two d f in
        let m : sum x ≡ k = p.1 in
        let n : sum y ≡ k = q.1 in
        let first : a ≡ d = omega arith in
        let second : b ≡ f = omega arith in
        cc

one_at_most : (k : ℕ) (cuts : List (List ℕ)) → IsListOf (IsOfLevel one_message k) cuts → length cuts ≤ 1
one_at_most k [] list = omega arith
one_at_most k (x ∷ []) list = omega arith
one_at_most k (x ∷ y ∷ cuts) list =
    let same : x ≡ y =
    one_of_level k x y ((list.just x).0 (0, omega arith, refl)) ((list.just y).0 (1, omega arith, refl)) in
    absurd (lex_irreflexive y (subst (λ (z : List ℕ). LexBelow z y) same list.ascending.0))

pub one_cut_a_level : OneCutALevel
one_cut_a_level k =
    let w = level_has_list one_message k in (w.0, w.1, one_at_most k w.0 w.1)

-- ---- the answers

abbrev both_are : List ℕ → Bool
both_are = satisfies zeros one_message both

both_at : (a b : ℕ) → a ≤ 1 → b ≤ 1 → both_are (a ∷ b ∷ []) ≡ true → (a ≡ 1) × (b ≡ 1)
both_at zero b ha hb e = cc
both_at (suc zero) zero ha hb e = cc
both_at (suc zero) (suc zero) ha hb e = (refl, refl)
both_at (suc zero) (suc (suc b)) ha hb e = absurd (omega arith)
both_at (suc (suc a)) b ha hb e = absurd (omega arith)

first_cut : IsFirstSatisfying one_message both_are (1 ∷ 1 ∷ [])
first_cut =
    record {
      consistent = consistent 1 1 (omega arith) (omega arith);
      satisfies = refl;
      first = λ other ok yes' apart. absurd (apart (only other (counts other ok) yes'));
    }
  where
    only : (other : List ℕ) → (a : ℕ) × (b : ℕ) × (other ≡ a ∷ b ∷ []) × (a ≤ 1) × (b ≤ a) → both_are other ≡ true
        → other ≡ 1 ∷ 1 ∷ []
    only other (a, b, e, ha, hb) yes' =
        let w : (a ≡ 1) × (b ≡ 1) =
        both_at a b ha (omega arith) (subst (λ (x : List ℕ). both_are x ≡ true) e yes') in
        let a1 : a ≡ 1 = w.0 in
        let b1 : b ≡ 1 = w.1 in
        cc

-- a cut of two events is the full one, where both are 1
none_at_two : HasNoAvoiding one_message both_are 2
none_at_two cut avoiding = go (counts cut (reached_consistent one_message both_are 2 cut r))
  where
    r : Reached one_message both_are 2 cut
    r = reached_from_avoiding one_message both_are 2 cut avoiding

    go : (a : ℕ) × (b : ℕ) × (cut ≡ a ∷ b ∷ []) × (a ≤ 1) × (b ≤ a) → ⊥
    go (a, b, e, ha, hb) =
        let s : sum cut ≡ 2 = reached_level one_message both_are 2 cut r in
        let t : sum cut ≡ sum (a ∷ b ∷ []) = ap sum e in
        let u : sum (a ∷ b ∷ []) ≡ a + b = sum_of_two a b in
        let a1 : a ≡ 1 = omega arith in
        let b1 : b ≡ 1 = omega arith in
        let full : cut ≡ 1 ∷ 1 ∷ [] = cc in
        let f : both_are (1 ∷ 1 ∷ []) ≡ false =
        subst (λ (x : List ℕ). both_are x ≡ false) full (reached_fails one_message both_are 2 cut r) in
        let g : true ≡ false = f in
        cc

avoided_below : (j : ℕ) → j < 2 → (cut : List ℕ) × IsAvoiding one_message both_are j cut
avoided_below zero lt = (
  0 ∷ 0 ∷ [],
  avoiding_from_reached one_message both_are 0 (0 ∷ 0 ∷ [])
      (consistent 0 0 (omega arith) (omega arith), refl, refl),
)
avoided_below (suc zero) lt = (
  1 ∷ 0 ∷ [],
  avoiding_from_reached one_message both_are 1 (1 ∷ 0 ∷ []) (
    consistent 1 0 (omega arith) (omega arith),
    refl,
    (0, omega arith, (omega arith, (consistent 0 0 (omega arith) (omega arith), refl, refl))),
  ),
)
avoided_below (suc (suc j)) lt = absurd (omega arith)

definitely_at_two : IsDefinitelyAnswer one_message both_are 1 (DefinitelyYes 2)
definitely_at_two =
    definitely_free one_message both_are 1 2 (λ j lt. avoided_narrowly one_message both_are 1 one_cut_a_level j)
    (omega arith) avoided_below none_at_two

is_report : IsTracesReport asks_both message_traces both_report
is_report =
    of_answers 1 _ (cycle_of_receipts.0 One) (place 0 1 ∷ [], one_is_received, refl) (
      record {
        name = refl;
        possibly = PossiblyYes (1 ∷ 1 ∷ []);
        possibly_reported = refl;
        possibly_right = possibly_within (λ beyond. absurd (cc)) (λ beyond. absurd (cc))
            ((λ k u. level_is_narrow one_message both_are 1 one_cut_a_level k u.wide), first_cut);
        definitely = DefinitelyYes 2;
        definitely_reported = refl;
        definitely_right = definitely_within (λ beyond. absurd (cc)) (λ beyond. absurd (cc)) definitely_at_two;
      },
      tt,
    )

pub one_true_report : OneTrueReport
one_true_report =
    (is_report, headline_lem asks_both message_traces both_report (cycle_of_receipts.0 One) one_cut_a_level is_report)
