-- The worked example of an answer by height: three processes with no message, and whether their variables add up to 3.
use Rattle.std.proofs.Common.{◌≡◌, ℕ, zero, suc, ◌+◌, ◌<◌, ◌≤◌, ◌⊎◌, inl, inr, Bool, true, false, List, [], ◌∷◌, length, get_or, sum, Contains, Some, refl, sym, ap, subst, arith}
use Rattle.def_model.specs.Answers.{LexBelow, IsListOf, MoreThan, IsFirstSatisfying, IsPossiblyUnknown}
use Rattle.def_model.specs.Cuts.{Includes, IsConsistent, IsOfLevel}
use Rattle.def_model.specs.Events.{Send, Place, place, kind_at, event_count}
use Rattle.def_model.specs.Messages.{IsMessage}
use Rattle.def_model.specs.Predicates.{test_of}
use Rattle.def_model.proofs.Consistency.{closed_from_messages}
use Rattle.def_model.proofs.Counts.{sum_cons}
use Rattle.def_model.proofs.LevelsListed.{level_has_list}
use Rattle.def_model.proofs.OneAnswer.{lex_irreflexive}
use Rattle.def_wide.specs.Decided.{IsPossiblyDecided}
use Rattle.def_wide.specs.Examples.{reach}
use Rattle.def_wide.specs.Heights.{IsLowerThan, IsFirstByHeight}
use Rattle.def_wide.proofs.Tried.{sum_reaches}
use Rattle.def_judgement.specs.Examples.{three_apart, three_recorded, OneAnswerByHeight}
use Rattle.def_judgement.specs.Judgements.{possibly_by_height}
use Rattle.def_judgement.proofs.Narrow.{no_longer}

abbrev reaches : List ℕ → Bool
reaches = test_of three_recorded (reach 3)

-- ---- its cuts

none_sent : (p n : ℕ) (id : List ℕ) → ¬ (kind_at three_apart (place p n) ≡ Some (Send id))
none_sent zero zero id e = cc
none_sent zero (suc zero) id e = cc
none_sent zero (suc (suc zero)) id e = cc
none_sent zero (suc (suc (suc n))) id e = cc
none_sent (suc zero) zero id e = cc
none_sent (suc zero) (suc zero) id e = cc
none_sent (suc zero) (suc (suc n)) id e = cc
none_sent (suc (suc zero)) zero id e = cc
none_sent (suc (suc zero)) (suc zero) id e = cc
none_sent (suc (suc zero)) (suc (suc n)) id e = cc
none_sent (suc (suc (suc p))) zero id e = cc
none_sent (suc (suc (suc p))) (suc n) id e = cc

consistent : (a b d : ℕ) → a ≤ 2 → b ≤ 1 → d ≤ 1 → IsConsistent three_apart (a ∷ b ∷ d ∷ [])
consistent a b d ha hb hd =
    record {
      fits = record { one_each = refl; within = within };
      closed = closed_from_messages three_apart (a ∷ b ∷ d ∷ []) keeps;
    }
  where
    within : (p : ℕ) → get_or (a ∷ b ∷ d ∷ []) p 0 ≤ event_count three_apart p
    within zero = ha
    within (suc zero) = hb
    within (suc (suc zero)) = hd
    within (suc (suc (suc p))) = omega arith

    keeps : (s r : Place) → IsMessage three_apart s r → Includes (a ∷ b ∷ d ∷ []) r → Includes (a ∷ b ∷ d ∷ []) s
    keeps s r m i = absurd (none_sent s.process s.number m.0 m.1)

-- the counts of a consistent cut
record Counts (cut : List ℕ) : Type 0 where
  a : ℕ
  b : ℕ
  d : ℕ
  are : cut ≡ a ∷ b ∷ d ∷ []
  first : a ≤ 2
  second : b ≤ 1
  third : d ≤ 1

counts : (cut : List ℕ) → IsConsistent three_apart cut → Counts cut
counts [] ok = absurd (let e : 0 ≡ 3 = ok.fits.one_each in omega arith)
counts (a ∷ []) ok = absurd (let e : 1 ≡ 3 = ok.fits.one_each in omega arith)
counts (a ∷ b ∷ []) ok = absurd (let e : 2 ≡ 3 = ok.fits.one_each in omega arith)
counts (a ∷ b ∷ d ∷ []) ok = record {
  a = a;
  b = b;
  d = d;
  are = refl;
  first = ok.fits.within 0;
  second = ok.fits.within 1;
  third = ok.fits.within 2;
}
counts (a ∷ b ∷ d ∷ f ∷ more) ok =
    absurd (let e : length (a ∷ b ∷ d ∷ f ∷ more) ≡ 3 = ok.fits.one_each in omega arith)

sum_of_three : (a b d : ℕ) → sum (a ∷ b ∷ d ∷ []) ≡ a + b + d
sum_of_three a b d =
    let t : sum (a ∷ b ∷ d ∷ []) ≡ a + sum (b ∷ d ∷ []) = sum_cons a (b ∷ d ∷ []) in
    let u : sum (b ∷ d ∷ []) ≡ b + sum (d ∷ []) = sum_cons b (d ∷ []) in
    let v : sum (d ∷ []) ≡ d + sum [] = sum_cons d [] in
    omega arith

-- level 0 has the empty cut alone
lowest_level : (cut : List ℕ) → IsOfLevel three_apart 0 cut → cut ≡ 0 ∷ 0 ∷ 0 ∷ []
lowest_level cut of =
    let n : Counts cut = counts cut of.0 in
    let s : sum cut ≡ sum (n.a ∷ n.b ∷ n.d ∷ []) = ap sum n.are in
    let t : sum (n.a ∷ n.b ∷ n.d ∷ []) ≡ n.a + n.b + n.d = sum_of_three n.a n.b n.d in
    let none : sum cut ≡ 0 = of.1 in
    let a0 : n.a ≡ 0 = omega arith in
    let b0 : n.b ≡ 0 = omega arith in
    let d0 : n.d ≡ 0 = omega arith in
    cc

-- ---- the answer

one_lowest : ¬ MoreThan 1 (IsOfLevel three_apart 0)
one_lowest (cuts, list, lt) = go cuts list lt
  where
    go : (cuts : List (List ℕ)) → IsListOf (IsOfLevel three_apart 0) cuts → ¬ (1 < length cuts)
    go [] list lt = omega arith
    go (x ∷ []) list lt = omega arith
    go (x ∷ y ∷ cuts) list lt =
        let e : x ≡ 0 ∷ 0 ∷ 0 ∷ [] = lowest_level x ((list.just x).0 (0, omega arith, refl)) in
        let f : y ≡ 0 ∷ 0 ∷ 0 ∷ [] = lowest_level y ((list.just y).0 (1, omega arith, refl)) in
        let same : x ≡ y = cc in
        lex_irreflexive y (subst (λ (z : List ℕ). LexBelow z y) same list.ascending.0)

-- two of the three cuts of level 1
two : List (List ℕ)
two = (0 ∷ 1 ∷ 0 ∷ []) ∷ (1 ∷ 0 ∷ 0 ∷ []) ∷ []

level_one_is_wide : MoreThan 1 (IsOfLevel three_apart 1)
unfolding two
level_one_is_wide = (all.0, all.1, omega (arith, more))
  where
    all : (cuts : List (List ℕ)) × IsListOf (IsOfLevel three_apart 1) cuts
    all = level_has_list three_apart 1

    has : (cut : List ℕ) → Contains two cut → Contains all.0 cut
    has cut (zero, lt, e) =
        subst (Contains all.0) e
        ((all.1.just (0 ∷ 1 ∷ 0 ∷ [])).1 (consistent 0 1 0 (omega arith) (omega arith) (omega arith), refl))
    has cut (suc zero, lt, e) =
        subst (Contains all.0) e
        ((all.1.just (1 ∷ 0 ∷ 0 ∷ [])).1 (consistent 1 0 0 (omega arith) (omega arith) (omega arith), refl))
    has cut (suc (suc k), lt, e) = absurd (omega arith)

    more : 2 ≤ length all.0
    more = no_longer two all.0 (inl (omega arith), tt) all.1.ascending has

unknown_at_one : IsPossiblyUnknown three_apart reaches 1 1
unknown_at_one = record {
  wide = level_one_is_wide;
  least = λ j lt.
      let zero : 0 ≡ j = omega arith in
      subst (λ (k : ℕ). ¬ MoreThan 1 (IsOfLevel three_apart k)) zero one_lowest;
  none_below = λ j cut lt of.
      let zero : j ≡ 0 = omega arith in
      let e : cut ≡ 0 ∷ 0 ∷ 0 ∷ [] = lowest_level cut (subst (λ (k : ℕ). IsOfLevel three_apart k cut) zero of) in
      subst (λ (x : List ℕ). reaches x ≡ false) (sym e) refl;
}

-- each other cut at which the sum is 3 has both events of the first process
lower : (a b d : ℕ) → a ≤ 2 → b ≤ 1 → d ≤ 1 → reaches (a ∷ b ∷ d ∷ []) ≡ true
    → ¬ (a ∷ b ∷ d ∷ [] ≡ 1 ∷ 1 ∷ 1 ∷ []) → IsLowerThan (1 ∷ 1 ∷ 1 ∷ []) (a ∷ b ∷ d ∷ [])
lower zero zero zero ha hb hd yes' apart = cc
lower zero zero (suc zero) ha hb hd yes' apart = cc
lower zero (suc zero) zero ha hb hd yes' apart = cc
lower zero (suc zero) (suc zero) ha hb hd yes' apart = cc
lower (suc zero) zero zero ha hb hd yes' apart = cc
lower (suc zero) zero (suc zero) ha hb hd yes' apart = cc
lower (suc zero) (suc zero) zero ha hb hd yes' apart = cc
lower (suc zero) (suc zero) (suc zero) ha hb hd yes' apart = absurd (apart refl)
lower (suc (suc a)) b d ha hb hd yes' apart = inl (omega arith)
lower a (suc (suc b)) d ha hb hd yes' apart = absurd (omega arith)
lower a b (suc (suc d)) ha hb hd yes' apart = absurd (omega arith)

first_by_height : IsFirstByHeight three_apart reaches (1 ∷ 1 ∷ 1 ∷ [])
first_by_height = record {
  consistent = consistent 1 1 1 (omega arith) (omega arith) (omega arith);
  satisfies = refl;
  first = λ other ok yes' apart.
      let n : Counts other = counts other ok in
      subst (IsLowerThan (1 ∷ 1 ∷ 1 ∷ [])) (sym n.are)
      (lower n.a n.b n.d n.first n.second n.third (subst (λ (x : List ℕ). reaches x ≡ true) n.are yes')
      (λ e. let same : other ≡ 1 ∷ 1 ∷ 1 ∷ [] = cc in apart same));
}

undecided : ¬ IsPossiblyDecided three_recorded (reach 3)
undecided (inl parts) = (sum_reaches three_recorded 3 (omega arith)).1 parts
undecided (inr (by_sums, none)) =
    none (1 ∷ 1 ∷ 1 ∷ [], consistent 1 1 1 (omega arith) (omega arith) (omega arith), refl)

not_first : ¬ IsFirstSatisfying three_apart reaches (1 ∷ 1 ∷ 1 ∷ [])
not_first first =
    go (first.first (2 ∷ 0 ∷ 0 ∷ []) (consistent 2 0 0 (omega arith) (omega arith) (omega arith)) refl (λ e. cc))
  where
    go : (3 < 2) ⊎ ((sum (1 ∷ 1 ∷ 1 ∷ []) ≡ 2) × LexBelow (1 ∷ 1 ∷ 1 ∷ []) (2 ∷ 0 ∷ 0 ∷ [])) → ⊥
    go (inl lt) = omega arith
    go (inr (e, below)) = omega arith

pub one_answer_by_height : OneAnswerByHeight
one_answer_by_height = (
  possibly_by_height refl undecided (sum_reaches three_recorded 3 (omega arith)).0 1 unknown_at_one (1 ∷ 1 ∷ 1 ∷ [])
      refl first_by_height,
  not_first,
)
