-- The order in which cuts are looked at, and the first of several least good cuts.
use Rattle.std.proofs.Common.{◌≡◌, ◌≢◌, ℕ, zero, suc, ◌<◌, ◌≤◌, Bool, true, min, List, [], ◌∷◌, length, get_or, sum, refl, sym, ap, ◌∙◌, subst, inl, inr, ◌⊎◌, ◌↔◌, arith}
use Rattle.std.proofs.lemmas.Bool.{cases_lt, cases_order}
use Rattle.def_model.specs.Events.{Computation}
use Rattle.def_model.specs.Cuts.{IsConsistent}
use Rattle.def_model.specs.Lattice.{IsWithin, meet}
use Rattle.def_model.specs.Answers.{LexBelow}
use Rattle.def_model.proofs.Counts.{sum_le, same_from_sum}
use Rattle.def_model.proofs.MeetAndJoin.{meet_at, meet_consistent, meet_within_left, length_meet}
use Rattle.def_model.proofs.OneAnswer.{lex_transitive, lex_irreflexive}
use Rattle.wide_conjunctions.specs.LeastCuts.{IsGood, IsLeastGood, OneLeastGood}
use Rattle.wide_conjunctions.specs.CutOrder.{ComesBefore, BeforeOnward, FirstLeastIsFirst, NoneGoodNoneSatisfies, NotBeforeItself}

-- the first place at which two lists differ decides
pub lex_at : (xs ys : List ℕ) (p : ℕ) → length xs ≡ length ys → p < length xs
    → ((k : ℕ) → k < p → get_or xs k 0 ≡ get_or ys k 0) → get_or xs p 0 ≢ get_or ys p 0
    → (get_or xs p 0 < get_or ys p 0) ↔ LexBelow xs ys
lex_at [] ys p l lt h apart = absurd (omega arith)
lex_at (x ∷ xs) [] p l lt h apart = absurd (omega arith)
lex_at (x ∷ xs) (y ∷ ys) zero l lt h apart = (to, from)
  where
    to : x < y → LexBelow (x ∷ xs) (y ∷ ys)
    to less = inl less

    from : LexBelow (x ∷ xs) (y ∷ ys) → x < y
    from (inl less) = less
    from (inr (e, b)) = absurd (apart e)
lex_at (x ∷ xs) (y ∷ ys) (suc p) l lt h apart =
    later (h 0 (omega arith))
    (lex_at xs ys p (omega arith) (omega arith) (λ k below. h (suc k) (omega arith)) apart)
  where
    later : x ≡ y → (get_or xs p 0 < get_or ys p 0) ↔ LexBelow xs ys
        → (get_or xs p 0 < get_or ys p 0) ↔ LexBelow (x ∷ xs) (y ∷ ys)
    later same rest = (to, from)
      where
        to : get_or xs p 0 < get_or ys p 0 → LexBelow (x ∷ xs) (y ∷ ys)
        to less = inr (same, rest.0 less)

        from : LexBelow (x ∷ xs) (y ∷ ys) → get_or xs p 0 < get_or ys p 0
        from (inl less) = absurd (let e : x ≡ y = same in omega arith)
        from (inr (e, b)) = rest.1 b

-- and where they differ nowhere neither is before the other
pub lex_nowhere : (xs ys : List ℕ) → length xs ≡ length ys
    → ((k : ℕ) → k < length xs → get_or xs k 0 ≡ get_or ys k 0) → ¬ LexBelow xs ys
lex_nowhere [] ys l h b = b
lex_nowhere (x ∷ xs) [] l h b = b
lex_nowhere (x ∷ xs) (y ∷ ys) l h (inl less) = let e : x ≡ y = h 0 (omega arith) in omega arith
lex_nowhere (x ∷ xs) (y ∷ ys) l h (inr (e, b)) =
    lex_nowhere xs ys (omega arith) (λ k below. h (suc k) (omega arith)) b

lex_cases : (xs ys : List ℕ) → length xs ≡ length ys → LexBelow xs ys ⊎ ((xs ≡ ys) ⊎ LexBelow ys xs)
lex_cases [] [] l = inr (inl refl)
lex_cases [] (y ∷ ys) l = absurd (omega arith)
lex_cases (x ∷ xs) [] l = absurd (omega arith)
lex_cases (x ∷ xs) (y ∷ ys) l = go (cases_order x y) (lex_cases xs ys (omega arith))
  where
    go : (x ≡ y) ⊎ ((x < y) ⊎ (y < x)) → LexBelow xs ys ⊎ ((xs ≡ ys) ⊎ LexBelow ys xs)
        → LexBelow (x ∷ xs) (y ∷ ys) ⊎ ((x ∷ xs ≡ y ∷ ys) ⊎ LexBelow (y ∷ ys) (x ∷ xs))
    go (inr (inl less)) r = inl (inl less)
    go (inr (inr more)) r = inr (inr (inl more))
    go (inl e) (inl b) = inl (inr (e, b))
    go (inl e) (inr (inl s)) = inr (inl (cc))
    go (inl e) (inr (inr b)) = inr (inr (inr (sym e, b)))

order_cases : (a b : List ℕ) → length a ≡ length b → ComesBefore a b ⊎ ((a ≡ b) ⊎ ComesBefore b a)
order_cases a b l = go (cases_order (sum a) (sum b)) (lex_cases a b l)
  where
    go : (sum a ≡ sum b) ⊎ ((sum a < sum b) ⊎ (sum b < sum a)) → LexBelow a b ⊎ ((a ≡ b) ⊎ LexBelow b a)
        → ComesBefore a b ⊎ ((a ≡ b) ⊎ ComesBefore b a)
    go (inr (inl less)) r = inl (inl less)
    go (inr (inr more)) r = inr (inr (inl more))
    go (inl e) (inl below) = inl (inr (e, below))
    go (inl e) (inr (inl s)) = inr (inl s)
    go (inl e) (inr (inr below)) = inr (inr (inr (sym e, below)))

pub before_onward : BeforeOnward
before_onward a b d (inl x) (inl y) = inl (omega arith)
before_onward a b d (inl x) (inr (e, l)) = inl (omega arith)
before_onward a b d (inr (e, l)) (inl y) = inl (omega arith)
before_onward a b d (inr (e, l)) (inr (f, m)) = inr (e ∙ f, lex_transitive a b d l m)

pub not_before_itself : NotBeforeItself
not_before_itself a (inl less) = omega arith
not_before_itself a (inr (e, below)) = lex_irreflexive a below

same_length : (c : Computation) (a b : List ℕ) → IsConsistent c a → IsConsistent c b → length a ≡ length b
same_length c a b oka okb = oka.fits.one_each ∙ sym okb.fits.one_each

pub one_least_good : OneLeastGood
one_least_good c good a b la lb =
    let l : length a ≡ length b = same_length c a b la.consistent lb.consistent in
    let up : IsWithin a b = la.least b lb.consistent lb.good_there in
    let down : IsWithin b a = lb.least a la.consistent la.good_there in
    let s : sum a ≤ sum b = sum_le a b up l in
    let t : sum b ≤ sum a = sum_le b a down (sym l) in
    same_from_sum a b l up (omega arith)

module _ (c : Computation) (good : ℕ → ℕ → Bool) where
  -- the meet of good cuts is good
  meet_good : (a b : List ℕ) → length a ≡ length b → IsGood good a → IsGood good b → IsGood good (meet a b)
  meet_good a b l ga gb p lt = go (cases_lt (get_or a p 0) (get_or b p 0))
    where
      there : p < length a
      there = let m : length (meet a b) ≡ length a = length_meet a b l in omega arith

      go : (get_or a p 0 < get_or b p 0) ⊎ (get_or b p 0 ≤ get_or a p 0) → good p (get_or (meet a b) p 0) ≡ true
      go (inl less) =
          let at : get_or (meet a b) p 0 ≡ min (get_or a p 0) (get_or b p 0) = meet_at a b p in
          let is : get_or (meet a b) p 0 ≡ get_or a p 0 = omega arith in
          ap (λ (n : ℕ). good p n) is ∙ ga p there
      go (inr le) =
          let at : get_or (meet a b) p 0 ≡ min (get_or a p 0) (get_or b p 0) = meet_at a b p in
          let is : get_or (meet a b) p 0 ≡ get_or b p 0 = omega arith in
          let here : p < length a = there in
          ap (λ (n : ℕ). good p n) is ∙ gb p (omega arith)

  -- and has fewer events, unless the first is within the other
  meet_fewer : (a b : List ℕ) (p : ℕ) → length a ≡ length b → get_or b p 0 < get_or a p 0 → sum (meet a b) < sum a
  meet_fewer a b p l less = go (cases_lt (sum (meet a b)) (sum a))
    where
      go : (sum (meet a b) < sum a) ⊎ (sum a ≤ sum (meet a b)) → sum (meet a b) < sum a
      go (inl fewer) = fewer
      go (inr le) =
          let m : length (meet a b) ≡ length a = length_meet a b l in
          let up : sum (meet a b) ≤ sum a = sum_le (meet a b) a (meet_within_left a b) m in
          let same : meet a b ≡ a = same_from_sum (meet a b) a m (meet_within_left a b) (omega arith) in
          let at : get_or (meet a b) p 0 ≡ min (get_or a p 0) (get_or b p 0) = meet_at a b p in
          let is : get_or (meet a b) p 0 ≡ get_or a p 0 = ap (λ (xs : List ℕ). get_or xs p 0) same in
          absurd (omega arith)

  -- With a good cut there can't be no least one.
  not_none : (n : ℕ) (x : List ℕ) → sum x < n → IsConsistent c x → IsGood good x
      → ¬ (¬ ((least : List ℕ) × IsLeastGood c good least))
  not_none zero x lt ok is no_least = absurd (omega arith)
  not_none (suc n) x lt ok is no_least =
      no_least (
        x,
        record {
          consistent = ok;
          good_there = is;
          least =
              λ y oky goody p.
              go (not_none n) y oky goody p (cases_lt (get_or y p 0) (get_or x p 0));
        },
      )
    where
      go : ((z : List ℕ) → sum z < n → IsConsistent c z → IsGood good z
          → ¬ (¬ ((least : List ℕ) × IsLeastGood c good least))) → (y : List ℕ) → IsConsistent c y → IsGood good y
          → (p : ℕ) → (get_or y p 0 < get_or x p 0) ⊎ (get_or x p 0 ≤ get_or y p 0) → get_or x p 0 ≤ get_or y p 0
      go fewer_events y oky goody p (inr le) = le
      go fewer_events y oky goody p (inl less) =
          let l : length x ≡ length y = same_length c x y ok oky in
          let fewer : sum (meet x y) < sum x = meet_fewer x y p l less in
          absurd (fewer_events (meet x y) (omega arith) (meet_consistent c x y ok oky) (meet_good x y l is goody)
          no_least)

pub first_least_is_first : FirstLeastIsFirst
first_least_is_first c test goods n cut some is =
    record {
      consistent = is.least.consistent;
      satisfies = (some cut is.least.consistent).1 (is.number, is.within, is.least.good_there);
      first = λ other ok passes apart. go other ok passes apart
          (order_cases cut other (same_length c cut other is.least.consistent ok));
    }
  where
    go : (other : List ℕ) → IsConsistent c other → test other ≡ true → ¬ (other ≡ cut)
        → ComesBefore cut other ⊎ ((cut ≡ other) ⊎ ComesBefore other cut) → ComesBefore cut other
    go other ok passes apart (inl before) = before
    go other ok passes apart (inr (inl same)) = absurd (apart (sym same))
    go other ok passes apart (inr (inr after)) =
        absurd (not_none c (goods good_for.0) (suc (sum other)) other (omega arith) ok good_for.2 clash)
      where
        good_for : (i : ℕ) × (i < n) × IsGood (goods i) other
        good_for = (some other ok).0 passes

        clash : ¬ ((least : List ℕ) × IsLeastGood c (goods good_for.0) least)
        clash (least, of) = pick (cases_lt (sum least) (sum other))
          where
            within : IsWithin least other
            within = of.least other ok good_for.2

            l : length least ≡ length other
            l = same_length c least other of.consistent ok

            pick : (sum least < sum other) ⊎ (sum other ≤ sum least) → ⊥
            pick (inl less) =
                is.first good_for.0 least good_for.1 of (before_onward least other cut (inl less) after)
            pick (inr le) =
                let up : sum least ≤ sum other = sum_le least other within l in
                let same : least ≡ other = same_from_sum least other l within (omega arith) in
                is.first good_for.0 other good_for.1
                (subst (λ (xs : List ℕ). IsLeastGood c (goods good_for.0) xs) same of) after

pub none_good_none_satisfies : NoneGoodNoneSatisfies
none_good_none_satisfies c test goods n some none (cut, ok, passes) =
    let good_for : (i : ℕ) × (i < n) × IsGood (goods i) cut = (some cut ok).0 passes in
    none good_for.0 good_for.1 cut ok good_for.2
