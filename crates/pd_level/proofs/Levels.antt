-- The cuts of a level's keys.
use Rattle.std.proofs.Common.{◌≡◌, Bool, true, false, ℕ, zero, suc, ◌^◌, ◌<◌, ◌≤◌, List, [], ◌∷◌, length, get_or, Contains, refl, sym, ap, ◌∙◌, subst, inl, inr, ◌⊎◌, ◌↔◌, Some, arith}
use Rattle.std.specs.Prelude.{All, slice_get}
use Rattle.std.proofs.lemmas.Bool.{cases_lt, cases_order}
use Rattle.std.proofs.lemmas.List.{length-map, get_or-map}
use Rattle.def_format.specs.Limits.{event_limit, process_limit}
use Rattle.def_model.specs.Events.{Computation, Linked, event_count}
use Rattle.def_model.specs.Cuts.{IsConsistent, IsNextOf, one_more}
use Rattle.def_model.specs.Answers.{LexBelow, IsListOf}
use Rattle.walk_keys.specs.Keys.{count_base, key_of, digits, AreDigits, AreKeys}
use Rattle.pd_level.specs.MoreCuts.{AreCuts, IsInRange, IsMoreBy, IsMoreBySome}
use Rattle.pd_level.specs.Levels.{FitsKind, IsBetween, IsKept, cuts_of}
use Rattle.def_model.proofs.OneAnswer.{lex_asymmetric, lex_irreflexive}
use Rattle.walk_keys.proofs.Keys.{get_or_same, digits-key, key-digits, digits_are, length-digits, lex-digits, weight_pos}
use Rattle.pd_level.proofs.Merges.{contains_at}
use Rattle.pd_level.proofs.Steps.{cut_digits, cut_below}

pub contains_cuts : (n : ℕ) (keys cut : List ℕ) → Contains (cuts_of n keys) cut → (key : ℕ) × Contains keys key
    × (digits n key ≡ cut)
contains_cuts n [] cut (k, lt, at) = absurd (omega arith)
contains_cuts n (key ∷ keys) cut (zero, lt, at) = (key, (0, omega arith, refl), at)
contains_cuts n (key ∷ keys) cut (suc k, lt, at) =
    let w : (other : ℕ) × Contains keys other × (digits n other ≡ cut) =
    contains_cuts n keys cut (k, omega arith, at) in
    (w.0, (suc w.1.0, omega (arith, w.1.1), w.1.2), w.2)

pub cuts_contain : (n : ℕ) (keys : List ℕ) (key : ℕ) → Contains keys key → Contains (cuts_of n keys) (digits n key)
cuts_contain n [] key (k, lt, at) = absurd (omega arith)
cuts_contain n (other ∷ keys) key (zero, lt, at) = (0, omega arith, ap (digits n) at)
cuts_contain n (other ∷ keys) key (suc k, lt, at) =
    let w : Contains (cuts_of n keys) (digits n key) = cuts_contain n keys key (k, omega arith, at) in
    (suc w.0, omega (arith, w.1), w.2)

pub length-cuts : (n : ℕ) (keys : List ℕ) → length (cuts_of n keys) ≡ length keys
length-cuts n keys = length-map keys (digits n)

pub cut_at : (n : ℕ) (keys : List ℕ) (i : ℕ) (d : List ℕ) → i < length keys
    → get_or (cuts_of n keys) i d ≡ digits n (get_or keys i 0)
cut_at n keys i d lt = get_or-map (digits n) keys i 0 d lt

-- a key that is read is that of the cut there
pub cut_read : (n : ℕ) (keys : List ℕ) (i key : ℕ) → i < length keys → key ≡ get_or keys i key
    → slice_get (cuts_of n keys) i ≡ Some (digits n key)
cut_read n [] i key lt is = absurd (omega arith)
cut_read n (other ∷ keys) zero key lt is = ap (λ (k : ℕ). Some (digits n k)) (sym is)
cut_read n (other ∷ keys) (suc i) key lt is = cut_read n keys i key (omega arith) is

pub consistent_read : (c : Computation) (n : ℕ) (keys : List ℕ) (i key : ℕ) → All (IsConsistent c) (cuts_of n keys)
    → i < length keys → key ≡ get_or keys i key → IsConsistent c (digits n key)
consistent_read c n keys i key all lt is =
    let at : get_or (cuts_of n keys) i [] ≡ digits n key =
    cut_at n keys i [] lt ∙ ap (digits n) (get_or_same keys i 0 key lt ∙ sym is) in
    subst (λ (cut : List ℕ). IsConsistent c cut) at (all i [] (omega (arith, length-cuts n keys)))

-- the cuts of ascending keys ascend
pub cuts_ascend : (n : ℕ) (keys : List ℕ) → AreKeys n keys → Linked LexBelow (cuts_of n keys)
cuts_ascend n [] are = tt
cuts_ascend n (x ∷ []) are = tt
cuts_ascend n (x ∷ y ∷ keys) are = (
  lex-digits n x y (are.below 1 (omega arith)) (are.ascending 0 1 (omega arith) (omega arith)),
  cuts_ascend n (y ∷ keys) (record {
    below = λ i lt. are.below (suc i) (omega arith);
    ascending =
        λ i j lt in_. are.ascending (suc i) (suc j) (omega arith) (omega arith);
  }),
)

-- where there is a cut there are as many counts as processes
pub process_count : (c : Computation) (n : ℕ) (keys : List ℕ) (i : ℕ) → All (IsConsistent c) (cuts_of n keys)
    → i < length keys → n ≡ length c
process_count c n keys i all lt =
    let ok : IsConsistent c (digits n (get_or keys i 0)) =
    subst (λ (cut : List ℕ). IsConsistent c cut) (cut_at n keys i [] lt)
    (all i [] (omega (arith, length-cuts n keys))) in
    sym (length-digits n (get_or keys i 0)) ∙ ok.fits.one_each

pub cuts_same : (c : Computation) (n : ℕ) (keys : List ℕ) → All (IsConsistent c) (cuts_of n keys)
    → cuts_of n keys ≡ cuts_of (length c) keys
cuts_same c n [] all = refl
cuts_same c n (key ∷ keys) all =
    ap (λ (m : ℕ). cuts_of m (key ∷ keys)) (process_count c n (key ∷ keys) 0 all (omega arith))

pub are_cuts : (c : Computation) (n : ℕ) (keys : List ℕ) → AreKeys n keys → All (IsConsistent c) (cuts_of n keys)
    → AreCuts c keys
are_cuts c n keys are all = record {
  are_keys = record {
    below = λ i lt. subst (λ (m : ℕ). get_or keys i 0 < count_base ^ m) (process_count c n keys i all lt)
        (are.below i lt);
    ascending = are.ascending;
  };
  consistent = λ i lt.
      let ok : IsConsistent c (digits n (get_or keys i 0)) =
      subst (λ (cut : List ℕ). IsConsistent c cut) (cut_at n keys i [] lt)
      (all i [] (omega (arith, length-cuts n keys))) in
      subst (λ (m : ℕ). IsConsistent c (digits m (get_or keys i 0))) (process_count c n keys i all lt) ok;
}

-- the next keys
pub next_keys : (c : Computation) (keys next : List ℕ) (from to : ℕ) → ((q : ℕ) → event_count c q ≤ event_limit)
    → IsMoreBySome c keys from to 0 (length c) next → AreKeys (length c) next
next_keys c keys next from to small more = record {
  below = λ i lt.
      let w = (more.just (get_or next i 0)).0 (i, lt, got next i (get_or next i 0) lt) in
      let made : IsMoreBy c keys w.0.0 (get_or next i 0) = w.0.3 in
      let below : key_of (one_more (digits (length c) made.0) w.0.0) < count_base ^ length c =
      cut_below c (one_more (digits (length c) made.0) w.0.0) small made.2 in
      subst (λ (x : ℕ). x < count_base ^ length c) (sym made.3) below;
  ascending = more.ascending;
}
  where
    got : (xs : List ℕ) (i d : ℕ) → i < length xs → get_or xs i d ≡ get_or xs i 0
    got [] i d lt = absurd (omega arith)
    got (x ∷ xs) zero d lt = refl
    got (x ∷ xs) (suc i) d lt = got xs i d (omega arith)

-- numbers are below one another as their digits are
pub lex_below : (n j k : ℕ) → j < count_base ^ n → LexBelow (digits n j) (digits n k) → j < k
lex_below n j k below lex = go (cases_order j k)
  where
    go : (j ≡ k) ⊎ ((j < k) ⊎ (k < j)) → j < k
    go (inl same) =
        absurd (lex_irreflexive (digits n k) (subst (λ (i : ℕ). LexBelow (digits n i) (digits n k)) same lex))
    go (inr (inl less)) = less
    go (inr (inr more)) = absurd (lex_asymmetric (digits n j) (digits n k) lex (lex-digits n k j below more))

-- a number in range is that of a cut between
pub between : (n : ℕ) (keys : List ℕ) (from to x : ℕ) → AreKeys n keys → (0 < from → from < length keys)
    → x < count_base ^ n → IsInRange keys from to x ↔ IsBetween (cuts_of n keys) from to (digits n x)
between n keys from to x are bound small = (there, back)
  where
    there : IsInRange keys from to x → IsBetween (cuts_of n keys) from to (digits n x)
    there range = (
      λ some lex.
          let least : get_or keys from 0 ≤ x = range.0 some in
          let less : x < get_or keys from 0 =
          lex_below n x (get_or keys from 0) small (subst (λ (cut : List ℕ). LexBelow (digits n x) cut)
          (cut_at n keys from [] (bound some)) lex) in omega arith,
      λ some.
          let lt : to < length keys = omega (arith, length-cuts n keys) in
          subst (λ (cut : List ℕ). LexBelow (digits n x) cut) (sym (cut_at n keys to [] lt))
          (lex-digits n x (get_or keys to 0) (are.below to lt) (range.1 lt)),
    )

    back : IsBetween (cuts_of n keys) from to (digits n x) → IsInRange keys from to x
    back range = (
      λ some. least some (cases_lt x (get_or keys from 0)),
      λ lt. lex_below n x (get_or keys to 0) small (subst (λ (cut : List ℕ). LexBelow (digits n x) cut)
          (cut_at n keys to [] lt) (range.1 (omega (arith, length-cuts n keys)))),
    )
      where
        least : 0 < from → (x < get_or keys from 0) ⊎ (get_or keys from 0 ≤ x) → get_or keys from 0 ≤ x
        least some (inl less) =
            absurd (range.0 some (subst (λ (cut : List ℕ). LexBelow (digits n x) cut)
            (sym (cut_at n keys from [] (bound some)))
            (lex-digits n x (get_or keys from 0) (are.below from (bound some)) less)))
        least some (inr le) = le

-- the cuts of the next level that lie between two of this one
abbrev pub IsNextBetween : Computation → List (List ℕ) → ℕ → ℕ → List ℕ → Type 0
IsNextBetween c cuts from to cut = IsNextOf c cuts cut × IsBetween cuts from to cut

-- and their cuts are those of the next level
pub next_list : (c : Computation) (n : ℕ) (keys next : List ℕ) (from to : ℕ)
    → ((q : ℕ) → event_count c q ≤ event_limit) → All (IsConsistent c) (cuts_of n keys) → AreKeys n keys
    → (0 < from → from < length keys) → IsMoreBySome c keys from to 0 (length c) next
    → IsListOf (IsNextBetween c (cuts_of n keys) from to) (cuts_of (length c) next)
next_list c n keys next from to small all own bound more = record {
  ascending = cuts_ascend (length c) next are;
  just = λ cut. subst (λ (cuts : List (List ℕ)). Contains (cuts_of (length c) next) cut
      ↔ IsNextBetween c cuts from to cut) (sym (cuts_same c n keys all)) (to_cut cut, from_cut cut);
}
  where
    are : AreKeys (length c) next
    are = next_keys c keys next from to small more

    olds : AreKeys (length c) keys
    olds = (are_cuts c n keys own all).are_keys

    back : (cut : List ℕ) → IsConsistent c cut → digits (length c) (key_of cut) ≡ cut
    back cut ok =
        subst (λ (m : ℕ). digits m (key_of cut) ≡ cut) ok.fits.one_each (digits-key cut (cut_digits c cut small ok))

    under : (x : ℕ) → Contains next x → x < count_base ^ length c
    under x has =
        let at : (i : ℕ) × (i < length next) × (get_or next i 0 ≡ x) = contains_at next x has in
        subst (λ (y : ℕ). y < count_base ^ length c) at.2 (are.below at.0 at.1)

    to_cut : (cut : List ℕ) → Contains (cuts_of (length c) next) cut
        → IsNextBetween c (cuts_of (length c) keys) from to cut
    to_cut cut has =
        let w : (key : ℕ) × Contains next key × (digits (length c) key ≡ cut) = contains_cuts (length c) next cut has in
        let v = (more.just w.0).0 w.1 in
        let p : ℕ = v.0.0 in
        let made : IsMoreBy c keys p w.0 = v.0.3 in
        let is : cut ≡ one_more (digits (length c) made.0) p =
        sym w.2 ∙ (ap (digits (length c)) made.3 ∙ back (one_more (digits (length c) made.0) p) made.2) in (
          (
            subst (λ (x : List ℕ). IsConsistent c x) (sym is) made.2,
            (
              digits (length c) made.0,
              cuts_contain (length c) keys made.0 made.1,
              (p, (let lt : p < length c = v.0.2 in omega (arith, length-digits (length c) made.0)), is),
            ),
          ),
          subst (λ (x : List ℕ). IsBetween (cuts_of (length c) keys) from to x) w.2
              ((between (length c) keys from to w.0 olds bound (under w.0 w.1)).0 v.1),
        )

    from_cut : (cut : List ℕ) → IsNextBetween c (cuts_of (length c) keys) from to cut
        → Contains (cuts_of (length c) next) cut
    from_cut cut ((ok, (old, has, (p, lt, is))), range) =
        let w : (key : ℕ) × Contains keys key × (digits (length c) key ≡ old) = contains_cuts (length c) keys old has in
        let made : cut ≡ one_more (digits (length c) w.0) p = is ∙ ap (λ (x : List ℕ). one_more x p) (sym w.2) in
        let within : p < length c = omega (arith, ap length w.2, length-digits (length c) w.0) in
        let below : key_of cut < count_base ^ length c = cut_below c cut small ok in
        let in_range : IsInRange keys from to (key_of cut) =
        (between (length c) keys from to (key_of cut) olds bound below).1
        (subst (λ (x : List ℕ). IsBetween (cuts_of (length c) keys) from to x) (sym (back cut ok)) range) in
        let in_ : Contains next (key_of cut) =
        (more.just (key_of cut)).1 (
          (
            p,
            omega arith,
            within,
            (
              w.0,
              w.1,
              subst (λ (x : List ℕ). IsConsistent c x) made ok,
              ap key_of made,
            ),
          ),
          in_range,
        ) in
        subst (λ (x : List ℕ). Contains (cuts_of (length c) next) x) (back cut ok)
        (cuts_contain (length c) next (key_of cut) in_)

-- all cuts of the next level lie between the level's ends
pub whole_list : (c : Computation) (cuts next : List (List ℕ)) (to : ℕ) → to ≡ length cuts
    → IsListOf (IsNextBetween c cuts 0 to) next → IsListOf (IsNextOf c cuts) next
whole_list c cuts next to end list = record {
  ascending = list.ascending;
  just = λ cut. (λ has. ((list.just cut).0 has).0, λ is. (list.just cut).1 (is, none cut));
}
  where
    none : (cut : List ℕ) → IsBetween cuts 0 to cut
    none cut = (λ some. absurd (omega arith), λ some. absurd (omega arith))

-- level 0
pub first_kept : (n : ℕ) → n ≤ process_limit → IsKept n (0 ∷ [])
first_kept n few = record {
  few = few;
  are_keys = record { below = go; ascending = λ i j lt in_. absurd (omega arith) };
}
  where
    go : (i : ℕ) → i < 1 → get_or {A = ℕ} (0 ∷ []) i 0 < count_base ^ n
    go zero lt = weight_pos n
    go (suc i) lt = absurd (omega arith)

-- a cut is there if its key is
pub contains_key : (n : ℕ) (keys counts : List ℕ) (key : ℕ) → AreKeys n keys → length counts ≡ n → AreDigits counts
    → key ≡ key_of counts → Contains (cuts_of n keys) counts ↔ Contains keys key
contains_key n keys counts key are many small is = (to, from)
  where
    to : Contains (cuts_of n keys) counts → Contains keys key
    to has =
        let w : (other : ℕ) × Contains keys other × (digits n other ≡ counts) = contains_cuts n keys counts has in
        let at : (i : ℕ) × (i < length keys) × (get_or keys i 0 ≡ w.0) = contains_at keys w.0 w.1 in
        let below : w.0 < count_base ^ n = subst (λ (x : ℕ). x < count_base ^ n) at.2 (are.below at.0 at.1) in
        subst (λ (x : ℕ). Contains keys x) (sym (key-digits n w.0 below) ∙ (ap key_of w.2 ∙ sym is)) w.1

    from : Contains keys key → Contains (cuts_of n keys) counts
    from has =
        let same : digits n key ≡ counts =
        ap (digits n) is ∙ subst (λ (m : ℕ). digits m (key_of counts) ≡ counts) many (digits-key counts small) in
        subst (λ (x : List ℕ). Contains (cuts_of n keys) x) same (cuts_contain n keys key has)

pub contains_long : (n : ℕ) (keys counts : List ℕ) → Contains (cuts_of n keys) counts → length counts ≡ n
contains_long n keys counts has =
    let w : (key : ℕ) × Contains keys key × (digits n key ≡ counts) = contains_cuts n keys counts has in
    ap length (sym w.2) ∙ length-digits n w.0

pub contains_small : (n : ℕ) (keys counts : List ℕ) → AreKeys n keys → Contains (cuts_of n keys) counts
    → AreDigits counts
contains_small n keys counts are has =
    let w : (key : ℕ) × Contains keys key × (digits n key ≡ counts) = contains_cuts n keys counts has in
    let at : (i : ℕ) × (i < length keys) × (get_or keys i 0 ≡ w.0) = contains_at keys w.0 w.1 in
    let below : w.0 < count_base ^ n = subst (λ (x : ℕ). x < count_base ^ n) at.2 (are.below at.0 at.1) in
    subst AreDigits w.2 (digits_are n w.0 below)

-- counts are those of a cut of the level exactly if they are digits of one of its keys
pub contains_by : (n : ℕ) (keys counts : List ℕ) → AreKeys n keys → length counts ≡ n
    → Contains (cuts_of n keys) counts ↔ (AreDigits counts × Contains keys (key_of counts))
contains_by n keys counts are many = (
  λ has.
      let small = contains_small n keys counts are has in
      (small, (contains_key n keys counts (key_of counts) are many small refl).0 has),
  λ h. (contains_key n keys counts (key_of counts) are many h.0 refl).1 h.1,
)

-- where something is made of keys, there is one
pub some_keys : (c : Computation) (keys next : List ℕ) (from to : ℕ) → IsMoreBySome c keys from to 0 (length c) next
    → 0 < length next → 0 < length keys
some_keys c keys next from to more some =
    let w = (more.just (get_or next 0 0)).0 (0, some, got next (omega arith)) in
    let made : IsMoreBy c keys w.0.0 (get_or next 0 0) = w.0.3 in
    let at : (i : ℕ) × (i < length keys) × (get_or keys i 0 ≡ made.0) = contains_at keys made.0 made.1 in
    omega (arith, at.1)
  where
    got : (xs : List ℕ) → 0 < length xs → get_or xs 0 (get_or xs 0 0) ≡ get_or xs 0 0
    got [] lt = absurd (omega arith)
    got (x ∷ xs) lt = refl

-- the cut at an index is that of the key there
pub consistent_at : (c : Computation) (n : ℕ) (keys : List ℕ) (i : ℕ) → All (IsConsistent c) (cuts_of n keys)
    → i < length keys → IsConsistent c (digits n (get_or keys i 0))
consistent_at c n keys i all lt =
    subst (λ (cut : List ℕ). IsConsistent c cut) (cut_at n keys i [] lt) (all i [] (omega (arith, length-cuts n keys)))

pub cut_there : (n : ℕ) (keys : List ℕ) (i : ℕ) → i < length keys
    → slice_get (cuts_of n keys) i ≡ Some (digits n (get_or keys i 0))
cut_there n [] i lt = absurd (omega arith)
cut_there n (key ∷ keys) zero lt = refl
cut_there n (key ∷ keys) (suc i) lt = cut_there n keys i (omega arith)

-- where a level has a cut its keys are of the kind for the processes
pub same_kind : (c : Computation) (n m : ℕ) (first last : List ℕ) (a b : Bool) → All (IsConsistent c) (cuts_of n first)
    → All (IsConsistent c) (cuts_of m last) → (0 < length first → FitsKind n a) → (0 < length last → FitsKind m b)
    → 0 < length first → 0 < length last → a ≡ b
same_kind c n m first last a b all_first all_last fits_first fits_last some_first some_last =
    one (length c) a b (subst (λ (k : ℕ). FitsKind k a) (process_count c n first 0 all_first some_first)
    (fits_first some_first)) (subst (λ (k : ℕ). FitsKind k b) (process_count c m last 0 all_last some_last)
    (fits_last some_last))
  where
    one : (k : ℕ) (a b : Bool) → FitsKind k a → FitsKind k b → a ≡ b
    one k true true fits other = refl
    one k true false fits other = absurd (omega arith)
    one k false true fits other = absurd (omega arith)
    one k false false fits other = refl
