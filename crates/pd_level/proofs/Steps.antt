-- The cuts that one more event makes.
use Rattle.std.proofs.Common.{◌≡◌, ℕ, ◌+◌, ◌-◌, ◌^◌, ◌<◌, ◌≤◌, List, [], ◌∷◌, ◌++◌, length, get_or, take, Contains, refl, sym, ap, ◌∙◌, subst, inl, inr, ◌⊎◌, ◌↔◌, arith}
use Rattle.def_format.specs.Limits.{event_limit}
use Rattle.def_model.specs.Events.{Computation, event_count}
use Rattle.def_model.specs.Cuts.{IsConsistent, one_more}
use Rattle.walk_keys.specs.Keys.{count_base, key_of, digits, AreDigits, Ascending}
use Rattle.pd_level.specs.MoreCuts.{AreCuts, IsMoreBy}
use Rattle.walk_keys.proofs.Keys.{more_is, get_or_same, key_below}
use Rattle.pd_level.proofs.Merges.{prefix_more, push_iff, ascending_push}

-- consistent counts are digits
pub cut_digits : (c : Computation) (cut : List ℕ) → ((q : ℕ) → event_count c q ≤ event_limit) → IsConsistent c cut
    → AreDigits cut
cut_digits c cut small ok k d lt =
    let same : get_or cut k d ≡ get_or cut k 0 = get_or_same cut k d 0 lt in
    let within : get_or cut k 0 ≤ event_count c k = ok.fits.within k in
    let few : event_count c k ≤ event_limit = small k in
    omega arith

-- and their number has as many digits as there are processes
pub cut_below : (c : Computation) (cut : List ℕ) → ((q : ℕ) → event_count c q ≤ event_limit) → IsConsistent c cut
    → key_of cut < count_base ^ length c
cut_below c cut small ok =
    subst (λ (n : ℕ). key_of cut < count_base ^ n) ok.fits.one_each (key_below cut (cut_digits c cut small ok))

-- so far: the cuts made of the first i, all before what the later ones make
pub record IsMoreSo (c : Computation) (keys : List ℕ) (p i : ℕ) (more : List ℕ) : Type 0 where
  pub ascending : Ascending more
  pub just : (x : ℕ) → Contains more x ↔ IsMoreBy c (take i keys) p x
  pub later : (x : ℕ) → Contains more x → i < length keys → x < get_or keys i 0 + count_base ^ (length c - 1 - p)

-- the cut made of the key at i
abbrev pub MakesCut : Computation → List ℕ → ℕ → ℕ → Type 0
MakesCut c keys p i = IsConsistent c (one_more (digits (length c) (get_or keys i 0)) p)

-- where a cut is made, the digit of the process has room for one event more
pub digit_room : (c : Computation) (keys : List ℕ) (p i : ℕ) → ((q : ℕ) → event_count c q ≤ event_limit)
    → AreCuts c keys
    → p < length c → i < length keys → get_or (digits (length c) (get_or keys i 0)) p 0 + 1 < count_base
digit_room c keys p i small cuts within lt =
    let ok : IsConsistent c (digits (length c) (get_or keys i 0)) = cuts.consistent i lt in
    let le : get_or (digits (length c) (get_or keys i 0)) p 0 ≤ event_count c p = ok.fits.within p in
    let few : event_count c p ≤ event_limit = small p in
    omega arith

pub step_no : (c : Computation) (keys : List ℕ) (p i : ℕ) (more : List ℕ) → AreCuts c keys → i < length keys
    → (MakesCut c keys p i → ⊥) → IsMoreSo c keys p i more → IsMoreSo c keys p (i + 1) more
step_no c keys p i more cuts lt fails m = record {
  ascending = m.ascending;
  just = λ x. (λ has. to x ((m.just x).0 has), λ w. (m.just x).1 (from x w));
  later = λ x has next.
      let before : x < get_or keys i 0 + count_base ^ (length c - 1 - p) = m.later x has lt in
      let up : get_or keys i 0 < get_or keys (i + 1) 0 = cuts.are_keys.ascending i (i + 1) (omega arith) next in
      omega arith;
}
  where
    to : (x : ℕ) → IsMoreBy c (take i keys) p x → IsMoreBy c (take (i + 1) keys) p x
    to x w = (w.0, (prefix_more keys i w.0 lt).1 (inl w.1), w.2, w.3)

    from : (x : ℕ) → IsMoreBy c (take (i + 1) keys) p x → IsMoreBy c (take i keys) p x
    from x w = go ((prefix_more keys i w.0 lt).0 w.1)
      where
        go : Contains (take i keys) w.0 ⊎ (get_or keys i 0 ≡ w.0) → IsMoreBy c (take i keys) p x
        go (inl old) = (w.0, old, w.2, w.3)
        go (inr e) =
            absurd (fails (subst (λ (key : ℕ). IsConsistent c (one_more (digits (length c) key) p)) (sym e) w.2))

pub step_yes : (c : Computation) (keys : List ℕ) (p i : ℕ) (more : List ℕ) → AreCuts c keys → p < length c
    → i < length keys → MakesCut c keys p i → IsMoreSo c keys p i more
    → IsMoreSo c keys p (i + 1) (more ++ (get_or keys i 0 + count_base ^ (length c - 1 - p)) ∷ [])
step_yes c keys p i more cuts within lt makes m = record {
  ascending =
      ascending_push more (get_or keys i 0 + count_base ^ (length c - 1 - p)) m.ascending (λ x has. m.later x has lt);
  just = λ x. (
    λ has. to x ((push_iff more (get_or keys i 0 + count_base ^ (length c - 1 - p)) x).0 has),
    λ w. (push_iff more (get_or keys i 0 + count_base ^ (length c - 1 - p)) x).1 (from x w),
  );
  later = λ x has next. after x (cuts.are_keys.ascending i (i + 1) (omega arith) next)
      ((push_iff more (get_or keys i 0 + count_base ^ (length c - 1 - p)) x).0 has);
}
  where
    made : key_of (one_more (digits (length c) (get_or keys i 0)) p) ≡ get_or keys i 0 + count_base ^ (length c - 1 - p)
    made = more_is (length c) (get_or keys i 0) p within (cuts.are_keys.below i lt)

    after : (x : ℕ) → get_or keys i 0 < get_or keys (i + 1) 0 → Contains more x
        ⊎ (get_or keys i 0 + count_base ^ (length c - 1 - p) ≡ x)
        → x < get_or keys (i + 1) 0 + count_base ^ (length c - 1 - p)
    after x up (inl old) = let before : x < get_or keys i 0 + count_base ^ (length c - 1 - p) = m.later x old lt in
        omega arith
    after x up (inr e) = omega arith

    to : (x : ℕ) → Contains more x ⊎ (get_or keys i 0 + count_base ^ (length c - 1 - p) ≡ x)
        → IsMoreBy c (take (i + 1) keys) p x
    to x (inl old) =
        let w : IsMoreBy c (take i keys) p x = (m.just x).0 old in
        (w.0, (prefix_more keys i w.0 lt).1 (inl w.1), w.2, w.3)
    to x (inr e) = (get_or keys i 0, (prefix_more keys i (get_or keys i 0) lt).1 (inr refl), makes, sym e ∙ sym made)

    from : (x : ℕ) → IsMoreBy c (take (i + 1) keys) p x → Contains more x
        ⊎ (get_or keys i 0 + count_base ^ (length c - 1 - p) ≡ x)
    from x w = go ((prefix_more keys i w.0 lt).0 w.1)
      where
        go : Contains (take i keys) w.0 ⊎ (get_or keys i 0 ≡ w.0) → Contains more x
            ⊎ (get_or keys i 0 + count_base ^ (length c - 1 - p) ≡ x)
        go (inl old) = inl ((m.just x).1 (w.0, old, w.2, w.3))
        go (inr e) = inr (sym made ∙ (ap (λ (key : ℕ). key_of (one_more (digits (length c) key) p)) e ∙ sym w.3))
