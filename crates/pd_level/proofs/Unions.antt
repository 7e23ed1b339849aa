-- Two levels as one.
use Rattle.std.proofs.Common.{◌≡◌, ℕ, ◌^◌, ◌<◌, List, length, get_or, Contains, subst, inl, inr, ◌⊎◌, ◌↔◌}
use Rattle.std.specs.Prelude.{All}
use Rattle.def_model.specs.Events.{Computation}
use Rattle.def_model.specs.Cuts.{IsConsistent}
use Rattle.def_model.specs.Answers.{IsListOf}
use Rattle.walk_keys.specs.Keys.{count_base, digits, Ascending, AreKeys}
use Rattle.pd_level.specs.Levels.{IsInEither, cuts_of}
use Rattle.pd_level.proofs.Levels.{contains_cuts, cuts_ascend, cuts_contain, cuts_same}
use Rattle.pd_level.proofs.Merges.{contains_at, contains_get}

-- both lists and no more
abbrev pub AreBoth : List ℕ → List ℕ → List ℕ → Type 0
AreBoth first last both = (x : ℕ) → Contains both x ↔ (Contains first x ⊎ Contains last x)

pub union_keys : (n : ℕ) (first last both : List ℕ) → AreKeys n first → AreKeys n last → Ascending both
    → AreBoth first last both → AreKeys n both
union_keys n first last both are_first are_last asc just = record {
  below = λ i lt. under (get_or both i 0) ((just (get_or both i 0)).0 (contains_get both i lt));
  ascending = asc;
}
  where
    below_in : (keys : List ℕ) → AreKeys n keys → (x : ℕ) → Contains keys x → x < count_base ^ n
    below_in keys are x has =
        let at : (i : ℕ) × (i < length keys) × (get_or keys i 0 ≡ x) = contains_at keys x has in
        subst (λ (y : ℕ). y < count_base ^ n) at.2 (are.below at.0 at.1)

    under : (x : ℕ) → Contains first x ⊎ Contains last x → x < count_base ^ n
    under x (inl has) = below_in first are_first x has
    under x (inr has) = below_in last are_last x has

pub union_list : (c : Computation) (n m : ℕ) (first last both : List ℕ) → All (IsConsistent c) (cuts_of n first)
    → All (IsConsistent c) (cuts_of m last) → AreKeys (length c) both → AreBoth first last both
    → IsListOf (IsInEither (cuts_of n first) (cuts_of m last)) (cuts_of (length c) both)
union_list c n m first last both all_first all_last are just = record {
  ascending = cuts_ascend (length c) both are;
  just = λ cut. rw (cuts_same c n first all_first, cuts_same c m last all_last) (to cut, from cut);
}
  where
    in_one : (key : ℕ) → Contains first key ⊎ Contains last key
        → IsInEither (cuts_of (length c) first) (cuts_of (length c) last) (digits (length c) key)
    in_one key (inl has) = inl (cuts_contain (length c) first key has)
    in_one key (inr has) = inr (cuts_contain (length c) last key has)

    to : (cut : List ℕ) → Contains (cuts_of (length c) both) cut
        → IsInEither (cuts_of (length c) first) (cuts_of (length c) last) cut
    to cut has =
        let w : (key : ℕ) × Contains both key × (digits (length c) key ≡ cut) =
        contains_cuts (length c) both cut has in
        subst (λ (x : List ℕ). IsInEither (cuts_of (length c) first) (cuts_of (length c) last) x) w.2
        (in_one w.0 ((just w.0).0 w.1))

    back : (keys cut : List ℕ) → ((key : ℕ) → Contains keys key → Contains both key)
        → Contains (cuts_of (length c) keys) cut → Contains (cuts_of (length c) both) cut
    back keys cut comes has =
        let w : (key : ℕ) × Contains keys key × (digits (length c) key ≡ cut) =
        contains_cuts (length c) keys cut has in
        subst (λ (x : List ℕ). Contains (cuts_of (length c) both) x) w.2
        (cuts_contain (length c) both w.0 (comes w.0 w.1))

    from : (cut : List ℕ) → IsInEither (cuts_of (length c) first) (cuts_of (length c) last) cut
        → Contains (cuts_of (length c) both) cut
    from cut (inl has) = back first cut (λ key in_. (just key).1 (inl in_)) has
    from cut (inr has) = back last cut (λ key in_. (just key).1 (inr in_)) has
