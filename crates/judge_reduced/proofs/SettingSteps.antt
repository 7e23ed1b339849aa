-- What an image sets.
use Rattle.std.proofs.Common.{◌≡◌, ℕ, suc, ◌+◌, ◌<◌, ◌≤◌, ◌⊎◌, inl, inr, Bool, false, cond, nat_eq, List, [], ◌∷◌, ◌++◌, get_or, All, ℤ, Contains, refl, ap, ◌∙◌, subst, arith}
use Rattle.std.proofs.lemmas.Bool.{cases_lt, eq-eqb}
use Rattle.std.proofs.lemmas.Bool.Decides.{nat_tests}
use Rattle.std.proofs.lemmas.List.Elements.{All-push}
use Rattle.def_model.specs.Events.{Linked}
use Rattle.def_model.specs.Predicates.{after_sets}
use Rattle.judge_reduced.specs.SettingLists.{AreSettings}

after_push : (v w : ℕ) (old value : ℤ) (sets : List (ℕ × ℤ))
    → after_sets v old (sets ++ (w, value) ∷ []) ≡ cond (nat_eq w v) value (after_sets v old sets)
after_push v w old value [] = refl
after_push v w old value ((u, x) ∷ sets) = after_push v w (cond (nat_eq u v) x old) value sets

-- the setting at the end
pub after_new : (v : ℕ) (old value : ℤ) (sets : List (ℕ × ℤ)) → after_sets v old (sets ++ (v, value) ∷ []) ≡ value
after_new v old value sets =
    after_push v v old value sets
    ∙ ap (λ (b : Bool). cond b value (after_sets v old sets)) (eq-eqb v v refl)

pub after_other : (v w : ℕ) (old value : ℤ) (sets : List (ℕ × ℤ)) → v < w
    → after_sets v old (sets ++ (w, value) ∷ []) ≡ after_sets v old sets
after_other v w old value sets lt =
    after_push v w old value sets
    ∙ ap (λ (b : Bool). cond b value (after_sets v old sets)) differ
  where
    differ : nat_eq w v ≡ false
    differ = grind (arith, nat_tests)

linked_push : (sets : List (ℕ × ℤ)) (v : ℕ) (value : ℤ) → Linked (λ (a b : ℕ × ℤ). a.0 < b.0) sets
    → All (λ (set : ℕ × ℤ). set.0 < v) sets → Linked (λ (a b : ℕ × ℤ). a.0 < b.0) (sets ++ (v, value) ∷ [])
linked_push [] v value linked below = tt
linked_push (x ∷ []) v value linked below = (below 0 x (omega arith), tt)
linked_push (x ∷ y ∷ sets) v value linked below =
    (linked.0, linked_push (y ∷ sets) v value linked.1 (λ k d lt. below (suc k) d (omega arith)))

pub settings_none : (worth : ℕ → ℤ) (vars : List ℕ) → AreSettings worth vars 0 []
settings_none worth vars = record {
  ascend = tt;
  below = λ k d lt. absurd (omega arith);
  values = λ v old has lt. absurd (omega arith);
}

-- one more variable is set
pub settings_more : (worth : ℕ → ℤ) (vars : List ℕ) (k : ℕ) (sets : List (ℕ × ℤ)) (value : ℤ) → value ≡ worth k
    → AreSettings worth vars k sets → AreSettings worth vars (k + 1) (sets ++ (k, value) ∷ [])
settings_more worth vars k sets value is are = record {
  ascend = linked_push sets k value are.ascend are.below;
  below = All-push (λ (set : ℕ × ℤ). set.0 < k + 1) sets (k, value) (λ i d lt.
      let low : (get_or sets i d).0 < k = are.below i d lt in omega arith) (omega arith);
  values = λ v old has lt. go v old has lt (cases_lt v k);
}
  where
    go : (v : ℕ) (old : ℤ) → Contains vars v → v < k + 1 → (v < k) ⊎ (k ≤ v)
        → after_sets v old (sets ++ (k, value) ∷ []) ≡ worth v
    go v old has lt (inl less) = after_other v k old value sets less ∙ are.values v old has less
    go v old has lt (inr ge) =
        let same : k ≡ v = omega arith in
        subst (λ (w : ℕ). after_sets w old (sets ++ (k, value) ∷ []) ≡ worth w) same (after_new k old value sets ∙ is)

-- one more isn't seen
pub settings_same : (worth : ℕ → ℤ) (vars : List ℕ) (k : ℕ) (sets : List (ℕ × ℤ)) → (Contains vars k → ⊥)
    → AreSettings worth vars k sets → AreSettings worth vars (k + 1) sets
settings_same worth vars k sets out are = record {
  ascend = are.ascend;
  below = λ i d lt. let low : (get_or sets i d).0 < k = are.below i d lt in omega arith;
  values = λ v old has lt. go v old has lt (cases_lt v k);
}
  where
    go : (v : ℕ) (old : ℤ) → Contains vars v → v < k + 1 → (v < k) ⊎ (k ≤ v) → after_sets v old sets ≡ worth v
    go v old has lt (inl less) = are.values v old has less
    go v old has lt (inr ge) =
        let same : v ≡ k = omega arith in absurd (out (subst (Contains vars) same has))
