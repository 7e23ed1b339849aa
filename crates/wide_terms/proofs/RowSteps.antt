-- A row is made from one change to the next.
use Rattle.std.proofs.Common.{◌≡◌, ◌<◌, ◌≤◌, ◌⊎◌, inl, inr, ℕ, List, ◌++◌, All, get_or, length, length-set, set, take, sym, ap, ◌∙◌, arith}
use Rattle.std.proofs.lemmas.Bool.{cases_eq, cases_lt}
use Rattle.std.proofs.lemmas.Grind.{get_or-set_at}
use Rattle.std.proofs.lemmas.List.{get_or-set_other}
use Rattle.std.proofs.Math.Seq.{take-append_seam}
use Rattle.std.specs.Prelude.{Bool, false}
use Rattle.def_model.specs.Cuts.{FitsProcesses}
use Rattle.def_model.specs.Events.{Computation, event_count}
use Rattle.def_model.specs.Predicates.{Predicate, Recorded, test_of}
use Rattle.wide_terms.specs.Changes.{DependsOnVars, VariableStays}
use Rattle.wide_terms.specs.Rows.{DependsOn, turned}
use Rattle.wide_terms.specs.Truths.{truth_at}

-- a list that was written through a slice of all of it
pub written : (new rest : List ℕ) (n : ℕ) → length new ≡ n → take n (new ++ rest) ≡ new
written new rest n same = sym (ap (λ (m : ℕ). take m (new ++ rest)) same) ∙ take-append_seam new rest

-- counts that fit do so with another one of a process
pub counts_set : (c : Computation) (counts : List ℕ) (p n : ℕ) → p < length c → FitsProcesses c counts
    → n ≤ event_count c p → FitsProcesses c (set counts p n)
counts_set c counts p n lt fits le = record {
  one_each = length-set counts p n ∙ fits.one_each;
  within = λ q. go q (cases_eq q p);
}
  where
    go : (q : ℕ) → (q ≡ p) ⊎ (q ≡ p → ⊥) → get_or (set counts p n) q 0 ≤ event_count c q
    go q (inl same) =
        let at : get_or (set counts p n) q 0 ≡ n =
        get_or-set_at counts p q n 0 same (omega (arith, lt, fits.one_each)) in
        let most : event_count c q ≡ event_count c p = ap (event_count c) same in
        omega arith
    go q (inr other) =
        let at : get_or (set counts p n) q 0 ≡ get_or counts q 0 = get_or-set_other counts p q n 0 other in
        let most : get_or counts q 0 ≤ event_count c q = fits.within q in
        omega arith

-- the truths up to the next change
module _ (r : Recorded) (negated : Bool) (predicate : Predicate) (p from to : ℕ) (vars old new here : List ℕ)
    (truth : Bool) (depends : DependsOn r predicate p) (by_vars : DependsOnVars r predicate p vars)
    (fits : FitsProcesses r.events here) (at : get_or here p 0 ≡ from)
    (now : truth ≡ turned negated (test_of r predicate here))
    (stay : (n : ℕ) → from < n → n < to → All (VariableStays r p from n) vars)
    (inside : (k : ℕ) → from ≤ k → k < to → truth_at new k ≡ truth)
    (outside : (k : ℕ) → (k < from) ⊎ (to ≤ k) → truth_at new k ≡ truth_at old k) where
  same_test : (k : ℕ) (cut : List ℕ) → from ≤ k → k < to → FitsProcesses r.events cut → get_or cut p 0 ≡ k
      → test_of r predicate here ≡ test_of r predicate cut
  same_test k cut ge lt fits' at' = go (cases_lt from k)
    where
      go : (from < k) ⊎ (k ≤ from) → test_of r predicate here ≡ test_of r predicate cut
      go (inl after) = by_vars from k (stay k after lt) here cut at at'
      go (inr le) = depends here cut (omega (arith, at, at', ge, le)) fits fits'

  pub truths_more : ((k : ℕ) (cut : List ℕ) → k < from → FitsProcesses r.events cut → get_or cut p 0 ≡ k
      → truth_at old k ≡ turned negated (test_of r predicate cut))
      → (k : ℕ) (cut : List ℕ) → k < to → FitsProcesses r.events cut → get_or cut p 0 ≡ k
      → truth_at new k ≡ turned negated (test_of r predicate cut)
  truths_more known k cut lt fits' at' = go (cases_lt k from)
    where
      go : (k < from) ⊎ (from ≤ k) → truth_at new k ≡ turned negated (test_of r predicate cut)
      go (inl less) = outside k (inl less) ∙ known k cut less fits' at'
      go (inr ge) =
          inside k ge lt ∙ (now ∙ ap (λ (b : Bool). turned negated b) (same_test k cut ge lt fits' at'))

  pub none_left : from < to → ((k : ℕ) → from ≤ k → truth_at old k ≡ false) → (k : ℕ) → to ≤ k
      → truth_at new k ≡ false
  none_left some none k le = outside k (inr le) ∙ none k (omega arith)
