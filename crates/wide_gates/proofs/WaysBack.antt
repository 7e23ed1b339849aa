-- The cuts on the way back from the full cut.
use Rattle.std.proofs.Common.{◌≡◌, ℕ, ◌+◌, ◌<◌, ◌≤◌, inl, inr, ◌⊎◌, List, Option, Some, None, length, get_or, sum, refl, sym, ap, ◌∙◌, subst, IfSome, arith}
use Rattle.std.proofs.lemmas.Bool.{cases_lt, cases_order}
use Rattle.std.proofs.lemmas.List.{get_or_past}
use Rattle.def_model.specs.Cuts.{IsConsistent, full_cut, one_less, total}
use Rattle.def_model.specs.Events.{Computation, event_count}
use Rattle.def_model.specs.Order.{HasNoCycle}
use Rattle.def_model.specs.Predicates.{Predicate, Recorded}
use Rattle.def_model.proofs.Counts.{full_at, length_full, same_from_sum, sum_le, sum_less}
use Rattle.def_model.proofs.Steps.{can_undo, sum_within}
use Rattle.def_wide.specs.Tried.{IsOnWayBack, LeavesConsistent, full, undone}
use Rattle.wide_conjunctions.proofs.LevelAfter.{full_consistent}
use Rattle.wide_conjunctions.specs.CutOrder.{ComesBefore}
use Rattle.wide_conjunctions.proofs.CutsInOrder.{not_before_itself}
use Rattle.wide_gates.specs.Seen.{AfterBest, IsBackAbove, IsFirstSeen, IsGood}
use Rattle.wide_gates.proofs.SeenCuts.{seen_as, seen_more}

-- the counts of all events
pub whole_is_full : (c : Computation) (counts : List ℕ) (n : ℕ) → length counts ≡ n → n ≡ length c
    → ((q : ℕ) → q < n → get_or counts q 0 ≡ event_count c q) → counts ≡ full_cut c
whole_is_full c counts n many all each = same_from_sum counts (full_cut c) l (λ p. up p (cases_lt p n)) same
  where
    l : length counts ≡ length (full_cut c)
    l = many ∙ (all ∙ sym (length_full c))

    at : (p : ℕ) → (p < n) ⊎ (n ≤ p) → get_or counts p 0 ≡ get_or (full_cut c) p 0
    at p (inl lt) = each p lt ∙ sym (full_at c p)
    at p (inr le) =
        get_or_past counts p 0 (omega (arith, many, le))
        ∙ sym (get_or_past (full_cut c) p 0 (omega (arith, length_full c, all, le)))

    up : (p : ℕ) → (p < n) ⊎ (n ≤ p) → get_or counts p 0 ≤ get_or (full_cut c) p 0
    up p which = let e = at p which in omega arith

    down : (p : ℕ) → (p < n) ⊎ (n ≤ p) → get_or (full_cut c) p 0 ≤ get_or counts p 0
    down p which = let e = at p which in omega arith

    same : sum counts ≡ sum (full_cut c)
    same =
        let s = sum_le counts (full_cut c) (λ p. up p (cases_lt p n)) l in
        let t = sum_le (full_cut c) counts (λ p. down p (cases_lt p n)) (sym l) in
        omega arith

module _ (c : Computation) where
  -- each is consistent
  pub on_way_consistent : (cut : List ℕ) → IsOnWayBack c cut → IsConsistent c cut
  on_way_consistent cut (full at e) = subst (IsConsistent c) (sym e) (full_consistent c)
  on_way_consistent cut (undone at last p e leaves least on) = subst (IsConsistent c) (sym e) leaves.1

  -- one event less
  fewer : (cut last : List ℕ) (p : ℕ) → cut ≡ one_less last p → LeavesConsistent c last p → sum cut + 1 ≡ sum last
  fewer cut last p e leaves = ap (λ (xs : List ℕ). sum xs + 1) e ∙ sum_less last p leaves.0

  -- from one cut there is one step back
  one_step : (a b last last' : List ℕ) (p q : ℕ) → a ≡ one_less last p → b ≡ one_less last' q
      → LeavesConsistent c last p → LeavesConsistent c last' q → ((k : ℕ) → k < p → ¬ LeavesConsistent c last k)
      → ((k : ℕ) → k < q → ¬ LeavesConsistent c last' k) → last ≡ last' → a ≡ b
  one_step a b last last' p q e e' leaves leaves' least least' above =
      e ∙ (ap (λ (xs : List ℕ). one_less xs p) above ∙ (ap (one_less last') (go (cases_order p q)) ∙ sym e'))
    where
      go : (p ≡ q) ⊎ ((p < q) ⊎ (q < p)) → p ≡ q
      go (inl is) = is
      go (inr (inl less)) =
          absurd (least' p less (subst (λ (xs : List ℕ). LeavesConsistent c xs p) above leaves))
      go (inr (inr more)) =
          absurd (least q more (subst (λ (xs : List ℕ). LeavesConsistent c xs q) (sym above) leaves'))

  -- of each level there is one at most
  pub one_on_way : (a b : List ℕ) → IsOnWayBack c a → IsOnWayBack c b → sum a ≡ sum b → a ≡ b
  one_on_way a b (full at e) (full at' e') same = e ∙ sym e'
  one_on_way a b (full at e) (undone at' last p e' leaves least on) same =
      let le : sum last ≤ total c = sum_within c last (on_way_consistent last on) in
      let more : sum b + 1 ≡ sum last = fewer b last p e' leaves in
      let all : sum a ≡ total c = ap sum e in
      absurd (omega arith)
  one_on_way a b (undone at last p e leaves least on) (full at' e') same =
      let le : sum last ≤ total c = sum_within c last (on_way_consistent last on) in
      let more : sum a + 1 ≡ sum last = fewer a last p e leaves in
      let all : sum b ≡ total c = ap sum e' in
      absurd (omega arith)
  one_on_way a b (undone at last p e leaves least on) (undone at' last' q e' leaves' least' on') same =
      let more : sum a + 1 ≡ sum last = fewer a last p e leaves in
      let more' : sum b + 1 ≡ sum last' = fewer b last' q e' leaves' in
      one_step a b last last' p q e e' leaves leaves' least least' (one_on_way last last' on on' (omega arith))

  -- above the full cut there is none
  pub none_above : (cut : List ℕ) → ¬ IsBackAbove c (total c) cut
  none_above cut (on, more) =
      let le : sum cut ≤ total c = sum_within c cut (on_way_consistent cut on) in omega arith

  -- where no process leaves a consistent cut there is no event
  pub none_leaves_empty : HasNoCycle c → (cut : List ℕ) → IsConsistent c cut → ((p : ℕ) → ¬ LeavesConsistent c cut p)
      → sum cut ≡ 0
  none_leaves_empty acyclic cut ok none = go (cases_lt 0 (sum cut))
    where
      go : (0 < sum cut) ⊎ (sum cut ≤ 0) → sum cut ≡ 0
      go (inr le) = omega arith
      go (inl some) =
          let u : (p : ℕ) × (0 < get_or cut p 0) × IsConsistent c (one_less cut p) = can_undo c acyclic cut ok some in
          absurd (none u.0 (u.1, u.2))

module _ (r : Recorded) (predicate : Predicate) where
  -- nothing is seen yet but the best one
  best_alone : (Seen : List ℕ → Type 0) (best : Option (List ℕ)) → ((cut : List ℕ) → ¬ Seen cut)
      → IfSome best (IsGood r predicate) → IsFirstSeen r predicate (AfterBest best Seen) best
  best_alone Seen None none good = λ cut seen is. go cut seen
    where
      go : (cut : List ℕ) → AfterBest None Seen cut → ⊥
      go cut (inl e) = cc
      go cut (inr seen) = none cut seen
  best_alone Seen (Some least) none good = (inl refl, good, λ other seen is before. go other seen before)
    where
      go : (other : List ℕ) → AfterBest (Some least) Seen other → ¬ ComesBefore other least
      go other (inl e) before =
          let same : least ≡ other = cc in not_before_itself other (subst (ComesBefore other) same before)
      go other (inr seen) before = none other seen

  -- no cut above the full one has been looked at
  pub starts_back : (best : Option (List ℕ)) (cut : List ℕ) → cut ≡ full_cut r.events
      → IfSome best (IsGood r predicate)
      → IsFirstSeen r predicate (AfterBest best (IsBackAbove r.events (sum cut))) best
  starts_back best cut is good =
      best_alone (IsBackAbove r.events (sum cut)) best
      (λ other above. none_above r.events other
      (subst (λ (n : ℕ). IsBackAbove r.events n other) (ap sum is) above)) good

  -- after a look at the cut, those with more events than this one less have been looked at, or all at the last one
  module _ (best found better : Option (List ℕ)) (cut : List ℕ) (on : IsOnWayBack r.events cut)
      (first : IsFirstSeen r predicate (AfterBest best (IsBackAbove r.events (sum cut))) found)
      (then : IsFirstSeen r predicate (AfterBest found (λ other. other ≡ cut)) better)
    where
      both : IsFirstSeen r predicate
          (λ other. AfterBest best (IsBackAbove r.events (sum cut)) other ⊎ (other ≡ cut)) better
      both =
          seen_more r predicate (AfterBest best (IsBackAbove r.events (sum cut))) (λ other. other ≡ cut) found better
          first then

      pub goes_back : (less : ℕ) → less + 1 ≡ sum cut
          → IsFirstSeen r predicate (AfterBest best (IsBackAbove r.events less)) better
      goes_back less is =
          seen_as r predicate (λ other. AfterBest best (IsBackAbove r.events (sum cut)) other ⊎ (other ≡ cut))
          (AfterBest best (IsBackAbove r.events less)) better to from both
        where
          to : (other : List ℕ) → AfterBest best (IsBackAbove r.events (sum cut)) other ⊎ (other ≡ cut)
              → AfterBest best (IsBackAbove r.events less) other
          to other (inl (inl e)) = inl e
          to other (inl (inr (way, more))) = inr (way, omega (arith, is, more))
          to other (inr same) =
              inr (
                subst (IsOnWayBack r.events) (sym same) on,
                (let e : sum other ≡ sum cut = ap sum same in
                    omega (arith, is, e)),
              )

          from : (other : List ℕ) → AfterBest best (IsBackAbove r.events less) other
              → AfterBest best (IsBackAbove r.events (sum cut)) other ⊎ (other ≡ cut)
          from other (inl e) = inl (inl e)
          from other (inr (way, more)) = pick (cases_lt (sum cut) (sum other))
            where
              pick : (sum cut < sum other) ⊎ (sum other ≤ sum cut)
                  → AfterBest best (IsBackAbove r.events (sum cut)) other ⊎ (other ≡ cut)
              pick (inl above) = inl (inr (way, above))
              pick (inr le) = inr (one_on_way r.events other cut way on (omega (arith, is, more, le)))

      pub ends_back : sum cut ≡ 0 → IsFirstSeen r predicate (AfterBest best (IsOnWayBack r.events)) better
      ends_back none =
          seen_as r predicate (λ other. AfterBest best (IsBackAbove r.events (sum cut)) other ⊎ (other ≡ cut))
          (AfterBest best (IsOnWayBack r.events)) better to from both
        where
          to : (other : List ℕ) → AfterBest best (IsBackAbove r.events (sum cut)) other ⊎ (other ≡ cut)
              → AfterBest best (IsOnWayBack r.events) other
          to other (inl (inl e)) = inl e
          to other (inl (inr (way, more))) = inr way
          to other (inr same) = inr (subst (IsOnWayBack r.events) (sym same) on)

          from : (other : List ℕ) → AfterBest best (IsOnWayBack r.events) other
              → AfterBest best (IsBackAbove r.events (sum cut)) other ⊎ (other ≡ cut)
          from other (inl e) = inl (inl e)
          from other (inr way) = pick (cases_lt (sum cut) (sum other))
            where
              pick : (sum cut < sum other) ⊎ (sum other ≤ sum cut)
                  → AfterBest best (IsBackAbove r.events (sum cut)) other ⊎ (other ≡ cut)
              pick (inl above) = inl (inr (way, above))
              pick (inr le) = inr (one_on_way r.events other cut way on (omega (arith, none, le)))
