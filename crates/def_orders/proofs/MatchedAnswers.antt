-- Two runs of which the same is seen have the same answers: the first one is reduced to the second.
use Rattle.std.proofs.Common.{◌≡◌, ℕ, ◌<◌, ◌≤◌, Bool, List, [], ◌∷◌, length, get_or, take, take_all, ℤ, Contains, refl, sym, ap, ◌∙◌, subst, inl, inr, ◌⊎◌, ◌↔◌, arith}
use Rattle.std.specs.Prelude.{slice_get}
use Rattle.std.proofs.lemmas.Bool.{cases_lt}
use Rattle.std.proofs.lemmas.List.{get_or_past}
use Rattle.def_model.specs.Events.{Place}
use Rattle.def_model.specs.Cuts.{empty_cut, full_cut}
use Rattle.def_model.specs.Observations.{Definitely, Possibly}
use Rattle.def_model.specs.Predicates.{Sign, Term, Number, Variable, Times, Predicate, Always, Never, Compare, Not, And, Or, Recorded, last_set_if_there, test_of}
use Rattle.def_long.specs.Reductions.{IsReduction}
use Rattle.def_long.specs.Renamed.{HaveValuesOf, SeesTheSameIn, renamed, renamed_sum}
use Rattle.def_long.specs.Views.{value_after}
use Rattle.def_long.specs.Windows.{PossiblyIn, whole}
use Rattle.def_long.proofs.Reduced.{definitely_of_reduction, possibly_of_reduction}
use Rattle.def_long.proofs.RenamedViews.{same_views_reduce}
use Rattle.def_long.proofs.WindowCuts.{possibly_in_whole, run_is_window}
use Rattle.def_orders.specs.Orders.{IsOver, ProcessOrder, SumIsOver}
use Rattle.def_orders.proofs.KeptImages.{have_same_events, is_listed}
use Rattle.def_orders.proofs.OrdersAlike.{AreMatched, orders_alike, orders_worth}
use Rattle.def_orders.proofs.SameValues.{AreFar, named_at, same_value_far}

-- a process that isn't there has the values of the beginning
value_of_none : (r : Recorded) (m p v : ℕ) → length r.events ≤ p
    → value_after r m p v ≡ last_set_if_there v (slice_get (get_or r.initial p []) v) []
value_of_none r m p v past =
    ap (last_set_if_there v (slice_get (get_or r.initial p []) v))
    (ap (take m) (get_or_past r.events p [] past) ∙ take_all m [] (omega arith))

-- ---- what a predicate sees where both runs have come equally far

module _ (r r' : Recorded) (to from : ℕ → ℕ) (named named' : List (List ℕ)) (order order' : List ProcessOrder)
    (matched : AreMatched r r' to from named named' order order') (p m n : ℕ)
    (far : AreFar r r' to matched.first.numbers matched.second.numbers p m n) where
  same_value_here : (v : ℕ) → (to p < length named' → Contains (get_or named' (to p) []) v)
      → value_after r m p v ≡ value_after r' n (to p) v
  same_value_here v is_seen = go (cases_lt p (length r.events))
    where
      go : (p < length r.events) ⊎ (length r.events ≤ p) → value_after r m p v ≡ value_after r' n (to p) v
      go (inl there) =
          let long : length named' ≡ length r'.events = matched.second.all_named in
          let low : to p < length r'.events = matched.there p there in
          same_value_far r r' to from named named' matched.first.numbers matched.second.numbers
          (orders_alike r r' to from named named' order order' matched)
          (orders_worth r r' to from named named' order order' matched) p m n far v
          (subst (λ (vars : List ℕ). Contains vars v) (matched.same_names p there) (is_seen (omega arith)))
      go (inr past) =
          value_of_none r m p v past
          ∙ (ap (λ (values : List ℤ). last_set_if_there v (slice_get values v) []) (matched.same_initial p past)
          ∙ sym (value_of_none r' n (to p) v (matched.past p past)))

  -- the same of a process that is this one
  same_value_at : (q v : ℕ) → (to q < length named' → Contains (get_or named' (to q) []) v) → q ≡ p
      → value_after r m q v ≡ value_after r' n (to q) v
  same_value_at q v is_seen at =
      subst (λ (x : ℕ). (to x < length named' → Contains (get_or named' (to x) []) v)
      → value_after r m x v ≡ value_after r' n (to x) v) (sym at) (same_value_here v) is_seen

  same_values_of : (sum : List (Sign × Term)) → SumIsOver named' (renamed_sum (named_at to) sum)
      → HaveValuesOf r m r' n (named_at to) p sum
  same_values_of [] over = tt
  same_values_of ((sign, Number k) ∷ rest) over = (tt, same_values_of rest over.1)
  same_values_of ((sign, Variable q v) ∷ rest) over = (same_value_at q v over.0, same_values_of rest over.1)
  same_values_of ((sign, Times k q v) ∷ rest) over = (same_value_at q v over.0, same_values_of rest over.1)

  sees_the_same : (predicate : Predicate) → IsOver named' (renamed (named_at to) predicate)
      → SeesTheSameIn r m r' n (named_at to) p predicate
  sees_the_same Always over = tt
  sees_the_same Never over = tt
  sees_the_same (Compare left comparison right) over = inr (same_values_of left over.0, same_values_of right over.1)
  sees_the_same (Not inner) over = sees_the_same inner over
  sees_the_same (And left right) over = (sees_the_same left over.0, sees_the_same right over.1)
  sees_the_same (Or left right) over = (sees_the_same left over.0, sees_the_same right over.1)

-- ---- the answers

module _ (r r' : Recorded) (to from : ℕ → ℕ) (named named' : List (List ℕ)) (order order' : List ProcessOrder)
    (predicate predicate' : Predicate) (matched : AreMatched r r' to from named named' order order')
    (over : IsOver named' predicate') (names : renamed (named_at to) predicate ≡ predicate') where
  abbrev Kept : Place → Bool
  Kept = is_listed matched.first.numbers

  abbrev Kept' : Place → Bool
  Kept' = is_listed matched.second.numbers

  is_reduction : IsReduction (whole r.events) Kept (test_of r predicate) (whole r'.events) Kept' (test_of r' predicate')
  unfolding have_same_events
  is_reduction =
      subst (λ (x : Predicate).
      IsReduction (whole r.events) Kept (test_of r predicate) (whole r'.events) Kept' (test_of r' x)) names
      (same_views_reduce r r' predicate (named_at to) (empty_cut r.events) (full_cut r.events) (empty_cut r'.events)
      (full_cut r'.events) Kept Kept'
      (have_same_events r r' to from named named' matched.first.numbers matched.second.numbers
      (orders_alike r r' to from named named' order order' matched)) (λ e is. refl)
      (λ p m n far. sees_the_same r r' to from named named' order order' matched p m n far predicate
      (subst (IsOver named') (sym names) over)))

  pub possibly_of_matched : Possibly r.events (test_of r predicate) ↔ Possibly r'.events (test_of r' predicate')
  possibly_of_matched = (
    λ h. (possibly_in_whole r'.events (test_of r' predicate')).1
        (both.0 ((possibly_in_whole r.events (test_of r predicate)).0 h)),
    λ h. (possibly_in_whole r.events (test_of r predicate)).1
        (both.1 ((possibly_in_whole r'.events (test_of r' predicate')).0 h)),
  )
    where
      both : PossiblyIn (whole r.events) (test_of r predicate) ↔ PossiblyIn (whole r'.events) (test_of r' predicate')
      both =
          possibly_of_reduction (whole r.events) (whole r'.events) Kept Kept' (test_of r predicate)
          (test_of r' predicate') (run_is_window r.events matched.no_cycle) (run_is_window r'.events matched.no_cycle')
          is_reduction

  pub definitely_of_matched : Definitely r.events (test_of r predicate)
      ↔ Definitely r'.events (test_of r' predicate')
  definitely_of_matched =
      definitely_of_reduction (whole r.events) (whole r'.events) Kept Kept' (test_of r predicate)
      (test_of r' predicate') (run_is_window r.events matched.no_cycle) (run_is_window r'.events matched.no_cycle')
      is_reduction
