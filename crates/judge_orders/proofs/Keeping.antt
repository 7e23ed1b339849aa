-- One event after another is kept, or isn't.
use Rattle.std.proofs.Common.{◌≡◌, ◌≢◌, ◌+◌, ◌<◌, ◌≤◌, ◌⊎◌, inl, inr, ℕ, ℤ, pos, List, [], ◌∷◌, ◌++◌, get_or, length, take, refl, sym, ap, ◌∙◌, subst, arith}
use Rattle.std.specs.Prelude.{Contains}
use Rattle.std.proofs.lemmas.Bool.{cases_lt}
use Rattle.std.proofs.lemmas.List.{get_or-map}
use Rattle.std.proofs.lemmas.List.Elements.{All-push, Contains-append_left, Contains-push, Contains-push_cases}
use Rattle.std.proofs.lemmas.List.Quantifiers.{all_pairs_push}
use Rattle.def_long.specs.Views.{value_after}
use Rattle.def_model.specs.Events.{IsEvent, event_count, place}
use Rattle.def_model.specs.Predicates.{Recorded}
use Rattle.def_orders.specs.Orders.{AreKept, values_after}
use Rattle.judge_orders.specs.KeptEvents.{AllAscend, AllKept, AreKeptUpTo}
use Rattle.judge_orders.proofs.Places.{map_more}

pub values_more : (r : Recorded) (p : ℕ) (vars : List ℕ) (n i d : ℕ) → i < length vars
    → values_after r p (take (i + 1) vars) n ≡ values_after r p (take i vars) n
    ++ value_after r n p (get_or vars i d) ∷ []
values_more r p vars n i d lt = map_more (λ (v : ℕ). value_after r n p v) vars i d lt

-- one variable with another value
pub values_differ : (r : Recorded) (p : ℕ) (vars : List ℕ) (m n i d : ℕ) → i < length vars
    → value_after r m p (get_or vars i d) ≢ value_after r n p (get_or vars i d)
    → values_after r p vars m ≢ values_after r p vars n
values_differ r p vars m n i d lt differ same =
    differ (sym (get_or-map (λ (v : ℕ). value_after r m p v) vars i d (pos 0) lt)
    ∙ (ap (λ (values : List ℤ). get_or values i (pos 0)) same
    ∙ get_or-map (λ (v : ℕ). value_after r n p v) vars i d (pos 0) lt))

pub kept_none : (r : Recorded) (p : ℕ) (vars : List ℕ) → AreKeptUpTo r p vars [] 0
kept_none r p vars = record {
  ascend = λ i j d before lt. absurd (omega (arith, lt));
  events = λ i d lt. absurd (omega (arith, lt));
  within = λ i d lt. absurd (omega (arith, lt));
  changes = λ n (i, within, at). absurd (omega (arith, within));
  others = λ n lt unkept. absurd (omega (arith, lt));
}

-- the next event sets a variable to another value
pub kept_more : (r : Recorded) (p : ℕ) (vars numbers : List ℕ) (k : ℕ) → AreKeptUpTo r p vars numbers k
    → k < event_count r.events p → values_after r p vars k ≢ values_after r p vars (k + 1)
    → AreKeptUpTo r p vars (numbers ++ (k + 1) ∷ []) (k + 1)
kept_more r p vars numbers k known lt differ = record {
  ascend = all_pairs_push (λ (m n : ℕ). m < n) numbers (k + 1) known.ascend (λ i d in_numbers.
      omega (arith, known.within i d in_numbers));
  events = All-push (λ (n : ℕ). IsEvent r.events (place p n)) numbers (k + 1) known.events
      (omega arith, omega (arith, lt));
  within = All-push (λ (n : ℕ). n ≤ k + 1) numbers (k + 1) (λ i d in_numbers.
      omega (arith, known.within i d in_numbers)) (omega arith);
  changes = λ n has. changes n (Contains-push_cases numbers (k + 1) (n + 1) has);
  others = λ n less unkept. go n less unkept (cases_lt n k);
}
  where
    changes : (n : ℕ) → Contains numbers (n + 1) ⊎ (k + 1 ≡ n + 1)
        → values_after r p vars n ≢ values_after r p vars (n + 1)
    changes n (inl before) = known.changes n before
    changes n (inr last) =
        let is : k ≡ n = omega (arith, last) in
        subst (λ (m : ℕ). values_after r p vars m ≢ values_after r p vars (m + 1)) is differ

    go : (n : ℕ) → n < k + 1 → (¬ Contains (numbers ++ (k + 1) ∷ []) (n + 1)) → (n < k) ⊎ (k ≤ n)
        → values_after r p vars n ≡ values_after r p vars (n + 1)
    go n less unkept (inl before) =
        known.others n before (λ has. unkept (Contains-append_left numbers ((k + 1) ∷ []) (n + 1) has))
    go n less unkept (inr ge) =
        let same : k + 1 ≡ n + 1 = omega (arith, less, ge) in
        absurd (unkept (subst (Contains (numbers ++ (k + 1) ∷ [])) same (Contains-push numbers (k + 1))))

-- the next event leaves the variables as they were
pub kept_same : (r : Recorded) (p : ℕ) (vars numbers : List ℕ) (k : ℕ) → AreKeptUpTo r p vars numbers k
    → values_after r p vars k ≡ values_after r p vars (k + 1) → AreKeptUpTo r p vars numbers (k + 1)
kept_same r p vars numbers k known same = record {
  ascend = known.ascend;
  events = known.events;
  within = λ i d lt. omega (arith, known.within i d lt);
  changes = known.changes;
  others = λ n less unkept. go n less unkept (cases_lt n k);
}
  where
    go : (n : ℕ) → n < k + 1 → (¬ Contains numbers (n + 1)) → (n < k) ⊎ (k ≤ n)
        → values_after r p vars n ≡ values_after r p vars (n + 1)
    go n less unkept (inl before) = known.others n before unkept
    go n less unkept (inr ge) =
        let is : k ≡ n = omega (arith, less, ge) in
        subst (λ (m : ℕ). values_after r p vars m ≡ values_after r p vars (m + 1)) is same

-- each event was looked at
pub kept_all : (r : Recorded) (p : ℕ) (vars numbers : List ℕ) (k : ℕ) → AreKeptUpTo r p vars numbers k
    → event_count r.events p ≤ k → AreKept r p vars numbers
kept_all r p vars numbers k known le = record {
  ascend = known.ascend;
  events = known.events;
  changes = known.changes;
  others = λ n lt unkept. known.others n (omega (arith, lt, le)) unkept;
}

-- no variable is seen
pub kept_unseen : (r : Recorded) (p : ℕ) (vars : List ℕ) → length vars ≡ 0 → AreKept r p vars []
kept_unseen r p [] none = record {
  ascend = λ i j d before lt. absurd (omega (arith, lt));
  events = λ i d lt. absurd (omega (arith, lt));
  changes = λ n (i, within, at). absurd (omega (arith, within));
  others = λ n lt unkept. refl;
}
kept_unseen r p (v ∷ vars) none = absurd (omega (arith, none))

-- the kept events of each process ascend
pub all_ascend : (r : Recorded) (named numbers : List (List ℕ)) → length numbers ≡ length r.events
    → AllKept r named numbers (length r.events) → AllAscend numbers
all_ascend r named numbers many kept = λ p lt. (kept p (omega (arith, many, lt))).ascend
