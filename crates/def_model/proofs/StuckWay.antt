-- The way back from the least stuck event to a causal cycle.
use Rattle.std.proofs.Common.{◌≡◌, ◌≢◌, ℕ, ◌+◌, ◌<◌, ◌≤◌, ◌⊎◌, inl, inr, List, [], ◌∷◌, ◌++◌, length, get_or, take, drop, Some, All, refl, sym, ap, ◌∙◌, subst, arith, drop-cons}
use Rattle.std.proofs.lemmas.Bool.{cases_lt}
use Rattle.std.proofs.lemmas.List.{length_push, take-append-drop}
use Rattle.std.proofs.lemmas.List.Elements.{All-push, All-nil}
use Rattle.std.proofs.lemmas.List.Quantifiers.{all_pairs_push}
use Rattle.def_model.specs.Events as events
use Rattle.def_model.specs.Events.{Computation, IsEvent, Linked, first_of}
use Rattle.def_model.specs.Order.{IsStuck, IsFirstStuck, IsLeastStuck, GoesBackTo, HasEachProcessOnce, IsReportedCycle}
use Rattle.def_model.proofs.Chains.{events_of_happens}
use Rattle.def_model.proofs.Consistency.{process_in_range}
use Rattle.def_model.proofs.Lists.{linked_push, last_of_push, first_of_push}
use Rattle.def_model.proofs.Pigeonhole.{two_equal}
use Rattle.def_model.proofs.Stuck.{one_first_stuck}

-- ---- the first stuck event of a process

pub stuck_event : (c : Computation) (e : events.Place) → IsStuck c e → IsEvent c e
stuck_event c e (f, cycle, h) = (events_of_happens c f e h).1

-- ---- the places taken

-- from the first place one has gone back over those that are taken, and stands here
pub record IsWay (c : Computation) (first : events.Place) (taken : List events.Place) (here : events.Place) :
    Type 0 where
  pub stuck : IsFirstStuck c here
  pub each : All (IsFirstStuck c) taken
  pub begins : first_of (taken ++ here ∷ []) ≡ Some first
  pub steps : Linked (GoesBackTo c) (taken ++ here ∷ [])
  pub once : HasEachProcessOnce taken

abbrev pub IsNew : List events.Place → events.Place → Type 0
IsNew taken here = All (λ (e : events.Place). e.process ≢ here.process) taken

pub way_start : (c : Computation) (first : events.Place) → IsFirstStuck c first → IsWay c first [] first
way_start c first stuck = record {
  stuck = stuck;
  each = All-nil (IsFirstStuck c);
  begins = refl;
  steps = tt;
  once = λ i j d lt within. absurd (omega arith);
}

once_more : (taken : List events.Place) (here : events.Place) → HasEachProcessOnce taken → IsNew taken here
    → HasEachProcessOnce (taken ++ here ∷ [])
once_more taken here once new =
    all_pairs_push (λ (e f : events.Place). e.process ≢ f.process) taken here once new

pub way_more : (c : Computation) (first : events.Place) (taken : List events.Place) (here next : events.Place)
    → IsWay c first taken here → IsNew taken here → GoesBackTo c here next → IsWay c first (taken ++ here ∷ []) next
way_more c first taken here next way new back = record {
  stuck = back.0;
  each = All-push (IsFirstStuck c) taken here way.each way.stuck;
  begins = first_of_push (taken ++ here ∷ []) first next way.begins;
  steps = linked_push (GoesBackTo c) (taken ++ here ∷ []) here next way.steps (last_of_push taken here) back;
  once = once_more taken here way.once new;
}

-- there are no more places on the way than processes
pub way_short : (c : Computation) (first : events.Place) (taken : List events.Place) (here : events.Place)
    → IsWay c first taken here → IsNew taken here → length taken < length c
way_short c first taken here way new = go (cases_lt (length taken) (length c))
  where
    all : All (IsFirstStuck c) (taken ++ here ∷ [])
    all = All-push (IsFirstStuck c) taken here way.each way.stuck

    count : length (taken ++ here ∷ []) ≡ length taken + 1
    count = length_push taken here

    clash : length c ≤ length taken → ⊥
    clash le =
        let w : (i : ℕ) × (j : ℕ) × (i < j) × (j ≤ length c)
        × ((get_or (taken ++ here ∷ []) i here).process ≡ (get_or (taken ++ here ∷ []) j here).process) =
        two_equal (length c) (λ i. (get_or (taken ++ here ∷ []) i here).process) (λ i few.
        process_in_range c (get_or (taken ++ here ∷ []) i here)
        (stuck_event c (get_or (taken ++ here ∷ []) i here) (all i here (omega (arith, count))).0)) in
        let less : w.0 < w.1 = w.2 in
        let few : w.1 ≤ length c = w.3 in
        once_more taken here way.once new w.0 w.1 here less (omega (arith, count)) w.4

    go : (length taken < length c) ⊎ (length c ≤ length taken) → length taken < length c
    go (inl lt) = lt
    go (inr le) = absurd (clash le)

-- ---- the cycle

first_of_prefix : (xs : List events.Place) (x y : events.Place) → 0 < length xs → first_of (xs ++ y ∷ []) ≡ Some x
    → first_of xs ≡ Some x
first_of_prefix [] x y some e = absurd (omega arith)
first_of_prefix (z ∷ xs) x y some e = e

pub way_back : (c : Computation) (first : events.Place) (taken : List events.Place) (here : events.Place) (k : ℕ)
    → IsLeastStuck c first → IsWay c first taken here → k < length taken → (get_or taken k here).process ≡ here.process
    → IsReportedCycle c (drop k taken)
way_back c first taken here k least way lt process = record {
  before = take k taken;
  start = here;
  starts = ap first_of (drop-cons taken k here lt) ∙ ap (λ (e : events.Place). Some e) same;
  first = first;
  begins = ap first_of whole ∙ first_of_prefix taken first here (omega arith) way.begins;
  least = least;
  steps = subst (λ (xs : List events.Place). Linked (GoesBackTo c) (xs ++ here ∷ [])) (sym whole) way.steps;
  once = subst HasEachProcessOnce (sym whole) way.once;
}
  where
    same : get_or taken k here ≡ here
    same = one_first_stuck c (get_or taken k here) here process (way.each k here lt) way.stuck

    whole : take k taken ++ drop k taken ≡ taken
    whole = take-append-drop k taken
