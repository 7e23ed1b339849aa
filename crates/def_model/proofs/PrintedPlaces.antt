-- The places and processes that a fault, a cycle or a path speaks of are there, and no number in an answer is large.
use Rattle.std.proofs.Common.{◌≡◌, ℕ, zero, suc, ◌+◌, ◌<◌, ◌≤◌, Bool, List, [], ◌∷◌, ◌++◌, length, reverse, Some, refl, sym, subst, ◌∙◌, arith}
use Rattle.std.specs.List.{AllByRecursion}
use Rattle.std.proofs.lemmas.List.{length-set, reverse-append}
use Rattle.def_model.specs.Events.{Computation, Place, IsEvent, Event, Linked, first_of, event_count}
use Rattle.def_model.specs.Messages.{Version, Fault, SendTwice, Orphan, SelfMessage, ReceivedTwice, IsReported}
use Rattle.def_model.specs.Order.{IsStuck, GoesBackTo, IsReportedCycle}
use Rattle.def_model.specs.Cuts.{full_cut, one_less, total}
use Rattle.def_model.specs.Answers.{IsUndoing, IsPrintedPath, IsPossiblyAnswer, PossiblyUnknown, IsDefinitelyAnswer, DefinitelyYes, DefinitelyUnknown}
use Rattle.def_model.specs.Observations.{IsAvoiding}
use Rattle.def_model.specs.Cuts.{IsOfLevel}
use Rattle.def_model.proofs.Chains.{event_from_kind, events_of_happens}
use Rattle.def_model.proofs.Counts.{in_range, length_full}
use Rattle.def_model.proofs.Lists.{first_of_push}
use Rattle.def_model.proofs.LevelLists.{last_level}
use Rattle.def_model.proofs.Paths.{avoiding_level}
use Rattle.def_model.proofs.WalkSteps.{some_of}

-- ---- lists

pub all_later : {A : Type 0} (P : A → Type 0) (xs ys : List A) → AllByRecursion P (xs ++ ys) → AllByRecursion P ys
all_later P [] ys all = all
all_later P (x ∷ xs) ys all = all_later P xs ys all.1

pub all_earlier : {A : Type 0} (P : A → Type 0) (xs ys : List A) → AllByRecursion P (xs ++ ys) → AllByRecursion P xs
all_earlier P [] ys all = tt
all_earlier P (x ∷ xs) ys all = (all.0, all_earlier P xs ys all.1)

pub all_reversed : {A : Type 0} (P : A → Type 0) (xs : List A) → AllByRecursion P (reverse xs) → AllByRecursion P xs
all_reversed P [] all = tt
all_reversed P (x ∷ xs) all =
    let turned : AllByRecursion P (reverse xs ++ x ∷ []) = subst (AllByRecursion P) (reverse-append (x ∷ []) xs) all in
    ((all_later P (reverse xs) (x ∷ []) turned).0, all_reversed P xs (all_earlier P (reverse xs) (x ∷ []) turned))

-- ---- paths

undone_processes : (c : Computation) (test : List ℕ → Bool) (n : ℕ) (cut path : List ℕ) → length cut ≡ n
    → IsUndoing c test cut path → AllByRecursion (λ p. p < n) path
undone_processes c test n cut [] e undone = tt
undone_processes c test n cut (p ∷ rest) e undone =
    let lt : p < length cut = in_range cut p undone.0.0 in (
      omega arith,
      undone_processes c test n (one_less cut p) rest (length-set cut p _ ∙ e) undone.2,
    )

-- the processes of a printed path are there
pub path_processes : (c : Computation) (test : List ℕ → Bool) (path : List ℕ) → IsPrintedPath c test path
    → AllByRecursion (λ p. p < length c) path
path_processes c test path printed =
    all_reversed (λ p. p < length c) path
    (undone_processes c test (length c) (full_cut c) (reverse path) (length_full c) printed.1)

-- ---- faults and cycles

-- the place that a fault speaks of
abbrev pub place_of_fault : Fault → Place
place_of_fault (SendTwice e) = e
place_of_fault (Orphan e) = e
place_of_fault (SelfMessage e) = e
place_of_fault (ReceivedTwice e) = e

-- it is an event's
pub fault_is_event : (version : Version) (c : Computation) (fault : Fault) → IsReported version c fault
    → IsEvent c (place_of_fault fault)
fault_is_event version c (SendTwice e) r = event_from_kind c e _ r.0.2
fault_is_event version c (Orphan e) r = event_from_kind c e _ r.2.1
fault_is_event version c (SelfMessage e) r = event_from_kind c e _ r.3.2
fault_is_event version c (ReceivedTwice e) r = event_from_kind c e _ r.4.2

stuck_is_event : (c : Computation) (e : Place) → IsStuck c e → IsEvent c e
stuck_is_event c e stuck = (events_of_happens c stuck.0 e stuck.2).1

linked_events : (c : Computation) (places : List Place) (first : Place) → first_of places ≡ Some first → IsEvent c first
    → Linked (GoesBackTo c) places → AllByRecursion (IsEvent c) places
linked_events c [] first e is linked = absurd (cc)
linked_events c (x ∷ []) first e is linked =
    let same : x ≡ first = cc in (subst (IsEvent c) (sym same) is, tt)
linked_events c (x ∷ y ∷ rest) first e is linked =
    let same : x ≡ first = cc in (
      subst (IsEvent c) (sym same) is,
      linked_events c (y ∷ rest) y refl (stuck_is_event c y linked.0.0.0) linked.1,
    )

-- the places of a reported cycle are those of events
pub cycle_events : (c : Computation) (cycle : List Place) → IsReportedCycle c cycle → AllByRecursion (IsEvent c) cycle
cycle_events c cycle r =
    let all : AllByRecursion (IsEvent c) (r.before ++ cycle ++ r.start ∷ []) =
    linked_events c (r.before ++ cycle ++ r.start ∷ []) r.first
    (first_of_push (r.before ++ cycle) r.first r.start r.begins) (stuck_is_event c r.first r.least.0.0) r.steps in
    all_later (IsEvent c) r.before cycle (all_earlier (IsEvent c) (r.before ++ cycle) (r.start ∷ []) all)

-- ---- numbers

-- no process has more events than this
abbrev pub AreShort : ℕ → Computation → Type 0
AreShort most c = AllByRecursion (λ (events : List Event). length events ≤ most) c

pub count_is_short : (most : ℕ) (c : Computation) → AreShort most c → (p : ℕ) → event_count c p ≤ most
count_is_short most [] short p = omega arith
count_is_short most (events ∷ c) short zero = short.0
count_is_short most (events ∷ c) short (suc p) = count_is_short most c short.1 p

pub unknown_level : (c : Computation) (test : List ℕ → Bool) (w k : ℕ) → IsPossiblyAnswer c test w (PossiblyUnknown k)
    → k ≤ total c
unknown_level c test w k u =
    let cut = some_of (IsOfLevel c k) w u.wide in last_level c k cut.0 cut.1

pub unknown_avoiding_level : (c : Computation) (test : List ℕ → Bool) (w k : ℕ)
    → IsDefinitelyAnswer c test w (DefinitelyUnknown k) → k ≤ total c
unknown_avoiding_level c test w k u =
    let cut = some_of (IsAvoiding c test k) w u.wide in last_level c k cut.0 (avoiding_level c test k cut.0 cut.1)

pub free_level : (c : Computation) (test : List ℕ → Bool) (w k : ℕ) → IsDefinitelyAnswer c test w (DefinitelyYes k)
    → k ≤ total c + 1
free_level c test w zero yes' = omega arith
free_level c test w (suc k) yes' =
    let cut = yes'.2.below k (omega arith) in
    let le : k ≤ total c = last_level c k cut.0 (avoiding_level c test k cut.0 cut.1) in
    omega arith
