-- Avoiding cuts by recursion on the level, from a walk and back.
use Rattle.std.proofs.Common.{◌≡◌, ℕ, zero, suc, ◌+◌, ◌<◌, ◌≤◌, Bool, false, List, [], ◌∷◌, ◌++◌, length, get_or, sum, Some, refl, ap, ◌∙◌, subst, arith}
use Rattle.std.proofs.lemmas.List.{length_push}
use Rattle.std.proofs.lemmas.List.Elements.{All-push, All-cons, All-nil}
use Rattle.def_model.specs.Events.{Computation, first_of}
use Rattle.def_model.specs.Cuts.{IsConsistent, AddsEvent, one_less, empty_cut}
use Rattle.def_model.specs.Observations.{IsWalk, IsAvoiding}
use Rattle.def_model.proofs.Decisions.{dec_both, dec_less, dec_some, dec_list, dec_false}
use Rattle.def_model.proofs.Lists.{linked_at, linked_push, last_of_push, first_of_push, at_first, at_last}
use Rattle.def_model.proofs.Counts.{step_back, step_from_less, sum_empty, sum_less}
use Rattle.def_model.proofs.Consistency.{dec_consistent}

-- a walk that goes on by one event
pub walk_push : (c : Computation) (from to next : List ℕ) (cuts : List (List ℕ)) → IsWalk c from cuts to
    → IsConsistent c next → AddsEvent to next → IsWalk c from (cuts ++ next ∷ []) next
walk_push c from to next cuts w ok adds =
    record {
      begins = first_of_push cuts from next w.begins;
      ends = last_of_push cuts next;
      steps = linked_push AddsEvent cuts to next w.steps w.ends adds;
      consistent = All-push (IsConsistent c) cuts next w.consistent ok;
    }

pub walk_start : (c : Computation) (from : List ℕ) → IsConsistent c from → IsWalk c from (from ∷ []) from
walk_start c from ok =
    record {
      begins = refl;
      ends = refl;
      steps = tt;
      consistent = All-cons (IsConsistent c) from [] ok (All-nil (IsConsistent c));
    }

-- An avoiding cut of level k, by recursion on k.
abbrev pub Reached : Computation → (List ℕ → Bool) → ℕ → List ℕ → Type 0
Reached c test zero cut = IsConsistent c cut × (test cut ≡ false) × (cut ≡ empty_cut c)
Reached c test (suc k) cut =
    IsConsistent c cut × (test cut ≡ false)
    × ((p : ℕ) × (p < length cut) × ((0 < get_or cut p 0) × Reached c test k (one_less cut p)))

pub dec_reached : (c : Computation) (test : List ℕ → Bool) (k : ℕ) (cut : List ℕ) → Dec (Reached c test k cut)
dec_reached c test zero cut = join (dec_consistent c cut) (dec_false (test cut)) (dec_list cut (empty_cut c))
  where
    join : Dec (IsConsistent c cut) → Dec (test cut ≡ false) → Dec (cut ≡ empty_cut c)
        → Dec (IsConsistent c cut × (test cut ≡ false) × (cut ≡ empty_cut c))
    join (yes a) (yes b) (yes d) = yes (a, b, d)
    join (no h) b d = no (λ w. h w.0)
    join (yes a) (no h) d = no (λ w. h w.1)
    join (yes a) (yes b) (no h) = no (λ w. h w.2)
dec_reached c test (suc k) cut =
    join (dec_consistent c cut) (dec_false (test cut))
    (dec_some (λ p. (0 < get_or cut p 0) × Reached c test k (one_less cut p))
    (λ p. dec_both (dec_less 0 (get_or cut p 0)) (dec_reached c test k (one_less cut p))) (length cut))
  where
    Back : Type 0
    Back = (p : ℕ) × (p < length cut) × ((0 < get_or cut p 0) × Reached c test k (one_less cut p))

    join : Dec (IsConsistent c cut) → Dec (test cut ≡ false)
        → Dec ((p : ℕ) × (p < length cut) × ((0 < get_or cut p 0) × Reached c test k (one_less cut p)))
        → Dec (IsConsistent c cut × (test cut ≡ false)
        × ((p : ℕ) × (p < length cut) × ((0 < get_or cut p 0) × Reached c test k (one_less cut p))))
    join (yes a) (yes b) (yes d) = yes (a, b, d)
    join (no h) b d = no (λ w. h w.0)
    join (yes a) (no h) d = no (λ w. h w.1)
    join (yes a) (yes b) (no h) = no (λ w. h w.2)

pub reached_consistent : (c : Computation) (test : List ℕ → Bool) (k : ℕ) (cut : List ℕ) → Reached c test k cut
    → IsConsistent c cut
reached_consistent c test zero cut r = r.0
reached_consistent c test (suc k) cut r = r.0

pub reached_fails : (c : Computation) (test : List ℕ → Bool) (k : ℕ) (cut : List ℕ) → Reached c test k cut
    → test cut ≡ false
reached_fails c test zero cut r = r.1
reached_fails c test (suc k) cut r = r.1

pub reached_level : (c : Computation) (test : List ℕ → Bool) (k : ℕ) (cut : List ℕ) → Reached c test k cut → sum cut ≡ k
reached_level c test zero cut r = ap sum r.2 ∙ sum_empty c
reached_level c test (suc k) cut (ok, fails, (p, lt, (has, back))) =
    let a : sum (one_less cut p) ≡ k = reached_level c test k (one_less cut p) back in
    let b : sum (one_less cut p) + 1 ≡ sum cut = sum_less cut p has in
    omega arith

-- one step more
pub reached_more : (c : Computation) (test : List ℕ → Bool) (k : ℕ) (old new : List ℕ) → Reached c test k old
    → AddsEvent old new → IsConsistent c new → test new ≡ false → Reached c test (suc k) new
reached_more c test k old new r adds ok fails =
    let b : (p : ℕ) × (p < length new) × (0 < get_or new p 0) × (old ≡ one_less new p) = step_back old new adds in
    (ok, fails, (b.0, b.1, (b.2, subst (λ (x : List ℕ). Reached c test k x) b.3 r)))

-- the cuts of a walk from the empty cut are reached, as long as none satisfies
pub walk_reached : (c : Computation) (test : List ℕ → Bool) (cuts : List (List ℕ)) (to : List ℕ)
    → IsWalk c (empty_cut c) cuts to → (j : ℕ) → j < length cuts → ((i : ℕ) → i ≤ j → test (get_or cuts i []) ≡ false)
    → Reached c test j (get_or cuts j [])
walk_reached c test cuts to w zero lt fail =
    (w.consistent zero [] lt, fail zero (omega arith), (at_first cuts (empty_cut c) [] w.begins).0)
walk_reached c test cuts to w (suc j) lt fail =
    reached_more c test j (get_or cuts j []) (get_or cuts (suc j) [])
    (walk_reached c test cuts to w j (omega arith) (λ i le. fail i (omega arith)))
    (linked_at AddsEvent cuts w.steps j [] lt) (w.consistent (suc j) [] lt) (fail (suc j) (omega arith))

-- the cut at place j of a walk from the empty cut has j events
pub walk_level : (c : Computation) (cuts : List (List ℕ)) (to : List ℕ) → IsWalk c (empty_cut c) cuts to → (j : ℕ)
    → j < length cuts → sum (get_or cuts j []) ≡ j
walk_level c cuts to w j lt =
    reached_level c (λ x. false) j (get_or cuts j []) (walk_reached c (λ x. false) cuts to w j lt (λ i le. refl))

-- a walk has one cut more than its last one has events
pub walk_length : (c : Computation) (cuts : List (List ℕ)) (to : List ℕ) → IsWalk c (empty_cut c) cuts to
    → length cuts ≡ suc (sum to)
walk_length c [] to w = let b : first_of [] ≡ Some (empty_cut c) = w.begins in absurd (cc)
walk_length c (first ∷ rest) to w =
    let a : get_or (first ∷ rest) (length rest) [] ≡ to = at_last (first ∷ rest) to [] (length rest) w.ends refl in
    let b : sum (get_or (first ∷ rest) (length rest) []) ≡ length rest =
    walk_level c (first ∷ rest) to w (length rest) (omega arith) in
    let d : sum (get_or (first ∷ rest) (length rest) []) ≡ sum to = ap sum a in
    omega arith

pub reached_from_avoiding : (c : Computation) (test : List ℕ → Bool) (k : ℕ) (cut : List ℕ) → IsAvoiding c test k cut
    → Reached c test k cut
reached_from_avoiding c test k cut (cuts, w, l, fails) =
    let lt : k < length cuts = omega arith in
    let r : Reached c test k (get_or cuts k []) =
    walk_reached c test cuts cut w k lt (λ i le. fails i [] (omega arith)) in
    let e : get_or cuts k [] ≡ cut = at_last cuts cut [] k w.ends (omega arith) in
    subst (λ (x : List ℕ). Reached c test k x) e r

pub avoiding_from_reached : (c : Computation) (test : List ℕ → Bool) (k : ℕ) (cut : List ℕ) → Reached c test k cut
    → IsAvoiding c test k cut
avoiding_from_reached c test zero cut (ok, fails, e) = (
  cut ∷ [],
  subst (λ (x : List ℕ). IsWalk c x (cut ∷ []) cut) e (walk_start c cut ok),
  omega arith,
  All-cons (λ x. test x ≡ false) cut [] fails (All-nil (λ x. test x ≡ false)),
)
avoiding_from_reached c test (suc k) cut (ok, fails, (p, lt, (has, back))) =
    go (avoiding_from_reached c test k (one_less cut p) back)
  where
    go : IsAvoiding c test k (one_less cut p) → IsAvoiding c test (suc k) cut
    go (cuts, w, l, each) =
        let t : length (cuts ++ cut ∷ []) ≡ length cuts + 1 = length_push cuts cut in (
          cuts ++ cut ∷ [],
          walk_push c (empty_cut c) (one_less cut p) cut cuts w ok (step_from_less cut p has),
          omega arith,
          All-push (λ x. test x ≡ false) cuts cut each fails,
        )

pub dec_avoiding : (c : Computation) (test : List ℕ → Bool) (k : ℕ) (cut : List ℕ) → Dec (IsAvoiding c test k cut)
dec_avoiding c test k cut = go (dec_reached c test k cut)
  where
    go : Dec (Reached c test k cut) → Dec (IsAvoiding c test k cut)
    go (yes r) = yes (avoiding_from_reached c test k cut r)
    go (no h) = no (λ a. h (reached_from_avoiding c test k cut a))
