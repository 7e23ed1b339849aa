-- Levels, observations and the path found backward.
use Rattle.std.proofs.Common.{◌≡◌, ℕ, zero, suc, ◌+◌, ◌-◌, ◌<◌, ◌≤◌, Bool, false, List, [], ◌∷◌, ◌++◌, length, get_or, sum, reverse, Some, Contains, refl, sym, ap, ◌∙◌, subst, inl, inr, ◌⊎◌, ◌↔◌, arith, add-one}
use Rattle.std.proofs.lemmas.Bool.{false≢true}
use Rattle.std.proofs.lemmas.List.{reverse-reverse, reverse-append}
use Rattle.std.proofs.lemmas.List.Elements.{All-push, All-cons, All-nil, Contains-append_left, All-contains}
use Rattle.def_model.specs.Events.{Computation, last_of}
use Rattle.def_model.specs.Order.{HasNoCycle}
use Rattle.def_model.specs.Cuts.{IsConsistent, IsOfLevel, IsNextOf, AddsEvent, one_more, one_less, empty_cut, full_cut, total}
use Rattle.def_model.specs.Observations.{IsWalk, IsObservation, HasSatisfying, HasNoSatisfying, Possibly, PossiblyObserved, Definitely, IsAvoiding, HasNoAvoiding}
use Rattle.def_model.specs.Answers.{IsListOf, LeavesAvoiding, IsUndoing, IsPrintedPath, cuts_along}
use Rattle.def_model.proofs.Decisions.{dec_both, dec_less, least_from}
use Rattle.def_model.proofs.Lists.{find_or_all}
use Rattle.def_model.proofs.Counts.{step_from_less, sum_step, sum_less, more_less, empty_from_sum, sum_more}
use Rattle.def_model.proofs.Steps.{can_undo, can_add, empty_consistent, sum_within, full_from_sum}
use Rattle.def_model.proofs.Walks.{Reached, walk_push, walk_start, reached_consistent, reached_fails, reached_level, reached_more, walk_reached, walk_length, reached_from_avoiding, avoiding_from_reached, dec_avoiding}

-- what is of level k + 1 is one event more than what is of level k
pub next_level_of : (c : Computation) → HasNoCycle c → (k : ℕ) (cut : List ℕ) → IsOfLevel c (k + 1) cut → (old : List ℕ)
    × IsOfLevel c k old × AddsEvent old cut
next_level_of c acyclic k cut (ok, s) =
    let u : (p : ℕ) × (0 < get_or cut p 0) × IsConsistent c (one_less cut p) =
    can_undo c acyclic cut ok (omega arith) in
    let t : sum (one_less cut u.0) + 1 ≡ sum cut = sum_less cut u.0 u.1 in
    (one_less cut u.0, (u.2, omega arith), step_from_less cut u.0 u.1)

pub next_level : (c : Computation) → HasNoCycle c → (k : ℕ) (cuts next : List (List ℕ)) → IsListOf (IsOfLevel c k) cuts
    → IsListOf (IsNextOf c cuts) next → IsListOf (IsOfLevel c (k + 1)) next
next_level c acyclic k cuts next old new = record { ascending = new.ascending; just = λ cut. (to cut, from cut) }
  where
    to : (cut : List ℕ) → Contains next cut → IsOfLevel c (k + 1) cut
    to cut has =
        let w : IsNextOf c cuts cut = (new.just cut).0 has in
        let before : IsOfLevel c k w.1.0 = (old.just w.1.0).0 w.1.1 in
        let s : sum cut ≡ sum w.1.0 + 1 = sum_step w.1.0 cut w.1.2 in
        (w.0, s ∙ ap (λ n. n + 1) before.1)

    from : (cut : List ℕ) → IsOfLevel c (k + 1) cut → Contains next cut
    from cut level =
        let u : (old : List ℕ) × IsOfLevel c k old × AddsEvent old cut = next_level_of c acyclic k cut level in
        (new.just cut).1 (level.0, (u.0, (old.just u.0).1 u.1, u.2))

next_avoiding_suc : (c : Computation) (test : List ℕ → Bool) (k : ℕ) (cut : List ℕ) → IsAvoiding c test (suc k) cut
    ↔ (IsConsistent c cut × (test cut ≡ false) × ((old : List ℕ) × IsAvoiding c test k old × AddsEvent old cut))
next_avoiding_suc c test k cut = (to, from)
  where
    to : IsAvoiding c test (suc k) cut → IsConsistent c cut × (test cut ≡ false)
        × ((old : List ℕ) × IsAvoiding c test k old × AddsEvent old cut)
    to a = go (reached_from_avoiding c test (suc k) cut a)
      where
        go : Reached c test (suc k) cut → IsConsistent c cut × (test cut ≡ false)
            × ((old : List ℕ) × IsAvoiding c test k old × AddsEvent old cut)
        go (ok, fails, (p, lt, (has, back))) = (
          ok,
          fails,
          (
            one_less cut p,
            avoiding_from_reached c test k (one_less cut p) back,
            step_from_less cut p has,
          ),
        )

    from : IsConsistent c cut × (test cut ≡ false) × ((old : List ℕ) × IsAvoiding c test k old × AddsEvent old cut)
        → IsAvoiding c test (suc k) cut
    from (ok, fails, (old, avoiding, adds)) =
        avoiding_from_reached c test (suc k) cut
        (reached_more c test k old cut (reached_from_avoiding c test k old avoiding) adds ok fails)

pub next_avoiding : (c : Computation) (test : List ℕ → Bool) (k : ℕ) (cut : List ℕ) → IsAvoiding c test (k + 1) cut
    ↔ (IsConsistent c cut × (test cut ≡ false) × ((old : List ℕ) × IsAvoiding c test k old × AddsEvent old cut))
next_avoiding c test k cut = (
  λ a. (next_avoiding_suc c test k cut).0 (subst (λ (n : ℕ). IsAvoiding c test n cut) (add-one k) a),
  λ w. subst (λ (n : ℕ). IsAvoiding c test n cut) (sym (add-one k)) ((next_avoiding_suc c test k cut).1 w),
)

-- an avoiding cut of level k is a consistent cut of k events
pub avoiding_level : (c : Computation) (test : List ℕ → Bool) (k : ℕ) (cut : List ℕ) → IsAvoiding c test k cut
    → IsOfLevel c k cut
avoiding_level c test k cut a =
    let r : Reached c test k cut = reached_from_avoiding c test k cut a in
    (reached_consistent c test k cut r, reached_level c test k cut r)

-- an observation that fails up to place k has an avoiding cut of level k there
pub observed_avoiding : (c : Computation) (test : List ℕ → Bool) (cuts : List (List ℕ)) → IsObservation c cuts → (k : ℕ)
    → k ≤ total c → ((i : ℕ) → i ≤ k → test (get_or cuts i []) ≡ false) → IsAvoiding c test k (get_or cuts k [])
observed_avoiding c test cuts w k le fails =
    let l : length cuts ≡ suc (total c) = walk_length c cuts (full_cut c) w in
    avoiding_from_reached c test k (get_or cuts k []) (walk_reached c test cuts (full_cut c) w k (omega arith) fails)

pub free_level_decides : (c : Computation) (test : List ℕ → Bool) (k : ℕ) → k ≤ total c → HasNoAvoiding c test k
    → Definitely c test
free_level_decides c test k le none cuts w = go (find_or_all test cuts)
  where
    go : HasSatisfying test cuts ⊎ HasNoSatisfying test cuts → HasSatisfying test cuts
    go (inl found) = found
    go (inr fails) =
        let l : length cuts ≡ suc (total c) = walk_length c cuts (full_cut c) w in
        absurd (none (get_or cuts k []) (observed_avoiding c test cuts w k le (λ i h. fails i [] (omega arith))))

-- if every observation has a satisfying cut, the full cut isn't avoiding
pub definite_is_free : (c : Computation) (test : List ℕ → Bool) → Definitely c test → HasNoAvoiding c test (total c)
definite_is_free c test definitely cut (cuts, w, l, fails) =
    let level : IsOfLevel c (total c) cut = avoiding_level c test (total c) cut (cuts, w, l, fails) in
    let full : cut ≡ full_cut c = full_from_sum c cut level.0 level.1 in
    let found : HasSatisfying test cuts = definitely cuts (subst (λ (x : List ℕ). IsWalk c (empty_cut c) cuts x) full w)
    in
    let fail : test found.0 ≡ false = All-contains (λ x. test x ≡ false) cuts found.0 fails found.1 in
    false≢true (sym fail ∙ found.2)

-- the path undone, one event at a time
undo_all : (c : Computation) (test : List ℕ → Bool) (k : ℕ) (cut : List ℕ) → Reached c test k cut
    → (ps : List ℕ) × IsUndoing c test cut ps
undo_all c test zero cut (ok, fails, e) = ([], e)
undo_all c test (suc k) cut r = go r (undo_all c test k)
  where
    dec_leaves : (p : ℕ) → Dec (LeavesAvoiding c test cut p)
    dec_leaves p = dec_both (dec_less 0 (get_or cut p 0)) (dec_avoiding c test (sum (one_less cut p)) (one_less cut p))

    go : Reached c test (suc k) cut → ((next : List ℕ) → Reached c test k next
        → (ps : List ℕ) × IsUndoing c test next ps) → (ps : List ℕ) × IsUndoing c test cut ps
    go (ok, fails, (p, lt, (has, back))) rest =
        let s : sum cut ≡ suc k = reached_level c test (suc k) cut (ok, fails, (p, lt, (has, back))) in
        let b : sum (one_less cut p) ≡ k = reached_level c test k (one_less cut p) back in
        let leaves : LeavesAvoiding c test cut p = (
          has,
          subst (λ (n : ℕ). IsAvoiding c test n (one_less cut p)) (sym b)
              (avoiding_from_reached c test k (one_less cut p) back),
        ) in
        let least : (m : ℕ) × LeavesAvoiding c test cut m × ((j : ℕ) → j < m → ¬ LeavesAvoiding c test cut j) =
        least_from (LeavesAvoiding c test cut) dec_leaves p leaves in
        let d : sum (one_less cut least.0) + 1 ≡ sum cut = sum_less cut least.0 least.1.0 in
        let e : sum (one_less cut least.0) ≡ k = omega arith in
        let next : Reached c test k (one_less cut least.0) =
        reached_from_avoiding c test k (one_less cut least.0)
        (subst (λ (n : ℕ). IsAvoiding c test n (one_less cut least.0)) e least.1.1) in
        let more : (ps : List ℕ) × IsUndoing c test (one_less cut least.0) ps = rest (one_less cut least.0) next in
        (least.0 ∷ more.0, (least.1, least.2, more.1))

pub path_is_found : (c : Computation) (test : List ℕ → Bool) (cut : List ℕ) → IsAvoiding c test (total c) cut
    → (path : List ℕ) × IsPrintedPath c test path
path_is_found c test cut a =
    let level : IsOfLevel c (total c) cut = avoiding_level c test (total c) cut a in
    let full : cut ≡ full_cut c = full_from_sum c cut level.0 level.1 in
    let b : IsAvoiding c test (total c) (full_cut c) = subst (λ (x : List ℕ). IsAvoiding c test (total c) x) full a in
    let u : (ps : List ℕ) × IsUndoing c test (full_cut c) ps =
    undo_all c test (total c) (full_cut c) (reached_from_avoiding c test (total c) (full_cut c) b) in
    (reverse u.0, (b, subst (λ (ps : List ℕ). IsUndoing c test (full_cut c) ps) (sym (reverse-reverse u.0)) u.1))

-- a path with one process more leads one cut further
along_push : (start to : List ℕ) (path : List ℕ) (p : ℕ) → last_of (cuts_along start path) ≡ Some to
    → cuts_along start (path ++ p ∷ []) ≡ cuts_along start path ++ one_more to p ∷ []
along_push start to [] p e = let t : start ≡ to = cc in ap (λ (x : List ℕ). start ∷ one_more x p ∷ []) t
along_push start to (q ∷ path) p e =
    ap (λ (xs : List (List ℕ)). start ∷ xs) (along_push (one_more start q) to path p (rest path e))
  where
    rest : (path : List ℕ) → last_of (start ∷ cuts_along (one_more start q) path) ≡ Some to
        → last_of (cuts_along (one_more start q) path) ≡ Some to
    rest [] h = h
    rest (r ∷ more) h = h

-- what was undone, taken forward, is a walk with no satisfying cut
undone_walk : (c : Computation) (test : List ℕ → Bool) (cut : List ℕ) (ps : List ℕ) → IsAvoiding c test (sum cut) cut
    → IsUndoing c test cut ps → IsWalk c (empty_cut c) (cuts_along (empty_cut c) (reverse ps)) cut
    × HasNoSatisfying test (cuts_along (empty_cut c) (reverse ps))
undone_walk c test cut [] a e =
    let r : Reached c test (sum cut) cut = reached_from_avoiding c test (sum cut) cut a in
    let fails : test cut ≡ false = reached_fails c test (sum cut) cut r in (
      subst (λ (x : List ℕ). IsWalk c (empty_cut c) (empty_cut c ∷ []) x) (sym e)
          (walk_start c (empty_cut c) (empty_consistent c)),
      All-cons (λ x. test x ≡ false) (empty_cut c) [] (subst (λ (x : List ℕ). test x ≡ false) e fails)
          (All-nil (λ x. test x ≡ false)),
    )
undone_walk c test cut (p ∷ ps) a (leaves, least, back) =
    go (undone_walk c test (one_less cut p) ps leaves.1 back)
  where
    r : Reached c test (sum cut) cut
    r = reached_from_avoiding c test (sum cut) cut a

    go : IsWalk c (empty_cut c) (cuts_along (empty_cut c) (reverse ps)) (one_less cut p)
        × HasNoSatisfying test (cuts_along (empty_cut c) (reverse ps))
        → IsWalk c (empty_cut c) (cuts_along (empty_cut c) (reverse (p ∷ ps))) cut
        × HasNoSatisfying test (cuts_along (empty_cut c) (reverse (p ∷ ps)))
    go (w, fails) =
        let e : cuts_along (empty_cut c) (reverse (p ∷ ps)) ≡ cuts_along (empty_cut c) (reverse ps) ++ cut ∷ [] =
        ap (cuts_along (empty_cut c)) (reverse-append (p ∷ []) ps)
        ∙ (along_push (empty_cut c) (one_less cut p) (reverse ps) p w.ends
        ∙ ap (λ (x : List ℕ). cuts_along (empty_cut c) (reverse ps) ++ x ∷ []) (more_less cut p leaves.0)) in
        let walk : IsWalk c (empty_cut c) (cuts_along (empty_cut c) (reverse ps) ++ cut ∷ []) cut =
        walk_push c (empty_cut c) (one_less cut p) cut (cuts_along (empty_cut c) (reverse ps)) w
        (reached_consistent c test (sum cut) cut r) (step_from_less cut p leaves.0) in
        let none : HasNoSatisfying test (cuts_along (empty_cut c) (reverse ps) ++ cut ∷ []) =
        All-push (λ x. test x ≡ false) (cuts_along (empty_cut c) (reverse ps)) cut fails
        (reached_fails c test (sum cut) cut r) in (
          subst (λ (xs : List (List ℕ)). IsWalk c (empty_cut c) xs cut) (sym e) walk,
          subst (λ (xs : List (List ℕ)). HasNoSatisfying test xs) (sym e) none,
        )

pub path_avoids : (c : Computation) (test : List ℕ → Bool) (path : List ℕ) → IsPrintedPath c test path
    → IsObservation c (cuts_along (empty_cut c) path) × HasNoSatisfying test (cuts_along (empty_cut c) path)
path_avoids c test path (a, undoing) =
    subst (λ (ps : List ℕ). IsObservation c (cuts_along (empty_cut c) ps)
    × HasNoSatisfying test (cuts_along (empty_cut c) ps)) (reverse-reverse path)
    (undone_walk c test (full_cut c) (reverse path) a undoing)

-- a consistent cut is reached from the empty one
walk_to : (c : Computation) → HasNoCycle c → (k : ℕ) (cut : List ℕ) → IsOfLevel c k cut → (cuts : List (List ℕ))
    × IsWalk c (empty_cut c) cuts cut
walk_to c acyclic zero cut (ok, s) =
    let e : cut ≡ empty_cut c = empty_from_sum c cut ok.fits.one_each s in
    (cut ∷ [], subst (λ (x : List ℕ). IsWalk c x (cut ∷ []) cut) e (walk_start c cut ok))
walk_to c acyclic (suc k) cut (ok, s) =
    let s' : sum cut ≡ k + 1 = omega arith in go (next_level_of c acyclic k cut (ok, s')) (walk_to c acyclic k)
  where
    go : (old : List ℕ) × IsOfLevel c k old × AddsEvent old cut
        → ((old : List ℕ) → IsOfLevel c k old → (cuts : List (List ℕ)) × IsWalk c (empty_cut c) cuts old)
        → (cuts : List (List ℕ)) × IsWalk c (empty_cut c) cuts cut
    go (old, level, adds) rest =
        let w : (cuts : List (List ℕ)) × IsWalk c (empty_cut c) cuts old = rest old level in
        (w.0 ++ cut ∷ [], walk_push c (empty_cut c) old cut w.0 w.1 ok adds)

-- a walk goes on to the full cut
walk_on : (c : Computation) → HasNoCycle c → (left : ℕ) (cuts : List (List ℕ)) (to : List ℕ)
    → IsWalk c (empty_cut c) cuts to → IsConsistent c to → sum to + left ≡ total c → (x : List ℕ) → Contains cuts x
    → (all : List (List ℕ)) × IsObservation c all × Contains all x
walk_on c acyclic zero cuts to w ok s x has =
    let e : to ≡ full_cut c = full_from_sum c to ok (omega arith) in
    (cuts, subst (λ (y : List ℕ). IsWalk c (empty_cut c) cuts y) e w, has)
walk_on c acyclic (suc left) cuts to w ok s x has =
    let a : (p : ℕ) × (p < length to) × IsConsistent c (one_more to p) = can_add c acyclic to ok (omega arith) in
    let t : sum (one_more to a.0) ≡ sum to + 1 = sum_more to a.0 a.1 in
    walk_on c acyclic left (cuts ++ one_more to a.0 ∷ []) (one_more to a.0)
    (walk_push c (empty_cut c) to (one_more to a.0) cuts w a.2 (a.0, a.1, refl)) a.2 (omega arith) x
    (Contains-append_left cuts (one_more to a.0 ∷ []) x has)

-- the last cut of a walk is in it
last_in_walk : (xs : List (List ℕ)) (x : List ℕ) → last_of xs ≡ Some x → Contains xs x
last_in_walk [] x e = absurd (cc)
last_in_walk (y ∷ []) x e = (0, omega arith, cc)
last_in_walk (y ∷ z ∷ rest) x e = let r : Contains (z ∷ rest) x = last_in_walk (z ∷ rest) x e in
    let lt : r.0 < length (z ∷ rest) = r.1 in (suc r.0, omega arith, r.2)

pub every_cut_is_observed : (c : Computation) → HasNoCycle c → (cut : List ℕ) → IsConsistent c cut
    → (cuts : List (List ℕ)) × IsObservation c cuts × Contains cuts cut
every_cut_is_observed c acyclic cut ok =
    let w : (cuts : List (List ℕ)) × IsWalk c (empty_cut c) cuts cut = walk_to c acyclic (sum cut) cut (ok, refl) in
    let le : sum cut ≤ total c = sum_within c cut ok in
    walk_on c acyclic (total c - sum cut) w.0 cut w.1 ok (omega arith) cut (last_in_walk w.0 cut w.1.ends)

pub possibly_both_ways : (c : Computation) → HasNoCycle c → (test : List ℕ → Bool) → Possibly c test
    ↔ PossiblyObserved c test
possibly_both_ways c acyclic test = (to, from)
  where
    to : Possibly c test → PossiblyObserved c test
    to (cut, ok, yes') =
        let w : (cuts : List (List ℕ)) × IsObservation c cuts × Contains cuts cut =
        every_cut_is_observed c acyclic cut ok in
        (w.0, w.1, (cut, w.2, yes'))

    from : PossiblyObserved c test → Possibly c test
    from (cuts, w, (cut, has, yes')) = (cut, All-contains (IsConsistent c) cuts cut w.consistent has, yes')
