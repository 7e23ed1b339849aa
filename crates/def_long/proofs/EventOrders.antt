-- All events of a run in an order that happened-before allows; by it happened-before is decided.
use Rattle.std.proofs.Common.{◌≡◌, ℕ, zero, suc, ◌<◌, ◌≤◌, Bool, true, IsTrue, List, length, get_or, Contains, refl, sym, ap, ◌∙◌, subst, inl, inr, ◌⊎◌, arith}
use Rattle.std.proofs.lemmas.Bool.{cases_eq, cases_lt}
use Rattle.std.proofs.lemmas.List.{get_or_default}
use Rattle.def_model.specs.Events.{Computation, Place, place, IsEvent, event_count}
use Rattle.def_model.specs.Messages.{IsMessage}
use Rattle.def_model.specs.Order.{HappenedBefore, HasNoCycle, IsLater, IsUpTo, LeadsTo}
use Rattle.def_model.specs.Cuts.{Includes, empty_cut}
use Rattle.def_model.specs.Observations.{IsObservation}
use Rattle.def_model.proofs.Chains.{events_of_happens, events_of_step, happens_after, happens_elim, happens_transitive, same_place, step_happens}
use Rattle.def_model.proofs.Consistency.{dec_message}
use Rattle.def_model.proofs.Counts.{empty_at, full_at}
use Rattle.def_model.proofs.Decisions.{dec_both, dec_eq, dec_less, dec_map, dec_some}
use Rattle.def_model.proofs.Paths.{every_cut_is_observed}
use Rattle.def_model.proofs.Steps.{empty_consistent}
use Rattle.def_long.specs.Windows.{whole}
use Rattle.def_long.specs.Kept.{IsKept}
use Rattle.def_long.specs.Extensions.{Follows, IsExtension}
use Rattle.def_long.proofs.WalkExtensions.{walk_has_extension}

-- each event of a run is one of its whole window
pub event_in_whole : (c : Computation) (kept : Place → Bool) (e : Place) → IsEvent c e → IsTrue (kept e)
    → IsKept (whole c) kept e
event_in_whole c kept e is t = record { is_kept = t; after = after; before = (is.0, rw full_at is.1) }
  where
    after : Includes (empty_cut c) e → ⊥
    after i =
        let low : 1 ≤ e.number = i.0 in
        let none : get_or (empty_cut c) e.process 0 ≡ 0 = empty_at c e.process in
        let high : e.number ≤ get_or (empty_cut c) e.process 0 = i.1 in omega arith

-- before an event stands one that leads to it
pub last_step : (c : Computation) (e f : Place) → HappenedBefore c e f → (d : Place) × IsUpTo c e d × LeadsTo c d f
last_step c e f h =
    happens_elim c f (λ x. (d : Place) × IsUpTo c x d × LeadsTo c d f) (λ x s. (x, inl refl, s)) (λ x m s r w.
    (w.0, inr (go x m s w.0 w.1), w.2)) e h
  where
    go : (x m : Place) → LeadsTo c x m → (d : Place) → IsUpTo c m d → HappenedBefore c x d
    go x m s d (inl same) = subst (HappenedBefore c x) same (step_happens c x m s)
    go x m s d (inr more) = happens_after c x m d s more

-- and what is it or before it is before the event
up_to_step : (c : Computation) (e d f : Place) → IsUpTo c e d → LeadsTo c d f → HappenedBefore c e f
up_to_step c e d f (inl same) s = subst (λ (x : Place). HappenedBefore c x f) (sym same) (step_happens c d f s)
up_to_step c e d f (inr more) s = happens_transitive c e d f more (step_happens c d f s)

dec_event : (c : Computation) (e : Place) → Dec (IsEvent c e)
dec_event c e =
    dec_map (λ (w : (0 < e.number) × (e.number < suc (event_count c e.process))).
    let low : 0 < e.number = w.0 in
    let high : e.number < suc (event_count c e.process) = w.1 in (omega arith, omega arith))
    (λ (is : IsEvent c e). let low : 1 ≤ e.number = is.0 in
    let high : e.number ≤ event_count c e.process = is.1 in (omega arith, omega arith))
    (dec_both (dec_less 0 e.number) (dec_less e.number (suc (event_count c e.process))))

dec_leads : (c : Computation) (e f : Place) → Dec (LeadsTo c e f)
dec_leads c e f =
    go (dec_map (λ (w : IsEvent c e × (IsEvent c f × ((e.process ≡ f.process) × (e.number < f.number)))).
    (w.0, w.1.0, w.1.1.0, w.1.1.1)) (λ (later : IsLater c e f). (later.0, (later.1, (later.2, later.3))))
    (dec_both (dec_event c e) (dec_both (dec_event c f) (dec_both (dec_eq e.process f.process)
    (dec_less e.number f.number))))) (dec_message c e f)
  where
    go : Dec (IsLater c e f) → Dec (IsMessage c e f) → Dec (IsLater c e f ⊎ IsMessage c e f)
    go (yes later) d = yes (inl later)
    go (no h) (yes m) = yes (inr m)
    go (no h) (no k) = no (either h k)
      where
        either : (IsLater c e f → ⊥) → (IsMessage c e f → ⊥) → IsLater c e f ⊎ IsMessage c e f → ⊥
        either a b (inl later) = a later
        either a b (inr m) = b m

dec_same : (e f : Place) → Dec (e ≡ f)
dec_same e f = go (dec_eq e.process f.process) (dec_eq e.number f.number)
  where
    go : Dec (e.process ≡ f.process) → Dec (e.number ≡ f.number) → Dec (e ≡ f)
    go (yes p) (yes n) = yes (same_place e f p n)
    go (no h) d = no (λ same. h (ap (λ (x : Place). x.process) same))
    go (yes p) (no h) = no (λ same. h (ap (λ (x : Place). x.number) same))

-- ---- a list of all events, each after those that happened before it

abbrev pub AllInOrder : Computation → List Place → Type 0
AllInOrder c order = IsExtension (whole c) (λ e. true) order

pub all_in_order : (c : Computation) → HasNoCycle c → (order : List Place) × AllInOrder c order
all_in_order c acyclic =
    let seen : (cuts : List (List ℕ)) × IsObservation c cuts × Contains cuts (empty_cut c) =
    every_cut_is_observed c acyclic (empty_cut c) (empty_consistent c) in
    let x : (order : List Place) × IsExtension (whole c) (λ e. true) order
    × Follows (whole c) (λ e. true) seen.0 order = walk_has_extension (whole c) (λ e. true) seen.0 seen.1 in
    (x.0, x.1)

module _ (c : Computation) (acyclic : HasNoCycle c) (order : List Place) (all : AllInOrder c order) where
  pub listed : ℕ → Place
  listed k = get_or order k (place 0 0)

  pub number_of : (e : Place) → IsEvent c e → (k : ℕ) × (k < length order) × (listed k ≡ e)
  unfolding listed
  number_of e is = go ((all.just e).1 (event_in_whole c (λ e. true) e is refl))
    where
      go : Contains order e → (k : ℕ) × (k < length order) × (get_or order k (place 0 0) ≡ e)
      go (k, lt, at) = (k, lt, get_or_default order k (place 0 0) e lt ∙ at)

  pub earlier_first : (i j : ℕ) → i < length order → j < length order → HappenedBefore c (listed i) (listed j)
      → i < j
  unfolding listed
  earlier_first i j in_i in_j h = go (cases_lt i j)
    where
      go : (i < j) ⊎ (j ≤ i) → i < j
      go (inl lt) = lt
      go (inr le) = absurd (other (cases_eq j i))
        where
          other : (j ≡ i) ⊎ (j ≡ i → ⊥) → ⊥
          other (inl same) =
              acyclic (get_or order i (place 0 0))
              (subst (λ (k : ℕ). HappenedBefore c (get_or order i (place 0 0)) (get_or order k (place 0 0))) same h)
          other (inr apart) = all.ordered j i (place 0 0) (omega arith) in_i (inr h)

  -- what is known of the first n events of the list
  abbrev AreDecided : ℕ → Type 0
  AreDecided n = (k : ℕ) → k < n → k < length order → (e : Place) → Dec (HappenedBefore c e (listed k))

  -- e is up to one of these, and that leads to the event with number k
  abbrev ByOneOf : ℕ → ℕ → Place → ℕ → Type 0
  ByOneOf n k e i = (i < n) × (i < length order) × LeadsTo c (listed i) (listed k) × IsUpTo c e (listed i)

  next_decided : (n : ℕ) → AreDecided n → AreDecided (suc n)
  next_decided n first k lt within e = go (cases_lt k n)
    where
      dec_through : (i : ℕ) → Dec (ByOneOf n k e i)
      dec_through i = by (dec_less i n) (dec_less i (length order)) (dec_leads c (listed i) (listed k))
        where
          up : Dec (e ≡ listed i) → Dec (HappenedBefore c e (listed i)) → Dec (IsUpTo c e (listed i))
          up (yes same) d = yes (inl same)
          up (no h) (yes more) = yes (inr more)
          up (no h) (no g) = no (neither h g)
            where
              neither : (e ≡ listed i → ⊥) → (HappenedBefore c e (listed i) → ⊥) → IsUpTo c e (listed i) → ⊥
              neither a b (inl same) = a same
              neither a b (inr more) = b more

          by : Dec (i < n) → Dec (i < length order) → Dec (LeadsTo c (listed i) (listed k)) → Dec (ByOneOf n k e i)
          by (no h) d s = no (λ w. h w.0)
          by (yes a) (no h) s = no (λ w. h w.1)
          by (yes a) (yes b) (no h) = no (λ w. h w.2)
          by (yes a) (yes b) (yes s) = last (up (dec_same e (listed i)) (first i a b e))
            where
              last : Dec (IsUpTo c e (listed i)) → Dec (ByOneOf n k e i)
              last (yes u) = yes (a, b, s, u)
              last (no h) = no (λ w. h w.3)

      go : (k < n) ⊎ (n ≤ k) → Dec (HappenedBefore c e (listed k))
      go (inl less) = first k less within e
      go (inr le) = found (dec_some (ByOneOf n k e) dec_through n)
        where
          found : Dec ((i : ℕ) × (i < n) × ByOneOf n k e i) → Dec (HappenedBefore c e (listed k))
          found (yes (i, less, (a, b, s, u))) = yes (up_to_step c e (listed i) (listed k) u s)
          found (no none) = no (λ h. clash (last_step c e (listed k) h))
            where
              clash : (d : Place) × IsUpTo c e d × LeadsTo c d (listed k) → ⊥
              clash (d, u, s) = at (number_of d (events_of_step c d (listed k) s).0)
                where
                  at : (i : ℕ) × (i < length order) × (listed i ≡ d) → ⊥
                  at (i, in_i, same) =
                      let s' : LeadsTo c (listed i) (listed k) =
                      subst (λ (x : Place). LeadsTo c x (listed k)) (sym same) s in
                      let less : i < k =
                      earlier_first i k in_i within (step_happens c (listed i) (listed k) s') in
                      none (i, omega arith, (omega arith, in_i, s', subst (IsUpTo c e) (sym same) u))

  decided : (n : ℕ) → AreDecided n
  decided zero = λ k lt within e. absurd (omega arith)
  decided (suc n) = next_decided n (decided n)

  pub dec_happens : (e f : Place) → Dec (HappenedBefore c e f)
  dec_happens e f = go (dec_event c f)
    where
      go : Dec (IsEvent c f) → Dec (HappenedBefore c e f)
      go (no h) = no (λ b. h (events_of_happens c e f b).1)
      go (yes is) = at (number_of f is)
        where
          at : (k : ℕ) × (k < length order) × (listed k ≡ f) → Dec (HappenedBefore c e f)
          at (k, lt, same) =
              subst (λ (x : Place). Dec (HappenedBefore c e x)) same (decided (suc k) k (omega arith) lt e)
