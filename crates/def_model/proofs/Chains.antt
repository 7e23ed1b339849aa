-- Happened before: it is transitive, holds of events, and what each step keeps it keeps.
use Rattle.std.proofs.Common.{◌≡◌, ℕ, zero, suc, ◌<◌, ◌≤◌, [], ◌∷◌, length, Option, Some, None, option_map, refl, sym, ap₂, subst, inl, inr, ◌⊎◌, arith}
use Rattle.std.proofs.lemmas.Option.{slice_get_within}
use Rattle.def_model.specs.Events.{Kind, Send, Receive, Event, Computation, Place, place, IsEvent, numbered, event_at, kind_at, events_of}
use Rattle.def_model.specs.Order.{LeadsTo, HappenedBefore}

pub same_place : (e f : Place) → e.process ≡ f.process → e.number ≡ f.number → e ≡ f
same_place e f p n = ap₂ place p n

-- a place with a kind is that of an event
pub event_from_kind : (c : Computation) (e : Place) (k : Kind) → kind_at c e ≡ Some k → IsEvent c e
event_from_kind c e k h = go e.number (event_at c e) refl h
  where
    go : (n : ℕ) (o : Option Event) → numbered (events_of c e.process) n ≡ o
        → option_map (λ (event : Event). event.kind) o ≡ Some k → (1 ≤ n) × (n ≤ length (events_of c e.process))
    go n None at has = absurd (cc)
    go zero (Some event) at has = absurd (cc)
    go (suc n) (Some event) at has =
        let lt : n < length (events_of c e.process) = slice_get_within (events_of c e.process) n event at in
        (omega arith, omega arith)

pub events_of_step : (c : Computation) (e f : Place) → LeadsTo c e f → IsEvent c e × IsEvent c f
events_of_step c e f (inl later) = (later.0, later.1)
events_of_step c e f (inr (id, sends, receives, apart)) =
    (event_from_kind c e (Send id) sends, event_from_kind c f (Receive id) receives)

pub step_happens : (c : Computation) (e f : Place) → LeadsTo c e f → HappenedBefore c e f
step_happens c e f s = ([], (s, tt))

-- one step, and then a chain
pub happens_after : (c : Computation) (e f g : Place) → LeadsTo c e f → HappenedBefore c f g → HappenedBefore c e g
happens_after c e f g s (between, links) = (f ∷ between, (s, links))

-- by recursion on what stands between
pub happens_elim : (c : Computation) (g : Place) (P : Place → Type 0) → ((e : Place) → LeadsTo c e g → P e)
    → ((e f : Place) → LeadsTo c e f → HappenedBefore c f g → P f → P e) → (e : Place) → HappenedBefore c e g → P e
happens_elim c g P last more e ([], links) = last e links.0
happens_elim c g P last more e (f ∷ between, links) =
    more e f links.0 (between, links.1) (happens_elim c g P last more f (between, links.1))

pub happens_transitive : (c : Computation) (e f g : Place) → HappenedBefore c e f → HappenedBefore c f g
    → HappenedBefore c e g
happens_transitive c e f g first second =
    happens_elim c f (λ d. HappenedBefore c d g) (λ d s. happens_after c d f g s second) (λ d m s h r.
    happens_after c d m g s r) e first

-- no relation that holds of the steps and goes onward holds of less
pub happens_least : (c : Computation) (R : Place → Place → Type 0) → ((e f : Place) → LeadsTo c e f → R e f)
    → ((e f g : Place) → R e f → R f g → R e g) → (e f : Place) → HappenedBefore c e f → R e f
happens_least c R step onward e f h =
    happens_elim c f (λ d. R d f) (λ d s. step d f s) (λ d m s r rest. onward d m f (step d m s) rest) e h

pub events_of_happens : (c : Computation) (e f : Place) → HappenedBefore c e f → IsEvent c e × IsEvent c f
events_of_happens c e f h =
    happens_elim c f (λ d. IsEvent c d × IsEvent c f) (λ d s. events_of_step c d f s) (λ d m s r w.
    ((events_of_step c d m s).0, w.1)) e h

-- a set that is closed by each step is closed
pub closed_from_steps : (c : Computation) (P : Place → Type 0) → ((e f : Place) → LeadsTo c e f → P f → P e)
    → (e f : Place) → HappenedBefore c e f → P f → P e
closed_from_steps c P step e f h pf =
    happens_elim c f P (λ d s. step d f s pf) (λ d m s r pm. step d m s pm) e h

-- what happened before an event happened before each later one of its process
pub happens_before_later : (c : Computation) (e f : Place) (n : ℕ) → HappenedBefore c e f → f.number ≤ n
    → IsEvent c (place f.process n) → HappenedBefore c e (place f.process n)
happens_before_later c e f n h le is = go (cases f.number n le)
  where
    cases : (a b : ℕ) → a ≤ b → (a ≡ b) ⊎ (a < b)
    cases a b l = grind arith

    go : (f.number ≡ n) ⊎ (f.number < n) → HappenedBefore c e (place f.process n)
    go (inl same) = subst (λ (g : Place). HappenedBefore c e g) (same_place f (place f.process n) refl same) h
    go (inr less) =
        happens_transitive c e f (place f.process n) h
        (step_happens c f (place f.process n) (inl ((events_of_happens c e f h).1, is, refl, less)))

-- what an event happened before, an earlier one of its process happened before
pub happens_from_earlier : (c : Computation) (e f : Place) (n : ℕ) → HappenedBefore c e f → n ≤ e.number
    → IsEvent c (place e.process n) → HappenedBefore c (place e.process n) f
happens_from_earlier c e f n h le is = go (cases n e.number le)
  where
    cases : (a b : ℕ) → a ≤ b → (a ≡ b) ⊎ (a < b)
    cases a b l = grind arith

    go : (n ≡ e.number) ⊎ (n < e.number) → HappenedBefore c (place e.process n) f
    go (inl same) = subst (λ (g : Place). HappenedBefore c g f) (same_place e (place e.process n) refl (sym same)) h
    go (inr less) =
        happens_transitive c (place e.process n) e f
        (step_happens c (place e.process n) e (inl (is, (events_of_happens c e f h).0, refl, less))) h
