-- The kinds of events, read by process and index.
use Rattle.std.proofs.Common.{◌≡◌, ℕ, zero, suc, ◌<◌, List, [], ◌∷◌, length, get_or, map, Some, option_map, refl, sym, ap, ◌∙◌}
use Rattle.std.specs.Prelude.{slice_get}
use Rattle.std.specs.Borrow.{Bor}
use Rattle.std.proofs.lemmas.Option.{slice_get_read}
use Rattle.def_model.specs.Events.{events_of, event_count, kind_at}
use Rattle.def_model.specs.Events as events
use Rattle.read_traces.specs.declared.event.Trace.{Trace}
use Rattle.read_traces.specs.Views.{computation_view}
use Rattle.read_traces.specs.Columns.{seen_kind_view}
use Rattle.read_traces.specs.declared.kind.Kind.{Kind}
use Rattle.read_traces.specs.declared.kind.Kind.TheVariants as kinds
use Rattle.pd_match.specs.Noted.{event_place}

got : {A : Type 0} (xs : List A) (p : ℕ) (x : A) → p < length xs → x ≡ get_or xs p x → slice_get xs p ≡ Some x
got xs p x lt is = slice_get_read xs (length xs) p x refl lt is

get_map : {A B : Type 0} (f : A → B) (xs : List A) (p : ℕ) (x : A) (d : B) → slice_get xs p ≡ Some x
    → get_or (map f xs) p d ≡ f x
get_map f [] p x d e = absurd (cc)
get_map f (y ∷ xs) zero x d e = ap f (let s : y ≡ x = cc in s)
get_map f (y ∷ xs) (suc p) x d e = get_map f xs p x d e

pub events_read : (traces : List Trace) (p : ℕ) (process : Trace) → p < length traces
    → process ≡ get_or traces p process → events_of (computation_view traces) p ≡ process.events
events_read traces p process lt is =
    get_map (λ (other : Trace). other.events) traces p process [] (got traces p process lt is)

-- the kind of the event at an index
pub kind_here : (traces : List Trace) (p n : ℕ) (process : Trace) (kind : events.Kind) → p < length traces
    → process ≡ get_or traces p process
    → option_map (λ (e : events.Event). e.kind) (slice_get (get_or traces p process).events n) ≡ Some kind
    → kind_at (computation_view traces) (event_place p n) ≡ Some kind
kind_here traces p n process kind lt is at =
    ap (λ (all : List events.Event). option_map (λ (e : events.Event). e.kind) (slice_get all n))
    (events_read traces p process lt is ∙ ap (λ (t : Trace). t.events) is)
    ∙ at

module _ (kind : Kind) (c : events.Computation) (e : events.Place) (is : kind_at c e ≡ Some (seen_kind_view kind))
    (id : List ℕ) where
  -- a kind that is no send is that of no send
  pub kind_is_not_send : ((x : Bor (List ℕ)) → kind ≡ kinds.Send x → ⊥) → ¬ (kind_at c e ≡ Some (events.Send id))
  kind_is_not_send not at = go kind refl
    where
      go : (k : Kind) → kind ≡ k → ⊥
      go kinds.Local same = let w : Some events.Local ≡ Some (events.Send id) =
          sym (is ∙ ap (λ x. Some (seen_kind_view x)) same) ∙ at in cc
      go (kinds.Send x) same = not x same
      go (kinds.Recv x) same = let w : Some (events.Receive x.now) ≡ Some (events.Send id) =
          sym (is ∙ ap (λ y. Some (seen_kind_view y)) same) ∙ at in cc

  -- and the same of receipts
  pub kind_is_not_receive : ((x : Bor (List ℕ)) → kind ≡ kinds.Recv x → ⊥)
      → ¬ (kind_at c e ≡ Some (events.Receive id))
  kind_is_not_receive not at = go kind refl
    where
      go : (k : Kind) → kind ≡ k → ⊥
      go kinds.Local same = let w : Some events.Local ≡ Some (events.Receive id) =
          sym (is ∙ ap (λ x. Some (seen_kind_view x)) same) ∙ at in cc
      go (kinds.Send x) same = let w : Some (events.Send x.now) ≡ Some (events.Receive id) =
          sym (is ∙ ap (λ y. Some (seen_kind_view y)) same) ∙ at in cc
      go (kinds.Recv x) same = not x same

-- how many events a process has
pub length_read : (traces : List Trace) (p n : ℕ) (process : Trace) → p < length traces
    → process ≡ get_or traces p process → n ≡ length (get_or traces p process).events
    → n ≡ event_count (computation_view traces) p
length_read traces p n process lt is at =
    at ∙ (ap (λ (t : Trace). length t.events) (sym is) ∙ ap length (sym (events_read traces p process lt is)))
