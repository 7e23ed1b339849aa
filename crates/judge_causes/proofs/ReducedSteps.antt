-- One event more, one trace more.
use Rattle.std.proofs.Common.{◌≡◌, ◌<◌, ℕ, suc, ◌+◌, Bool, List, [], ◌∷◌, ◌++◌, take, drop, length, get_or, Option, Some, None, refl, ap, sym, ◌∙◌, append_assoc, add-one, drop-cons}
use Rattle.std.specs.Prelude.{slice_get, option_map}
use Rattle.std.proofs.lemmas.List.{take_more}
use Rattle.std.proofs.lemmas.Option.{get_or_from_slice_get, slice_get_within, slice_get-get_or}
use Rattle.def_model.specs.Events.{Event, Kind, Local, Place, place}
use Rattle.read_traces.specs.declared.event.Trace.{Trace}
use Rattle.judge_causes.specs.Reduced.{event_if, reduced_from}
use Rattle.judge_causes.specs.Receipts.{all_receipts, receipt_if, receipts_from}
use Rattle.read_traces.specs.Views.{computation_view}

pub take_next : {X : Type 0} (xs : List X) (i : ℕ) (x : X) → slice_get xs i ≡ Some x
    → take i xs ++ x ∷ [] ≡ take (i + 1) xs
take_next xs i x at =
    ap (λ y. take i xs ++ y ∷ []) (sym (get_or_from_slice_get xs i x x at))
    ∙ sym (take_more xs i x (slice_get_within xs i x at))

-- what is due after an element that is taken
pub due_next : {X : Type 0} (due : ℕ → List X → List X) (each : ℕ → X → X)
    → ((k : ℕ) (x : X) (rest : List X) → due k (x ∷ rest) ≡ each k x ∷ due (suc k) rest) → (k : ℕ) (xs made : List X)
    (x : X) → k < length xs
    → (made ++ each k (get_or xs k x) ∷ []) ++ due (k + 1) (drop (k + 1) xs) ≡ made ++ due k (drop k xs)
due_next due each step k xs made x lt =
    append_assoc made (each k (get_or xs k x) ∷ []) (due (k + 1) (drop (k + 1) xs))
    ∙ ap (λ m. made ++ each k (get_or xs k x) ∷ due m (drop m xs)) (add-one k)
    ∙ ap (λ rest. made ++ rest) (sym (step k (get_or xs k x) (drop (suc k) xs)))
    ∙ ap (λ rest. made ++ due k rest) (sym (drop-cons xs k x lt))

no_event : Event
no_event = record { kind = Local; sets = [] }

pub reduced_next : (is_kept : Place → Bool) (p k : ℕ) (events made next : List Event) (b : Bool)
    → k < length events → b ≡ is_kept (place p (suc k))
    → ((event : Event) → slice_get events k ≡ Some event → next ≡ made ++ event_if b event ∷ [])
    → next ++ reduced_from is_kept p (k + 1) (drop (k + 1) events) ≡ made ++ reduced_from is_kept p k (drop k events)
reduced_next is_kept p k events made next b lt is added =
    ap (λ list. list ++ reduced_from is_kept p (k + 1) (drop (k + 1) events))
    (added (get_or events k no_event) (slice_get-get_or events k no_event lt)
    ∙ ap (λ kept. made ++ event_if kept (get_or events k no_event) ∷ []) is)
    ∙ due_next (reduced_from is_kept p) (λ n event. event_if (is_kept (place p (suc n))) event)
    (λ n event rest. refl) k events made no_event lt

-- ---- receipts

receipts_step : (p k : ℕ) (event : Event) (rest : List Event)
    → receipts_from p k (event ∷ rest) ≡ receipt_if (place p (suc k)) event.kind ++ receipts_from p (suc k) rest
receipts_step p k event rest = refl

processes_step : (p : ℕ) (trace : Trace) (rest : List Trace)
    → all_receipts p (computation_view (trace ∷ rest))
    ≡ receipts_from p 0 trace.events ++ all_receipts (suc p) (computation_view rest)
processes_step p trace rest = refl

pub receipts_next : (p k : ℕ) (events : List Event) (made next : List Place) (kind : Kind) → k < length events
    → option_map (λ (event : Event). event.kind) (slice_get events k) ≡ Some kind
    → next ≡ made ++ receipt_if (place p (k + 1)) kind
    → next ++ receipts_from p (k + 1) (drop (k + 1) events) ≡ made ++ receipts_from p k (drop k events)
receipts_next p k events made next kind lt is added =
    let event : Event = get_or events k no_event in
    let same : kind ≡ event.kind = go (slice_get events k) (slice_get-get_or events k no_event lt) is in
    ap (λ list. list ++ receipts_from p (k + 1) (drop (k + 1) events)) added
    ∙ append_assoc made (receipt_if (place p (k + 1)) kind) (receipts_from p (k + 1) (drop (k + 1) events))
    ∙ ap (λ m. made ++ (receipt_if (place p m) kind ++ receipts_from p m (drop m events))) (add-one k)
    ∙ ap (λ found. made ++ (receipt_if (place p (suc k)) found ++ receipts_from p (suc k) (drop (suc k) events))) same
    ∙ ap (λ rest. made ++ rest) (sym (receipts_step p k (get_or events k no_event) (drop (suc k) events)))
    ∙ ap (λ rest. made ++ receipts_from p k rest) (sym (drop-cons events k no_event lt))
  where
    go : (found : Option Event) → found ≡ Some (get_or events k no_event)
        → option_map (λ (event : Event). event.kind) found ≡ Some kind → kind ≡ (get_or events k no_event).kind
    go None at is = absurd (cc)
    go (Some event) at is = cc

pub processes_next : (p : ℕ) (traces : List Trace) (made next : List Place) (trace : Trace) → p < length traces
    → next ≡ made ++ receipts_from p 0 (get_or traces p trace).events
    → next ++ all_receipts (p + 1) (computation_view (drop (p + 1) traces))
    ≡ made ++ all_receipts p (computation_view (drop p traces))
processes_next p traces made next trace lt added =
    ap (λ list. list ++ all_receipts (p + 1) (computation_view (drop (p + 1) traces))) added
    ∙ append_assoc made (receipts_from p 0 (get_or traces p trace).events)
    (all_receipts (p + 1) (computation_view (drop (p + 1) traces)))
    ∙ ap (λ m. made ++ (receipts_from p 0 (get_or traces p trace).events
    ++ all_receipts m (computation_view (drop m traces)))) (add-one p)
    ∙ ap (λ rest. made ++ rest) (sym (processes_step p (get_or traces p trace) (drop (suc p) traces)))
    ∙ ap (λ rest. made ++ all_receipts p (computation_view rest)) (sym (drop-cons traces p trace lt))
