-- When a run has a reduction.
use Rattle.std.specs.Prelude.{ℕ, ◌*◌, ◌<◌, ◌≤◌, List, [], All, length, map, slice_index_or}
use Rattle.std.specs.List.{range_with_len}
use Rattle.def_format.specs.Documents.{Document, Inquiry, IsDocument, NamedPredicate}
use Rattle.def_format.specs.Limits.{event_limit}
use Rattle.def_format.specs.Names.{ProcessNames, vars_of}
use Rattle.def_model.specs.Events.{event_count}
use Rattle.def_model.specs.Predicates.{Recorded}
use Rattle.def_orders.specs.Orders.{IsOver}
use Rattle.judge_reduced.specs.Reductions.{AreKeptOf}

-- ---- the variables

-- the numbers of each process's variables
abbrev pub var_numbers : List ProcessNames → List (List ℕ)
var_numbers names = map (λ (process : ProcessNames). range_with_len 0 (length process.vars)) names

-- each variable that a predicate of the document names is one of its process's
abbrev pub NameTheirVars : Document → Type 0
NameTheirVars document =
    All (λ (asked : NamedPredicate). IsOver (var_numbers document.names) asked.predicate) document.predicates

-- the variables that are seen of the first k processes are theirs
abbrev pub AreTheirVars : List ProcessNames → (named : List (List ℕ)) → ℕ → Type 0
AreTheirVars names named k =
    (p : ℕ) → p < k → All (λ v. v < length (vars_of names p)) (slice_index_or named p [])

-- So it is in each document that was read.
abbrev pub DocumentsNameTheirVars : Type 0
DocumentsNameTheirVars =
    (inquiry : Inquiry) (document : Document) → IsDocument inquiry document → NameTheirVars document

-- ---- the events

-- of each process, the events with these numbers, times the processes, are within the limit of events
abbrev pub AreFew : (numbers : List (List ℕ)) → (processes : ℕ) → Type 0
AreFew numbers processes =
    (p : ℕ) → p < processes → length (slice_index_or numbers p []) * processes ≤ event_limit

-- the kept events of each process, times the processes, are within the limit of events
abbrev pub HaveFewKept : Document → Recorded → Type 0
HaveFewKept document r =
    (numbers : List (List ℕ)) → AreKeptOf document r numbers → AreFew numbers (length r.events)

-- So they are if all events of each process, times the processes, are.
abbrev pub FewEventsFewKept : Type 0
FewEventsFewKept =
    (document : Document) (r : Recorded)
    → ((p : ℕ) → p < length r.events → event_count r.events p * length r.events ≤ event_limit)
    → HaveFewKept document r
