-- The picture of a session that is refused for a causal cycle.
use Rattle.std.specs.Prelude.{◌≡◌, ◌<◌, ℕ, All, List, ◌++◌, codes, length, map}
use Rattle.def_model.specs.Events.{Computation, Place}
use Rattle.def_format.specs.Documents.{Document}
use Rattle.def_format.specs.Names.{ProcessNames, name_of_process}
use Rattle.def_format.specs.RefusalWords.{named_place}
use Rattle.def_format.specs.Reports.{Cycle, NamedPlace, Refusal, Refused, Report, place_text, with_commas}
use Rattle.out_picture.specs.Cycles.{IsCyclePicture}
use Rattle.out_svg.specs.declared.drawing.Drawing.{Drawing}
use Rattle.out_picture.specs.declared.extent.Extent.{Extent}
use Rattle.judge_draw.specs.Drawn.{process_names}

-- what the picture is called: what the report says
abbrev pub cycle_title : List NamedPlace → List ℕ
cycle_title places = codes "refused cycle " ++ with_commas (map place_text places)

-- The picture of a run, whose messages are these pairs of a send and a receipt, with the cycle of these places.
pub record IsCycleDrawn (document : Document) (events : Computation) (pairs : List (Place × Place))
    (places : List NamedPlace) (extent : Extent) (drawing : Drawing) : Type 0 where
  pub cycle : List Place
  pub named : map (named_place document.names) cycle ≡ places
  pub is_picture : IsCyclePicture events pairs (process_names document) (cycle_title places) cycle extent drawing

-- the same of a session that is refused like this, which is for a cycle
pub record IsRefusalDrawn (document : Document) (events : Computation) (pairs : List (Place × Place))
    (refusal : Refusal) (extent : Extent) (drawing : Drawing) : Type 0 where
  pub places : List NamedPlace
  pub is_cycle : refusal ≡ Cycle places
  pub drawn : IsCycleDrawn document events pairs places extent drawing

-- the place is one of a process that is among these
abbrev pub IsOfProcess : List ProcessNames → NamedPlace → Type 0
IsOfProcess names place = (p : ℕ) × (p < length names) × (place.name ≡ name_of_process names p)

-- if the refusal is that of a cycle, each of its places is one of a process that is among these
abbrev pub NamesProcesses : List ProcessNames → Refusal → Type 0
NamesProcesses names refusal = (places : List NamedPlace) → refusal ≡ Cycle places → All (IsOfProcess names) places

-- the refusal is that of a cycle, and the report states it
abbrev pub StatesCycle : (claimed : Report) → Refusal → Type 0
StatesCycle claimed refusal = (places : List NamedPlace) × (refusal ≡ Cycle places) × (claimed ≡ Refused refusal)
