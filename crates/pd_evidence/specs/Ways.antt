-- An observation through a cut, in which each step is one of the least process that can take it.
use Rattle.std.specs.Prelude.{◌≡◌, ℕ, ◌<◌, List, [], ◌∷◌, ◌++◌, slice_index}
use Rattle.def_model.specs.Cuts.{IsConsistent, empty_cut, full_cut, one_more}
use Rattle.def_model.specs.Events.{Computation}

-- The cut that is gone up to has the next event of process p, and that event, added, gives a consistent cut.
abbrev pub GoesUp : Computation → List ℕ → List ℕ → ℕ → Type 0
GoesUp c cut to p = (slice_index cut p < slice_index to p) × IsConsistent c (one_more cut p)

-- The path leads from one cut up to another, by events of the other one alone: at each step the least process is taken
-- whose next event, added, gives a consistent cut.
abbrev pub IsLeastWay : Computation → List ℕ → List ℕ → List ℕ → Type 0
IsLeastWay c cut to [] = cut ≡ to
IsLeastWay c cut to (p ∷ rest) =
    GoesUp c cut to p × ((q : ℕ) → q < p → ¬ GoesUp c cut to q) × IsLeastWay c (one_more cut p) to rest

-- The path leads from the empty cut up to this one, and then on to the full one.
abbrev pub IsThrough : Computation → List ℕ → List ℕ → Type 0
IsThrough c cut path =
    (up : List ℕ) × (on : List ℕ) × (path ≡ up ++ on) × IsLeastWay c (empty_cut c) cut up
    × IsLeastWay c cut (full_cut c) on
