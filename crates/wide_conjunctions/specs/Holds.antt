-- What keeps the last event of a process from being undone.
use Rattle.std.specs.Prelude.{◌≡◌, ◌≢◌, ℕ, ◌<◌, ◌≤◌, List, length, slice_index, slice_index_or}
use Rattle.def_model.specs.Events.{Computation, place}
use Rattle.def_model.specs.Order.{IsClock}
use Rattle.def_model.specs.Cuts.{IsConsistent, one_less}
use Rattle.def_model.specs.Lattice.{IsWithin}
use Rattle.wide_conjunctions.specs.declared.holds.Hold.{Hold}

-- to undo the last event of process p leaves a consistent cut
abbrev pub CanUndo : Computation → List ℕ → ℕ → Type 0
CanUndo c cut p = (0 < slice_index cut p) × IsConsistent c (one_less cut p)

-- a cut with this many events of process q, or more, and no more than `low` of process p can't undo the last of these
abbrev pub IsHeldFrom : Computation → ℕ → ℕ → ℕ → ℕ → Type 0
IsHeldFrom c p low q number =
    (other : List ℕ) → IsConsistent c other → number ≤ slice_index other q → slice_index other p ≤ low
    → ¬ CanUndo c other p

-- the cut, and each cut within it, with more than `low` events of process p can undo the last of these
abbrev pub IsFreeAbove : Computation → List ℕ → ℕ → ℕ → Type 0
IsFreeAbove c cut p low =
    (other : List ℕ) → IsConsistent c other → IsWithin other cut → low < slice_index other p → CanUndo c other p

-- what is known of process p in a cut and in those within it
pub record IsHold (c : Computation) (cut : List ℕ) (p : ℕ) (hold : Hold) : Type 0 where
  pub there : hold.process < length c
  pub held : IsHeldFrom c p hold.low hold.process hold.number
  pub free : IsFreeAbove c cut p hold.low

-- of each process
pub record AreHolds (c : Computation) (cut : List ℕ) (holds : List Hold) : Type 0 where
  pub one_each : length holds ≡ length c
  pub each : (p : ℕ) (d : Hold) → p < length c → IsHold c cut p (slice_index_or holds p d)

-- only the count of process p differs
abbrev pub IsSameBut : List ℕ → List ℕ → ℕ → Type 0
IsSameBut cut other p = (q : ℕ) → q ≢ p → slice_index other q ≡ slice_index cut q

-- the cut, and each with fewer events of process p alone but more than this many, can't undo the last event of r
abbrev pub IsHeldAbove : Computation → List ℕ → ℕ → ℕ → ℕ → Type 0
IsHeldAbove c cut p stop r =
    (other : List ℕ) → IsConsistent c other → IsWithin other cut → IsSameBut cut other p → stop < slice_index other p
    → ¬ CanUndo c other r

-- as long as a cut has more than this many events of process p, which alone are undone, the last of them can be undone,
-- and none of a process before it
pub record IsRunDown (c : Computation) (cut : List ℕ) (p stop : ℕ) : Type 0 where
  pub free : IsFreeAbove c cut p stop
  pub held : (r : ℕ) → r < p → IsHeldAbove c cut p stop r

-- The last event that the counts have of process q has n events of process p in its past, or n is 0, and q is p or has
-- no event.
pub record IsNeeded (c : Computation) (counts : List ℕ) (q p n : ℕ) : Type 0 where
  pub clock : q ≢ p → 0 < slice_index counts q → IsClock c (place q (slice_index counts q)) p n
  pub some : 0 < n → (q ≢ p) × (0 < slice_index counts q)

-- event `number` of process q has this many events of process p, or more, in its past
abbrev pub IsNeeding : Computation → ℕ → ℕ → ℕ → ℕ → Type 0
IsNeeding c q number p low = (1 ≤ number) × ((n : ℕ) × IsClock c (place q number) p n × (low ≤ n))
