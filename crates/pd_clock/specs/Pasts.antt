-- Whether counts have what happened before an event, by its clock.
use Rattle.std.specs.Prelude.{◌≢◌, ℕ, ◌+◌, ◌-◌, ◌*◌, ◌<◌, ◌≤◌, ◌≡◌, List, length, Vec, slice_index}
use Rattle.std.specs.Global.{Global}
use Rattle.pd_clock.specs.Orders.{clocks_of}

-- Of each process but p the counts have the events that are in the clock of event `number` of p. The clocks of p's
-- events stand one after another, each with a number for each count.
abbrev pub HasPast : List ℕ → ℕ → List ℕ → ℕ → Type 0
HasPast clocks number counts p =
    (q : ℕ) → q < length counts → q ≢ p → slice_index clocks ((number - 1) * length counts + q) ≤ slice_index counts q

-- the same of the last counted event of each process
abbrev pub HasPasts : List (Vec ℕ Global) → List ℕ → Type 0
HasPasts clocks counts =
    (p : ℕ) → 0 < slice_index counts p → HasPast (clocks_of clocks p) (slice_index counts p) counts p

-- there are clocks of all events that are counted
pub record Reach (clocks : List (Vec ℕ Global)) (counts : List ℕ) : Type 0 where
  pub one_each : length clocks ≡ length counts
  pub rows : (p : ℕ) → slice_index counts p * length counts ≤ length (clocks_of clocks p)

-- the last counted event of process p is in the clock of the last counted event of no other process
abbrev pub IsInNoPast : List (Vec ℕ Global) → List ℕ → ℕ → Type 0
IsInNoPast clocks counts p =
    (q : ℕ) → q ≢ p → 0 < slice_index counts q
    → slice_index (clocks_of clocks q) ((slice_index counts q - 1) * length counts + p) < slice_index counts p
