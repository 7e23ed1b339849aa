-- A law of recordings. It is proved at a function of the crate.
use Rattle.std.specs.Prelude.{◌≡◌, ◌≢◌, ℕ, List, None}
use Rattle.def_format.specs.Lines.{frame_fault}
use Rattle.def_format.specs.Names.{ProcessNames}
use Rattle.def_format.specs.Readings.{Ended, Fault, TooManyEvents, reading}
use Rattle.def_recordings.specs.Recordings.{recorded_reading}

-- a stream that has neither a line nor bytes nor events over the limits of a session is read as that of a session
abbrev pub WithinLimits : Type 0
WithinLimits = (names : List ProcessNames) (bytes : List ℕ) → frame_fault bytes ≡ None
    → ((line : ℕ) → (reading names Ended bytes).stop ≢ Fault line TooManyEvents)
    → recorded_reading names bytes ≡ reading names Ended bytes
