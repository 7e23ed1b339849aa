-- What streams come to: each that has ended comes to a trace or a fault, and to one.
use Rattle.std.specs.Prelude.{◌≡◌, ◌≢◌, List, All}
use Rattle.def_format.specs.Names.{ProcessNames}
use Rattle.def_format.specs.Readings.{Open}
use Rattle.def_format.specs.Sessions.{StreamResult}
use Rattle.def_judgement.specs.Judgements.{RawStream, AreResultsOf}

-- no more of the stream comes: it ended, or a read of it failed
abbrev pub HasStopped : RawStream → Type 0
HasStopped stream = stream.ending ≢ Open

-- streams that have ended have results
abbrev pub EndedHaveResults : Type 0
EndedHaveResults = (names : List ProcessNames) (streams : List RawStream) → All HasStopped streams
    → (results : List StreamResult) × AreResultsOf names streams results

-- streams have at most one list of results
abbrev pub OneListOfResults : Type 0
OneListOfResults = (names : List ProcessNames) (streams : List RawStream) (a b : List StreamResult)
    → AreResultsOf names streams a → AreResultsOf names streams b → a ≡ b
