-- What a run that reduces a recorded run leaves on its output, by the files of its document and its streams.
use Rattle.std.specs.Prelude.{◌⊎◌, ℕ, List, Option}
use Rattle.std.specs.Io.KnownBytes.{Keeps}
use Rattle.def_format.specs.Documents.{Inquiry}
use Rattle.def_judgement.specs.Writes.{Source, Whole, Writes}
use Rattle.app_arguments.specs.Statuses.{Ending, Failed, Negative, Success, WriteFailure, WritesUpTo}
use Rattle.app_reduce.specs.ReducedTexts.{IsNegativeText, IsPositiveText}

-- one of the texts that may be written
abbrev pub IsAnyText : Inquiry → List Source → (text : List ℕ) → Type 0
IsAnyText inquiry sources text = IsPositiveText inquiry sources text ⊎ IsNegativeText inquiry sources text

-- A session is made: the text that says so. None is: the text that says why. The output, or the folder, can't be
-- written: one of these texts, or a prefix of it, or nothing.
abbrev pub ReduceLeaves : Inquiry → List Source → Ending → (old new : Option (List ℕ)) → Type 0
ReduceLeaves inquiry sources Success old new = Writes (IsPositiveText inquiry sources) Whole old new
ReduceLeaves inquiry sources Negative old new = Writes (IsNegativeText inquiry sources) Whole old new
ReduceLeaves inquiry sources (Failed WriteFailure) old new =
    Keeps old new ⊎ WritesUpTo (IsAnyText inquiry sources) old new
ReduceLeaves inquiry sources _ old new = ⊥
