-- What is left on the output of the recorded run in files.
use Rattle.std.specs.Prelude.{ℕ, List, ◌∷◌, Option, Result, Ok, Err, map}
use Rattle.def_format.specs.Documents.{Document, Options}
use Rattle.def_model.specs.Predicates.{Recorded}
use Rattle.def_recordings.specs.Recordings.{IsRun}
use Rattle.def_recordings.specs.Reductions.{IsReducedSession}
use Rattle.app_arguments.specs.Statuses.{Ending, Failed, File, LeavesOf, MayBeUnread, Negative, OfDocument, Success, sources_of}
use Rattle.app_host.specs.Faults.{failure_view}
use Rattle.judge_session.specs.declared.fault.EngineFault.{EngineFault}
use Rattle.app_reduce.specs.Outcomes.{ComesOf}
use Rattle.app_reduce.specs.Reduced.{ReduceLeaves}
use Rattle.app_reduce.specs.ReducedTexts.{OfStreams}
use Rattle.app_reduce.specs.declared.outcome.Outcome.{Outcome}
use Rattle.app_reduce.specs.declared.outcome.Outcome.TheVariants.{Made, Refused, Unmade}

-- how a run ends that reduces
abbrev pub reduce_ending : Result Outcome EngineFault → Ending
reduce_ending (Ok (Made made)) = Success
reduce_ending (Ok (Unmade run)) = Negative
reduce_ending (Ok (Refused report)) = Negative
reduce_ending (Err fault) = Failed (failure_view fault)

-- P holds of the document in the file of this name and of the streams in those of these names, as they are read.
abbrev pub OfFiles : (files : List ℕ → File) (options : Options) (document : List ℕ) (streams : List (List ℕ))
    (P : Document → Recorded → Type 0) → Type 0
OfFiles files options document streams P =
    OfDocument options (files document) (λ inquiry. OfStreams (sources_of (map files streams)) (λ given.
    (read : Document) × (recorded : Recorded) × IsRun inquiry given read recorded × P read recorded))

-- the bytes are those of a session that has the answers of the run in these files
abbrev pub IsSessionOfFiles : (files : List ℕ → File) (options : Options) (document : List ℕ)
    (streams : List (List ℕ)) (bytes : List ℕ) (texts : List (List ℕ)) → Type 0
IsSessionOfFiles files options document streams bytes texts =
    OfFiles files options document streams (λ read recorded. IsReducedSession read recorded bytes texts)

-- this comes of the run in these files
abbrev pub ComesOfFiles : (files : List ℕ → File) (options : Options) (document : List ℕ) (streams : List (List ℕ))
    → Outcome → Type 0
ComesOfFiles files options document streams outcome =
    OfDocument options (files document) (λ inquiry. ComesOf inquiry (sources_of (map files streams)) outcome)

-- what is left by the run in these files
abbrev pub RunLeaves : (files : List ℕ → File) (options : Options) (document : List ℕ) (streams : List (List ℕ))
    → Ending → (old new : Option (List ℕ)) → Type 0
RunLeaves files options document streams =
    LeavesOf options (files document)
    (MayBeUnread (files document ∷ map files streams) (files document ∷ map files streams))
    (λ inquiry. ReduceLeaves inquiry (sources_of (map files streams)))
