-- The page of a recorded run that is a bundle.
use Rattle.std.specs.Prelude.{◌≡◌, ℕ, zero, suc, List, [], ◌∷◌, ◌++◌, codes, decimal, length, map}
use Rattle.def_format.specs.Documents.{Options, inquiry_of}
use Rattle.def_format.specs.Reports.{Report}
use Rattle.def_judgement.specs.Writes.{Source, whole_source}
use Rattle.judge_bundles.specs.BundleRuns.{OfBundle}
use Rattle.judge_explore.specs.Explored.{Form, IsPageOfInputs}
use Rattle.judge_explore.specs.Sources.{StreamFile, stream_bytes, stream_file}

-- the name by which a page calls the stream of this number, counted from 1, in the bundle of this name
abbrev pub stream_name : (bundle : List ℕ) (number : ℕ) → List ℕ
stream_name bundle number = codes "stream " ++ (decimal number ++ (codes " of " ++ bundle))

-- the names of this many streams
abbrev pub stream_names : (bundle : List ℕ) (count : ℕ) → List (List ℕ)
stream_names bundle zero = []
stream_names bundle (suc n) = stream_names bundle n ++ stream_name bundle (suc n) ∷ []

-- the streams as files of these names, with their lines
abbrev pub files_of : (names : List (List ℕ)) (streams : List (List ℕ)) → List StreamFile
files_of [] streams = []
files_of (name ∷ names) [] = []
files_of (name ∷ names) (stream ∷ streams) = stream_file name (stream_bytes stream) ∷ files_of names streams

-- The text is what is made in this form of the document, with what is asked beside it, and of the streams in the bundle
-- of this name that a source with this left gave to its end, and that is within the limit.
abbrev pub IsPageOfBundle : Options → Form → (name : List ℕ) (input : Source) (text : List ℕ) → Type 0
IsPageOfBundle options form name input text =
    OfBundle input (λ document streams. (report : Report) × IsPageOfInputs (inquiry_of options document) form
    (files_of (stream_names name (length streams)) streams) (map whole_source streams) (λ other. other ≡ report) text)
