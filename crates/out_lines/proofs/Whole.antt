-- No number of a line is a float.
use Rattle.std.proofs.Common.{◌≡◌, ℕ, List, [], ◌∷◌, false, map, Option, Some, None, refl}
use Rattle.serde_json.specs.Data.{string}
use Rattle.serde_json.specs.View.{items_of}
use Rattle.serde_json.specs.Written.{has_float, items_have_float}
use Rattle.def_format.specs.Names.{ProcessNames}
use Rattle.def_format.specs.Reports.{Report}
use Rattle.out_json.specs.JsonReports.{nowhere}
use Rattle.out_json.proofs.Floats.{report_whole}
use Rattle.out_lines.specs.Lines.{answer_data, session_data}

pub answer_whole : (id : Option (List ℕ)) (names : List ProcessNames) (report : Report) (status : ℕ)
    → has_float (answer_data id names report status) ≡ false
answer_whole None names report status = rw (report_whole names nowhere report) refl
answer_whole (Some id) names report status = rw (report_whole names nowhere report) refl

texts_whole : (streams : List (List ℕ)) → items_have_float (items_of (map (λ stream. string stream) streams)) ≡ false
texts_whole [] = refl
texts_whole (stream ∷ streams) = texts_whole streams

pub session_whole : (id document : List ℕ) (streams : List (List ℕ))
    → has_float (session_data id document streams) ≡ false
session_whole id document streams = rw (texts_whole streams) refl
