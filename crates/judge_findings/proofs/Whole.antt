-- No number of a finding is a float.
use Rattle.std.proofs.Common.{◌≡◌, List, [], ◌∷◌, Some, None, false, map, refl}
use Rattle.serde_json.specs.View.{items_of}
use Rattle.serde_json.specs.Written.{has_float, items_have_float}
use Rattle.def_format.specs.OtherTexts.{Checked, Finding, NotRead, OfRefusal, OfSession}
use Rattle.judge_findings.specs.JsonFindings.{checked_data, finding_data}

checked_whole : (answers : List Checked) → items_have_float (items_of (map checked_data answers)) ≡ false
checked_whole [] = refl
checked_whole (checked ∷ answers) = checked_whole answers

pub finding_whole : (finding : Finding) → has_float (finding_data finding) ≡ false
finding_whole (NotRead line) = refl
finding_whole (OfRefusal good) = refl
finding_whole (OfSession good None) = refl
finding_whole (OfSession good (Some answers)) = rw (checked_whole answers) refl
