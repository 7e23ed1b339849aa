-- What a check finds, as one JSON object. The fields of each object stand in byte order of their names.
use Rattle.std.specs.Prelude.{ℕ, Bool, List, [], ◌∷◌, ◌++◌, map, Option, Some, None}
use Rattle.serde_json.specs.Data.{Data, array, boolean, object, string, no_members}
use Rattle.serde_json.specs.View.{items_of}
use Rattle.serde_json.specs.Written.{compact_text}
use Rattle.def_format.specs.Lines.{line_feed}
use Rattle.def_format.specs.OtherTexts.{Checked, Finding, NotRead, OfRefusal, OfSession, Verdict, by_test, verdict_word}
use Rattle.def_judgement.specs.Findings.{is_clean}
use Rattle.out_json.specs.JsonReports.{field, number_data, text}

abbrev pub verdict_data : Verdict → Data
verdict_data verdict = string (verdict_word verdict)

-- the verdicts on the answers for one predicate
abbrev pub checked_data : Checked → Data
checked_data checked =
    object (field "definitely" (verdict_data checked.definitely) (field "name" (string checked.name)
    (field "possibly" (verdict_data checked.possibly) no_members)))

-- The field `good` says whether nothing in it is bad. Of a session that is well formed, `session` has the verdict on
-- the report's counts, and `names` stands in the place of `predicates` if those of the report are wrong.
abbrev pub finding_data : Finding → Data
finding_data (NotRead line) =
    object (field "format" (number_data 1) (field "good" (boolean (is_clean (NotRead line)))
    (field "line" (number_data line) (field "outcome" (text "unread") no_members))))
finding_data (OfRefusal good) =
    object (field "format" (number_data 1) (field "good" (boolean (is_clean (OfRefusal good)))
    (field "outcome" (text "refused") no_members)))
finding_data (OfSession good None) =
    object (field "format" (number_data 1) (field "good" (boolean (is_clean (OfSession good None)))
    (field "names" (text "bad") (field "outcome" (text "judged")
    (field "session" (verdict_data (by_test good)) no_members)))))
finding_data (OfSession good (Some answers)) =
    object (field "format" (number_data 1) (field "good" (boolean (is_clean (OfSession good (Some answers))))
    (field "outcome" (text "judged") (field "predicates" (array (items_of (map checked_data answers)))
    (field "session" (verdict_data (by_test good)) no_members)))))

-- the object without spaces, in one line
abbrev pub finding_json : Finding → List ℕ
finding_json finding = compact_text (finding_data finding) ++ line_feed ∷ []
