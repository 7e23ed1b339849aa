-- The page of a session and of its report: the text before the data, the data, and the text after it. Both texts are
-- the same for each session, and the data holds no `<`.
use Rattle.std.specs.Prelude.{ℕ, Bool, true, false, List, ◌++◌, codes, decimal}
use Rattle.def_model.specs.Events.{Computation, Place}
use Rattle.def_format.specs.Documents.{Document}
use Rattle.out_page.specs.JsonTexts.{array, quoted}
use Rattle.out_page.specs.PredicateData.{predicate_text}
use Rattle.out_page.specs.EventData.{process_text, value_text, events_text, message_text}
use Rattle.out_page.specs.AnswerData.{Outcome, outcome_text}
use Rattle.out_page.specs.ExtraData.{Extras, link_text, wish_text}
use Rattle.out_page.specs.SourceData.{Source, source_text}
use Rattle.out_page.specs.declared.text_before.TheConstants.{BEFORE}
use Rattle.out_page.specs.declared.text_diagram.TheConstants.{DIAGRAM}
use Rattle.out_page.specs.declared.text_labels.TheConstants.{LABELS}
use Rattle.out_page.specs.declared.text_lanes.TheConstants.{LANES}
use Rattle.out_page.specs.declared.text_main.TheConstants.{MAIN}
use Rattle.out_page.specs.declared.text_matter.TheConstants.{MATTER}
use Rattle.out_page.specs.declared.text_notes.TheConstants.{NOTES}
use Rattle.out_page.specs.declared.text_panel.TheConstants.{PANEL}
use Rattle.out_page.specs.declared.text_picture.TheConstants.{PICTURE}
use Rattle.out_page.specs.declared.text_pointer.TheConstants.{POINTER}
use Rattle.out_page.specs.declared.text_predicate.TheConstants.{PREDICATE}
use Rattle.out_page.specs.declared.text_refusal.TheConstants.{REFUSAL}
use Rattle.out_page.specs.declared.text_run.TheConstants.{RUN}
use Rattle.out_page.specs.declared.text_verdict.TheConstants.{VERDICT}

abbrev pub truth_text : Bool → List ℕ
truth_text true = codes "true"
truth_text false = codes "false"

-- a field of the data, after others
abbrev pub field : (name text : List ℕ) → List ℕ
field name text = codes ",\n\"" ++ name ++ codes "\":" ++ text

-- What stands in the page for a document, what it has beside the session, the files of its processes, their events, the
-- messages, each as its send and its receipt, and what is shown of the report: one object of JSON. Of a document these
-- are the width and whether more was asked for, its processes, the values of their variables before any event, and its
-- predicates.
unfoldable pub data_text : Document → Extras → List Source → Computation → List (Place × Place) → Outcome → List ℕ
data_text document extras sources events messages outcome =
    codes "{\"format\":1" ++ field (codes "width") (decimal document.width)
    ++ field (codes "beyond_width") (truth_text document.beyond_width)
    ++ field (codes "wishes") (array (wish_text document.predicates) extras.wishes)
    ++ field (codes "notes") (array quoted extras.notes) ++ field (codes "link") (link_text extras.link)
    ++ field (codes "processes") (array process_text document.names)
    ++ field (codes "initial") (array (array value_text) document.initial)
    ++ field (codes "sources") (array source_text sources) ++ field (codes "events") (array events_text events)
    ++ field (codes "messages") (array message_text messages)
    ++ field (codes "predicates") (array (λ named. predicate_text named.predicate) document.predicates)
    ++ codes ",\n" ++ outcome_text document.names outcome ++ codes "}\n"

-- What stands in the page of a refusal: the text of the report, and an explanation.
unfoldable pub refusal_data : (report explanation : List ℕ) → List ℕ
refusal_data report explanation =
    codes "{\"format\":1,\"refusal\":[" ++ quoted report ++ codes "," ++ quoted explanation ++ codes "]}\n"

-- the page's text before its data
unfoldable pub text_before : List ℕ
text_before = BEFORE.now

-- the page's text after its data: its scripts, and what stands around them
unfoldable pub text_after : List ℕ
text_after =
    RUN.now ++ VERDICT.now ++ NOTES.now ++ PREDICATE.now ++ MATTER.now ++ LANES.now ++ LABELS.now ++ DIAGRAM.now
    ++ PICTURE.now ++ PANEL.now ++ REFUSAL.now ++ POINTER.now ++ MAIN.now

unfoldable pub page_text : Document → Extras → List Source → Computation → List (Place × Place) → Outcome → List ℕ
page_text document extras sources events messages outcome =
    text_before ++ data_text document extras sources events messages outcome ++ text_after

-- the page of a refusal
unfoldable pub refusal_page : (report explanation : List ℕ) → List ℕ
refusal_page report explanation = text_before ++ refusal_data report explanation ++ text_after
