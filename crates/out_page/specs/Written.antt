-- The data of a page and its scripts in the parts in which they are written: tools of proofs.
use Rattle.std.specs.Prelude.{ℕ, List, ◌++◌, codes, decimal}
use Rattle.def_model.specs.Events.{Computation, Place}
use Rattle.def_format.specs.Documents.{Document, NamedPredicate}
use Rattle.out_page.specs.AnswerData.{Outcome, outcome_text}
use Rattle.out_page.specs.EventData.{process_text, value_text, events_text, message_text}
use Rattle.out_page.specs.ExtraData.{Extras, link_text, wish_text}
use Rattle.out_page.specs.JsonTexts.{array, listed, quoted}
use Rattle.out_page.specs.Pages.{truth_text}
use Rattle.out_page.specs.PredicateData.{predicate_text}
use Rattle.out_page.specs.SourceData.{Source, source_text}
use Rattle.out_page.specs.declared.text_diagram.TheConstants.{DIAGRAM}
use Rattle.out_page.specs.declared.text_labels.TheConstants.{LABELS}
use Rattle.out_page.specs.declared.text_lanes.TheConstants.{LANES}
use Rattle.out_page.specs.declared.text_main.TheConstants.{MAIN}
use Rattle.out_page.specs.declared.text_matter.TheConstants.{MATTER}
use Rattle.out_page.specs.declared.text_notes.TheConstants.{NOTES}
use Rattle.out_page.specs.declared.text_panel.TheConstants.{PANEL}
use Rattle.out_page.specs.declared.text_picture.TheConstants.{PICTURE}
use Rattle.out_page.specs.declared.text_pointer.TheConstants.{POINTER}
use Rattle.out_page.specs.declared.text_predicate.TheConstants.{PREDICATE}
use Rattle.out_page.specs.declared.text_refusal.TheConstants.{REFUSAL}
use Rattle.out_page.specs.declared.text_run.TheConstants.{RUN}
use Rattle.out_page.specs.declared.text_verdict.TheConstants.{VERDICT}

abbrev pub named_text : NamedPredicate → List ℕ
named_text named = predicate_text named.predicate

-- the width, and whether more was asked for
unfoldable pub limits_text : Document → List ℕ
limits_text document =
    codes "{\"format\":1,\n\"width\":" ++ decimal document.width ++ codes ",\n\"beyond_width\":"
    ++ truth_text document.beyond_width

-- the processes with their variables, and what these are before any event
unfoldable pub session_text : Document → List ℕ
session_text document =
    codes ",\n\"processes\":[" ++ listed process_text document.names ++ codes "],\n\"initial\":["
    ++ listed (array value_text) document.initial ++ codes "]"

-- where the events of each process were recorded
unfoldable pub sources_text : List Source → List ℕ
sources_text sources = codes ",\n\"sources\":[" ++ listed source_text sources ++ codes "]"

-- the events of each process, and the messages
unfoldable pub run_text : Computation → List (Place × Place) → List ℕ
run_text events messages =
    codes ",\n\"events\":[" ++ listed events_text events ++ codes "],\n\"messages\":[" ++ listed message_text messages
    ++ codes "]"

-- the predicates, and the answers for them, in their order; or the causal cycle
unfoldable pub report_text : Document → Outcome → List ℕ
report_text document outcome =
    codes ",\n\"predicates\":[" ++ listed named_text document.predicates ++ codes "],\n"
    ++ outcome_text document.names outcome

-- what is wished, noted and linked
unfoldable pub extras_text : Document → Extras → List ℕ
extras_text document extras =
    codes ",\n\"wishes\":[" ++ listed (wish_text document.predicates) extras.wishes ++ codes "],\n\"notes\":["
    ++ listed quoted extras.notes ++ codes "],\n\"link\":" ++ link_text extras.link

-- the page's scripts, and what stands around them
unfoldable pub text_run : List ℕ
text_run = RUN.now

unfoldable pub text_verdict : List ℕ
text_verdict = VERDICT.now

unfoldable pub text_notes : List ℕ
text_notes = NOTES.now

unfoldable pub text_predicate : List ℕ
text_predicate = PREDICATE.now

unfoldable pub text_matter : List ℕ
text_matter = MATTER.now

unfoldable pub text_lanes : List ℕ
text_lanes = LANES.now

unfoldable pub text_labels : List ℕ
text_labels = LABELS.now

unfoldable pub text_diagram : List ℕ
text_diagram = DIAGRAM.now

unfoldable pub text_picture : List ℕ
text_picture = PICTURE.now

unfoldable pub text_panel : List ℕ
text_panel = PANEL.now

unfoldable pub text_refusal : List ℕ
text_refusal = REFUSAL.now

unfoldable pub text_pointer : List ℕ
text_pointer = POINTER.now

unfoldable pub text_main : List ℕ
text_main = MAIN.now

-- all of them
unfoldable pub scripts : List ℕ
scripts =
    text_run ++ text_verdict ++ text_notes ++ text_predicate ++ text_matter ++ text_lanes ++ text_labels ++ text_diagram
    ++ text_picture ++ text_panel ++ text_refusal ++ text_pointer ++ text_main
