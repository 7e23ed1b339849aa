-- The data of a page and the text after it, as they are written part by part.
use Rattle.std.proofs.Common.{◌≡◌, ℕ, List, ◌++◌, refl, ap, append_assoc}
use Rattle.std.specs.Prelude.{codes, decimal}
use Rattle.def_model.specs.Events.{Computation, Place}
use Rattle.def_format.specs.Documents.{Document}
use Rattle.out_page.specs.AnswerData.{Outcome, outcome_text}
use Rattle.out_page.specs.EventData.{process_text, value_text, events_text, message_text}
use Rattle.out_page.specs.ExtraData.{Extras, link_text, wish_text}
use Rattle.out_page.specs.JsonTexts.{array, listed, quoted}
use Rattle.out_page.specs.Pages.{data_text, text_after, truth_text}
use Rattle.out_page.specs.SourceData.{Source, source_text}
use Rattle.out_page.specs.declared.text_diagram.TheConstants.{DIAGRAM}
use Rattle.out_page.specs.declared.text_labels.TheConstants.{LABELS}
use Rattle.out_page.specs.declared.text_lanes.TheConstants.{LANES}
use Rattle.out_page.specs.declared.text_main.TheConstants.{MAIN}
use Rattle.out_page.specs.declared.text_matter.TheConstants.{MATTER}
use Rattle.out_page.specs.declared.text_notes.TheConstants.{NOTES}
use Rattle.out_page.specs.declared.text_panel.TheConstants.{PANEL}
use Rattle.out_page.specs.declared.text_picture.TheConstants.{PICTURE}
use Rattle.out_page.specs.declared.text_pointer.TheConstants.{POINTER}
use Rattle.out_page.specs.declared.text_predicate.TheConstants.{PREDICATE}
use Rattle.out_page.specs.declared.text_refusal.TheConstants.{REFUSAL}
use Rattle.out_page.specs.declared.text_run.TheConstants.{RUN}
use Rattle.out_page.specs.declared.text_verdict.TheConstants.{VERDICT}
use Rattle.out_page.specs.Written.{extras_text, limits_text, named_text, report_text, run_text, scripts, session_text, sources_text, text_diagram, text_labels, text_lanes, text_main, text_matter, text_notes, text_panel, text_picture, text_pointer, text_predicate, text_refusal, text_run, text_verdict}

first_scripts : RUN.now ++ VERDICT.now ++ NOTES.now ++ PREDICATE.now ++ MATTER.now ++ LANES.now ++ LABELS.now
    ≡ text_run ++ text_verdict ++ text_notes ++ text_predicate ++ text_matter ++ text_lanes ++ text_labels
unfolding text_run text_verdict text_notes text_predicate text_matter text_lanes text_labels
first_scripts = refl

pub after_is : text_after ≡ scripts
unfolding text_after scripts text_diagram text_picture text_panel text_refusal text_pointer text_main
after_is =
    ap (λ (text : List ℕ). text ++ DIAGRAM.now ++ PICTURE.now ++ PANEL.now ++ REFUSAL.now ++ POINTER.now ++ MAIN.now)
    first_scripts

-- fields one after another, of which some are arrays that end in `e`, and the same in six groups
grouped : (a w b t c wi d na f li g pr h ini i so j ev k me l pd m ou z e : List ℕ)
    → a ++ w ++ (b ++ t) ++ (c ++ (wi ++ e)) ++ (d ++ (na ++ e)) ++ (f ++ li) ++ (g ++ (pr ++ e)) ++ (h ++ (ini ++ e))
    ++ (i ++ (so ++ e)) ++ (j ++ (ev ++ e)) ++ (k ++ (me ++ e)) ++ (l ++ (pd ++ e)) ++ m ++ ou ++ z
    ≡ (a ++ w ++ b ++ t) ++ (c ++ wi ++ (e ++ d) ++ na ++ (e ++ f) ++ li) ++ (g ++ pr ++ (e ++ h) ++ ini ++ e)
    ++ (i ++ so ++ e) ++ (j ++ ev ++ (e ++ k) ++ me ++ e) ++ (l ++ pd ++ (e ++ m) ++ ou) ++ z
grouped a w b t c wi d na f li g pr h ini i so j ev k me l pd m ou z e = simp append_assoc

pub data_is : (document : Document) (extras : Extras) (sources : List Source) (events : Computation)
    (messages : List (Place × Place)) (outcome : Outcome)
    → data_text document extras sources events messages outcome
    ≡ limits_text document ++ extras_text document extras ++ session_text document ++ sources_text sources
    ++ run_text events messages ++ report_text document outcome ++ codes "}\n"
unfolding data_text limits_text extras_text session_text sources_text run_text report_text
data_is document extras sources events messages outcome =
    grouped (codes "{\"format\":1,\n\"width\":") (decimal document.width) (codes ",\n\"beyond_width\":")
    (truth_text document.beyond_width) (codes ",\n\"wishes\":[")
    (listed (wish_text document.predicates) extras.wishes) (codes ",\n\"notes\":[") (listed quoted extras.notes)
    (codes ",\n\"link\":") (link_text extras.link) (codes ",\n\"processes\":[") (listed process_text document.names)
    (codes ",\n\"initial\":[") (listed (array value_text) document.initial) (codes ",\n\"sources\":[")
    (listed source_text sources) (codes ",\n\"events\":[") (listed events_text events) (codes ",\n\"messages\":[")
    (listed message_text messages) (codes ",\n\"predicates\":[") (listed named_text document.predicates)
    (codes ",\n") (outcome_text document.names outcome) (codes "}\n") (codes "]")
