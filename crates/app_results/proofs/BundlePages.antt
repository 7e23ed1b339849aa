-- What is made of a bundle, or of a folder, is that of the run of this name, and an object is a line.
use Rattle.std.proofs.Common.{◌≡◌, ◌∙◌, ℕ, Bool, List, [], true, false, Ok, Err, inl, inr, ap, subst}
use Rattle.std.specs.Bool.{OnFalse, OnTrue}
use Rattle.std.specs.Global.{Global}
use Rattle.std.specs.Prelude.{IfOk, Result, Vec}
use Rattle.def_format.specs.Documents.{Inquiry, Options}
use Rattle.def_format.specs.Reports.{Report}
use Rattle.def_judgement.specs.Judgements.{events_of_traces}
use Rattle.def_judgement.specs.Writes.{Source}
use Rattle.app_arguments.specs.Statuses.{File}
use Rattle.app_explore.specs.Explorations.{Asked, AskedObject, IsFormOf}
use Rattle.app_host.specs.FileSources.{Knows, bytes_in}
use Rattle.app_results.specs.RunPages.{IsMadeOfFile, IsMadeOfFolder, IsMadeOfRun}
use Rattle.app_results.specs.RunReports.{IsLineOf}
use Rattle.app_test.proofs.BundleFiles.{held_of_file}
use Rattle.judge_bundle_pages.specs.BundlePages.{IsPageOfBundle}
use Rattle.judge_bundle_pages.specs.Parts.{HoldsParts}
use Rattle.judge_bundle_pages.specs.declared.parts.Parts.{Parts}
use Rattle.judge_bundles.specs.BundleRuns.{IsBundleName}
use Rattle.judge_explore.specs.Explored.{Form, IsOwed, IsPageOfInputs, Object, refusal_text, report_with, session_text}
use Rattle.judge_explore.specs.Known.{known_at}
use Rattle.judge_explore.specs.Sources.{StreamFile, sources_of}
use Rattle.judge_session.specs.declared.fault.EngineFault.{EngineFault}
use Rattle.out_json.specs.JsonReports.{json_at, json_of}
use Rattle.serde_json.specs.Data.{Data}

-- ---- an object is a line

module _ (inquiry : Inquiry) (form : Form) (is_object : form ≡ Object) (files : List StreamFile)
    (inputs : List Source) (IsSaid : Report → Type 0) (text : List ℕ) where
  line_of_page : IsPageOfInputs inquiry form files inputs IsSaid text → (report : Data) × IsLineOf report text
  line_of_page h =
      let page = h.is_page in
      let sources = sources_of page.document.names files 0 (events_of_traces page.traces) in (
        json_at page.document.names (known_at page.document sources (events_of_traces page.traces))
            (report_with page.document page.traces page.messages page.outcome),
        page.is_text
            ∙ ap (λ (other : Form).
            session_text other page.document sources page.traces page.pairs page.messages page.outcome) is_object,
      )

  line_of_owed : IsOwed inquiry form files inputs IsSaid text → (report : Data) × IsLineOf report text
  line_of_owed (inl page) = line_of_page page
  line_of_owed (inr refusal) = (
    json_of [] refusal.report,
    refusal.is_text ∙ ap (λ (other : Form). refusal_text other refusal.report refusal.explanation) is_object,
  )

module _ (files : List ℕ → File) (options : Options) (name : List ℕ) where
  line_of_file : (text : List ℕ) → IsMadeOfFile files options AskedObject name text
      → (report : Data) × IsLineOf report text
  line_of_file text made = line_of_page _ made.0 made.1 _ _ _ text made.2.holds.1

  line_of_folder : (text : List ℕ) → IsMadeOfFolder files options AskedObject name text
      → (report : Data) × IsLineOf report text
  line_of_folder text made =
      let owed = made.holds.3 in
      line_of_owed _ owed.0 owed.1 _ _ _ text owed.4

  -- the same of results
  pub bundle_line : (result : Result (Vec ℕ Global) EngineFault)
      → IfOk result (λ text. IsMadeOfFile files options AskedObject name text.items)
      → IfOk result (λ text. (report : Data) × IsLineOf report text.items)
  bundle_line (Ok text) made = line_of_file text.items made
  bundle_line (Err fault) made = tt

  pub folder_line : (result : Result (Vec ℕ Global) EngineFault)
      → IfOk result (λ text. IsMadeOfFolder files options AskedObject name text.items)
      → IfOk result (λ text. (report : Data) × IsLineOf report text.items)
  folder_line (Ok text) made = line_of_folder text.items made
  folder_line (Err fault) made = tt

-- ---- what is made of a run

module _ (files : List ℕ → File) (options : Options) (asked : Asked) (name : List ℕ) where
  -- what is made of the parts that a reader gave is that of its file
  pub made_of_parts : (left : Source) → Knows (files name).source left → (form : Form)
      → IsFormOf (bytes_in files) asked form → (parts : Parts) → HoldsParts left parts
      → (result : Result (Vec ℕ Global) EngineFault)
      → IfOk result (λ text. (input : Source) → HoldsParts input parts
      → IsPageOfBundle options form name input text.items)
      → IfOk result (λ text. IsMadeOfFile files options asked name text.items)
  made_of_parts left knows form is_form parts holds (Ok text) page =
      (form, is_form, held_of_file (files name).source left knows _ (page left holds))
  made_of_parts left knows form is_form parts holds (Err fault) page = tt

  module _ (found : Bool) where
    pub made_of_bundle : (result : Result (Vec ℕ Global) EngineFault) → found ≡ true
        → OnTrue found (IsBundleName name)
        → IfOk result (λ text. IsMadeOfFile files options asked name text.items)
        → IfOk result (λ text. IsMadeOfRun files options asked name text.items)
    made_of_bundle (Ok text) holds named made = record {
      of_bundle = λ _. made;
      of_folder = λ not. absurd (not (subst (λ (b : Bool). OnTrue b (IsBundleName name)) holds named));
    }
    made_of_bundle (Err fault) holds named made = tt

    pub made_of_folder : (result : Result (Vec ℕ Global) EngineFault) → found ≡ false
        → OnFalse found (¬ IsBundleName name)
        → IfOk result (λ text. IsMadeOfFolder files options asked name text.items)
        → IfOk result (λ text. IsMadeOfRun files options asked name text.items)
    made_of_folder (Ok text) fails unnamed made = record {
      of_bundle = λ named. absurd (subst (λ (b : Bool). OnFalse b (¬ IsBundleName name)) fails unnamed named);
      of_folder = λ _. made;
    }
    made_of_folder (Err fault) fails unnamed made = tt
