-- What a run that explores leaves by the bytes that were read, and by all that the files hold.
use Rattle.std.proofs.Common.{List, ℕ, Option, inl, inr}
use Rattle.std.specs.List.{AllZip}
use Rattle.def_format.specs.Documents.{Inquiry, Options, inquiry_of}
use Rattle.def_format.specs.Reports.{Report}
use Rattle.judge_runs.specs.Wishes.{Condition}
use Rattle.app_arguments.specs.Statuses.{Ending, OfReport}
use Rattle.def_judgement.specs.Writes.{Source}
use Rattle.judge_explore.specs.Explored.{Form, IsOwed, IsPageOfInputs, IsRefusalPage}
use Rattle.judge_explore.specs.Sources.{AreFilesOf, StreamFile}
use Rattle.app_explore.specs.Explorations.{Asked, IsFormOf, IsOwedWith, OfForm}
use Rattle.app_host.specs.FileSources.{Knows, ReadLeaves, SameOutline}
use Rattle.app_host.proofs.DocumentPrefixes.{same_holding, same_judgement, same_truth}
use Rattle.app_host.proofs.FilesRead.{given_as_files, read_weaker, report_weaker}

-- what is left with these files, in the form that is asked for
pub left_with_files : (bytes_of : List ℕ → Option (List ℕ)) (asked : Asked) (names : List (List ℕ))
    (inquiry : Inquiry) (form : Form) (files : List StreamFile) (inputs : List Source)
    → IsFormOf bytes_of asked form → AreFilesOf bytes_of names files → (fail_on : List Condition)
    (old new : Option (List ℕ)) (ending : Ending)
    → ReadLeaves (OfReport (IsOwed inquiry form files inputs) fail_on) ending old new
    → ReadLeaves (OfForm bytes_of asked names inputs fail_on inquiry) ending old new
left_with_files bytes_of asked names inquiry form files inputs is_form are fail_on old new =
    read_weaker (OfReport (IsOwed inquiry form files inputs) fail_on)
    (OfForm bytes_of asked names inputs fail_on inquiry) old new
    (report_weaker (IsOwed inquiry form files inputs) (IsOwedWith bytes_of asked names inquiry inputs) fail_on old new
    (λ IsSaid text owed. (form, is_form, files, are, owed)))

module _ (options : Options) (read document : List ℕ) (files lefts : List Source)
    (are : AllZip Knows files lefts) (same : SameOutline options read document) where
  page_of_files : (form : Form) (used : List StreamFile) (IsSaid : Report → Type 0) (text : List ℕ)
      → IsPageOfInputs (inquiry_of options read) form used lefts IsSaid text
      → IsPageOfInputs (inquiry_of options document) form used files IsSaid text
  page_of_files form used IsSaid text h = record {
    streams = h.streams;
    are_given = given_as_files files lefts h.streams are h.are_given;
    is_page = record {
      document = h.is_page.document;
      traces = h.is_page.traces;
      held = same_holding options read document h.streams h.is_page.document h.is_page.traces same h.is_page.held;
      pairs = h.is_page.pairs;
      are_messages = h.is_page.are_messages;
      messages = h.is_page.messages;
      outcome = h.is_page.outcome;
      right = same_judgement options read document h.streams _ same h.is_page.right;
      truth = same_truth options read document h.streams _ same h.is_page.truth;
      said = h.is_page.said;
      is_text = h.is_page.is_text;
    };
  }

  refusal_of_files : (form : Form) (IsSaid : Report → Type 0) (text : List ℕ)
      → IsRefusalPage (inquiry_of options read) form lefts IsSaid text
      → IsRefusalPage (inquiry_of options document) form files IsSaid text
  refusal_of_files form IsSaid text h = record {
    report = h.report;
    given = record {
      streams = h.given.streams;
      are_given = given_as_files files lefts h.given.streams are h.given.are_given;
      right = same_judgement options read document h.given.streams h.report same h.given.right;
      truth = same_truth options read document h.given.streams h.report same h.given.truth;
    };
    other = h.other;
    said = h.said;
    explanation = h.explanation;
    is_text = h.is_text;
  }

  -- what is owed by the bytes that were read is owed by the files
  pub owed_of_files : (form : Form) (used : List StreamFile) (IsSaid : Report → Type 0) (text : List ℕ)
      → IsOwed (inquiry_of options read) form used lefts IsSaid text
      → IsOwed (inquiry_of options document) form used files IsSaid text
  owed_of_files form used IsSaid text (inl page) = inl (page_of_files form used IsSaid text page)
  owed_of_files form used IsSaid text (inr refusal) = inr (refusal_of_files form IsSaid text refusal)

  -- what is left written by the bytes that were read is what is to be left by the files
  pub exploration_of_files : (bytes_of : List ℕ → Option (List ℕ)) (asked : Asked) (names : List (List ℕ))
      (fail_on : List Condition) (old new : Option (List ℕ)) (ending : Ending)
      → OfForm bytes_of asked names lefts fail_on (inquiry_of options read) ending old new
      → OfForm bytes_of asked names files fail_on (inquiry_of options document) ending old new
  exploration_of_files bytes_of asked names fail_on old new =
      report_weaker (IsOwedWith bytes_of asked names (inquiry_of options read) lefts)
      (IsOwedWith bytes_of asked names (inquiry_of options document) files) fail_on old new
      (λ IsSaid text owed.
      (owed.0, owed.1, owed.2, owed.3, owed_of_files owed.0 owed.2 IsSaid text owed.4))
