-- What is made of recorded runs that fail: pages, and the objects of their reports.
use Rattle.std.specs.Prelude.{◌≡◌, ◌==◌, ◌++◌, ℕ, Bool, true, false, List, [], codes, filter, map, Option, Some, None}
use Rattle.std.specs.List.{list_any}
use Rattle.def_format.specs.Documents.{Document, Inquiry, IsDocument, Options}
use Rattle.def_format.specs.Reports.{Report}
use Rattle.app_arguments.specs.Statuses.{File, OfDocument, PageOptions, sources_of}
use Rattle.app_host.specs.FileSources.{bytes_in}
use Rattle.app_test.specs.Tests.{document_in, streams_in}
use Rattle.judge_runs.specs.Wishes.{Condition}
use Rattle.judge_bundle_pages.specs.BundlePages.{IsPageOfBundle}
use Rattle.judge_bundles.specs.BundleRuns.{IsBundleName}
use Rattle.judge_explore.specs.Explored.{Form}
use Rattle.app_explore.specs.Explorations.{Asked, AskedPage, IsFormOf, IsOwedWith}

-- ---- what is asked of a page

-- a wish is for the predicate of a name
abbrev pub is_named : Option (List ℕ) → Bool
is_named None = false
is_named (Some name) = true

-- the wishes for predicates of a name
abbrev pub named_wishes : List Condition → List Condition
named_wishes wishes = filter (λ (wish : Condition). is_named wish.name) wishes

-- What is asked of the page of a run of which this is wished: the wishes that name a predicate. A wish for each
-- predicate isn't shown on a page.
abbrev pub page_of_wishes : List Condition → PageOptions
page_of_wishes wishes = record { wishes = named_wishes wishes; notes = []; link = None }

-- ---- what is made of a run

-- The text is what is owed, in the form that is asked for, of a document, with what is asked, and of the streams of its
-- processes in this folder, in the document's order.
abbrev pub IsMadeOfDocument : (files : List ℕ → File) (asked : Asked) (folder : List ℕ) → Inquiry
    → (text : List ℕ) → Type 0
IsMadeOfDocument files asked folder inquiry text =
    (document : Document) × IsDocument inquiry document × (report : Report)
    × IsOwedWith (bytes_in files) asked (streams_in folder document.names) inquiry
    (sources_of (map files (streams_in folder document.names))) (λ other. other ≡ report) text

-- The same of the document in the folder: it is what `explore`, or `judge` as JSON, owes of the run with these options.
abbrev pub IsMadeOfFolder : (files : List ℕ → File) (options : Options) (asked : Asked) (folder : List ℕ)
    → (text : List ℕ) → Type 0
IsMadeOfFolder files options asked folder text =
    OfDocument options (files (document_in folder)) (λ inquiry. IsMadeOfDocument files asked folder inquiry text)

-- The text is what is made, in the form that is asked for, of the bundle in the file of this name, with these options.
abbrev pub IsMadeOfFile : (files : List ℕ → File) (options : Options) (asked : Asked) (name : List ℕ)
    → (text : List ℕ) → Type 0
IsMadeOfFile files options asked name text =
    (form : Form) × IsFormOf (bytes_in files) asked form × IsPageOfBundle options form name (files name).source text

-- The text is what is made, in the form that is asked for, of the run of this name, by which it is a bundle in a file,
-- or a folder.
pub record IsMadeOfRun (files : List ℕ → File) (options : Options) (asked : Asked) (name : List ℕ) (text : List ℕ)
    : Type 0 where
  pub of_bundle : IsBundleName name → IsMadeOfFile files options asked name text
  pub of_folder : (¬ IsBundleName name) → IsMadeOfFolder files options asked name text

-- the text is the page of the run of this name, with these options and wishes
abbrev pub IsPageOfRun : (files : List ℕ → File) (options : Options) (wishes : List Condition) (name : List ℕ)
    (text : List ℕ) → Type 0
IsPageOfRun files options wishes name text =
    IsMadeOfRun files options (AskedPage (page_of_wishes wishes)) name text

-- ---- their files

-- a name has a slash
abbrev pub has_slash : List ℕ → Bool
has_slash name = list_any (λ byte. byte == 47) name

-- it has none, so in a folder it names a file of that folder
abbrev pub IsFlat : List ℕ → Type 0
IsFlat name = has_slash name ≡ false

-- the name of the file of the page of this name, in this folder
abbrev pub page_file : (folder name : List ℕ) → List ℕ
page_file folder name = folder ++ codes "/" ++ (name ++ codes ".html")
