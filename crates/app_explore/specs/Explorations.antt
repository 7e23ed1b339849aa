-- What a run that explores leaves on its output.
use Rattle.std.specs.Prelude.{◌≡◌, ◌≤◌, ◌⊎◌, ℕ, true, false, All, List, [], ◌∷◌, ◌++◌, codes, length, map, unwrap_or, Option, Some, IfSome}
use Rattle.std.specs.List.{AllZip}
use Rattle.std.specs.Str.{IsUtf8}
use Rattle.def_format.specs.Documents.{Inquiry, Options}
use Rattle.def_format.specs.Reports.{Report}
use Rattle.judge_runs.specs.Wishes.{Condition, DefinitelyYes, Kind, PossiblyNo, SomeUnknown}
use Rattle.app_arguments.specs.Formats.{Format, Plain, Json}
use Rattle.app_arguments.specs.Statuses.{Ending, File, LeavesOf, MayBeUnread, OfNamed, OfReport, OfStreams, PageOptions, SessionLeaves, sources_of}
use Rattle.app_host.specs.FileSources.{bytes_in}
use Rattle.def_judgement.specs.Writes.{Source}
use Rattle.judge_explore.specs.Explored.{Form, IsOwed, Object, Page}
use Rattle.judge_explore.specs.Sources.{AreFilesOf, StreamFile}
use Rattle.out_page.specs.ExtraData.{Extras}

-- ---- what the page has beside its session

abbrev pub kind_word : Kind → List ℕ
kind_word PossiblyNo = codes "never"
kind_word DefinitelyYes = codes "always"
kind_word _ = codes "sometimes"

abbrev pub shown_wish : Condition → List ℕ × List ℕ
shown_wish wish = (kind_word wish.kind, unwrap_or wish.name [])

-- what is asked for, with the notes: each is all that the file of its name holds, if that is known
pub record AreExtras (bytes_of : List ℕ → Option (List ℕ)) (page : PageOptions) (extras : Extras) : Type 0 where
  pub wishes : extras.wishes ≡ map shown_wish page.wishes
  pub notes : AllZip (λ name note. IfSome (bytes_of name) (λ bytes. note ≡ bytes)) page.notes extras.notes
  pub link : extras.link ≡ page.link

-- the note is that of the file of this name
abbrev pub IsNoteOf : (bytes_of : List ℕ → Option (List ℕ)) → (name note : List ℕ) → Type 0
IsNoteOf bytes_of name note = IfSome (bytes_of name) (λ bytes. note ≡ bytes)

-- the most bytes that a file of notes may have
abbrev pub notes_byte_limit : ℕ
notes_byte_limit = 67108864

-- The file can surely be opened and read to its end, and what it holds is text, and not too long.
pub record IsNotesFile (file : File) : Type 0 where
  pub opens : file.opens ≡ true
  pub ends : file.source.fails ≡ Some false
  pub bytes : List ℕ
  pub known : file.source.bytes ≡ Some bytes
  pub is_text : IsUtf8 bytes
  pub fits : length bytes ≤ notes_byte_limit

-- ---- the predicates that are named

-- a condition on the predicate of a wish: of its kind nothing is asked
abbrev pub named_by : Condition → Condition
named_by wish = record { name = wish.name; kind = SomeUnknown }

-- the conditions on predicates that are named by conditions to fail on and by wishes
abbrev pub all_named : (fail_on : List Condition) (wishes : List Condition) → List Condition
all_named fail_on wishes = fail_on ++ map named_by wishes

-- ---- what is left

-- what a session is to be made into: its page, with what is asked of that, or its object
pub data Asked : Type 0 where
  AskedPage : PageOptions → Asked
  AskedObject : Asked

abbrev pub wishes_of : Asked → List Condition
wishes_of (AskedPage page) = page.wishes
wishes_of AskedObject = []

-- the names of the files of notes
abbrev pub notes_of : Asked → List (List ℕ)
notes_of (AskedPage page) = page.notes
notes_of AskedObject = []

-- what is asked for is of this form
abbrev pub IsFormOf : (bytes_of : List ℕ → Option (List ℕ)) → Asked → Form → Type 0
IsFormOf bytes_of (AskedPage page) form = (extras : Extras) × AreExtras bytes_of page extras × (form ≡ Page extras)
IsFormOf bytes_of AskedObject form = form ≡ Object

-- the text that is owed of a session in the form that is asked for, and with some files of these names
abbrev pub IsOwedWith : (bytes_of : List ℕ → Option (List ℕ)) → Asked → (names : List (List ℕ)) → Inquiry
    → (streams : List Source) (IsSaid : Report → Type 0) (text : List ℕ) → Type 0
IsOwedWith bytes_of asked names inquiry streams IsSaid text =
    (form : Form) × IsFormOf bytes_of asked form × (files : List StreamFile) × AreFilesOf bytes_of names files
    × IsOwed inquiry form files streams IsSaid text

-- What is made of a session, or of its refusal, is left as a judgement's report is.
abbrev pub OfForm : (bytes_of : List ℕ → Option (List ℕ)) → Asked → (names : List (List ℕ))
    (streams : List Source) (fail_on : List Condition) → Inquiry → Ending → (old new : Option (List ℕ)) → Type 0
OfForm bytes_of asked names streams fail_on inquiry ending old new =
    OfReport (IsOwedWith bytes_of asked names inquiry streams) fail_on ending old new

-- A file of the session may be such that it can't be opened, or the document such that it can't be read; or not each
-- file of notes holds such.
abbrev pub UnreadPage : (files : List ℕ → File) (document : List ℕ) (streams notes : List (List ℕ)) → Type 0
UnreadPage files document streams notes =
    MayBeUnread (files document ∷ map files streams) (files document ∷ []) ⊎ (All IsNotesFile (map files notes) → ⊥)

-- what is left of a run that explores the session in files of these names
abbrev pub ExplorationLeaves : (files : List ℕ → File) (options : Options) (fail_on : List Condition) → Asked
    → (document : List ℕ) (streams : List (List ℕ)) → Ending → (old new : Option (List ℕ)) → Type 0
ExplorationLeaves files options fail_on asked document streams ending old new =
    LeavesOf options (files document) (UnreadPage files document streams (notes_of asked))
    (OfNamed (all_named fail_on (wishes_of asked))
    (OfForm (bytes_in files) asked streams (sources_of (map files streams)) fail_on)) ending old new

-- What is left of a run that judges the session in files of these names: its report, or the object, by the format.
abbrev pub FilesLeave : (files : List ℕ → File) (options : Options) (fail_on : List Condition) → Format
    → (document : List ℕ) (streams : List (List ℕ)) → Ending → (old new : Option (List ℕ)) → Type 0
FilesLeave files options fail_on Plain document streams =
    SessionLeaves files options document streams (λ sources. OfNamed fail_on (OfStreams sources fail_on))
FilesLeave files options fail_on Json document streams =
    ExplorationLeaves files options fail_on AskedObject document streams
