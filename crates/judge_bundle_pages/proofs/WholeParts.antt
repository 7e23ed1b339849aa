-- The parts of a bundle, one after another.
use Rattle.std.proofs.Common.{◌≡◌, ℕ, Bool, true, false, List, [], ◌∷◌, ◌++◌, length, map, refl, sym, ap, ◌∙◌, subst}
use Rattle.std.specs.Global.{Global}
use Rattle.std.specs.Prelude.{Vec}
use Rattle.std.proofs.lemmas.List.{map-append}
use Rattle.def_format.specs.Documents.{Options, inquiry_of}
use Rattle.def_format.specs.Reports.{Report}
use Rattle.def_judgement.specs.Writes.{Source, whole_source}
use Rattle.judge_bundle_pages.specs.BundlePages.{IsPageOfBundle, files_of, stream_names}
use Rattle.judge_bundle_pages.specs.Parts.{HoldsParts, bytes_of}
use Rattle.judge_bundle_pages.specs.declared.parts.Parts.{Parts}
use Rattle.judge_explore.specs.Explored.{Form, IsPageOfInputs}
use Rattle.judge_explore.specs.Sources.{StreamFile}
use Rattle.read_bundle.specs.PartsRead.{HasReadPart}
use Rattle.read_bundle.specs.Steps.{AreParts, HasCut, HasParts, State}

-- the document was read, from where the bundle began
pub first_read : (input after : Source) (old new : State) (begins : Bool) (document : List ℕ)
    → HasCut input input [] [] old → HasReadPart (λ read. document ≡ read) input after old new begins
    → HasParts begins input after (document ∷ []) new
first_read input after old new begins document cut read =
    subst (λ (part : List ℕ). HasParts begins input after (part ∷ []) new) (sym read.right)
    (read.goes input [] cut)

-- one more stream
pub stream_read : (input before after : Source) (old new : State) (begins others : Bool) (document : List ℕ)
    (streams : List (Vec ℕ Global)) (stream : Vec ℕ Global) → begins ≡ true
    → HasParts begins input before (document ∷ bytes_of streams) old
    → HasReadPart (λ read. stream.items ≡ read) before after old new others
    → HasParts others input after (document ∷ bytes_of (streams ++ stream ∷ [])) new
stream_read input before after old new begins others document streams stream is has read =
    let here : HasCut input before (document ∷ bytes_of streams) [] old =
    subst (λ (b : Bool). HasParts b input before (document ∷ bytes_of streams) old) is has in
    let grown : bytes_of streams ++ read.part ∷ [] ≡ bytes_of (streams ++ stream ∷ []) =
    ap (λ (last : List ℕ). bytes_of streams ++ last ∷ []) (sym read.right)
    ∙ sym (map-append (λ (one : Vec ℕ Global). one.items) streams (stream ∷ [])) in
    subst (λ (all : List (List ℕ)). HasParts others input after (document ∷ all) new) grown
    (read.goes input (document ∷ bytes_of streams) here)

-- these are all
pub all_read : (input left : Source) (state : State) (begins : Bool) (parts : List (List ℕ)) → begins ≡ false
    → HasParts begins input left parts state → AreParts input parts
all_read input left state begins parts is has = subst (λ (b : Bool). HasParts b input left parts state) is has

-- the page of parts is that of the bundle that holds them
pub page_of_parts : (options : Options) (form : Form) (name : List ℕ) (parts : Parts) (input : Source)
    (text : List ℕ) → HoldsParts input parts → (report : Report)
    → IsPageOfInputs (inquiry_of options parts.document.items) form
    (files_of (stream_names name (length (bytes_of parts.streams.items))) (bytes_of parts.streams.items))
    (map whole_source (bytes_of parts.streams.items)) (λ other. other ≡ report) text
    → IsPageOfBundle options form name input text
page_of_parts options form name parts input text held report page = record {
  bundle = held.bundle;
  is_given = held.is_given;
  fits = held.fits;
  document = parts.document.items;
  streams = bytes_of parts.streams.items;
  parts = held.are_parts;
  holds = (report, page);
}

-- the sources of streams that are all there
pub whole_sources : (streams : List (Vec ℕ Global))
    → map (λ (stream : Vec ℕ Global). whole_source stream.items) streams ≡ map whole_source (bytes_of streams)
whole_sources [] = refl
whole_sources (stream ∷ streams) =
    ap (λ (sources : List Source). whole_source stream.items ∷ sources) (whole_sources streams)

-- the same by what was made of the parts
pub page_of_explored : (options : Options) (form : Form) (name : List ℕ) (parts : Parts) (input : Source)
    (text : List ℕ) → HoldsParts input parts → (report : Report) (document : List ℕ) (files : List StreamFile)
    (sources : List Source) → document ≡ parts.document.items
    → files ≡ files_of (stream_names name (length (bytes_of parts.streams.items))) (bytes_of parts.streams.items)
    → sources ≡ map whole_source (bytes_of parts.streams.items)
    → IsPageOfInputs (inquiry_of options document) form files sources (λ other. other ≡ report) text
    → IsPageOfBundle options form name input text
page_of_explored options form name parts input text held report document files sources same are_files are_sources page =
    page_of_parts options form name parts input text held report
    (subst (λ (bytes : List ℕ). IsPageOfInputs (inquiry_of options bytes) form
    (files_of (stream_names name (length (bytes_of parts.streams.items))) (bytes_of parts.streams.items))
    (map whole_source (bytes_of parts.streams.items)) (λ other. other ≡ report) text) same
    (subst (λ (some : List StreamFile). IsPageOfInputs (inquiry_of options document) form some
    (map whole_source (bytes_of parts.streams.items)) (λ other. other ≡ report) text) are_files
    (subst (λ (all : List Source). IsPageOfInputs (inquiry_of options document) form files all
    (λ other. other ≡ report) text) are_sources page)))
