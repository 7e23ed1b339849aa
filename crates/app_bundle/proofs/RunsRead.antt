-- The line of a run that has no session.
use Rattle.std.proofs.Common.{◌≡◌, ℕ, ◌<◌, List, ◌++◌, length, Option, Ok, Err, ap, codes, false, string_bytes, subst, sym, ◌∙◌}
use Rattle.std.specs.Global.{Global}
use Rattle.std.specs.Prelude.{IfErr, IfSome, IsErrAnd, Result, String}
use Rattle.std.specs.List.{slice_get}
use Rattle.def_format.specs.Documents.{Document, IsDocument, plain}
use Rattle.def_format.specs.Names.{ProcessNames}
use Rattle.app_host.specs.FileSources.{IsReadOf}
use Rattle.app_test.specs.Tests.{document_in, file_in}
use Rattle.app_bundle.proofs.StreamsRead.{some_at}
use Rattle.app_arguments.specs.Statuses.{File}
use Rattle.app_bundle.specs.Bundles.{IsFileOfRun, IsLineOfRun, RunLine, a_stream, of_bytes, of_unread}
use Rattle.app_bundle.specs.RunLines.{IsStreamFile, IsUnbundled, NamesFile}
use Rattle.app_bundle.specs.declared.unbundled.Unbundled.{Unbundled}
use Rattle.app_bundle.specs.declared.unbundled.Unbundled.TheVariants.{Memory, NoText, Unread}
use Rattle.out_lines.specs.Lines.{line_text, unread_data}

-- what is so of a file is so of the one that a reason names
pub named_file : {A : Type 0} (P Q : List ℕ → Type 0) → ((file : List ℕ) → P file → Q file)
    → (result : Result A Unbundled) → IfErr result (NamesFile P) → IfErr result (NamesFile Q)
named_file P Q go (Ok x) named = tt
named_file P Q go (Err (Unread file)) named = go (string_bytes file) named
named_file P Q go (Err (NoText file)) named = go (string_bytes file) named
named_file P Q go (Err Memory) named = tt

pub named_on : {A : Type 0} (P Q : List ℕ → Type 0) → ((file : List ℕ) → P file → Q file)
    → (result : Result A Unbundled) (why : Unbundled) → IsErrAnd result (λ (w : Unbundled). w ≡ why)
    → NamesFile P why → IfErr result (NamesFile Q)
named_on P Q go (Ok x) why is named = tt
named_on {A} P Q go (Err w) why is named = named_file {A = A} P Q go (Err w) (subst (NamesFile P) (sym is) named)

-- the file of the name that was made is that of the process's stream
pub stream_file : (folder : List ℕ) (names found : List ProcessNames) (place : ℕ) (process path file : List ℕ)
    → place < length names → found ≡ names → IfSome (slice_get found place) (λ entry. process ≡ entry.name)
    → path ≡ file_in folder (process ++ codes ".stream") → file ≡ path → IsStreamFile folder names file
stream_file folder names found place process path file lt same is made named =
    let entry = some_at names place lt in
    let called : process ≡ entry.0.name =
    subst (λ (o : Option ProcessNames). IfSome o (λ one. process ≡ one.name)) entry.1
    (subst (λ (l : List ProcessNames). IfSome (slice_get l place) (λ one. process ≡ one.name)) same is) in (
      place,
      entry.0,
      entry.1,
      named ∙ (made ∙ ap (λ (name : List ℕ). file_in folder (name ++ codes ".stream")) called),
    )

-- the file of a stream is one of the run
pub file_of_stream : (files : List ℕ → File) (folder document bytes : List ℕ) (read : Document)
    → IsReadOf document (files (document_in folder)).source → bytes ≡ document → IsDocument (plain bytes) read
    → (file : List ℕ) → IsStreamFile folder read.names file → IsFileOfRun files folder file
file_of_stream files folder document bytes read is_read same is file stream =
    a_stream document read stream.0 stream.1 is_read
    (subst (λ (b : List ℕ). IsDocument (plain b) read) same is) stream.2 stream.3

module _ (files : List ℕ → File) (folder : List ℕ) (file : String Global) (name : List ℕ) (run : RunLine)
    (same : name ≡ string_bytes file) where
  pub unread_line : IsUnbundled files (Unread file)
      → NamesFile (IsFileOfRun files folder) (Unread file)
      → run ≡ record { is_session = false; line = line_text (unread_data folder (codes "unread " ++ name)) }
      → IsLineOfRun files folder run
  unread_line why is_file is =
      of_unread (string_bytes file) is_file why
      (subst (λ (bytes : List ℕ). run
      ≡ record { is_session = false; line = line_text (unread_data folder (codes "unread " ++ bytes)) }) same is)

  pub no_text_line : IsUnbundled files (NoText file)
      → NamesFile (IsFileOfRun files folder) (NoText file)
      → run ≡ record { is_session = false; line = line_text (unread_data folder (codes "no UTF-8 in " ++ name)) }
      → IsLineOfRun files folder run
  no_text_line why is_file is =
      of_bytes (string_bytes file) why.0 is_file why.1 why.2
      (subst (λ (bytes : List ℕ). run
      ≡ record { is_session = false; line = line_text (unread_data folder (codes "no UTF-8 in " ++ bytes)) }) same is)
