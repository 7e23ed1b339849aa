-- What comes of a run, as it is made.
use Rattle.std.specs.Prelude.{◌≡◌, ◌⊎◌, ◌∷◌, [], ⊤, ℕ, List, Some, string_bytes}
use Rattle.std.specs.List.{slice_get}
use Rattle.std.specs.Str.{IsUtf8}
use Rattle.def_format.specs.Names.{ProcessNames}
use Rattle.app_arguments.specs.Statuses.{File, MayBeUnread}
use Rattle.app_host.specs.FileSources.{IsReadOf}
use Rattle.app_test.specs.Tests.{stream_in}
use Rattle.app_bundle.specs.Bundles as bundles
use Rattle.app_bundle.specs.Bundles.{IsStreamOf}
use Rattle.app_bundle.specs.declared.run_line.RunLine.{RunLine}
use Rattle.app_bundle.specs.declared.unbundled.Unbundled.{Unbundled}
use Rattle.app_bundle.specs.declared.unbundled.Unbundled.TheVariants as unbundled

abbrev pub run_view : RunLine → bundles.RunLine
run_view run = record { is_session = run.is_session; line = run.line.items }

-- a run has no session for this reason
abbrev pub IsUnbundled : (files : List ℕ → File) → Unbundled → Type 0
IsUnbundled files (unbundled.Unread file) =
    MayBeUnread (files (string_bytes file) ∷ []) (files (string_bytes file) ∷ [])
IsUnbundled files (unbundled.NoText file) =
    (bytes : List ℕ) × (IsReadOf bytes (files (string_bytes file)).source
    ⊎ IsStreamOf (files (string_bytes file)).source bytes) × ¬ IsUtf8 bytes
IsUnbundled files unbundled.Memory = ⊤

-- the file that a reason names, if it names one, is one of these
abbrev pub NamesFile : (IsFile : List ℕ → Type 0) → Unbundled → Type 0
NamesFile IsFile (unbundled.Unread file) = IsFile (string_bytes file)
NamesFile IsFile (unbundled.NoText file) = IsFile (string_bytes file)
NamesFile IsFile unbundled.Memory = ⊤

-- the file of the stream of one of these processes
abbrev pub IsStreamFile : (folder : List ℕ) → List ProcessNames → (file : List ℕ) → Type 0
IsStreamFile folder names file =
    (place : ℕ) × (process : ProcessNames) × (slice_get names place ≡ Some process) × (file ≡ stream_in folder process)
