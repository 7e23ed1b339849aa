-- Why the streams of a run aren't open.
use Rattle.std.specs.Prelude.{◌≡◌, ⊤, ℕ, List, [], ◌∷◌, Some, string_bytes}
use Rattle.std.specs.List.{slice_get}
use Rattle.def_format.specs.Names.{ProcessNames}
use Rattle.app_arguments.specs.Statuses.{File, MayBeUnread}
use Rattle.app_test.specs.Tests.{stream_in}
use Rattle.app_test.specs.declared.unopened.Unopened.{Unopened}
use Rattle.app_test.specs.declared.unopened.Unopened.TheVariants as unopened

-- a process of these has its stream in the file of this name, which may be such that it can't be opened
abbrev pub IsUnreadStream : (files : List ℕ → File) (folder : List ℕ) → List ProcessNames → (file : List ℕ) → Type 0
IsUnreadStream files folder names file =
    (place : ℕ) × (process : ProcessNames) × (slice_get names place ≡ Some process)
    × (file ≡ stream_in folder process) × MayBeUnread (files file ∷ []) []

-- the streams of these processes aren't open for this reason
abbrev pub IsUnopened : (files : List ℕ → File) (folder : List ℕ) → List ProcessNames → Unopened → Type 0
IsUnopened files folder names (unopened.Stream file) = IsUnreadStream files folder names (string_bytes file)
IsUnopened files folder names unopened.Memory = ⊤
