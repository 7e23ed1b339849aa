-- What is kept of the bytes of a stream, and what a server writes into files.
use Rattle.std.specs.Prelude.{◌≡◌, ◌≢◌, ◌⊎◌, ℕ, Bool, true, false, List, Option, None, [], take}
use Rattle.std.specs.Io.KnownBytes.{Appends}
use Rattle.app_arguments.specs.Views.{text_view}
use Rattle.app_arguments.specs.declared.request.Service.{Service}

-- These bytes came next, and what had come before was all written, or not: then a prefix of them was written, all of
-- them if what has come is all written now, and none of them if what had come before wasn't. So what is written is a
-- prefix of what came, in its order.
pub record KeepsOn (was_whole is_whole : Bool) (old new : Option (List ℕ)) (bytes : List ℕ) : Type 0 where
  pub part : (count : ℕ) × Appends old new (take count bytes)
  pub whole : is_whole ≡ true → (was_whole ≡ true) × Appends old new bytes
  pub ended : was_whole ≡ false → (is_whole ≡ false) × Appends old new []

-- the session is to be kept in the folder of this name, or the ports are to be written into the file of this one
abbrev pub WritesFiles : (keep port_file : Option (List ℕ)) → Type 0
WritesFiles keep port_file = (keep ≢ None) ⊎ (port_file ≢ None)

-- a server is asked to write such files
abbrev pub AsksForFiles : Service → Type 0
AsksForFiles service = WritesFiles (text_view service.keep) (text_view service.port_file)
