-- What is known of the parts of a bundle as files, and of other files beside them.
use Rattle.std.specs.Prelude.{ℕ, Bool, false, true, List, Option, Some, None}
use Rattle.app_arguments.specs.Statuses.{File}
use Rattle.def_judgement.specs.Writes.{Source, whole_source}
use Rattle.app_parts.specs.Names.{bytes_called}
use Rattle.app_parts.specs.declared.parts.Part.{Part}
use Rattle.app_parts.specs.declared.part_file.PartFile.{PartFile}
use Rattle.app_parts.specs.declared.part_file.PartFile.TheVariants.{Part as OfPart, File as OfFile}

-- what is left of a part, or of another file
abbrev pub left_in : {F : Type 0} → (F → Source) → PartFile F → Source
left_in left (OfPart rest) = whole_source rest.now
left_in left (OfFile file) = left file

-- whether it isn't asked again
abbrev pub has_ended_in : {F : Type 0} → (F → Bool) → PartFile F → Bool
has_ended_in ended (OfPart rest) = false
has_ended_in ended (OfFile file) = ended file

-- a file that opens, and has exactly these bytes, of which no read fails
abbrev pub part_file : List ℕ → File
part_file bytes = record { source = whole_source bytes; opens = true }

-- the file with the bytes that were found, or else the other one
abbrev pub found_or : Option (List ℕ) → File → File
found_or (Some bytes) other = part_file bytes
found_or None other = other

-- what is known of the file of a name: if a part has it, of the first such part, and else of the file of that name
abbrev pub file_in : (List ℕ → File) → List Part → List ℕ → File
file_in files parts name = found_or (bytes_called name parts) (files name)
