-- What reads took from the prefix of a reader's known bytes.
use Rattle.std.proofs.Common.{ℕ, List, [], None, Some, Option, refl}
use Rattle.std.specs.Io.KnownBytes.{Consumes}

pub nothing_read : (known : Option (List ℕ)) → Consumes known known []
nothing_read None = tt
nothing_read (Some bytes) = refl
