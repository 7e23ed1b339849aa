-- Nothing is explained.
use Rattle.std.proofs.Common.{ℕ, List, [], Option, None, Some, sym, refl}
use Rattle.std.specs.Prelude.{Bool}
use Rattle.std.specs.Io.KnownBytes.{Appends}
use Rattle.std.proofs.lemmas.List.{append-nil}
use Rattle.pd_cli.specs.Explained.{IsExplained}

nothing_appended : (old : Option (List ℕ)) → Appends old old []
nothing_appended None = tt
nothing_appended (Some xs) = sym (append-nil xs)

-- nothing is written, whatever is wanted
pub unexplained : (is_wanted : Bool) (old : Option (List ℕ)) → IsExplained is_wanted old old
unexplained is_wanted old = record {
  text = [];
  appended = nothing_appended old;
  unwanted = λ _. refl;
}
