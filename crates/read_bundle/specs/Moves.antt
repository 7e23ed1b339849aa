-- What one read and one cut do to a bundle that is read.
use Rattle.std.specs.Prelude.{◌≡◌, ◌≢◌, ◌<◌, ◌≤◌, ◌+◌, ℕ, true, false, List, [], ◌∷◌, ◌++◌, Some, length}
use Rattle.std.specs.Io.KnownBytes.{Consumes, IsAtEnd}
use Rattle.def_format.specs.Limits.{bundle_byte_limit}
use Rattle.def_judgement.specs.Writes.{Source}
use Rattle.read_bundle.specs.Cutting.{parts_from}
use Rattle.read_bundle.specs.Steps.{State, parts_after_step, steps_left}
use Rattle.read_bundle.specs.declared.next.Next.{Next}
use Rattle.read_bundle.specs.declared.next.Next.TheVariants.{End}

-- the buffer has what a read took off a source with this left: nothing only at its end
pub record Fills (before after : Source) (old new : State) : Type 0 where
  pub consumed : Consumes before.bytes after.bytes new.buffer
  pub counted : new.count ≡ old.count + length new.buffer
  pub fits : new.count ≤ bundle_byte_limit
  pub same_cutter : new.cutter ≡ old.cutter
  pub at_end : new.ended ≡ true → IsAtEnd after.bytes × (new.buffer ≡ [])
  pub same_fate : new.ended ≡ false → after.fails ≡ before.fails
  pub no_failure : new.ended ≡ true → before.fails ≢ Some true
  pub some : new.ended ≡ false → 0 < length new.buffer

-- the parts from here on are those of what the step gave and of what is left
pub record Moves (old new : State) (next : Next) : Type 0 where
  pub parts : (rest : List ℕ) → (old.ended ≡ true → rest ≡ []) → parts_from old.cutter (old.buffer ++ rest)
      ≡ parts_after_step next new.given (parts_from new.cutter (new.buffer ++ rest))
  pub at_end : next ≡ End → (old.ended ≡ true) × (parts_from old.cutter old.buffer ≡ [] ∷ [])
  pub same_count : new.count ≡ old.count
  pub same_ended : new.ended ≡ old.ended
  pub fits : new.count ≤ bundle_byte_limit
  pub less : (next ≡ End → ⊥) → steps_left new < steps_left old
