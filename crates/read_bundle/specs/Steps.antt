-- A bundle while it is read, step by step.
use Rattle.std.specs.Prelude.{◌≡◌, ◌≢◌, ◌≤◌, ◌+◌, ◌-◌, ◌*◌, ℕ, zero, suc, Bool, true, false, List, [], ◌∷◌, ◌++◌, Some, length}
use Rattle.std.specs.Io.KnownBytes.{Consumes, IsAtEnd}
use Rattle.def_format.specs.Bundles.{onto_part, parts_of}
use Rattle.def_format.specs.Limits.{bundle_byte_limit}
use Rattle.def_judgement.specs.Writes.{IsWholeInput, Source}
use Rattle.read_bundle.specs.Cutting.{parts_from}
use Rattle.read_bundle.specs.declared.cutter.Cutter.{Cutter}
use Rattle.read_bundle.specs.declared.cutter.Cutter.TheVariants.{Held, Inside}
use Rattle.read_bundle.specs.declared.next.Next.{Next}
use Rattle.read_bundle.specs.declared.next.Next.TheVariants.{Bytes, End, PartEnd}

-- Where the next byte stands, the bytes that were read and aren't cut yet, those that the last step gave its part, how
-- many were read, and whether the input has ended.
pub record State : Type 0 where
  pub cutter : Cutter
  pub buffer : List ℕ
  pub given : List ℕ
  pub count : ℕ
  pub ended : Bool

-- whether bytes are held back
abbrev pub holds : Cutter → ℕ
holds (Held zero) = 0
holds (Held (suc count)) = 1
holds Inside = 0

-- steps take at least this down by one
abbrev pub steps_left : State → ℕ
steps_left state = 2 * (bundle_byte_limit - state.count + length state.buffer) + holds state.cutter

-- A source with this left, and this afterwards, gave bytes that are these parts, then the bytes so far of the part that
-- goes on, and then what comes next. Whether a read of it fails is known as before, or the source gave its end.
pub record HasCut (input left : Source) (closed : List (List ℕ)) (part : List ℕ) (state : State) : Type 0 where
  pub seen : List ℕ
  pub consumed : Consumes input.bytes left.bytes seen
  pub counted : length seen ≡ state.count
  pub at_end : state.ended ≡ true → IsAtEnd left.bytes
  pub same_fate : state.ended ≡ false → left.fails ≡ input.fails
  pub no_failure : state.ended ≡ true → input.fails ≢ Some true
  pub parts : (rest : List ℕ) → (state.ended ≡ true → rest ≡ []) → parts_of (seen ++ rest)
      ≡ closed ++ onto_part part (parts_from state.cutter (state.buffer ++ rest))

-- the parts of all that a source had left, which is within the limit
pub record AreParts (input : Source) (parts : List (List ℕ)) : Type 0 where
  pub bundle : List ℕ
  pub is_given : IsWholeInput input bundle
  pub fits : length bundle ≤ bundle_byte_limit
  pub are_parts : parts_of bundle ≡ parts

-- how it goes on after a step
abbrev pub Goes : Next → (input left : Source) → List (List ℕ) → List ℕ → State → Type 0
Goes Bytes input left closed part state = HasCut input left closed (part ++ state.given) state
Goes PartEnd input left closed part state = HasCut input left (closed ++ part ∷ []) [] state
Goes End input left closed part state = AreParts input (closed ++ part ∷ [])

-- what a step does to what was cut
abbrev pub Steps : (before after : Source) → State → State → Next → Type 0
Steps before after old new next =
    (input : Source) (closed : List (List ℕ)) (part : List ℕ) → HasCut input before closed part old
    → Goes next input after closed part new

-- these are the parts so far, and another part begins; or these are all
abbrev pub HasParts : Bool → (input left : Source) → List (List ℕ) → State → Type 0
HasParts true input left parts state = HasCut input left parts [] state
HasParts false input left parts state = AreParts input parts

-- how the parts go on after a step by which the cutter and its buffer changed
abbrev pub parts_after_step : Next → List ℕ → List (List ℕ) → List (List ℕ)
parts_after_step Bytes given parts = onto_part given parts
parts_after_step PartEnd given parts = [] ∷ parts
parts_after_step End given parts = parts

-- whether another part begins
abbrev pub begins_part : Next → Bool
begins_part Bytes = false
begins_part PartEnd = true
begins_part End = false

-- each step takes this down
abbrev pub turns_left : Next → State → ℕ
turns_left Bytes state = suc (steps_left state)
turns_left PartEnd state = suc (steps_left state)
turns_left End state = 0
