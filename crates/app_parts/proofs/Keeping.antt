-- Parts that are read one after another, and kept.
use Rattle.std.proofs.Common.{◌≡◌, ℕ, suc, ◌+◌, ◌≤◌, Bool, true, false, List, [], ◌∷◌, ◌++◌, length, length-append, string_bytes, refl, sym, ap, ◌∙◌, subst, append-nil, arith}
use Rattle.std.proofs.lemmas.List.{length-map, map-append}
use Rattle.def_format.specs.Limits.{stream_count_limit}
use Rattle.def_judgement.specs.Writes.{Source}
use Rattle.read_bundle.proofs.PartSteps.{HasRest}
use Rattle.read_bundle.specs.PartsRead.{HasReadPart}
use Rattle.read_bundle.specs.Steps.{AreParts, HasCut, HasParts, State}
use Rattle.app_parts.specs.Names.{names_of, part_name, part_names}
use Rattle.app_parts.specs.PartsKept.{HoldsParts, bytes_of}
use Rattle.app_parts.specs.declared.parts.Part.{Part}

-- a part more
pub next_part : (input before after : Source) (old new : State) (begins others : Bool) (parts : List Part)
    (part : Part) (bytes : List ℕ) → begins ≡ true → part.bytes.items ≡ bytes
    → HasParts begins input before (bytes_of parts) old → HasReadPart (λ read. bytes ≡ read) before after old new others
    → HasParts others input after (bytes_of (parts ++ part ∷ [])) new
next_part input before after old new begins others parts part bytes is same has read =
    let here : HasParts true input before (bytes_of parts) old =
    subst (λ (b : Bool). HasParts b input before (bytes_of parts) old) is has in
    let grown : bytes_of parts ++ read.part ∷ [] ≡ bytes_of (parts ++ part ∷ []) =
    ap (λ (last : List ℕ). bytes_of parts ++ last ∷ []) (sym (same ∙ read.right))
    ∙ sym (map-append (λ (p : Part). p.bytes.items) parts (part ∷ [])) in
    subst (λ all. HasParts others input after all new) grown (read.goes input (bytes_of parts) here)

-- the name of a part more
pub next_name : (parts : List Part) (part : Part) (count : ℕ) → count ≡ length parts
    → names_of parts ≡ part_names (length parts) → string_bytes part.name ≡ part_name count
    → names_of (parts ++ part ∷ []) ≡ part_names (length (parts ++ part ∷ []))
next_name parts part count is names name =
    let long : suc (length parts) ≡ length (parts ++ part ∷ []) =
    omega (arith, length-append parts (part ∷ [])) in
    map-append (λ (p : Part). string_bytes p.name) parts (part ∷ [])
    ∙ rw (names, name, is) refl
    ∙ ap part_names long

-- the part that begins, as it is after the parts so far
pub begun : (input left : Source) (state : State) (begins : Bool) (parts : List (List ℕ)) → begins ≡ true
    → HasParts begins input left parts state → HasCut input left parts [] state
begun input left state begins parts is has = subst (λ (b : Bool). HasParts b input left parts state) is has

-- all parts are kept
pub all_kept : (input left : Source) (state : State) (begins : Bool) (parts : List (List ℕ)) → begins ≡ false
    → HasParts begins input left parts state → HoldsParts input parts
all_kept input left state begins parts is has =
    let are : AreParts input parts = subst (λ (b : Bool). HasParts b input left parts state) is has in
    record {
      others = [];
      are_parts = subst (AreParts input) (sym (append-nil parts)) are;
      all = λ few. refl;
    }

-- there are more parts than are kept
pub some_kept : (input : Source) (parts : List Part) → stream_count_limit + 2 ≤ length parts
    → HasRest input (bytes_of parts) → HoldsParts input (bytes_of parts)
some_kept input parts many rest = record {
  others = rest.0;
  are_parts = rest.2;
  all = λ few. absurd (omega (arith, few, many, length-map parts (λ (p : Part). p.bytes.items)));
}
