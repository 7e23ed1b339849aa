-- How a line goes onto the first part of a bundle.
use Rattle.std.proofs.Common.{◌≡◌, ℕ, Bool, true, false, List, [], ◌∷◌, ◌++◌, refl, ap, append_assoc}
use Rattle.def_format.specs.Bundles.{is_separator, onto_part, parts_of_lines}

-- a line that goes onto a part has one already
pub onto_nothing : (line : List ℕ) (parts : List (List ℕ)) → onto_part [] (onto_part line parts) ≡ onto_part line parts
onto_nothing line [] = refl
onto_nothing line (part ∷ parts) = refl

-- one after the other, or both at once
pub onto_twice : (part line : List ℕ) (parts : List (List ℕ))
    → onto_part (part ++ line) parts ≡ onto_part part (onto_part line parts)
onto_twice part line [] = refl
onto_twice part line (next ∷ parts) = ap (λ first. first ∷ parts) (append_assoc part line next)

-- there is a part that a line may go onto
pub onto_none : (lines : List (List ℕ)) → onto_part [] (parts_of_lines lines) ≡ parts_of_lines lines
onto_none [] = refl
onto_none (line ∷ lines) = go (is_separator line) refl
  where
    go : (b : Bool) → is_separator line ≡ b
        → onto_part [] (parts_of_lines (line ∷ lines)) ≡ parts_of_lines (line ∷ lines)
    go true e = rw e refl
    go false e = rw e (onto_nothing line (parts_of_lines lines))
