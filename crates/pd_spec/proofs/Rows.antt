-- The rows of initial values beside the processes' variables.
use Rattle.std.proofs.Common.{◌≡◌, ℕ, zero, suc, ◌<◌, List, [], ◌∷◌, length, Some, arith}
use Rattle.std.specs.Prelude.{slice_get, slice_index_or}
use Rattle.def_format.specs.Names.{ProcessNames, vars_of}
use Rattle.pd_spec.specs.Sound.{lengths, vars_of_each}

-- a process that has a variable is there
pub process_of_var : (names : List ProcessNames) (p v : ℕ) → v < length (vars_of names p) → p < length names
process_of_var [] p v h = absurd (omega arith)
process_of_var (process ∷ names) zero v h = omega arith
process_of_var (process ∷ names) (suc p) v h = let rest : p < length names = process_of_var names p v h in omega arith

-- the row of a process has a value for each of its variables
pub row_fits : {A : Type 0} (rows : List (List A)) (names : List ProcessNames) (p : ℕ) (row : List A)
    → lengths rows ≡ lengths (vars_of_each names) → slice_get rows p ≡ Some row
    → length row ≡ length (vars_of names p)
row_fits [] names p row same found = cc
row_fits (first ∷ rows) [] p row same found = cc
row_fits (first ∷ rows) (process ∷ names) zero row same found = cc
row_fits (first ∷ rows) (process ∷ names) (suc p) row same found = row_fits rows names p row (cc) found

pub row_found : {A : Type 0} (rows : List (List A)) (p : ℕ) (row : List A) → slice_get rows p ≡ Some row
    → slice_index_or rows p [] ≡ row
row_found [] p row found = cc
row_found (first ∷ rows) zero row found = cc
row_found (first ∷ rows) (suc p) row found = row_found rows p row found
