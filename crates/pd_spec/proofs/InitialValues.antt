-- The rows of initial values fit the processes.
use Rattle.std.proofs.Common.{◌≡◌, ℕ, zero, suc, List, [], ◌∷◌, length, refl, sym, ap, ◌∙◌, ℤ}
use Rattle.std.specs.Prelude.{slice_index_or}
use Rattle.std.proofs.lemmas.List.{length-map}
use Rattle.def_format.specs.Names.{ProcessNames, vars_of}
use Rattle.read_traces.specs.InitialRows.{AreInitialRows}
use Rattle.pd_spec.specs.Sound.{IsSound, lengths, vars_of_each}

-- ---- as many of each

length-lengths : {A : Type 0} (rows : List (List A)) → length (lengths rows) ≡ length rows
length-lengths rows = length-map rows (λ row. length row)

as_many : (initial : List (List ℤ)) (names : List ProcessNames) → lengths initial ≡ lengths (vars_of_each names)
    → length initial ≡ length names
as_many initial names e =
    sym (length-lengths initial) ∙ (ap length e
    ∙ (length-lengths (vars_of_each names) ∙ length-map names (λ (process : ProcessNames). process.vars)))

-- a row has a value for each variable of its process
row_width : (initial : List (List ℤ)) (names : List ProcessNames) (p : ℕ)
    → lengths initial ≡ lengths (vars_of_each names)
    → length (slice_index_or initial p []) ≡ length (vars_of names p)
row_width [] [] p e = refl
row_width [] (n ∷ names) p e = absurd (cc)
row_width (row ∷ rows) [] p e = absurd (cc)
row_width (row ∷ rows) (n ∷ names) zero e = let h : length row ≡ length n.vars = cc in h
row_width (row ∷ rows) (n ∷ names) (suc p) e =
    row_width rows names p (let h : lengths rows ≡ lengths (vars_of_each names) = cc in h)

pub rows_fit : (names : List ProcessNames) (initial : List (List ℤ)) (predicates : List (List ℕ)) (width : ℕ)
    → IsSound names initial predicates width → AreInitialRows names initial
rows_fit names initial predicates width sound = record {
  some = sound.some_process;
  one_each = as_many initial names sound.rows;
  values = λ p. row_width initial names p sound.rows;
}
