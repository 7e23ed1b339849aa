-- The names of processes, one after another, and the path of some of them.
use Rattle.std.proofs.Common.{◌≡◌, ℕ, zero, suc, ◌+◌, ◌<◌, List, [], ◌∷◌, ◌++◌, length, map, take, refl, ap, ◌∙◌, add-one, arith}
use Rattle.def_format.specs.Names.{name_of_process, ProcessNames}
use Rattle.pd_report.specs.Steps.{name_at, names_at}

abbrev name_of : ProcessNames → List ℕ
name_of process = process.name

-- one name more
next_name : (names : List ProcessNames) (p : ℕ) → p < length names
    → map name_of (take (suc p) names) ≡ map name_of (take p names) ++ name_of_process names p ∷ []
next_name [] p lt = absurd (omega arith)
next_name (process ∷ names) zero lt = refl
next_name (process ∷ names) (suc p) lt =
    ap (λ (others : List (List ℕ)). process.name ∷ others) (next_name names p (omega arith))

pub one_more_name : (names : List ProcessNames) (p : ℕ) → p < length names
    → map name_of (take (p + 1) names) ≡ map name_of (take p names) ++ name_of_process names p ∷ []
one_more_name names p lt =
    ap (λ (n : ℕ). map name_of (take n names)) (add-one p) ∙ next_name names p lt

-- a process has the name at its place among all
same_name : (names : List ProcessNames) (p : ℕ) → name_at (map name_of names) p ≡ name_of_process names p
same_name [] p = refl
same_name (process ∷ names) zero = refl
same_name (process ∷ names) (suc p) = same_name names p

pub same_names : (names : List ProcessNames) (processes : List ℕ) → names_at (map name_of names) processes
    ≡ map (name_of_process names) processes
same_names names processes = λ i. map (λ p. same_name names p i) processes
