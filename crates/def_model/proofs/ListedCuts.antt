-- What is in a list of cuts, and that the cuts of a level are consistent.
use Rattle.std.proofs.Common.{◌≡◌, ℕ, ◌<◌, Bool, List, length, get_or, All, Contains, Some, arith}
use Rattle.std.specs.Prelude.{slice_get}
use Rattle.std.proofs.lemmas.List.{get_or_default}
use Rattle.std.proofs.lemmas.Option.{slice_get_within, get_or_from_slice_get}
use Rattle.def_model.specs.Answers.{IsListOf}
use Rattle.def_model.specs.Cuts.{IsConsistent, IsOfLevel, IsNextOf}
use Rattle.def_model.specs.Events.{Computation}
use Rattle.def_model.specs.Observations.{IsAvoiding}
use Rattle.def_model.specs.Laws.{AvoidingLevel}

-- what has the property makes the list longer than nothing, and each element has it
pub some_listed : (P : List ℕ → Type 0) (cuts : List (List ℕ)) (cut : List ℕ) → IsListOf P cuts → P cut
    → 0 < length cuts
some_listed P cuts cut list has =
    let w : Contains cuts cut = (list.just cut).1 has in
    let lt : w.0 < length cuts = w.1 in
    omega arith

pub listed_at : (P : List ℕ → Type 0) (cuts : List (List ℕ)) (i : ℕ) (d : List ℕ) → IsListOf P cuts → i < length cuts
    → P (get_or cuts i d)
listed_at P cuts i d list lt = (list.just (get_or cuts i d)).0 (i, lt, get_or_default cuts i (get_or cuts i d) d lt)

pub listed_got : (P : List ℕ → Type 0) (cuts : List (List ℕ)) (i : ℕ) (cut : List ℕ) → IsListOf P cuts
    → slice_get cuts i ≡ Some cut → P cut
listed_got P cuts i cut list is =
    (list.just cut).0 (i, slice_get_within cuts i cut is, get_or_from_slice_get cuts i cut cut is)

pub avoiding_consistent : AvoidingLevel → (c : Computation) (test : List ℕ → Bool) (k : ℕ) (cuts : List (List ℕ))
    → IsListOf (IsAvoiding c test k) cuts → All (IsConsistent c) cuts
avoiding_consistent law c test k cuts list i d lt =
    (law c test k (get_or cuts i d) (listed_at (IsAvoiding c test k) cuts i d list lt)).0

pub level_consistent : (c : Computation) (k : ℕ) (cuts : List (List ℕ)) → IsListOf (IsOfLevel c k) cuts
    → All (IsConsistent c) cuts
level_consistent c k cuts list i d lt = (listed_at (IsOfLevel c k) cuts i d list lt).0

pub next_consistent : (c : Computation) (cuts next : List (List ℕ)) → IsListOf (IsNextOf c cuts) next
    → All (IsConsistent c) next
next_consistent c cuts next list i d lt = (listed_at (IsNextOf c cuts) next i d list lt).0
