-- The counts of the cuts of a run.
use Rattle.std.proofs.Common.{◌≡◌, ℕ, ◌+◌, ◌≤◌, List, [], ◌∷◌, length, get_or, subst}
use Rattle.std.proofs.lemmas.List.{get_or_at, get_or-append-add}
use Rattle.def_model.specs.Events.{Computation, event_count}
use Rattle.def_model.specs.Cuts.{FitsProcesses}
use Rattle.walk_keys.specs.Neighbors.{cut_at}

pub across_at : (prefix : List ℕ) (x y : ℕ) → get_or (cut_at prefix x y) (length prefix) 0 ≡ x
across_at prefix x y = get_or_at prefix x (y ∷ []) 0 (length prefix) (λ i. length prefix)

pub down_at : (prefix : List ℕ) (x y : ℕ) → get_or (cut_at prefix x y) (length prefix + 1) 0 ≡ y
down_at prefix x y = get_or-append-add prefix (x ∷ y ∷ []) 1 0

pub across_fits : (c : Computation) (prefix : List ℕ) (x y : ℕ) → FitsProcesses c (cut_at prefix x y)
    → x ≤ event_count c (length prefix)
across_fits c prefix x y fits =
    subst (λ (n : ℕ). n ≤ event_count c (length prefix)) (across_at prefix x y) (fits.within (length prefix))

pub down_fits : (c : Computation) (prefix : List ℕ) (x y : ℕ) → FitsProcesses c (cut_at prefix x y)
    → y ≤ event_count c (length prefix + 1)
down_fits c prefix x y fits =
    subst (λ (n : ℕ). n ≤ event_count c (length prefix + 1)) (down_at prefix x y) (fits.within (length prefix + 1))
