-- The value of a variable by the count of its process.
use Rattle.std.proofs.Common.{◌≡◌, ℕ, ◌+◌, List, replicate, ap, ◌∙◌, ℤ, arith}
use Rattle.std.proofs.lemmas.List.{get_or-replicate}
use Rattle.std.specs.Prelude.{[], slice_get, slice_index, slice_index_or, take}
use Rattle.def_model.specs.Events.{events_of}
use Rattle.def_model.specs.Predicates.{Recorded, last_set_if_there, state_at}
use Rattle.wide_pairs.specs.Parts.{value_after}

-- what the value is in each cut with a count it is by that count
pub value_by_cuts : (r : Recorded) (s n v : ℕ) (value : ℤ)
    → ((counts : List ℕ) → slice_index counts s ≡ n → value ≡ state_at r.initial r.events counts s v)
    → value ≡ value_after r s n v
value_by_cuts r s n v value by_cuts =
    let counts : List ℕ = replicate (s + 1) n in
    let at : slice_index counts s ≡ n = get_or-replicate (s + 1) s n 0 (omega arith) in
    by_cuts counts at
    ∙ ap (λ (k : ℕ). last_set_if_there v (slice_get (slice_index_or r.initial s []) v) (take k (events_of r.events s)))
    at
