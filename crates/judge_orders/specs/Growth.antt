-- How the variables that are seen grow.
use Rattle.std.specs.Prelude.{◌≡◌, ℕ, List, [], All, Contains, length, slice_index_or}
use Rattle.def_format.specs.Documents.{NamedPredicate}
use Rattle.def_orders.specs.Orders.{IsOver}

-- There are as many lists as before, and each variable that was seen is seen.
pub record Grows (old new : List (List ℕ)) : Type 0 where
  pub same : length new ≡ length old
  pub stay : (p v : ℕ) → Contains (slice_index_or old p []) v → Contains (slice_index_or new p []) v

-- Nothing else is seen than was: all lists that have the variables that were, and are enough, have those that are seen.
abbrev pub AddsNoOther : (old new : List (List ℕ)) → (IsEnough : List (List ℕ) → Type 0) → Type 0
AddsNoOther old new IsEnough = (lists : List (List ℕ)) → Grows old lists → IsEnough lists → Grows new lists

-- No other variables are seen than those that the predicates name: all lists that have these have those that are seen.
abbrev pub SeeNoOther : (named : List (List ℕ)) → (processes : ℕ) → List NamedPredicate → Type 0
SeeNoOther named processes predicates =
    (lists : List (List ℕ)) → length lists ≡ processes
    → All (λ (asked : NamedPredicate). IsOver lists asked.predicate) predicates → Grows named lists
