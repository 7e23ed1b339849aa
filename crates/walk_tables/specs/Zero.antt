-- How a sum is compared with 0.
use Rattle.std.specs.Prelude.{ℕ, ◌≤◌, ◌^◌, List, [], ◌∷◌, Bool, not, cond, ℤ, pos, ◌≤ℤ◌, ◌&&◌, ◌||◌}
use Rattle.std.specs.Int.RustNames.{unsigned_abs}
use Rattle.def_model.specs.Predicates as model
use Rattle.pd_pred.specs.declared.tree.Comparison.{Comparison}
use Rattle.pd_pred.specs.Trees.{comparison_view}

-- whether the number stands in this relation to 0
abbrev pub compares_with_zero : Comparison → ℤ → Bool
compares_with_zero comparison value = model.compares (comparison_view comparison) value (pos 0)

-- no number of a table is further from 0
abbrev pub part_limit : ℕ
part_limit = 2 ^ 58

abbrev pub IsSmall : ℤ → Type 0
IsSmall value = unsigned_abs value ≤ part_limit

abbrev pub IsBetween : ℤ → ℤ → ℤ → Type 0
IsBetween least greatest value = (least ≤ℤ value) × (value ≤ℤ greatest)

-- the truth, or its opposite
abbrev pub turned : Bool → Bool → Bool
turned negated truth = cond negated (not truth) truth

-- both or one of two truths
abbrev pub joined : Bool → Bool → Bool → Bool
joined is_and first second = cond is_and (first && second) (first || second)

-- all truths of a list's elements, or one of them
abbrev pub all_joined : {T : Type 0} → Bool → (T → Bool) → List T → Bool
all_joined is_and holds [] = is_and
all_joined is_and holds (first ∷ rest) = joined is_and (holds first) (all_joined is_and holds rest)
