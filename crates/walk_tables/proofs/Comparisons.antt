-- Numbers that are compared with 0.
use Rattle.std.proofs.Common.{◌≡◌, ◌∙◌, ap, ℤ, Bool}
use Rattle.walk_tables.specs.Zero.{compares_with_zero}
use Rattle.pd_pred.specs.declared.tree.Comparison.{Comparison}

pub compares_along : (comparison : Comparison) (truth : Bool) (a b : ℤ) → truth ≡ compares_with_zero comparison a
    → a ≡ b → truth ≡ compares_with_zero comparison b
compares_along comparison truth a b is same = is ∙ ap (compares_with_zero comparison) same
