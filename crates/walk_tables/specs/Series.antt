-- What a chain of comparisons means at a cut.
use Rattle.std.specs.Prelude.{ℕ, List, Bool}
use Rattle.walk_tables.specs.Choices.{choices_hold}
use Rattle.walk_tables.specs.Tables.{linear_holds}
use Rattle.walk_tables.specs.Zero.{all_joined, joined}
use Rattle.walk_tables.specs.declared.linear.Linear.{Linear}
use Rattle.walk_tables.specs.declared.series.Series.{Series}

-- whether the comparisons hold, or one of them
abbrev pub parts_hold : Bool → List Linear → List ℕ → ℕ → ℕ → Bool
parts_hold is_and parts prefix x y = all_joined is_and (λ (part : Linear). linear_holds part prefix x y) parts

abbrev pub series_holds : Series → List ℕ → ℕ → ℕ → Bool
series_holds series prefix x y =
    joined series.is_and (choices_hold series.is_and series.choices.items prefix x y)
    (parts_hold series.is_and series.parts.items prefix x y)
