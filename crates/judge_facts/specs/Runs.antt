-- Steps of one process, one after another.
use Rattle.std.specs.Prelude.{ℕ, suc, not, nat_eq, List, [], ◌∷◌, length, position}
use Rattle.std.specs.Option.{unwrap_or}

-- how many of the first steps are equal to the first one
abbrev pub first_run : List ℕ → ℕ
first_run [] = 0
first_run (step ∷ rest) = suc (unwrap_or (position (λ next. not (nat_eq next step)) rest) (length rest))
