-- Lists of lists as they are kept.
use Rattle.std.specs.Prelude.{ℕ, List, Vec, map}
use Rattle.std.specs.Global.{Global}

-- the numbers of each list
abbrev pub lists_view : List (Vec ℕ Global) → List (List ℕ)
lists_view lists = map (λ list. list.items) lists
