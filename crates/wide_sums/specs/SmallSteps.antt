-- What events add to a sum.
use Rattle.std.specs.Prelude.{ℕ, ◌+◌, ◌<◌, List, ℤ, pos, ◌+ℤ◌, ◌≤ℤ◌, Vec}
use Rattle.std.specs.Global.{Global}
use Rattle.def_model.specs.Events.{Computation, event_count}
use Rattle.wide_slice.specs.Values.{value_of}

-- no event of the process adds more than 1
abbrev pub RowRises : Computation → List (Vec ℤ Global) → ℕ → Type 0
RowRises c values p =
    (n : ℕ) → n < event_count c p → value_of values p (n + 1) ≤ℤ (value_of values p n +ℤ pos 1)
