-- The state that a value of the program stands for.
use Rattle.std.specs.Prelude.{ℕ, ℤ}
use Rattle.pd_clock.specs.States.{value_at}
use Rattle.pd_clock.specs.declared.state.State.{State}

-- the value by the numbers of process and variable
abbrev pub state_view : State → ℕ → ℕ → ℤ
state_view s = value_at s.initial.now s.histories.now s.counts.now
