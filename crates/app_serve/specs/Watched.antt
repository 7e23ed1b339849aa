-- Where watchers are waited for.
use Rattle.std.specs.Prelude.{◌≡◌, ◌++◌, ◌+◌, ◌≤◌, ℕ, codes}
use Rattle.app_arguments.specs.Table.{port_limit}
use Rattle.app_arguments.specs.Places.{Place, OnPort, OnSocket}

-- a port beside this one: the next one, or any free one beside any free one
pub record IsBesidePort (port other : ℕ) : Type 0 where
  pub any : port ≡ 0 → other ≡ 0
  pub next : 1 ≤ port → port ≤ port_limit → other ≡ port + 1

-- P holds of the place beside this one: a port of the same address, or the path with .watchers after it
abbrev pub IsBeside : Place → (P : Place → Type 0) → Type 0
IsBeside (OnPort address port) P = (other : ℕ) × IsBesidePort port other × P (OnPort address other)
IsBeside (OnSocket path) P = P (OnSocket (path ++ codes ".watchers"))
