-- Where connections are accepted.
use Rattle.std.specs.Prelude.{ℕ, List, Option}

pub data Place : Type 0 where
  -- on this port, or on any that is free if it is 0, of the address of this text, or of this machine alone without one
  OnPort : (address : Option (List ℕ)) (port : ℕ) → Place
  -- on the socket of this path, for programs of this machine
  OnSocket : (path : List ℕ) → Place
