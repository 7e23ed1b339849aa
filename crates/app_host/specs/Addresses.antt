-- The addresses to which ports belong.
use Rattle.std.specs.Prelude.{◌≡◌, [], ◌∷◌, ℕ, List, Option, Some, None}
use Rattle.std.specs.Net.Addr.{IsV4And, ipv4_octets}
use Rattle.std.specs.Net.Grammar.{IsIpText}
use Rattle.std.specs.Net.Socket.{socket_ip, socket_port}
use Rattle.std.specs.declared.net.ip_addr.IpAddr.{IpAddr}
use Rattle.std.specs.declared.net.socket_addr.SocketAddr.{SocketAddr}

-- the address that this text is, or 127.0.0.1
abbrev pub IsAddress : Option (List ℕ) → IpAddr → Type 0
IsAddress None ip = IsV4And ip (λ four. ipv4_octets four ≡ 127 ∷ 0 ∷ 0 ∷ 1 ∷ [])
IsAddress (Some text) ip = IsIpText text ip

-- this port of that address
pub record IsPortOf (address : Option (List ℕ)) (port : ℕ) (bound : SocketAddr) : Type 0 where
  pub of_address : IsAddress address (socket_ip bound)
  pub of_port : socket_port bound ≡ port
