-- The streams so far were accepted.
use Rattle.std.proofs.Common.{◌≡◌, false, length}
use Rattle.std.specs.Prelude.{All}
use Rattle.app_arguments.specs.Places.{Place}
use Rattle.app_serve.proofs.server.accept_streams.Given as goal

abbrev pub invariant-loop-place : goal.invariant-loop-place
invariant-loop-place g l = record {
  count : length l.streams.items ≡ l.place;
  given : (at : Place) → g.N.Network.is_on l.entrance.listener at
      → All (λ stream. g.N.Network.may_give l.host.network.now at
      (g.N.Connection.ByteSource.left stream.source.source)) l.streams.items;
  unended : All (λ stream. g.N.Connection.ByteSource.has_ended stream.source.source ≡ false) l.streams.items;
}
