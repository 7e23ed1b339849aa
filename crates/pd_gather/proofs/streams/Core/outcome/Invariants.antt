-- What the loops of `outcome` keep.
use Rattle.std.proofs.Common.{◌≡◌, ◌≤◌, length}
use Rattle.std.specs.List.{AllZip}
use Rattle.std.specs.Vec.{vec_capacity, vec_len}
use Rattle.pd_gather.proofs.Outcomes.{Gives}
use Rattle.pd_gather.proofs.streams.Core.outcome.Given as goal

abbrev pub invariant-loop-reader : goal.invariant-loop-reader
invariant-loop-reader l = record {
  can_go : (goal.iterator-loop-reader).can_next l.reader-iterator;
  ends : (goal.iterator-loop-reader).is_finite l.reader-iterator;
  count : vec_len l.room ≡ length l.yielded;
  spare : length l.fn.self ≤ vec_capacity l.room;
  gives : AllZip Gives l.yielded l.room.items;
}
