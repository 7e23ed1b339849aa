-- The counts so far are the digits.
use Rattle.std.proofs.Common.{◌≡◌, length, take}
use Rattle.def_format.specs.Limits.{process_limit}
use Rattle.walk_keys.specs.Keys.{digits}
use Rattle.pd_level.proofs.read.cut_of.Given as goal

abbrev pub invariant-loop-p : goal.invariant-loop-p
invariant-loop-p g l = record {
  many : length l.counts ≡ process_limit;
  so_far : take l.p l.counts ≡ take l.p (digits l.n (g.K.Key.number l.key));
}
