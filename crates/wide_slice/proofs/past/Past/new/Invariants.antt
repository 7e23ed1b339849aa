-- What the loop of `new` keeps.
use Rattle.std.proofs.Common.{◌≡◌, length, take}
use Rattle.def_format.specs.Limits.{process_limit}
use Rattle.wide_slice.proofs.past.Past.new.Given as goal

abbrev pub invariant-loop-q : goal.invariant-loop-q
invariant-loop-q l = record {
  many : length l.past ≡ process_limit;
  so_far : take l.q l.past ≡ take l.q l.counts;
}
