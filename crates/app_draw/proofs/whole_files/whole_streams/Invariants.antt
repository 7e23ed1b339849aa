-- The streams that are read so far, and those that are left.
use Rattle.std.proofs.Common.{◌≡◌, drop, map, take}
use Rattle.std.specs.List.{AllZip}
use Rattle.def_judgement.specs.Writes.{IsWholeInput}
use Rattle.app_draw.proofs.whole_files.whole_streams.Given as goal

abbrev pub invariant-loop-place : goal.invariant-loop-place
invariant-loop-place g l =
    (l.rest.items ≡ drop l._place l.fn.streams.items)
    × AllZip IsWholeInput (map g.R.ByteSource.left (take l._place l.fn.streams.items))
    (map (λ bytes. bytes.items) l.read.items)
