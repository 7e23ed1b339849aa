-- The names of the processes so far.
use Rattle.std.proofs.Common.{◌≡◌, map, take}
use Rattle.def_format.specs.Names.{ProcessNames}
use Rattle.out_picture.specs.Pictures.{texts_view}
use Rattle.judge_draw.proofs.drawn.lane_names.Given as goal

abbrev pub invariant-loop-p : goal.invariant-loop-p
invariant-loop-p l = texts_view l.lanes.items ≡ map (λ (process : ProcessNames). process.name) (take l.p l.names)
