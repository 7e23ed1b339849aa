-- The texts so far are the same.
use Rattle.std.proofs.Common.{◌≡◌, map, string_bytes, take}
use Rattle.judge_reduction.proofs.same_names.are_same_texts.Given as goal

abbrev pub invariant-loop-i : goal.invariant-loop-i
invariant-loop-i l = map string_bytes (take l.i l.first) ≡ map string_bytes (take l.i l.second)
