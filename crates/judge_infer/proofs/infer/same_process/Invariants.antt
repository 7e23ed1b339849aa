-- No process so far has the name of an earlier one.
use Rattle.std.proofs.Common.{◌≡◌, [], map, take, drop}
use Rattle.judge_infer.specs.DocumentParts.{names_of, again_after}
use Rattle.judge_infer.specs.Views.{process_view}
use Rattle.judge_infer.proofs.infer.same_process.Given as goal

abbrev pub invariant-loop-i : goal.invariant-loop-i
invariant-loop-i l =
    again_after [] (names_of (map process_view l.processes))
    ≡ again_after (names_of (map process_view (take l.i l.processes)))
    (names_of (map process_view (drop l.i l.processes)))
