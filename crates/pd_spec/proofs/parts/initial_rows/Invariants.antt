-- What the loops of `initial_rows` keep.
use Rattle.std.proofs.Common.{◌≡◌, ℤ, Vec, Global, map, take}
use Rattle.pd_spec.specs.Outlines.{row_in, process_view}
use Rattle.pd_spec.proofs.parts.initial_rows.Given as goal

abbrev pub invariant-loop-process : goal.invariant-loop-process
invariant-loop-process l = map (λ (row : Vec ℤ Global). row.items) l.rows.items
    ≡ map row_in (map process_view (take l.process-index l.processes))
