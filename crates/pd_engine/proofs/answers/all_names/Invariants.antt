-- The names of the processes so far.
use Rattle.std.proofs.Common.{◌≡◌, map, take}
use Rattle.def_format.specs.Names.{ProcessNames}
use Rattle.pd_report.specs.Steps.{names_view}
use Rattle.pd_engine.proofs.answers.all_names.Given as goal

abbrev pub invariant-loop-p : goal.invariant-loop-p
invariant-loop-p l = names_view l.all.items ≡ map (λ (process : ProcessNames). process.name) (take l.p l.names)
