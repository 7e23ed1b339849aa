-- Each variable stays if those that are left do.
use Rattle.std.proofs.Common.{All, drop}
use Rattle.wide_terms.specs.Changes.{VariableStays}
use Rattle.wide_terms.proofs.changes.has_any_changed.Given as goal

abbrev pub invariant-loop-var : goal.invariant-loop-var
invariant-loop-var l =
    All (VariableStays l.computation l.process l.from l.count) (drop l.var-index l.vars)
    → All (VariableStays l.computation l.process l.from l.count) l.vars
