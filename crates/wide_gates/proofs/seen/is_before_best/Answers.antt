-- Counts that fit have no more events than there may be.
use Rattle.std.proofs.Common.{IfSome, List, Option, ℕ, sum, subst, ◌≤◌, arith}
use Rattle.def_model.specs.Cuts.{FitsProcesses, total}
use Rattle.wide_gates.proofs.SeenCuts.{fits_total}
use Rattle.wide_gates.proofs.seen.is_before_best.Goals as goal

pub is_before-requires-clause-first : goal.is_before-requires-clause-first
is_before-requires-clause-first c =
    let le : sum c.args.cut.now ≤ total c.args.computation.now.events =
    fits_total c.args.computation.now.events c.args.cut.now c.requires.cut in
    omega (arith, le, c.total.ensures.sum, c.total.ensures.small)

pub is_before-requires-clause-second : goal.is_before-requires-clause-second
is_before-requires-clause-second c =
    let fits : FitsProcesses c.args.computation.now.events c.in-Some.least =
    subst (λ (best : Option (List ℕ)). IfSome best (FitsProcesses c.args.computation.now.events)) c.in-Some.is
    c.requires.best in
    let le : sum c.in-Some.least ≤ total c.args.computation.now.events =
    fits_total c.args.computation.now.events c.in-Some.least fits in
    omega (arith, le, c.total.ensures.sum, c.total.ensures.small)
