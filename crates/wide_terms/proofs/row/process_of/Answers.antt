-- The process that both sums name alone is this one, or isn't there.
use Rattle.std.proofs.Common.{◌≡◌, inl, inr, refl, sym, arith}
use Rattle.pd_pred.specs.Trees.{sum_view}
use Rattle.wide_terms.proofs.Naming.{both_is, both_none}
use Rattle.wide_terms.proofs.row.process_of.Goals as goal

pub returns-then-process-processes-clause-alone : goal.returns-then-process-processes-clause-alone
returns-then-process-processes-clause-alone c = (
  c.requires.0,
  c.requires.1,
  c.requires.2,
  inl (both_is (sum_view c.args.left.now) (sum_view c.args.right.now) c.requires.0 c.in-Some.process
      (sym c.in-Some.ensures) c.requires.1 c.requires.2),
)

pub returns-else-process-processes-clause-alone : goal.returns-else-process-processes-clause-alone
returns-else-process-processes-clause-alone c =
    let same : c.requires.0 ≡ c.in-Some.process =
    both_is (sum_view c.args.left.now) (sum_view c.args.right.now) c.requires.0 c.in-Some.process
    (sym c.in-Some.ensures) c.requires.1 c.requires.2 in (
      c.requires.0,
      c.requires.1,
      c.requires.2,
      inr (omega (arith, same, c.if-process-processes.false, c.processes.ensures)),
    )

pub returns-in-None-clause-alone : goal.returns-in-None-clause-alone
returns-in-None-clause-alone c =
    let both = both_none (sum_view c.args.left.now) (sum_view c.args.right.now) 0 (sym c.in-None.ensures) in
    (0, both.0, both.1, inl refl)
