-- One empty list more, or one for each process.
use Rattle.std.proofs.Common.{List, ℕ, sym, subst, arith}
use Rattle.std.specs.Prelude.{Vec}
use Rattle.std.specs.Global.{Global}
use Rattle.judge_orders.proofs.Growing.{AreEmpty, empty_grows, empty_more}
use Rattle.judge_orders.proofs.Places.{longer}
use Rattle.judge_orders.proofs.named.no_vars.Goals as goal

pub loop-process-preserved : goal.loop-process-preserved
loop-process-preserved c = record {
  many = longer c.loop-process.named.items c.push.new.self.items c.new.result c.loop-process._process
      c.in_ok-push.ensures.items c.loop-process.invariant.many;
  empty = subst AreEmpty (sym {A = List (Vec ℕ Global)} c.in_ok-push.ensures.items)
      (empty_more c.loop-process.named.items c.new.result c.loop-process.invariant.empty c.new.ensures.items);
}

pub returns-clause-none : goal.returns-clause-none
returns-clause-none c =
    empty_grows c.loop-process.named.items c.args.processes c.loop-process.invariant.empty
    (omega (
      arith,
      c.loop-process.invariant.many,
      c.loop-process-test.false,
      c.loop-process.auto._process-end,
    ))
