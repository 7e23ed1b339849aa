-- The run ends with a line before one that may be a separator, or with the piece.
use Rattle.std.proofs.Common.{◌+◌, drop, length, arith}
use Rattle.std.proofs.lemmas.List.{drop_all, take_all, take_rest}
use Rattle.read_bundle.specs.Cutting.{EndsLine, IsInLine, IsNoSeparator}
use Rattle.read_bundle.proofs.Cuts.{end_within, last_line, next_line, next_run}
use Rattle.read_bundle.proofs.cutter.run_of.Goals as goal

pub returns-then-may_separate : goal.returns-then-may_separate
returns-then-may_separate c =
    let piece = c.args.piece.now in
    let ends : EndsLine (drop c.lines.at piece) c.in-Some.end = rw (take_rest piece c.lines.at) at c.in-Some.ensures in
    record {
      some = omega (arith, ends.some);
      within = end_within piece c.lines.at c.in-Some.end c.lines-test.true ends;
      parts = next_line piece c.lines.at c.in-Some.end c.lines.invariant.parts ends;
    }

pub lines-preserved : goal.lines-preserved
lines-preserved c =
    let piece = c.args.piece.now in
    let at = c.lines.at in
    let end = c.in-Some.end in
    let ends : EndsLine (drop at piece) end = rw (take_rest piece at) at c.in-Some.ensures in
    let other : IsNoSeparator (drop (at + end) piece) = rw (take_rest piece (at + end)) at c.if-may_separate.ensures in
    record {
      within = end_within piece at end c.lines-test.true ends;
      parts = next_run piece at end c.lines.invariant.parts ends other;
    }

pub returns-in-None : goal.returns-in-None
returns-in-None c =
    let piece = c.args.piece.now in
    let line : IsInLine (drop c.lines.at piece) = rw (take_rest piece c.lines.at) at c.in-None.ensures in
    record {
      some = c.requires;
      within = omega arith;
      parts = λ rest. rw (take_all (length piece) piece (omega arith), drop_all (length piece) piece (omega arith))
          (last_line piece c.lines.at c.lines.invariant.parts line rest);
    }
