-- A line ends with the first LF.
use Rattle.std.proofs.Common.{add-one, arith}
use Rattle.read_bundle.proofs.Cuts.{ends_line, in_line}
use Rattle.read_bundle.proofs.cutter.line_end.Goals as goal

pub returns-in-Some : goal.returns-in-Some
returns-in-Some c =
    let found = c.in-Some.ensures in
    record {
      some = omega arith;
      within = omega (arith, found.0.high);
      parts = λ rest. rw add-one (ends_line c.args.bytes.now c.in-Some.end found.0.high (λ j below e.
          found.0.before j (omega arith) below e) found.1 rest);
    }

pub returns-in-None : goal.returns-in-None
returns-in-None c = λ rest. in_line c.args.bytes.now (λ j below e. c.in-None.ensures j (omega arith) below e) rest
