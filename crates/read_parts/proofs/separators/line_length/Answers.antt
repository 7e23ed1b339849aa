-- A line ends with the first LF, or with the last byte.
use Rattle.std.proofs.Common.{add-one, arith}
use Rattle.read_parts.proofs.PartCuts.{ended_first, one_line}
use Rattle.read_parts.proofs.separators.line_length.Goals as goal

pub returns-in-Some : goal.returns-in-Some
returns-in-Some c =
    let found = c.in-Some.ensures in
    record {
      some = omega arith;
      within = omega (arith, found.0.high);
      lines = rw add-one (ended_first c.args.bytes.now c.in-Some.end found.0.high (λ j below e.
          found.0.before j (omega arith) below e) found.1);
    }

pub returns-in-None : goal.returns-in-None
returns-in-None c = record {
  some = c.requires;
  within = omega arith;
  lines = one_line c.args.bytes.now c.requires (λ j below e. c.in-None.ensures j (omega arith) below e);
}
