-- The text is written up to the first write that fails.
use Rattle.std.proofs.Common.{◌≡◌, ◌-◌, length, take, drop, length-drop, take-add, arith}
use Rattle.std.proofs.lemmas.List.{take_rest}
use Rattle.app_host.proofs.WrittenSoFar.{appends_on}
use Rattle.app_host.proofs.line.write_line.Goals as goal

pub writes-preserved : goal.writes-preserved
writes-preserved g c =
    let rest : take (length c.args.text.now - c.writes.taken) (drop c.writes.taken c.args.text.now)
    ≡ drop c.writes.taken c.args.text.now = take_rest c.args.text.now c.writes.taken in
    let some = rw rest at c.in-Some.ensures.some in
    record {
      within = omega (arith, some.0, length-drop c.writes.taken c.args.text.now, c.writes.invariant.within);
      written = rw (take-add c.writes.taken c.in-Some.count c.args.text.now)
          (appends_on (g.E.Write.contents c.args.errors.now) (g.E.Write.contents c.writes.errors)
          (g.E.Write.contents c.write_once.new.errors) (take c.writes.taken c.args.text.now)
          (take c.in-Some.count (drop c.writes.taken c.args.text.now)) c.writes.invariant.written some.1);
    }
