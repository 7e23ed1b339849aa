-- The last kept event that is known of the process between is the one that lies between.
use Rattle.std.proofs.Common.{◌-◌, ◌<◌, ◌≤◌, [], get_or, length, arith}
use Rattle.std.proofs.lemmas.Bool.{leb-true}
use Rattle.judge_orders.specs.Lists.{lists_view}
use Rattle.judge_reduced.specs.Planned.{IsKnown}
use Rattle.judge_reduced.proofs.ReceiptSteps.{through_between}
use Rattle.judge_reduced.proofs.receipts.leads_through.Goals as goal

pub returns : goal.returns
returns c = λ le.
    let r = c.args.computation.now in
    let numbers = lists_view c.args.numbers.now in
    let count = c.known_count-count.result in
    let before : IsKnown r numbers c.args.p c.args.i c.args.s count = c.known_count-count.ensures c.requires.second in
    let few : count ≤ length (get_or numbers c.args.s []) = before.there in
    let in_s : count - 1 < length (get_or numbers c.args.s []) = omega (arith, c.if-count-eq0.false) in
    through_between r numbers c.args.p c.args.i c.args.q c.args.s (count - 1) c.args.known c.known_count.result in_s
    ((before.just (count - 1) in_s).0 (omega (arith, c.if-count-eq0.false)))
    (c.known_count.ensures c.requires.first) (leb-true c.args.known c.known_count.result le)
