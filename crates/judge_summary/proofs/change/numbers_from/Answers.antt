-- One number more, or a value that is none.
use Rattle.judge_summary.specs.Views.{numbered_view}
use Rattle.judge_summary.proofs.Gathered.{goes_on, number_of, number_stops, numbers_end, seen}
use Rattle.judge_summary.proofs.change.numbers_from.Goals as goal

pub returns-in-None : goal.returns-in-None
returns-in-None c =
    number_stops c.args.entries.now c.loop-name.name-index c.loop-name-item.result
    (numbered_view c.loop-name.numbers.items) c.loop-name-test.true c.loop-name-item.is
    (rw c.in-None.is at c.in_ok-found.ensures)

pub loop-name-preserved : goal.loop-name-preserved
loop-name-preserved c =
    goes_on (λ entry. number_of (seen entry)) c.args.entries.now c.loop-name.name-index c.loop-name-item.result
    (numbered_view c.loop-name.numbers.items) (numbered_view c.push_number.new.numbers.items)
    c.loop-name-test.true c.loop-name-item.is c.loop-name.invariant (rw c.in-Some.is at c.in_ok-found.ensures)

pub returns : goal.returns
returns c =
    numbers_end c.args.entries.now c.loop-name.name-index (numbered_view c.loop-name.numbers.items)
    c.loop-name-test.false c.loop-name.invariant
