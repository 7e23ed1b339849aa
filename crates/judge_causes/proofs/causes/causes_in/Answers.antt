-- All receipts are enough.
use Rattle.pd_clock.specs.Orders.{places_view}
use Rattle.judge_causes.specs.Asked.{asked_predicate, asked_run}
use Rattle.judge_causes.proofs.AllReceipts.{all_are_causes}
use Rattle.judge_causes.proofs.causes.causes_in.Goals as goal

pub search_from-requires-clause-enough : goal.search_from-requires-clause-enough
search_from-requires-clause-enough g c =
    all_are_causes (asked_run c.args.asked.now) (asked_predicate c.args.asked.now)
    (places_view c.in_ok-receipts.receipts.items) c.in_ok-receipts.ensures c.requires.none
