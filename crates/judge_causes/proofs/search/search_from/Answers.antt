-- The search keeps that its receipts are enough.
use Rattle.std.specs.Prelude.{false}
use Rattle.pd_clock.specs.Orders.{places_view}
use Rattle.judge_causes.specs.Asked.{asked_predicate, asked_run}
use Rattle.judge_causes.proofs.SearchSteps.{empty_view, searched_at_first}
use Rattle.judge_causes.proofs.search.search_from.Goals as goal

pub loop-search-init : goal.loop-search-init
loop-search-init g c =
    searched_at_first (asked_run c.args.asked.now) (asked_predicate c.args.asked.now)
    (places_view c.args.receipts.items) (places_view c.new.result.items) false
    (empty_view c.new.result.items c.new.ensures.items) c.requires.enough

pub shortest-requires-clause-enough : goal.shortest-requires-clause-enough
shortest-requires-clause-enough g c =
    rw (c.deref.ensures.value, c.deref-in-loop-search.ensures.value) c.loop-search.invariant.enough

pub loop-search-preserved : goal.loop-search-preserved
loop-search-preserved g c =
    c.in_ok-search.ensures.stage (asked_run c.args.asked.now) (asked_predicate c.args.asked.now)
    c.loop-search.invariant
    (rw (c.deref.ensures.value, c.deref-in-loop-search.ensures.value) at c.in_ok-short.ensures)

pub returns : goal.returns
returns g c =
    c.in_ok-causes.ensures (asked_run c.args.asked.now) (asked_predicate c.args.asked.now) c.loop-search.invariant
