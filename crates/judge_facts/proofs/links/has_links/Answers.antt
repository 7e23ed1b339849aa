-- Each process is asked whether another one leads to it.
use Rattle.std.proofs.Common.{arith, sym, ◌∙◌}
use Rattle.std.proofs.lemmas.Bool.{false≢true}
use Rattle.pd_pred.specs.Trees.{tree_view}
use Rattle.judge_facts.specs.Links.{IsLedTo}
use Rattle.judge_facts.proofs.Causes.{none_below_next, process_led_to}
use Rattle.judge_facts.proofs.links.has_links.Goals as goal

pub loop-q-preserved : goal.loop-q-preserved
loop-q-preserved c =
    none_below_next (IsLedTo c.args.computation.now.events (tree_view c.args.tree.now)) c.loop-q.q c.loop-q.invariant
    (λ led. false≢true (sym c.if-is_led_to.false ∙ c.is_led_to.ensures.1 led))

pub returns : goal.returns
returns c =
    let events = c.args.computation.now.events in (
      λ never. absurd (cc),
      λ found. absurd (c.loop-q.invariant found.0 (omega (
        arith,
        process_led_to events found.1.0 found.0 found.1.1.leads,
        c.loop-q-test.false,
        c.processes-q-end.ensures,
      )) found.1),
    )
