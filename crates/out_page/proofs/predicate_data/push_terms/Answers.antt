-- The first one, and then each after its comma.
use Rattle.std.proofs.Common.{arith}
use Rattle.std.proofs.lemmas.List.{take_all}
use Rattle.out_page.specs.PredicateData.{term_text}
use Rattle.pd_pred.specs.Trees.{signed_term_view}
use Rattle.out_page.proofs.Listed.{listed_seen}
use Rattle.out_page.proofs.predicate_data.push_terms.Goals as goal

pub returns : goal.returns
returns c =
    let others = c.in-Some.others.now in
    listed_seen term_text signed_term_view c.args.out.now.items c.push_term.new.out.items c.loop-term.out.items
    c.args.terms.now others _ c.in-Some.first.now c.in-Some.ensures.cases.0 c.in_ok-push_term.ensures
    c.loop-term.invariant (take_all c.loop-term.term-index others (omega arith))
