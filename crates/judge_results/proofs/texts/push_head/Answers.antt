-- What stands before the test cases, part by part.
use Rattle.std.specs.Prelude.{codes}
use Rattle.judge_results.specs.Results.{junit_head, numbered}
use Rattle.judge_results.proofs.Parts.{five_parts}
use Rattle.judge_results.proofs.texts.push_head.Goals as goal

pub returns : goal.returns
unfolding junit_head
returns c =
    five_parts c.args.out.now.items c.push_bytes.new.out.items c.push_field.new.out.items c.push_field-2.new.out.items
    c.push_field-3.new.out.items c.push_bytes-2.new.out.items (codes "<?xml version=\"1.0\" encoding=\"UTF-8\"?>\n")
    (numbered (codes "<testsuite name=\"monitor\" tests=\"") c.args.counts.all)
    (numbered (codes "\" failures=\"") c.args.counts.fail)
    (numbered (codes "\" errors=\"") c.args.counts.not_judged) (codes "\">\n") c.in_ok-push_bytes.ensures.ok
    c.in_ok-push_field.ensures c.in_ok-push_field-2.ensures c.in_ok-push_field-3.ensures
    c.in_ok-push_bytes-2.ensures.ok
