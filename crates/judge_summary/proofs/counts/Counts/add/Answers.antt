-- The sum is put, which is over 0 and not over the limit.
use Rattle.std.proofs.Common.{◌+◌, ◌∙◌, ap, arith}
use Rattle.serde_json.specs.Data.{put}
use Rattle.serde_json.specs.View.{members_view, view}
use Rattle.judge_summary.proofs.Members.{kept_either, put_adds}
use Rattle.judge_summary.proofs.counts.Counts.add.Goals as goal

pub invariant_of-self-in-Some : goal.invariant_of-self-in-Some
invariant_of-self-in-Some c =
    kept_either c.put.result c.args.text.now c.in-Some.sum (view c.from.result) c.self.inside.members.entries
    c.put.new.map.entries c.from.ensures c.put.ensures.ok c.put.ensures.err c.self.invariant
    (omega (arith, c.in-Some.ensures, c.if-count-eq0.false)) (omega (arith, c.in-Some.ensures))

pub returns-in_ok-put-in-Some-clause-ok : goal.returns-in_ok-put-in-Some-clause-ok
returns-in_ok-put-in-Some-clause-ok c =
    rw (← c.self.view_is) (put_adds c.args.text.now c.args.count c.in-Some.sum
    (members_view c.self.inside.members.entries) (members_view c.put.new.map.entries) c.if-count-eq0.false
    (rw (← c.self.view_is) at (c.in-Some.ensures.1 ∙ ap (λ n. n + c.args.count) c.get.ensures))
    (c.in_ok-put-in-Some.ensures.ok ∙ ap (λ v. put c.args.text.now v (members_view c.self.inside.members.entries))
    c.from.ensures))

pub returns-in_ok-put-in-Some-clause-fits : goal.returns-in_ok-put-in-Some-clause-fits
returns-in_ok-put-in-Some-clause-fits c =
    (kept_either c.put.result c.args.text.now c.in-Some.sum (view c.from.result) c.self.inside.members.entries
    c.put.new.map.entries c.from.ensures c.put.ensures.ok c.put.ensures.err c.self.invariant
    (omega (arith, c.in-Some.ensures, c.if-count-eq0.false)) (omega (arith, c.in-Some.ensures))).fit
