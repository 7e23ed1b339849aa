-- The counts are those of the processes that are named.
use Rattle.std.proofs.Common.{◌≡◌, ◌≤◌, ℕ, get_or-take, length, length-take-le, take, ap, ◌∙◌, arith}
use Rattle.def_format.specs.Limits.{process_limit}
use Rattle.wide_back.specs.Goals.{predicate_of}
use Rattle.wide_back.proofs.Seeing.{seen_from}
use Rattle.wide_back.proofs.cuts.seen.Goals as goal

pub returns : goal.returns
returns c =
    let given : c.counts-given.result.now ≡ c.args.cut.now = c.counts-given.ensures in
    let made : c.unwrap.result ≡ take (length c.counts-given.result.now) c.loop-p.counts =
    rw c.unwrap.ensures at c.new.ensures.ok in
    let many : length c.loop-p.counts ≡ process_limit = c.loop-p.invariant.many in
    let count : length c.counts-given.result.now ≡ length c.args.cut.now = ap length given in
    let few : length c.args.cut.now ≤ process_limit = omega (arith, c.requires, c.limits.ensures.few) in
    made
    ∙ (ap (λ (n : ℕ). take n c.loop-p.counts) count
    ∙ seen_from (predicate_of c.args.search.now) c.args.cut.now (take (length c.args.cut.now) c.loop-p.counts)
    (length-take-le (length c.args.cut.now) c.loop-p.counts (omega arith))
    (λ q lt. rw get_or-take (c.loop-p.invariant.so_far q (omega (arith, c.loop-p-test.false)))))
