-- Each half is written into its part of the row.
use Rattle.std.proofs.Common.{◌≡◌, ◌-◌, ◌^◌, ◌<◌, ◌++◌, length, sym, ◌∙◌, subst, arith}
use Rattle.walk_keys.specs.Keys.{count_base, digits}
use Rattle.walk_keys.specs.Pairs.{single_limit}
use Rattle.walk_keys.proofs.Written.{halves}
use Rattle.walk_keys.proofs.pair.PairKey.write.Goals as goal

pub write-requires-clause-below : goal.write-requires-clause-below
write-requires-clause-below c =
    let small : c.args.self.second < count_base ^ single_limit = omega arith in
    let both =
    halves (length c.args.counts.now) c.in_first-middle.result c.args.self.first c.args.self.second
    c.in_first-middle.ensures small c.requires.below in
    subst (λ k. c.args.self.first < count_base ^ k) (sym c.split_at_mut-first.ensures.front_len) both.first

pub returns : goal.returns
returns c =
    let small : c.args.self.second < count_base ^ single_limit = omega arith in
    let both =
    halves (length c.args.counts.now) c.in_first-middle.result c.args.self.first c.args.self.second
    c.in_first-middle.ensures small c.requires.below in
    let rest : length c.split_at_mut-first.result.1.now ≡ length c.args.counts.now - c.in_first-middle.result =
    omega (arith, c.split_at_mut-first.ensures.back_len) in
    (λ i. c.write.ensures i ++ c.write-2.ensures i)
    ∙ ((λ i. digits (c.split_at_mut-first.ensures.front_len i) c.args.self.first
    ++ digits (rest i) c.args.self.second)
    ∙ both.both)
