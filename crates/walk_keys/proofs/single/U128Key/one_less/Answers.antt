-- The number has the event that is undone.
use Rattle.std.proofs.Common.{◌-◌, ◌^◌, ◌≤◌, arith, subst, ◌<◌, ℕ}
use Rattle.walk_keys.specs.Keys.{count_base}
use Rattle.walk_keys.proofs.PairNumbers.{place_digit, some_before}
use Rattle.walk_keys.proofs.single.U128Key.one_less.Goals as goal

pub overflow_sub-result : goal.overflow_sub-result
overflow_sub-result c =
    let room : count_base ^ (c.args.n - 1 - c.args.p) ≤ c.args.self =
    some_before c.args.self (c.args.n - 1 - c.args.p) (subst (λ (d : ℕ). 0 < d)
    (place_digit c.args.n c.args.self c.args.p c.requires.within c.requires.below) c.requires.some) in
    omega (arith, c.weight.ensures)
