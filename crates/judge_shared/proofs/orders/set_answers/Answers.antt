-- The answers are right of the entry's order.
use Rattle.std.proofs.Common.{refl}
use Rattle.judge_shared.proofs.EntryFacts.{set_right}
use Rattle.judge_shared.proofs.orders.set_answers.Goals as goal

pub returns-then-is_none : goal.returns-then-is_none
returns-then-is_none c = λ options bytes order at right all.
    set_right options c.args.entries.now bytes order c.args.place _ _ at refl refl right all
