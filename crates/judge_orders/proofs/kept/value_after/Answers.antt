-- The value at a cut with as many events of the process.
use Rattle.std.proofs.Common.{◌≡◌, ◌+◌, ℕ, get_or, ◌∙◌, ap, arith}
use Rattle.std.proofs.Math.ListN.{replicate}
use Rattle.std.proofs.lemmas.Int.{to_z-of_z}
use Rattle.std.proofs.lemmas.List.{get_or-replicate}
use Rattle.std.specs.Int.{w64}
use Rattle.def_long.specs.Views.{value_after}
use Rattle.judge_orders.proofs.kept.value_after.Goals as goal

pub returns : goal.returns
returns c =
    let counts = replicate (c.args.p + 1) c.args.n in
    let at : get_or counts c.args.p 0 ≡ c.args.n =
    get_or-replicate (c.args.p + 1) c.args.p c.args.n 0 (omega arith) in
    to_z-of_z w64 c.value.result (record { sfits = c.value.type_inv })
    ∙ (c.value.ensures counts at
    ∙ ap (λ (k : ℕ). value_after c.args.computation.now k c.args.p c.args.var) at)
