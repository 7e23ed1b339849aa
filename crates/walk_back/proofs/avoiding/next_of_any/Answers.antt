-- There aren't too many next cuts.
use Rattle.std.proofs.Common.{◌≡◌, ℕ, ◌*◌, ◌≤◌, Err, length, ap, ◌∙◌, subst, arith}
use Rattle.def_model.specs.Answers.{MoreThan}
use Rattle.def_model.specs.Cuts.{IsNextOf}
use Rattle.def_model.proofs.Successors.{not_wide}
use Rattle.walk_back.proofs.avoiding.next_of_any.Goals as goal

pub unreachable-requires : goal.unreachable-requires
unreachable-requires g c =
    let more : MoreThan c.in-Some.most (IsNextOf c.args.computation.now.events c.args.level.now.cuts) =
    c.in-Err-Wide.ensures.wide (ap Err c.in-Err-Wide.field-0-is) in
    let short : length c.args.level.now.cuts ≤ c.max-cuts.result =
    omega (arith, c.len.ensures, c.max-cuts.ensures) in
    let product : c.in-Some.most ≡ c.max-cuts.result * c.processes.result = c.in-Some.ensures.1 in
    not_wide c.args.computation.now.events c.args.level.now.cuts c.max-cuts.result c.requires.cuts short
    (subst (λ (n : ℕ). MoreThan n (IsNextOf c.args.computation.now.events c.args.level.now.cuts))
    (product ∙ ap (λ (n : ℕ). c.max-cuts.result * n) c.processes.ensures) more)
