-- What is decided after the prefix is decided at each cut with it.
use Rattle.std.proofs.Common.{◌∙◌, w64}
use Rattle.std.proofs.lemmas.Int.{to_z-of_z}
use Rattle.walk_tables.proofs.linear.Linear.may.Goals as goal

pub returns-in-Some : goal.returns-in-Some
returns-in-Some c =
    λ no x y.
    let base = c.base-base.result in
    let read = to_z-of_z w64 base (record { sfits = c.base-base.type_inv }) ∙ c.base-base.ensures.value in
    c.in-Some.ensures c.args.prefix.now x y read ∙ no
