-- A run with the same prefix has the same word.
use Rattle.std.proofs.Common.{◌≡◌, ◌<◌, ℕ, List, length, sym, subst, arith}
use Rattle.walk_marks.specs.RunPlaces.{run_at}
use Rattle.walk_marks.specs.SkippedRuns.{IsWordOf}
use Rattle.walk_marks.proofs.skipped.kept.Goals as goal

pub returns-then-has_prefix_of : goal.returns-then-has_prefix_of
returns-then-has_prefix_of g c =
    let place = c.from-at.result in
    let at : place < length c.args.before.now.runs = omega (arith, c.len.ensures, c.if-at-len.true) in
    let same : (run_at c.args.before.now.runs place).prefix ≡ (run_at c.args.level.now.runs c.args.i).prefix =
    (c.has_prefix_of.ensures c.requires.processes).0 c.if-has_prefix_of.true in
    subst (λ (prefix : List ℕ). IsWordOf c.args._tests.now prefix c.word.result) same
    (subst (λ (word : ℕ). IsWordOf c.args._tests.now (run_at c.args.before.now.runs place).prefix word)
    (sym c.word.ensures) (c.requires.skipped.each place at))
