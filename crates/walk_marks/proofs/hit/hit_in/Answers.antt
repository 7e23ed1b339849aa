-- The least bit that is set in the first block with one.
use Rattle.std.proofs.Common.{◌≡◌, ◌+◌, ◌*◌, ◌<◌, ◌≤◌, ℕ, true, false, arith}
use Rattle.walk_marks.specs.RunPlaces.{run_at}
use Rattle.walk_marks.specs.Marks.{cut_with}
use Rattle.walk_marks.proofs.PushedWords.{run_some}
use Rattle.walk_marks.proofs.FirstSatisfying.{none_in_block, first_in_block}
use Rattle.walk_marks.proofs.hit.hit_in.Goals as goal

pub overflow_sub-b-end : goal.overflow_sub-b-end
overflow_sub-b-end g c =
    let some : (run_at c.args.level.now.runs c.args.i).lo ≤ (run_at c.args.level.now.runs c.args.i).hi =
    run_some (g.T.RunTest.events c.args.test.now) c.args.level.now c.requires.level c.args.i c.requires.within in
    omega (arith, c.lo-lo.ensures, c.hi-hi.ensures)

pub block-requires : goal.block-requires
block-requires g c =
    let some : (run_at c.args.level.now.runs c.args.i).lo ≤ (run_at c.args.level.now.runs c.args.i).hi =
    run_some (g.T.RunTest.events c.args.test.now) c.args.level.now c.requires.level c.args.i c.requires.within in
    omega (arith, c.lo-lo.ensures, c.hi-hi.ensures)

pub returns-then-found-ne0-clause-some : goal.returns-then-found-ne0-clause-some
returns-then-found-ne0-clause-some g c =
    let w : (c.lo-lo.result + c.loop-b.b * 64 + c.least.result ≤ c.hi-hi.result)
    × (g.T.RunTest.test c.args.test.now (cut_with c.args.level.now.number
    (run_at c.args.level.now.runs c.args.i) (c.lo-lo.result + c.loop-b.b * 64 + c.least.result)) ≡ true)
    × ((u : ℕ) → c.lo-lo.result ≤ u → u < c.lo-lo.result + c.loop-b.b * 64 + c.least.result
    → g.T.RunTest.test c.args.test.now (cut_with c.args.level.now.number
    (run_at c.args.level.now.runs c.args.i) u) ≡ false) =
    first_in_block (λ u. g.T.RunTest.test c.args.test.now (cut_with c.args.level.now.number
    (run_at c.args.level.now.runs c.args.i) u)) c.lo-lo.result c.loop-b.b c.hi-hi.result c.block.result
    c.hits-found.result c.least.result c.hits-found.ensures.within c.hits-found.ensures.beyond c.least.ensures.set
    c.least.ensures.least c.block.ensures.high c.loop-b.invariant in (
      omega (arith, c.lo-lo.ensures),
      omega (arith, w.0, c.hi-hi.ensures),
      w.1,
      λ u low. w.2 u (omega (arith, c.lo-lo.ensures)),
    )

pub loop-b-preserved : goal.loop-b-preserved
loop-b-preserved g c =
    none_in_block (λ u. g.T.RunTest.test c.args.test.now (cut_with c.args.level.now.number
    (run_at c.args.level.now.runs c.args.i) u)) c.lo-lo.result c.loop-b.b c.hi-hi.result c.block.result
    c.hits-found.result c.hits-found.ensures.within (c.words.ensures.none.0 c.if-found-ne0.false)
    c.block.ensures.whole c.loop-b.invariant
