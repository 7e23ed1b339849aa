-- The window at one less stands beside the one at x.
use Rattle.std.proofs.Common.{ℕ, ◌+◌, ◌-◌, ◌<◌, ◌↔◌, IsTrue, sym, subst, arith}
use Rattle.walk_keys.specs.Words.{has_bit}
use Rattle.walk_marks.specs.Marks.{IsMarkedAt}
use Rattle.walk_marks.proofs.ParentBits.{own_bits, less_bits, less_bits_none}
use Rattle.walk_marks.proofs.parents.own_window.Goals as goal
use Rattle.walk_marks.proofs.parents.own_window.Goals.{then-x-eq0, else-x-eq0}

pub returns-after-x-eq0 : goal.returns-after-x-eq0
returns-after-x-eq0 g c =
    let same : (j : ℕ) → j < 64 → IsTrue (has_bit c.window-same.result j)
    ↔ IsMarkedAt c.args.level.now.runs c.args.marks.now c.in-Some.i (c.args.x + j) = c.window-same.ensures in
    let less : (j : ℕ) → j < 64 → IsTrue (has_bit c.if-x-eq0.less j)
    ↔ ((0 < c.args.x + j)
    × IsMarkedAt c.args.level.now.runs c.args.marks.now c.in-Some.i (c.args.x + j - 1)) =
    elim c.if-x-eq0.branch [
      | then-x-eq0 w ↦ subst (λ (v : ℕ). (j : ℕ) → j < 64 → IsTrue (has_bit v j)
          ↔ ((0 < c.args.x + j)
          × IsMarkedAt c.args.level.now.runs c.args.marks.now c.in-Some.i (c.args.x + j - 1))) (sym w.less-is)
          (less_bits_none c.args.level.now.runs c.args.marks.now c.in-Some.i c.args.x c.window-same.result
          w.up-less.result w.if-x-eq0.true same w.up-less.ensures.below w.up-less.ensures.moved)
      | else-x-eq0 w ↦ subst (λ (v : ℕ). (j : ℕ) → j < 64 → IsTrue (has_bit v j)
          ↔ ((0 < c.args.x + j)
          × IsMarkedAt c.args.level.now.runs c.args.marks.now c.in-Some.i (c.args.x + j - 1))) (sym w.less-is)
          (less_bits c.args.level.now.runs c.args.marks.now c.in-Some.i c.args.x w.window-less.result
          (omega (arith, w.if-x-eq0.false)) w.window-less.ensures)
    ] in
    own_bits c.args.level.now.runs c.args.marks.now (g.K.Key.number c.args.key) c.in-Some.i c.args.x c.if-x-eq0.less
    c.window-same.result c.either.result c.requires.ascending c.in-Some.ensures.some.0 c.in-Some.ensures.some.1
    less same c.either.ensures
