-- The cuts of the block that begins at the spot.
use Rattle.std.proofs.Common.{◌≡◌, ◌+◌, ◌<◌, ◌≤◌, ◌⊎◌, inl, inr, ℕ, arith}
use Rattle.std.proofs.lemmas.Bool.{cases_lt}
use Rattle.walk_marks.specs.RunPlaces.{run_at}
use Rattle.walk_marks.proofs.by_threads.word_with.Goals as goal

pub returns : goal.returns
returns g c = record {
  just = λ j lt within. c.avoiding.ensures.bits j (inside j lt within (cases_lt c.block-n.result 64));
  beyond = λ j out. c.avoiding.ensures.beyond j (omega (arith, c.block-n.ensures.high, c.hi.ensures));
}
  where
    inside : (j : ℕ) → j < 64 → c.args.spot.x + j ≤ (run_at c.args.level.now.runs c.args.spot.run).hi
        → (c.block-n.result < 64) ⊎ (64 ≤ c.block-n.result) → j < c.block-n.result
    inside j lt within (inl less) =
        let w : c.args.spot.x + c.block-n.result ≡ c.hi.result + 1 = c.block-n.ensures.whole less in
        omega (arith, c.hi.ensures)
    inside j lt within (inr more) = omega arith
