-- The first places of the row are the part that is written.
use Rattle.std.proofs.Common.{◌≡◌, ◌-◌, ◌++◌, length, take, ap, ◌∙◌, arith}
use Rattle.std.proofs.Math.Seq.{take-append_seam}
use Rattle.walk_marks.proofs.run.read_prefix.Goals as goal

pub returns : goal.returns
returns g c =
    let written = c.write_prefix.new.counts in
    let others = c.split_at_mut-prefix.result.1.now in
    let many : c.args.level.now.processes - 2 ≡ length written =
    omega (arith, ap length c.write_prefix.ensures, c.requires.processes) in
    (λ k. take (many k) (written ++ others)) ∙ (take-append_seam written others ∙ c.write_prefix.ensures)
