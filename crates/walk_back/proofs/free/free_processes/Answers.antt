-- Which processes are free.
use Rattle.std.proofs.Common.{◌∙◌, arith}
use Rattle.walk_keys.proofs.Truths.{zero_has_none}
use Rattle.walk_back.proofs.FreeWords.{all_free, one_more_free}
use Rattle.walk_back.proofs.free.free_processes.Goals as goal

pub loop-p-init : goal.loop-p-init
loop-p-init c = record { so_far = λ q lt. absurd (omega arith); beyond = λ q le. zero_has_none q }

pub loop-p-preserved : goal.loop-p-preserved
loop-p-preserved c = record {
  so_far = one_more_free c.args.computation.now.events c.args.cut.now c.loop-p.p c.loop-p.free
      c.loop-p.invariant.so_far c.look_again-free.result c.look_again-free.ensures.bit c.look_again-free.ensures.others;
  beyond = λ q le. c.look_again-free.ensures.others q (λ same. omega arith)
      ∙ c.loop-p.invariant.beyond q (omega arith);
}

pub returns : goal.returns
returns c =
    all_free c.args.computation.now.events c.args.cut.now c.loop-p.p c.loop-p.free c.loop-p.invariant.so_far c.requires
    (omega (arith, c.processes-p-end.ensures)) c.loop-p.invariant.beyond
