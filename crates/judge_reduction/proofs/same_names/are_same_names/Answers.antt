-- One process more.
use Rattle.std.proofs.Common.{ℕ, refl}
use Rattle.std.specs.Prelude.{slice_index_or}
use Rattle.def_recordings.specs.Reductions.{no_process}
use Rattle.judge_reduction.proofs.Prefixes.{one_more}
use Rattle.judge_reduction.proofs.same_names.are_same_names.Goals as goal

pub loop-i-preserved : goal.loop-i-preserved
loop-i-preserved c =
    one_more (λ (p : ℕ). slice_index_or c.args.second.now p no_process) c.loop-i.i c.args.first.now
    c.args.places.now _ (search) c.loop-i.invariant (c.if-not-is_process.ensures refl)
