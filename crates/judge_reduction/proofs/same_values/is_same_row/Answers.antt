-- Numbers with a sign are the same if their comparison says so.
use Rattle.std.proofs.lemmas.Bool.Decides.{Decides-int_eq}
use Rattle.std.proofs.lemmas.Slice.Eq.{slice_eq-Decides}
use Rattle.judge_reduction.proofs.same_values.is_same_row.Goals as goal

pub returns : goal.returns
returns c = (slice_eq-Decides Decides-int_eq c.args.first.now c.args.second.now c.eq.result c.eq.ensures).0
