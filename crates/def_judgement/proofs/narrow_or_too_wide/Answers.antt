-- A computation is narrow, or some level is too wide, and never both.
use Rattle.def_judgement.proofs.Widths.{narrow_or_too_wide_lem}
use Rattle.def_judgement.proofs.narrow_or_too_wide.Goals as goal

pub returns : goal.returns
returns c = narrow_or_too_wide_lem
