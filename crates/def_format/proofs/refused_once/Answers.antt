-- A text is refused with one fault, at one place.
use Rattle.def_format.proofs.OneAnswer.{refused_once_lem}
use Rattle.def_format.proofs.refused_once.Goals as goal

pub returns : goal.returns
returns c = refused_once_lem
