-- The two modalities' answers fit together.
use Rattle.def_model.proofs.OneAnswer.{definite_is_possible, cut_below_level}
use Rattle.def_model.proofs.answers_agree.Goals as goal

pub returns-clause-no_clash : goal.returns-clause-no_clash
returns-clause-no_clash c computation acyclic test v w level definite possible =
    possible.1 (definite_is_possible computation acyclic test definite.1)

pub returns-clause-level : goal.returns-clause-level
returns-clause-level c computation acyclic test v w level cut possible definite =
    cut_below_level computation acyclic test level cut possible.1 definite.2
