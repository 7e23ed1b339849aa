-- Each level leads to the next.
use Rattle.def_model.proofs.Steps.{can_undo, full_from_sum}
use Rattle.def_model.proofs.Counts.{empty_from_sum}
use Rattle.def_model.proofs.Paths.{next_level}
use Rattle.def_model.proofs.LevelLists.{first_level, last_level}
use Rattle.def_model.proofs.levels.Goals as goal

pub returns-clause-undo : goal.returns-clause-undo
returns-clause-undo c = can_undo

pub returns-clause-first : goal.returns-clause-first
returns-clause-first c = first_level

pub returns-clause-next : goal.returns-clause-next
returns-clause-next c = next_level

pub returns-clause-last : goal.returns-clause-last
returns-clause-last c = last_level

pub returns-clause-empty : goal.returns-clause-empty
returns-clause-empty c computation cut level =
    empty_from_sum computation cut level.0.fits.one_each level.1

pub returns-clause-full : goal.returns-clause-full
returns-clause-full c computation cut level = full_from_sum computation cut level.0 level.1
