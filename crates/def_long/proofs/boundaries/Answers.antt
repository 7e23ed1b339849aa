-- The laws stand in `Parts` and `Avoided`.
use Rattle.def_long.proofs.Avoided.{avoiding_by_parts}
use Rattle.def_long.proofs.Parts.{boundary_is_passed, definitely_by_parts, possibly_by_parts}
use Rattle.def_long.proofs.boundaries.Goals as goal

pub returns-clause-passed : goal.returns-clause-passed
returns-clause-passed c = boundary_is_passed

pub returns-clause-possibly : goal.returns-clause-possibly
returns-clause-possibly c w is kept test decide b at = possibly_by_parts w is kept b at test decide

pub returns-clause-definitely : goal.returns-clause-definitely
returns-clause-definitely c w is kept test decide b at = definitely_by_parts w is kept b at test decide

pub returns-clause-avoiding : goal.returns-clause-avoiding
returns-clause-avoiding c = avoiding_by_parts
