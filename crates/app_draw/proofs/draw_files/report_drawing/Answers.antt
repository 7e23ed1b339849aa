-- What is reported if there is no predicate of the name, or no evidence of the kind, that is asked for.
use Rattle.app_draw.proofs.draw_files.report_drawing.Goals as goal

pub returns-in-NoPredicate-clause-errors : goal.returns-in-NoPredicate-clause-errors
returns-in-NoPredicate-clause-errors g c =
    rw (c.in-Ok.is, c.in-NoPredicate.is) c.write_line-in-NoPredicate.ensures

pub returns-in-NoEvidence-clause-errors : goal.returns-in-NoEvidence-clause-errors
returns-in-NoEvidence-clause-errors g c =
    rw (c.in-Ok.is, c.in-NoEvidence.is) c.write_line-in-NoEvidence.ensures
