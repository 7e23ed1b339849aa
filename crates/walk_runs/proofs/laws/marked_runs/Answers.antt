-- The marks of runs.
use Rattle.walk_runs.proofs.Avoidance.{avoid_by_parents}
use Rattle.walk_runs.proofs.RunMarks.{mark_by_marks, mark_in_runs, marked_list}
use Rattle.walk_runs.proofs.MarkPlaces.{marked_by_place, mark_lookup}
use Rattle.walk_runs.proofs.laws.marked_runs.Goals as goal

pub returns-clause-parents : goal.returns-clause-parents
returns-clause-parents c = avoid_by_parents

pub returns-clause-next : goal.returns-clause-next
returns-clause-next c = mark_by_marks

pub returns-clause-inside : goal.returns-clause-inside
returns-clause-inside c = mark_in_runs

pub returns-clause-list : goal.returns-clause-list
returns-clause-list c = marked_list

pub returns-clause-places : goal.returns-clause-places
returns-clause-places c = marked_by_place

pub returns-clause-lookup : goal.returns-clause-lookup
returns-clause-lookup c = mark_lookup
