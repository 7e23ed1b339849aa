-- Kept or asked, it is the run's.
use Rattle.walk_marks.proofs.skips_by_threads.word_there.Goals as goal

pub returns-in-Some : goal.returns-in-Some
returns-in-Some g c = record { is = rw c.in-Some.is at c.kept.ensures }

pub returns-in-None : goal.returns-in-None
returns-in-None g c = record { is = c.asked_once.ensures }
