-- The page of the refusal is owed.
use Rattle.app_explore.proofs.exploration.unanswered_page.Goals as goal

pub returns-in_ok-page-in-Refused-clause-page : goal.returns-in_ok-page-in-Refused-clause-page
returns-in_ok-page-in-Refused-clause-page g c = λ inquiry files inputs own.
    c.in_ok-page-in-Refused.ensures inquiry files inputs (rw c.in-Refused.is at own)
