-- The object of the refusal is owed.
use Rattle.app_serve.proofs.served.refused_object.Goals as goal

pub returns-in_ok-page-in-Refused-clause-page : goal.returns-in_ok-page-in-Refused-clause-page
returns-in_ok-page-in-Refused-clause-page c = λ inquiry files inputs own.
    c.in_ok-page-in-Refused.ensures inquiry files inputs (rw c.in-Refused.is at own)
