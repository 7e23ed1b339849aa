-- What is asked is what the test says.
use Rattle.app_test.proofs.tests.test_some.Goals as goal

pub returns-clause-tested : goal.returns-clause-tested
returns-clause-tested g c =
    rw (c.deref.ensures.value, c.lists_failing.ensures) at c.test_asked.ensures.tested

pub returns-clause-left : goal.returns-clause-left
returns-clause-left g c =
    rw c.deref.ensures.value at c.test_asked.ensures.left
