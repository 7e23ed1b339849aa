-- A test that no cut satisfies is a conjunction of no good counts, so that some observation avoids.
use Rattle.std.proofs.Common.{false, subst}
use Rattle.wide_conjunctions.specs.Passages.{IsPassage}
use Rattle.wide_conjunctions.specs.declared.passage.Passage.{Passage}
use Rattle.def_model.proofs.OneAnswer.{definite_is_possible}
use Rattle.wide_terms.proofs.Conjoining.{never_good}
use Rattle.wide_terms.proofs.never.path_of_all.Goals as goal

pub returns-in-Avoided : goal.returns-in-Avoided
returns-in-Avoided c = λ test none.
    let events = c.args.computation.now.events in
    (subst (λ (passage : Passage). IsPassage events (λ p n. false) passage) c.in-Avoided.is c.in_ok-passage.ensures)
    test (never_good events test c.limits.ensures.some none)

pub returns-in-Passed : goal.returns-in-Passed
returns-in-Passed c = λ test none.
    let events = c.args.computation.now.events in
    let passed = (subst (λ (passage : Passage). IsPassage events (λ p n. false) passage) c.in-Passed.is
    c.in_ok-passage.ensures) test (never_good events test c.limits.ensures.some none) in
    absurd (none (definite_is_possible events c.limits.ensures.acyclic test passed.1))
