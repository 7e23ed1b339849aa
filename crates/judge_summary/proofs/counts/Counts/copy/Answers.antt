-- The copy has the same members.
use Rattle.judge_summary.proofs.Members.{copied}
use Rattle.judge_summary.proofs.counts.Counts.copy.Goals as goal

pub returns-clause-members : goal.returns-clause-members
returns-clause-members c =
    rw (← c.self.view_is) (copied _ _ (λ p q same. same) (λ p q same. same) c.clone.result _ c.self.inside.members
    c.clone.ensures.cases c.self.invariant)
