-- One more cut.
use Rattle.std.proofs.Common.{List, ℕ, Option, refl, subst}
use Rattle.std.proofs.lemmas.Bool.{false≢true}
use Rattle.wide_pairs.specs.FirstCuts.{IsFirstSoFar}
use Rattle.wide_pairs.proofs.FirstPairs.{first_new, first_old}
use Rattle.wide_pairs.proofs.grid_possibly.earlier.Goals as goal

pub returns-then-is_before : goal.returns-then-is_before
returns-then-is_before c = λ events good p q i so_far at.
    first_new events good p q i c.in-Some.known c.args.cut
    (subst (λ (first : Option (List ℕ)). IsFirstSoFar events good p q i first) c.in-Some.is so_far) at
    (c.if-is_before.ensures.0 refl)

pub returns-else-is_before : goal.returns-else-is_before
returns-else-is_before c = λ events good p q i so_far at.
    first_old events good p q i c.in-Some.known c.args.cut
    (subst (λ (first : Option (List ℕ)). IsFirstSoFar events good p q i first) c.in-Some.is so_far) at
    (λ before. false≢true (c.if-is_before.ensures.1 before))
