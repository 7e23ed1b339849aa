-- The one of both cuts that comes before the other is the first.
use Rattle.std.proofs.Common.{refl, subst}
use Rattle.std.proofs.lemmas.Bool.{false≢true}
use Rattle.def_wide.specs.Parts.{IsFirstIfAny}
use Rattle.wide.proofs.FirstOfParts.{second_before, second_later}
use Rattle.wide.proofs.parts.first_of_both.Goals as goal

pub returns-then-is_before : goal.returns-then-is_before
returns-then-is_before c = λ events one two test either first second.
    second_before events one two test either c.in-Some.a c.in-Some-second.b
    (subst (IsFirstIfAny events one) c.in-Some.is first) (subst (IsFirstIfAny events two) c.in-Some-second.is second)
    (c.if-is_before.ensures.0 refl)

pub returns-else-is_before : goal.returns-else-is_before
returns-else-is_before c = λ events one two test either first second.
    second_later events one two test either c.in-Some.a c.in-Some-second.b
    (subst (IsFirstIfAny events one) c.in-Some.is first) (subst (IsFirstIfAny events two) c.in-Some-second.is second)
    (λ before. false≢true (c.if-is_before.ensures.1 before))
