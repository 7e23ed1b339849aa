-- One more least good cut.
use Rattle.std.proofs.Common.{List, ℕ, Option, refl, subst}
use Rattle.std.proofs.lemmas.Bool.{false≢true}
use Rattle.wide_terms.specs.FirstCuts.{IsFirstSoFar}
use Rattle.wide_terms.proofs.Firsts.{first_one, first_new, first_old}
use Rattle.wide_terms.proofs.first.earlier.Goals as goal

pub returns-in-None : goal.returns-in-None
returns-in-None c = λ events goods n so_far least.
    first_one events goods n c.args.cut c.first_of_least.ensures.single c.cut_order.ensures.apart
    (subst (λ (first : Option (List ℕ)). IsFirstSoFar events goods n first) c.in-None.is so_far) least

pub returns-then-is_before : goal.returns-then-is_before
returns-then-is_before c = λ events goods n so_far least.
    first_new events goods n c.in-Some.known c.args.cut c.first_of_least.ensures.single c.cut_order.ensures.apart
    c.cut_order.ensures.onward
    (subst (λ (first : Option (List ℕ)). IsFirstSoFar events goods n first) c.in-Some.is so_far) least
    (c.if-is_before.ensures.0 refl)

pub returns-else-is_before : goal.returns-else-is_before
returns-else-is_before c = λ events goods n so_far least.
    first_old events goods n c.in-Some.known c.args.cut c.first_of_least.ensures.single
    (subst (λ (first : Option (List ℕ)). IsFirstSoFar events goods n first) c.in-Some.is so_far) least
    (λ before. false≢true (c.if-is_before.ensures.1 before))
