-- One trace more, or none can be made.
use Rattle.std.proofs.Common.{◌+◌, ◌<◌, List, ℕ, All, length, refl, sym, ap, ◌∙◌, subst, arith}
use Rattle.std.specs.Prelude.{Vec}
use Rattle.std.specs.Global.{Global}
use Rattle.def_format.specs.Names.{vars_of}
use Rattle.pd_spec.specs.Views.{document_view}
use Rattle.judge_orders.specs.Lists.{lists_view}
use Rattle.judge_reduced.specs.Planned.{AreWhole, IsWhole}
use Rattle.judge_reduced.proofs.Assembled.{whole_more}
use Rattle.judge_orders.proofs.Places.{list_at}
use Rattle.judge_reduced.proofs.reduced.reduced_traces.Goals as goal

pub loop-p-preserved : goal.loop-p-preserved
loop-p-preserved c =
    let names = (document_view c.args.spec.now).names in
    let r = c.args.computation.now in
    let numbers = lists_view c.args.numbers.now in
    subst (AreWhole names r (lists_view c.args.named.now) numbers (c.loop-p.p + 1)) (sym c.in_ok-push.ensures.items)
    (whole_more names r (lists_view c.args.named.now) numbers c.loop-p.p c.loop-p.traces.items _ c.loop-p.invariant refl
    (subst (λ (vars : List ℕ). IsWhole names r vars numbers c.loop-p.p c.in-Some.events)
    (c.deref.ensures.value ∙ (ap (λ (list : Vec ℕ Global). list.items) c.index-named-p.is
    ∙ sym (list_at c.args.named.now c.loop-p.p _ c.loop-p-test.true)))
    (rw c.in-Some.is at c.in_ok-events.ensures.whole)))

pub returns-in_default-clause-some : goal.returns-in_default-clause-some
returns-in_default-clause-some c = λ theirs few.
    let names = (document_view c.args.spec.now).names in
    let lt : c.loop-p.p < length c.args.computation.now.events =
    omega (arith, c.requires.all_named, c.loop-p-test.true) in
    let found =
    c.in_ok-events.ensures.some
    (subst (All (λ v. v < length (vars_of names c.loop-p.p)))
    (list_at c.args.named.now c.loop-p.p _ c.loop-p-test.true
    ∙ (ap (λ (list : Vec ℕ Global). list.items) (sym c.index-named-p.is) ∙ sym c.deref.ensures.value))
    (theirs c.loop-p.p lt)) (few c.loop-p.p lt) in
    rw c.in_default.is at found
