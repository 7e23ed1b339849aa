-- The events begin with none, and each kept event has its receipts and its image.
use Rattle.std.proofs.Common.{◌*◌, ◌≤◌, List, ℕ, get_or, length, sym, ap, ◌∙◌, subst, arith}
use Rattle.def_long.specs.Views.{value_after}
use Rattle.def_model.specs.Events.{Event}
use Rattle.judge_orders.specs.Lists.{lists_view}
use Rattle.judge_reduced.specs.Planned.{AllKnown, IsPlanned}
use Rattle.judge_reduced.proofs.Counting.{image_few}
use Rattle.judge_reduced.proofs.ImageSteps.{image_step, length_zeros, zero_at}
use Rattle.judge_reduced.proofs.Imaging.{planned_none}
use Rattle.judge_orders.proofs.Places.{lists_length}
use Rattle.judge_reduced.proofs.images.process_events.Goals as goal

pub loop-i-init : goal.loop-i-init
loop-i-init c =
    let r = c.args.computation.now in
    let numbers = lists_view c.args.numbers.now in
    let long = ap length c.in_ok-last.ensures ∙ length_zeros (length c.args.numbers.now) in
    record {
      last = long ∙ c.requires.all_listed;
      planned = λ names same.
          subst (λ (events : List Event). IsPlanned names r c.args.vars.now numbers c.args.p 0 events
          c.in_ok-last.last.items) (sym c.new-events.ensures)
          (planned_none names r c.args.vars.now numbers c.args.p c.in_ok-last.last.items
          (long ∙ sym (lists_length c.args.numbers.now))
          (λ q. ap (λ (xs : List ℕ). get_or xs q 0) c.in_ok-last.ensures ∙ zero_at (length c.args.numbers.now) q));
      few = let none = ap (λ (events : List Event). length events) c.new-events.ensures in omega (arith, none);
    }

pub loop-i-preserved : goal.loop-i-preserved
loop-i-preserved c =
    let r = c.args.computation.now in
    let numbers = lists_view c.args.numbers.now in
    record {
      last = c.in_ok-push_receipts.ensures.last;
      planned = λ names same.
          let now =
          c.in_ok-push_receipts.ensures.planned names c.args.vars.now (c.loop-i.invariant.planned names same) in
          image_step names r c.args.vars.now numbers c.args.p c.loop-i.i c.args.count c.number_at.result
          c.push_receipts.new.events c.push_image.new.events c.push_receipts.new.last.items now.0
          (subst (AllKnown r numbers c.args.p c.loop-i.i c.push_receipts.new.last.items)
          (sym (lists_length c.args.numbers.now ∙ c.requires.all_listed)) now.1)
          c.number_at.ensures c.in_ok-push_image.ensures c.requires.vars same
          (omega (arith, c.loop-i-test.true, c.kept_count-i-end.ensures));
      few = image_few (value_after r c.number_at.result c.args.p) c.args.vars.now c.args.count c.args.p c.loop-i.i
          (length r.events) c.loop-i.events c.push_receipts.new.events c.push_image.new.events
          c.in_ok-push_image.ensures c.in_ok-push_receipts.ensures.few c.loop-i.invariant.few;
    }

pub returns-clause-planned : goal.returns-clause-planned
returns-clause-planned c = λ names same. (
  c.loop-i.last.items,
  subst (λ (k : ℕ). IsPlanned names c.args.computation.now c.args.vars.now (lists_view c.args.numbers.now) c.args.p k
      c.loop-i.events c.loop-i.last.items)
      (let i_end : c.loop-i.i ≤ c.kept_count-i-end.result = c.loop-i.auto.i-end in
      omega (arith, c.loop-i-test.false, c.kept_count-i-end.ensures)) (c.loop-i.invariant.planned names same),
)

pub returns-clause-few : goal.returns-clause-few
returns-clause-few c =
    let i_end : c.loop-i.i ≤ c.kept_count-i-end.result = c.loop-i.auto.i-end in
    subst (λ (k : ℕ). length c.loop-i.events ≤ k * length c.args.computation.now.events)
    (omega (arith, c.loop-i-test.false, c.kept_count-i-end.ensures)) c.loop-i.invariant.few
