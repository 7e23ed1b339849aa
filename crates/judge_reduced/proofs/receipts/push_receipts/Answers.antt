-- One process more, and all are known.
use Rattle.std.proofs.Common.{◌≡◌, ◌+◌, ◌≤◌, List, ℕ, length, sym, ap, ◌∙◌, subst, arith}
use Rattle.std.specs.Prelude.{Vec}
use Rattle.std.specs.Global.{Global}
use Rattle.def_model.specs.Events.{Event}
use Rattle.judge_orders.specs.Lists.{lists_view}
use Rattle.judge_reduced.specs.Planned.{GoesOn}
use Rattle.judge_orders.proofs.Places.{lists_length}
use Rattle.judge_reduced.proofs.Counting.{HasFew, few_more, few_own, received_few}
use Rattle.judge_reduced.proofs.ReceiptSteps.{goes_on, own_goes_on, received_length}
use Rattle.judge_reduced.proofs.receipts.push_receipts.Goals as goal
use Rattle.judge_reduced.proofs.receipts.push_receipts.Goals.{then-q-p+in_ok-receive, else-q-p}

pub loop-q-preserved : goal.loop-q-preserved
loop-q-preserved c =
    let r = c.args.computation.now in
    let numbers = lists_view c.args.numbers.now in
    elim c.if-q-p.branch [
      | then-q-p+in_ok-receive w ↦ record {
        last = ap (λ (last : Vec ℕ Global). length last.items) w.last-is
            ∙ (received_length c.loop-q.q w.known_count-known.result w.comes_through-through.result c.loop-q.last.items
            w.receive.new.last.items c.loop-q.events w.receive.new.events w.in_ok-receive.ensures
            ∙ c.loop-q.invariant.last);
        goes = subst (λ (last : Vec ℕ Global). GoesOn r numbers c.args.p c.args.i (c.loop-q.q + 1) c.args.events.now
            c.if-q-p.events c.args.last.now.items last.items) (sym w.last-is)
            (subst (λ (xs : List Event). GoesOn r numbers c.args.p c.args.i (c.loop-q.q + 1) c.args.events.now xs
            c.args.last.now.items w.receive.new.last.items) (sym w.events-is)
            (goes_on r numbers c.args.p c.args.i c.loop-q.q w.known_count-known.result w.comes_through-through.result
            c.args.events.now c.loop-q.events w.receive.new.events c.args.last.now.items c.loop-q.last.items
            w.receive.new.last.items c.requires.listed w.if-q-p.true
            (omega (
              arith,
              c.loop-q-test.true,
              c.requires.one_each,
              c.requires.all_listed,
              lists_length c.args.numbers.now,
            )) c.requires.event (w.known_count-known.ensures w.if-q-p.true)
            w.comes_through-through.ensures w.in_ok-receive.ensures c.loop-q.invariant.goes));
        few = subst (λ (xs : List Event). HasFew (length c.args.events.now) (length xs) c.args.p (c.loop-q.q + 1))
            (sym w.events-is)
            (few_more (length c.args.events.now) (length c.loop-q.events) (length w.receive.new.events) c.args.p
            c.loop-q.q c.loop-q.invariant.few
            (received_few c.loop-q.q w.known_count-known.result w.comes_through-through.result c.loop-q.last.items
            w.receive.new.last.items c.loop-q.events w.receive.new.events w.in_ok-receive.ensures) w.if-q-p.true);
      }
      | else-q-p w ↦ record {
        last = ap (λ (last : Vec ℕ Global). length last.items) w.last-is ∙ c.loop-q.invariant.last;
        goes = subst (λ (last : Vec ℕ Global). GoesOn r numbers c.args.p c.args.i (c.loop-q.q + 1) c.args.events.now
            c.if-q-p.events c.args.last.now.items last.items) (sym w.last-is)
            (subst (λ (xs : List Event). GoesOn r numbers c.args.p c.args.i (c.loop-q.q + 1) c.args.events.now xs
            c.args.last.now.items c.loop-q.last.items) (sym w.events-is)
            (own_goes_on r numbers c.args.p c.args.i c.loop-q.q c.args.events.now c.loop-q.events c.args.last.now.items
            c.loop-q.last.items w.if-q-p.false c.loop-q.invariant.goes));
        few = subst (λ (xs : List Event). HasFew (length c.args.events.now) (length xs) c.args.p (c.loop-q.q + 1))
            (sym w.events-is)
            (few_own (length c.args.events.now) (length c.loop-q.events) c.args.p c.loop-q.q c.loop-q.invariant.few
            w.if-q-p.false);
      }
    ]

pub returns-clause-planned : goal.returns-clause-planned
returns-clause-planned c =
    subst (λ (k : ℕ). GoesOn c.args.computation.now (lists_view c.args.numbers.now) c.args.p c.args.i k
    c.args.events.now c.loop-q.events c.args.last.now.items c.loop-q.last.items)
    (omega (arith, c.loop-q-test.false, c.loop-q.auto.q-end, c.requires.one_each)) c.loop-q.invariant.goes

pub returns-clause-few : goal.returns-clause-few
returns-clause-few c =
    let all : c.loop-q.q ≡ length c.args.computation.now.events =
    omega (arith, c.loop-q-test.false, c.loop-q.auto.q-end, c.requires.one_each) in
    subst (λ (k : ℕ). length c.loop-q.events + 1 ≤ length c.args.events.now + k) all
    (c.loop-q.invariant.few.1 (omega (arith, all, c.requires.process)))
