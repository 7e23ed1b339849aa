use Rattle.std.proofs.Common.{rules, ◌≡◌, ℕ, ◌<◌, All, length, cond, eqb, leb, ap, subst, ◌∙◌, arith}
use Rattle.std.proofs.lemmas.List.Sums.{sum_by-append}
use Rattle.pd_expand.specs.ClaimRule.{times, past}
use Rattle.pd_expand.specs.Claims.{drawn, block_count, IsSeatOf, IsDone}
use Rattle.pd_expand.proofs.RuleSteps.{joins, settles, all_popped, sum_popped, sum_of_none, has_each}
use Rattle.pd_expand.proofs.claims.Claims.close.Goals as goal

pub loop-next-init : goal.loop-next-init
loop-next-init c = let self = c.args.self in let last = c.in-Some.last in let rest = c.pop.new.self.items in
    let here = all_popped (λ s. IsSeatOf self s × IsDone s) rest last (subst (All (λ s. IsSeatOf self s × IsDone s))
    c.in-Some.ensures.items c.requires.own) in record {
      whole = (here.1.0.0, last.one_worker.1);
      own = λ k d lt. (here.0 k d lt).0;
      workers = omega (arith, last.one_worker.0, c.requires.all, c.in-Some.ensures.len);
      drawn = λ x. sum_popped (λ s. times x (drawn s)) c.args.seats.items rest last c.in-Some.ensures.items;
      done = subst (λ (n : ℕ). 0 < past n (drawn last)) here.1.0.1 here.1.1;
    }

pub join_seat-requires : goal.join_seat-requires
join_seat-requires c = let key = c.args.self.table.shared.key in let all = c.loop-next.all in
    let next = c.in-Some-pop.next in let inv = c.loop-next.invariant in
    let here = all_popped (IsSeatOf c.args.self) c.pop-in-loop-next.new.self.items next (subst (All (IsSeatOf
    c.args.self)) c.in-Some-pop.ensures.items inv.own) in (
      inv.whole.0,
      here.1.0,
      next.one_worker.1,
      omega (arith, c.args.self.sized),
      joins key.blocks key.workers all.id all.me.0 next.inner.id next.inner.me.0,
    )

pub loop-next-preserved : goal.loop-next-preserved
loop-next-preserved c = let self = c.args.self in let next = c.in-Some-pop.next in let inv = c.loop-next.invariant in
    let rest = c.pop-in-loop-next.new.self.items in
    let here = all_popped (IsSeatOf self) rest next (subst (All (IsSeatOf self)) c.in-Some-pop.ensures.items inv.own) in
    let me = c.join_seat.ensures.2 in
    let list = ap (λ m. m.0.drawn) me in record {
      whole = (c.join_seat.ensures.0 ∙ inv.whole.0, ap (λ m. m.1) me ∙ inv.whole.1);
      own = here.0;
      workers = omega (arith, ap (λ m. m.0.workers) me, next.one_worker.0, inv.workers, c.in-Some-pop.ensures.len);
      drawn = λ x. omega (
        arith,
        ap (times x) list,
        inv.drawn x,
        sum_popped (λ s. times x (drawn s)) c.loop-next.seats.items rest next c.in-Some-pop.ensures.items,
        sum_by-append (λ y. cond (eqb y x) 1 0) c.loop-next.all.me.0.drawn (drawn next),
      );
      done = omega (
        arith,
        ap (past (block_count self)) list,
        inv.done,
        sum_by-append (λ y. cond (leb (block_count self) y) 1 0) c.loop-next.all.me.0.drawn (drawn next),
      );
    }

pub returns : goal.returns
returns c = record {
  whole = λ x below. let inv = c.loop-next.invariant in let key = c.args.self.table.shared.key in
      let all = c.loop-next.all in let end = c.close_with.ensures.values.2 in
      let none : length c.loop-next.seats.items ≡ 0 = search rules in
      let each = settles key.blocks key.workers all.id all.me.0 end.0 end.1 (omega (arith, inv.workers)) in
      let one = has_each key.blocks _ all.me.0.drawn each inv.done x below in
      omega (arith, one, inv.drawn x, sum_of_none (λ s. times x (drawn s)) c.loop-next.seats.items none);
}
