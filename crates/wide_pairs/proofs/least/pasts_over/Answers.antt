-- The past of one count more.
use Rattle.std.proofs.Common.{◌≡◌, ◌+◌, ◌-◌, ℕ, [], ◌∷◌, get_or, length, length-append, refl, sym, ap, ◌∙◌, subst, arith}
use Rattle.def_model.specs.Events.{event_count}
use Rattle.wide_pairs.specs.LeastCuts.{IsLeastWith, IsPast}
use Rattle.wide_pairs.proofs.Taken.{each_more, least_with_more, least_with_none}
use Rattle.wide_pairs.proofs.least.pasts_over.Goals as goal

pub loop-count-init : goal.loop-count-init
loop-count-init c =
    record {
      least = least_with_none c.args.computation.now.events c.args.p (0 - 1) c.args.counts.now c.requires.empty
          (omega arith);
      count = ap length c.in_ok-pasts.ensures.items;
      each = λ i lt. absurd (omega (arith, lt));
    }

pub take_in-requires-clause-consistent : goal.take_in-requires-clause-consistent
take_in-requires-clause-consistent c = c.loop-count.invariant.least.consistent

pub loop-count-preserved : goal.loop-count-preserved
loop-count-preserved c =
    let events = c.args.computation.now.events in
    let past : ℕ = get_or c.take_in.new.counts c.args.q 0 in
    let count : length c.loop-count.pasts.items ≡ c.loop-count.count = c.loop-count.invariant.count in
    let least : IsLeastWith events c.args.p c.loop-count.count c.take_in.new.counts =
    least_with_more events c.args.p (c.loop-count.count - 1) c.loop-count.count c.loop-count.counts
    c.take_in.new.counts (omega arith) c.loop-count.invariant.least c.take_in.ensures in
    let same : c.loop-count.count ≡ c.loop-count.count + 1 - 1 = omega arith in
    record {
      least = subst (λ (n : ℕ). IsLeastWith events c.args.p n c.take_in.new.counts) same least;
      count =
          ap length c.in_ok-push.ensures.items
          ∙ (length-append c.loop-count.pasts.items (past ∷ []) ∙ ap (λ (n : ℕ). n + 1) count);
      each = λ i lt.
          each_more (λ k n. IsPast events c.args.p k c.args.q n) c.loop-count.pasts.items c.push.new.self.items past
          c.in_ok-push.ensures.items
          (λ k low. c.loop-count.invariant.each k (omega (arith, count, low)))
          (subst (λ (n : ℕ). IsPast events c.args.p n c.args.q past) (sym count) (c.take_in.new.counts, least, refl)) i
          (omega (arith, lt, count));
    }

pub returns : goal.returns
returns c =
    let end : c.loop-count.count ≡ event_count c.args.computation.now.events c.args.p + 1 =
    omega (arith, c.loop-count-test.false, c.loop-count.auto.count-end, c.events-end.ensures) in
    record {
      one_each = c.loop-count.invariant.count ∙ end;
      each = λ i le. c.loop-count.invariant.each i (omega (arith, end, le));
    }
