-- Each turn comes to a dead end, and what the search comes to is right.
use Rattle.std.proofs.Common.{◌≡◌, ◌≤◌, ℕ, List, length, ap, ◌∙◌, subst, arith}
use Rattle.def_model.specs.Cuts.{full_cut}
use Rattle.def_wide.specs.DeadEnds.{named_counts}
use Rattle.wide_back.specs.Goals.{predicate_of, recorded_of}
use Rattle.wide_back.specs.Searches.{AreDeadEnds, IsAdded, IsAt}
use Rattle.wide_back.proofs.Coming.{way_open}
use Rattle.wide_back.proofs.Deciding.{begun, found, passed, stuck_ends, stuck_way, undecided}
use Rattle.wide_back.proofs.back.search_from.Goals as goal

pub loop-cut-init : goal.loop-cut-init
loop-cut-init c =
    let begins : AreDeadEnds (recorded_of c.args.search.now) (predicate_of c.args.search.now) c.new-dead.result
    × IsAt (recorded_of c.args.search.now) (predicate_of c.args.search.now) c.new-dead.result
    c.new-undone.result.items c.args.full 0 =
    begun (recorded_of c.args.search.now) (predicate_of c.args.search.now) c.new-dead.result
    c.new-undone.result.items c.args.full c.new-dead.ensures c.new-undone.ensures.items c.requires.full
    c.requires.fails in
    record {
      ends = begins.0;
      at = begins.1;
      few = let none : length c.new-dead.result ≡ 0 = ap length c.new-dead.ensures in omega arith;
    }

pub returns-then-len-total : goal.returns-then-len-total
returns-then-len-total c =
    found (recorded_of c.args.search.now) (predicate_of c.args.search.now) c.loop-cut.dead
    c.descend.new.undone.items c.descend.new.cut (length c.descend.new.cut) c.args.limit c.loop-cut.invariant.ends
    c.in_ok-descend.ensures (omega (arith, c.if-len-total.true, c.len.ensures, c.total.ensures.sum))
    c.loop-cut.invariant.few c.reverse.new.self.items c.reverse.ensures.items

pub returns-then-ends-limit : goal.returns-then-ends-limit
returns-then-ends-limit c =
    undecided (recorded_of c.args.search.now) (predicate_of c.args.search.now) c.limits.ensures.acyclic
    c.loop-cut.dead c.descend.new.undone.items c.descend.new.cut c.loop-cut.invariant.ends c.in_ok-descend.ensures
    (λ same. c.if-len-total.false (omega (arith, same, c.total.ensures.sum))) c.args.limit
    c.len-ends.ensures.apart (omega (arith, c.if-ends-limit.true, c.len-ends.ensures.count))

pub seen-requires : goal.seen-requires
seen-requires c =
    (way_open (recorded_of c.args.search.now) (predicate_of c.args.search.now) c.loop-cut.dead
    (full_cut (recorded_of c.args.search.now).events) c.descend.new.undone.items c.descend.new.cut
    (length c.descend.new.cut) c.in_ok-descend.ensures.way).0.fits.one_each

pub climb-requires : goal.climb-requires
climb-requires c =
    let counts : c.counts-in-loop-cut.result.now
    ≡ named_counts (predicate_of c.args.search.now) c.descend.new.cut = c.counts-in-loop-cut.ensures ∙ c.seen.ensures in
    stuck_way (recorded_of c.args.search.now) (predicate_of c.args.search.now) c.limits.ensures.acyclic
    c.loop-cut.dead c.descend.new.undone.items c.descend.new.cut c.loop-cut.invariant.ends c.in_ok-descend.ensures
    (λ same. c.if-len-total.false (omega (arith, same, c.total.ensures.sum))) c.add.new.self
    (subst (λ (xs : List ℕ). IsAdded c.loop-cut.dead xs c.add.new.self) counts c.in_ok-add.ensures.added)

pub returns-in_default : goal.returns-in_default
returns-in_default c = let few : length c.loop-cut.dead ≤ c.args.limit = c.loop-cut.invariant.few in
    let counts : c.counts-in-loop-cut.result.now
    ≡ named_counts (predicate_of c.args.search.now) c.descend.new.cut = c.counts-in-loop-cut.ensures ∙ c.seen.ensures in
    passed (recorded_of c.args.search.now) (predicate_of c.args.search.now) c.add.new.self c.args.limit
    (stuck_ends (recorded_of c.args.search.now) (predicate_of c.args.search.now) c.limits.ensures.acyclic
    c.loop-cut.dead c.descend.new.undone.items c.descend.new.cut c.loop-cut.invariant.ends c.in_ok-descend.ensures
    (λ same. c.if-len-total.false (omega (arith, same, c.total.ensures.sum))) c.add.new.self
    (subst (λ (xs : List ℕ). IsAdded c.loop-cut.dead xs c.add.new.self) counts c.in_ok-add.ensures.added))
    c.in_default.ensures.dead
    (omega (arith, c.if-ends-limit.false, c.len-ends.ensures.count, c.in_ok-add.ensures.count))

pub loop-cut-preserved : goal.loop-cut-preserved
loop-cut-preserved c =
    let few : length c.loop-cut.dead ≤ c.args.limit = c.loop-cut.invariant.few in
    let counts : c.counts-in-loop-cut.result.now
    ≡ named_counts (predicate_of c.args.search.now) c.descend.new.cut = c.counts-in-loop-cut.ensures ∙ c.seen.ensures in
    record {
      ends = stuck_ends (recorded_of c.args.search.now) (predicate_of c.args.search.now) c.limits.ensures.acyclic
          c.loop-cut.dead c.descend.new.undone.items c.descend.new.cut c.loop-cut.invariant.ends c.in_ok-descend.ensures
          (λ same. c.if-len-total.false (omega (arith, same, c.total.ensures.sum))) c.add.new.self
          (subst (λ (xs : List ℕ). IsAdded c.loop-cut.dead xs c.add.new.self) counts c.in_ok-add.ensures.added);
      at = c.in-Some.ensures.at;
      few = omega (arith, c.if-ends-limit.false, c.len-ends.ensures.count, c.in_ok-add.ensures.count);
    }
