-- Each step leads one cut further.
use Rattle.std.proofs.Common.{List, ℕ, length, sym, subst}
use Rattle.def_model.specs.Cuts.{full_cut, one_less}
use Rattle.wide_back.specs.Goals.{predicate_of, recorded_of}
use Rattle.wide_back.specs.Searches.{IsAt}
use Rattle.wide_back.proofs.Coming.{at_next, at_push, way_open, way_tried}
use Rattle.wide_back.proofs.descent.descend.Goals as goal

pub next_step-requires-clause-consistent : goal.next_step-requires-clause-consistent
next_step-requires-clause-consistent c =
    (way_open (recorded_of c.args.search.now) (predicate_of c.args.search.now) c.args.dead.now
    (full_cut (recorded_of c.args.search.now).events) c.loop-p.undone.items c.loop-p.cut c.loop-p.from
    c.loop-p.invariant.way).0

pub next_step-requires-clause-tried : goal.next_step-requires-clause-tried
next_step-requires-clause-tried c =
    way_tried (recorded_of c.args.search.now) (predicate_of c.args.search.now) c.args.dead.now
    (full_cut (recorded_of c.args.search.now).events) c.loop-p.undone.items c.loop-p.cut c.loop-p.from
    c.loop-p.invariant.way

pub loop-p-preserved : goal.loop-p-preserved
loop-p-preserved c =
    subst (λ (cut : List ℕ). IsAt (recorded_of c.args.search.now) (predicate_of c.args.search.now) c.args.dead.now
    c.push.new.self.items cut 0) (sym c.undo.ensures)
    (subst (λ (undone : List ℕ). IsAt (recorded_of c.args.search.now) (predicate_of c.args.search.now) c.args.dead.now
    undone (one_less c.loop-p.cut c.in-Some.p) 0) (sym c.in_ok-push.ensures.items)
    (at_push (recorded_of c.args.search.now) (predicate_of c.args.search.now) c.args.dead.now c.loop-p.undone.items
    c.loop-p.cut c.loop-p.from c.in-Some.p c.loop-p.invariant c.in-Some.ensures.step c.in-Some.ensures.least))

pub returns : goal.returns
returns c =
    at_next (recorded_of c.args.search.now) (predicate_of c.args.search.now) c.args.dead.now c.loop-p.undone.items
    c.loop-p.cut c.loop-p.from (length c.loop-p.cut) c.loop-p.invariant c.in_default.ensures.none
