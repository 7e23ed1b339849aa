-- Each step that is taken back leads one cut up.
use Rattle.std.proofs.Common.{◌≡◌, ◌<◌, ◌≤◌, get_or, length, refl, arith}
use Rattle.def_format.specs.Limits.{event_limit, process_limit}
use Rattle.def_model.specs.Cuts.{full_cut}
use Rattle.def_model.specs.Events.{event_count}
use Rattle.wide_back.specs.Goals.{predicate_of, recorded_of}
use Rattle.wide_back.proofs.Coming.{split_pop, split_room, way_open}
use Rattle.wide_back.proofs.climb.climb.Goals as goal
use Rattle.wide_back.proofs.climb.climb.Goals.{At-loop-undone, In-Some}

open_here : (c : At-loop-undone) → length c.loop-undone.cut ≡ length (recorded_of c.args.search.now).events
open_here c =
    (way_open (recorded_of c.args.search.now) (predicate_of c.args.search.now) c.args.dead.now
    (full_cut (recorded_of c.args.search.now).events) c.loop-undone.undone.items c.loop-undone.cut c.loop-undone.from
    c.loop-undone.invariant).0.fits.one_each

room : (c : In-Some) → (c.in-Some.p < length c.loop-undone.cut)
    × (get_or c.loop-undone.cut c.in-Some.p 0 < event_count (recorded_of c.args.search.now).events c.in-Some.p)
room c =
    split_room (recorded_of c.args.search.now) (predicate_of c.args.search.now) c.args.dead.now
    (full_cut (recorded_of c.args.search.now).events) c.loop-undone.undone.items c.pop.new.self.items
    c.loop-undone.cut c.loop-undone.from c.in-Some.p c.in-Some.ensures.items c.loop-undone.invariant

pub is_dead-requires : goal.is_dead-requires
is_dead-requires c = open_here c

pub redo-requires-clause-there : goal.redo-requires-clause-there
redo-requires-clause-there c = (room (goal.at.redo-requires-clause-there c).In-Some).0

pub redo-requires-clause-room : goal.redo-requires-clause-room
redo-requires-clause-room c =
    let below : get_or c.loop-undone.cut c.in-Some.p 0
    < event_count (recorded_of c.args.search.now).events c.in-Some.p =
    (room (goal.at.redo-requires-clause-room c).In-Some).1 in
    let short : event_count (recorded_of c.args.search.now).events c.in-Some.p ≤ event_limit =
    c.limits.ensures.short c.in-Some.p in
    omega arith

pub overflow_add-from : goal.overflow_add-from
overflow_add-from c =
    let there : c.in-Some.p < length c.loop-undone.cut =
    (room (goal.at.overflow_add-from c).In-Some).0 in
    let count : length c.loop-undone.cut ≡ length (recorded_of c.args.search.now).events =
    open_here (goal.at.overflow_add-from c).At-loop-undone in
    let few : length (recorded_of c.args.search.now).events ≤ process_limit = c.limits.ensures.few in
    omega arith

pub loop-undone-preserved : goal.loop-undone-preserved
loop-undone-preserved c =
    split_pop (recorded_of c.args.search.now) (predicate_of c.args.search.now) c.args.dead.now
    (full_cut (recorded_of c.args.search.now).events) c.loop-undone.undone.items c.pop.new.self.items
    c.loop-undone.cut c.redo.new.self c.loop-undone.from c.in-Some.p c.in-Some.ensures.items c.redo.ensures
    c.loop-undone.invariant (c.loop-undone-test.ensures.0 refl)
