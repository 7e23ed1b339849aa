-- Two halves of the streams come to all of them.
use Rattle.std.proofs.Common.{rules, ◌≡◌, ◌++◌, map, sym, subst, ◌∙◌}
use Rattle.pd_spec.specs.Views.{document_view}
use Rattle.pd_gather.specs.Gathering.{AreSameSeats, KeepsSeen, LeavesSeats}
use Rattle.pd_gather.proofs.Halves.{Gathers, both_gathered, left_of_all, none_gathered, none_left, none_seen, of_all_readers, same_halves, seen_halves}
use Rattle.pd_gather.proofs.gathering.+fn-read_halves-join_mut+arg2+fn-read_halves-join_mut+arg3+read_halves.Goals as goal

pub returns-then-readers-eq0-clause-gathered : goal.returns-then-readers-eq0-clause-gathered
returns-then-readers-eq0-clause-gathered g t c =
    none_gathered (document_view c.args.spec.now).names g.R.ByteSource.left
    c.args.readers.now c.new.result.items c.args.seats.now c.if-readers-eq0.true
    (sym c.requires.ready.one_each ∙ c.if-readers-eq0.true) c.new.ensures.items

pub returns-clause-same : goal.returns-clause-same
returns-clause-same g t c =
    let register = c.args.register.now in
    let seats = c.split_at_mut-first_seats.result in
    let first : AreSameSeats register seats.0.now c.first_seats-1.given.0 = search rules in
    let last : AreSameSeats register seats.1.now c.last_seats-1.given.0 = search rules in
    let whole : seats.0.now ++ seats.1.now ≡ c.args.seats.now = search rules in
    subst (λ old. AreSameSeats register old (c.first_seats-1.given.0 ++ c.last_seats-1.given.0)) whole
    (same_halves register seats.0.now seats.1.now c.first_seats-1.given.0 c.last_seats-1.given.0 first last)

pub returns-clause-gathered : goal.returns-clause-gathered
returns-clause-gathered g t c =
    let names = (document_view c.args.spec.now).names in
    let left = g.R.ByteSource.left in
    let readers = c.split_at_mut-first_readers.result in
    let first : Gathers names (map left readers.0.now) c.join_mut-first.result.0
    c.first_seats-1.given.0 = search rules in
    let last : Gathers names (map left readers.1.now) c.join_mut-first.result.1
    c.last_seats-1.given.0 = search rules in
    let whole : readers.0.now ++ readers.1.now ≡ c.args.readers.now = search rules in
    of_all_readers names left readers.0.now readers.1.now c.args.readers.now c.both_halves.result _
    whole
    (both_gathered names (map left readers.0.now) (map left readers.1.now)
    c.join_mut-first.result.0 c.join_mut-first.result.1 c.both_halves.result c.first_seats-1.given.0
    c.last_seats-1.given.0 first last c.both_halves.ensures.ok c.both_halves.ensures.both)

pub returns-then-readers-eq0-clause-seen : goal.returns-then-readers-eq0-clause-seen
returns-then-readers-eq0-clause-seen g t c = none_seen c.args.seats.now

pub returns-then-readers-eq0-clause-left : goal.returns-then-readers-eq0-clause-left
returns-then-readers-eq0-clause-left g t c =
    none_left (document_view c.args.spec.now).names g.R.ByteSource.left
    c.args.readers.now c.args.seats.now c.if-readers-eq0.true
    (sym c.requires.ready.one_each ∙ c.if-readers-eq0.true)

pub returns-clause-seen : goal.returns-clause-seen
returns-clause-seen g t c =
    let seats = c.split_at_mut-first_seats.result in
    let first : KeepsSeen seats.0.now c.first_seats-1.given.0 = search rules in
    let last : KeepsSeen seats.1.now c.last_seats-1.given.0 = search rules in
    let whole : seats.0.now ++ seats.1.now ≡ c.args.seats.now = search rules in
    subst (λ old. KeepsSeen old (c.first_seats-1.given.0 ++ c.last_seats-1.given.0)) whole
    (seen_halves seats.0.now seats.1.now c.first_seats-1.given.0 c.last_seats-1.given.0 first last)

pub returns-clause-left : goal.returns-clause-left
returns-clause-left g t c =
    let names = (document_view c.args.spec.now).names in
    let left = g.R.ByteSource.left in
    let readers = c.split_at_mut-first_readers.result in
    let first : LeavesSeats names (map left readers.0.now) c.first_seats-1.given.0 = search rules in
    let last : LeavesSeats names (map left readers.1.now) c.last_seats-1.given.0 = search rules in
    let whole : readers.0.now ++ readers.1.now ≡ c.args.readers.now = search rules in
    left_of_all names left readers.0.now readers.1.now c.args.readers.now c.first_seats-1.given.0
    c.last_seats-1.given.0 whole first last
