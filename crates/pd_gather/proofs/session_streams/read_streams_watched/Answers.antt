-- Streams that are too many come to the same unread, and the others to what was read of them.
use Rattle.std.proofs.Common.{rules, ◌≡◌, ◌<◌, length, drop, map, sym, ◌∙◌, subst}
use Rattle.std.proofs.lemmas.List.{length-map}
use Rattle.def_format.specs.Limits.{stream_count_limit}
use Rattle.pd_spec.specs.Views.{document_view}
use Rattle.pd_register.specs.Seats.{AreSeats, posted_row}
use Rattle.pd_gather.specs.Views.{results_view}
use Rattle.pd_gather.proofs.SeatLists.{all_of_front}
use Rattle.pd_gather.proofs.SessionStreams.{read_comes, unread_comes}
use Rattle.pd_gather.proofs.session_streams.read_streams_watched.Goals as goal

pub returns-in-Some-clause-given : goal.returns-in-Some-clause-given
returns-in-Some-clause-given g c =
    let inputs = map g.R.ByteSource.left c.args.readers.items in
    let unread = c.in-Some.unread in
    let over : stream_count_limit < unread.streams = search rules in
    let long : length c.args.readers.items ≡ unread.streams = search rules in
    unread_comes (document_view c.args.spec.now).names inputs unread.streams
    (results_view unread.readings.items) over
    (length-map c.args.readers.items g.R.ByteSource.left ∙ long)

pub close-requires-clause-seats : goal.close-requires-clause-seats
close-requires-clause-seats g c =
    let new = c.gather_by.new.seats in
    let count : length new ≡ c.in_ok-register.seats.len = search rules in
    subst (AreSeats c.in_ok-register.register)
    (sym (all_of_front c.in_ok-register.seats.len new (drop (length new) c.in_ok-register.seats.items) count))
    c.gather_by.ensures.seats

pub returns-clause-given : goal.returns-clause-given
returns-clause-given g c =
    let inputs = map g.R.ByteSource.left c.args.readers.items in
    let gathered = c.in_ok-gathered.gathered in
    let long : gathered.streams ≡ length c.args.readers.items = search rules in
    read_comes (document_view c.args.spec.now).names inputs gathered.streams
    (results_view gathered.readings.items) (map posted_row c.gather_by.new.seats) c.in_ok-gathered.ensures.read
    (long ∙ sym (length-map c.args.readers.items g.R.ByteSource.left))
