-- All streams are read, or one can't be.
use Rattle.std.proofs.Common.{◌≡◌, ◌<◌, ◌∙◌, Some, ap, arith, false, length, subst, sym}
use Rattle.std.proofs.lemmas.List.{get_or-map, length-map}
use Rattle.std.proofs.lemmas.List.Elements.{All-push}
use Rattle.def_judgement.specs.Writes.{Source}
use Rattle.def_recordings.specs.Recordings.{recorded_event_limit}
use Rattle.pd_events.specs.Views.{result_view}
use Rattle.pd_gather.specs.Views.{ReadingFitsWithin}
use Rattle.pd_spec.specs.Views.{document_view}
use Rattle.app_reduce.specs.Outcomes.{ComesTo}
use Rattle.app_reduce.proofs.StreamsRead.{less_left, some_left, taken, zip_more}
use Rattle.app_reduce.proofs.recorded_streams.read_streams.Goals as goal

pub remove-requires : goal.remove-requires
remove-requires g c =
    let lt : c.loop-place._place < length c.args.sources.items =
    omega (arith, c.loop-place-test.true, c.len-count.ensures, c.args.sources.ok.0) in
    let left : 0 < length c.loop-place.rest.items =
    subst (λ xs. 0 < length xs) (sym c.loop-place.invariant.0)
    (some_left c.args.sources.items c.loop-place._place lt) in
    omega (arith, left, c.loop-place.rest.ok.0)

pub read_recorded-requires : goal.read_recorded-requires
read_recorded-requires g c =
    let lt : c.loop-place._place < length c.args.sources.items =
    omega (arith, c.loop-place-test.true, c.len-count.ensures, c.args.sources.ok.0) in
    let is = taken c.args.sources.items c.loop-place.rest.items c.loop-place._place c.remove.result
    c.loop-place.invariant.0 c.remove.ensures.value in
    ap g.R.ByteSource.has_ended is ∙ c.requires c.loop-place._place c.remove.result lt

pub returns-in-Err-clause-unread : goal.returns-in-Err-clause-unread
returns-in-Err-clause-unread g c reported all =
    let lt : c.loop-place._place < length c.args.sources.items =
    omega (arith, c.loop-place-test.true, c.len-count.ensures, c.args.sources.ok.0) in
    let is = taken c.args.sources.items c.loop-place.rest.items c.loop-place._place c.remove.result
    c.loop-place.invariant.0 c.remove.ensures.value in
    let left = g.R.ByteSource.left in
    c.in-Err.ensures.unread (cc)
    (subst (λ (source : Source). source.fails ≡ Some false)
    (get_or-map left c.args.sources.items c.loop-place._place c.remove.result (left c.remove.result) lt
    ∙ ap left (sym is))
    (all c.loop-place._place (left c.remove.result) (omega (arith, lt, length-map c.args.sources.items left))))

pub loop-place-preserved : goal.loop-place-preserved
loop-place-preserved g c =
    let xs = c.args.sources.items in
    let names = (document_view c.args.spec.now).names in
    let lt : c.loop-place._place < length xs =
    omega (arith, c.loop-place-test.true, c.len-count.ensures, c.args.sources.ok.0) in
    let is = taken xs c.loop-place.rest.items c.loop-place._place c.remove.result
    c.loop-place.invariant.0 c.remove.ensures.value in
    let left = g.R.ByteSource.left in (
      less_left xs c.loop-place.rest.items c.remove.new.self.items c.loop-place._place c.loop-place.invariant.0
          c.remove.ensures.items,
      rw c.in_ok-push-in-Ok.ensures.items (zip_more (ComesTo names) left result_view xs c.loop-place.readings.items
          c.loop-place._place c.remove.result c.in-Ok.given lt c.loop-place.invariant.1
          (subst (λ r. ComesTo names (left r) (result_view c.in-Ok.given)) is c.in-Ok.ensures.given)),
      rw c.in_ok-push-in-Ok.ensures.items (All-push (ReadingFitsWithin recorded_event_limit names)
          c.loop-place.readings.items c.in-Ok.given c.loop-place.invariant.2 c.in-Ok.ensures.fits),
    )
