-- All streams are read, or one can't surely be.
use Rattle.std.proofs.Common.{◌<◌, ◌∙◌, ap, arith, drop, length, map, refl, subst, sym}
use Rattle.std.proofs.lemmas.List.{get_or-map, length-map, take_all}
use Rattle.std.specs.List.{AllZip}
use Rattle.def_judgement.specs.Writes.{IsWholeInput}
use Rattle.app_draw.specs.Drawings.{IsSurelyRead}
use Rattle.app_draw.proofs.WholeStreams.{drop_more, some_left, taken, whole_on}
use Rattle.app_draw.proofs.whole_files.whole_streams.Goals as goal

pub loop-place-init : goal.loop-place-init
loop-place-init g c = (refl, rw c.new-read.ensures.items tt)

pub remove-requires : goal.remove-requires
remove-requires g c =
    let lt : c.loop-place._place < length c.args.streams.items =
    omega (arith, c.loop-place-test.true, c.len-count.ensures, c.args.streams.ok.0) in
    let left : 0 < length c.loop-place.rest.items =
    subst (λ xs. 0 < length xs) (sym c.loop-place.invariant.0)
    (some_left c.args.streams.items c.loop-place._place lt) in
    omega (arith, left, c.loop-place.rest.ok.0)

pub read_whole-requires-clause-open : goal.read_whole-requires-clause-open
read_whole-requires-clause-open g c =
    let lt : c.loop-place._place < length c.args.streams.items =
    omega (arith, c.loop-place-test.true, c.len-count.ensures, c.args.streams.ok.0) in
    let is = taken c.args.streams.items c.loop-place.rest.items c.loop-place._place c.remove.result
    c.loop-place.invariant.0 c.remove.ensures.value in
    ap g.R.ByteSource.has_ended is ∙ c.requires c.loop-place._place c.remove.result lt

pub returns-in-Err-clause-unread : goal.returns-in-Err-clause-unread
returns-in-Err-clause-unread g c reported sure =
    let lt : c.loop-place._place < length c.args.streams.items =
    omega (arith, c.loop-place-test.true, c.len-count.ensures, c.args.streams.ok.0) in
    let is = taken c.args.streams.items c.loop-place.rest.items c.loop-place._place c.remove.result
    c.loop-place.invariant.0 c.remove.ensures.value in
    let left = g.R.ByteSource.left in
    c.in-Err.ensures.unread (cc)
    (subst (IsSurelyRead 16777216)
    (get_or-map left c.args.streams.items c.loop-place._place c.remove.result (left c.remove.result) lt
    ∙ ap left (sym is))
    (sure c.loop-place._place (left c.remove.result) (omega (arith, lt, length-map c.args.streams.items left))))

pub loop-place-preserved : goal.loop-place-preserved
loop-place-preserved g c =
    let xs = c.args.streams.items in
    let lt : c.loop-place._place < length xs =
    omega (arith, c.loop-place-test.true, c.len-count.ensures, c.args.streams.ok.0) in
    let is = taken xs c.loop-place.rest.items c.loop-place._place c.remove.result
    c.loop-place.invariant.0 c.remove.ensures.value in
    let left = g.R.ByteSource.left in (
      c.remove.ensures.items ∙ (ap (drop 1) c.loop-place.invariant.0 ∙ drop_more xs c.loop-place._place),
      rw c.in_ok-push-in-Ok.ensures.items (whole_on left (λ bytes. bytes.items) xs c.loop-place.read.items
          c.loop-place._place c.remove.result c.in-Ok.bytes lt c.loop-place.invariant.1
          (subst (λ r. IsWholeInput (left r) c.in-Ok.bytes.items) is c.in-Ok.ensures.read)),
    )

pub returns-clause-read : goal.returns-clause-read
returns-clause-read g c =
    let all = take_all c.loop-place._place c.args.streams.items
    (omega (arith, c.loop-place-test.false, c.len-count.ensures, c.args.streams.ok.0)) in
    subst (λ xs. AllZip IsWholeInput (map g.R.ByteSource.left xs) (map (λ bytes. bytes.items) c.loop-place.read.items))
    all c.loop-place.invariant.1
