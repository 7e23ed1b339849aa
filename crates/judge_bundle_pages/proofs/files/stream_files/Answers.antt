-- One more file after each turn.
use Rattle.std.proofs.Common.{◌<◌, ◌∙◌, ap, arith, length}
use Rattle.judge_explore.specs.Sources.{stream_bytes}
use Rattle.judge_bundle_pages.proofs.StreamFiles.{files_more}
use Rattle.judge_bundle_pages.proofs.files.stream_files.Goals as goal

pub loop-place-preserved : goal.loop-place-preserved
loop-place-preserved c =
    let lt : c.loop-place.place < length c.args.names.now = omega (arith, c.loop-place-test.true, c.requires) in
    rw c.in_ok-push.ensures.items
    (files_more c.args.names.now c.args.streams.now c.loop-place.place c.loop-place.files.items c.in_ok-read.field-0
    c.index-names-place.result c.index-streams-place.result lt c.loop-place-test.true c.loop-place.invariant
    c.index-names-place.is c.index-streams-place.is c.deref.result.now c.first_bytes.result.now c.deref.ensures
    (c.first_bytes.ensures ∙ ap stream_bytes c.deref-in-loop-place.ensures.value) c.in_ok-read.ensures)
