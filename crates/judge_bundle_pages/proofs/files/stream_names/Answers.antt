-- One more name after each turn.
use Rattle.judge_bundle_pages.proofs.StreamFiles.{names_more}
use Rattle.judge_bundle_pages.proofs.files.stream_names.Goals as goal

pub loop-place-preserved : goal.loop-place-preserved
loop-place-preserved c =
    rw c.in_ok-push.ensures.items
    (names_more c.args.bundle.now c.loop-place.names.items c.in_ok-stream_name.field-0 c.loop-place.place
    c.loop-place.invariant c.in_ok-stream_name.ensures)
