-- The first bytes are as many as a stream may have, and one more.
use Rattle.std.proofs.Common.{◌∙◌, ap, take}
use Rattle.std.proofs.lemmas.List.{take_min}
use Rattle.judge_bundle_pages.proofs.files.first_bytes.Goals as goal

pub returns : goal.returns
returns c =
    c.split_at.ensures.front
    ∙ (ap (λ n. take n c.args.stream.now) c.min.ensures ∙ take_min 16777217 c.args.stream.now)
