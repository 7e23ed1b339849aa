-- The process that the reader of these bytes has is the one of their reading.
use Rattle.std.proofs.Common.{◌≡◌, ◌∙◌, ℕ, Some, [], ap, sym}
use Rattle.def_format.specs.Readings.{Reading}
use Rattle.def_format.specs.ReadingLaws.{process_of}
use Rattle.app_door.proofs.waiting.look_at_start.Goals as goal

pub returns-in-Some : goal.returns-in-Some
returns-in-Some c process same =
    let after = c.in_ok-feed.ensures.reads c.args.spec.now.names [] c.new-reader.ensures in
    let same_process : c.in-Some.process ≡ process = cc in
    sym (ap (λ (r : Reading). process_of r.joined) after.same_reading)
    ∙ (sym c.process.ensures ∙ (c.in-Some.is ∙ ap (λ (p : ℕ). Some p) same_process))
