-- The piece of the keys whose cuts lie in range makes those that lie there.
use Rattle.std.proofs.Common.{ℕ, ◌-◌, ◌^◌, length, refl, subst}
use Rattle.walk_keys.specs.Keys.{count_base}
use Rattle.pd_level.proofs.Ranges.{IsPieceOf, piece_made}
use Rattle.pd_level.proofs.step.more_between.Goals as goal

pub returns-clause-just : goal.returns-clause-just
returns-clause-just g c =
    let events = c.args.computation.now.events in
    let keys = c.args.keys.now in
    let start = c.range_start-start in
    let end = c.range_end-end in
    let cut : IsPieceOf keys (count_base ^ (c.processes-processes.result - 1 - c.args.p)) c.args.from c.args.to
    start.result end.result =
    record {
      ordered = end.ensures.within.0;
      within = end.ensures.within.1;
      low = start.ensures.below;
      from_low = start.ensures.rest;
      below = end.ensures.below;
      high = end.ensures.rest;
    } in
    piece_made events keys c.more_by.result c.args.p (count_base ^ (length events - 1 - c.args.p)) c.args.from c.args.to
    start.result end.result c.requires.cuts c.requires.within refl
    (subst (λ (n : ℕ). IsPieceOf keys (count_base ^ (n - 1 - c.args.p)) c.args.from c.args.to start.result end.result)
    c.processes-processes.ensures cut) c.more_by.ensures.just
