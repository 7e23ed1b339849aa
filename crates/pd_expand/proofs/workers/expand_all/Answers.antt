-- The claims are whole, so each block has one part.
use Rattle.std.proofs.Common.{rules, ◌≡◌, length, drop}
use Rattle.pd_expand.specs.Claims.{block_count}
use Rattle.pd_expand.proofs.PartFacts.{all_of_front, whole_kept}
use Rattle.pd_expand.proofs.workers.expand_all.Goals as goal

pub returns : goal.returns
returns g c =
    let new = c.expand_halves-parts.new.seats in
    let count : length new ≡ c.args.seats.len = search rules in record {
      parts = whole_kept c.args.computation.now.events c.args.level.now (block_count c.args.claims)
          c.expand_halves-parts.result new _ c.expand_halves-parts.ensures.parts
          (all_of_front c.args.seats.len new (drop (length new) c.args.seats.items) count) c.close.ensures.whole;
    }
