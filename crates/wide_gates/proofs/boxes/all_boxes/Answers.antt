-- One spot more has a box.
use Rattle.std.proofs.Common.{◌≡◌, ◌+◌, ◌-◌, ℕ, false, get_or, length, subst, arith}
use Rattle.wide_gates.specs.Boxes.{IsLastBox}
use Rattle.wide_gates.specs.declared.spot.Spot.{Spot}
use Rattle.wide_gates.proofs.Sharing.{have_box_more}
use Rattle.wide_gates.proofs.boxes.all_boxes.Goals as goal

abbrev no_spot : Spot
no_spot = record { place = record { process = 0; number = 0 }; after = false }

pub overflow_sub-len : goal.overflow_sub-len
overflow_sub-len c = omega (arith, (c.in_ok-add_box.ensures.last no_spot).some, c.len.ensures)

pub loop-k-preserved : goal.loop-k-preserved
loop-k-preserved c =
    let events = c.args.computation.now.events in
    let spots = c.args.spots.now in
    let new = c.add_box.new.boxes.items in
    record {
      last = λ some d.
          subst (λ (i : ℕ). IsLastBox events (get_or spots i d) new)
          (let same : c.loop-k.k ≡ c.loop-k.k + 1 - 1 = omega arith in same) (c.in_ok-add_box.ensures.last d);
      have =
          have_box_more events spots c.loop-k.k (c.len.result - 1) c.loop-k.boxes.items new c.loop-k.numbers.items
          c.push.new.self.items c.loop-k.invariant.have c.in_ok-add_box.ensures.more c.in_ok-add_box.ensures.last
          no_spot (let e : c.len.result - 1 ≡ length new - 1 = omega (arith, c.len.ensures) in e)
          c.in_ok-push.ensures.items;
    }
