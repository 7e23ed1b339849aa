-- One more spot of the run.
use Rattle.std.proofs.Common.{◌≡◌, ◌+◌, ◌*◌, ◌<◌, ◌≤◌, ◌⊎◌, inl, inr, ℕ, length, ◌++◌, ◌∷◌, [], ap, ◌∙◌, arith}
use Rattle.std.proofs.lemmas.Bool.{cases_lt}
use Rattle.std.proofs.lemmas.List.{length-append}
use Rattle.walk_marks.specs.Spots.{spot_at}
use Rattle.walk_marks.specs.declared.spots.Spot.{Spot}
use Rattle.walk_marks.proofs.ByThreads.{last_spot, spot_kept}
use Rattle.walk_marks.proofs.spots.push_spots.Goals as goal

pub loop-b-preserved : goal.loop-b-preserved
loop-b-preserved g c =
    record {
      more = ap length is ∙ (length-append c.loop-b.spots.items (spot ∷ []) ∙ omega (arith, c.loop-b.invariant.more));
      others = λ k lt.
          spot_kept c.loop-b.spots.items c.push.new.self.items spot k is (omega (arith, c.loop-b.invariant.more))
          ∙ c.loop-b.invariant.others k lt;
      run = λ q lt. run q (cases_lt q c.loop-b.b) lt;
    }
  where
    spot : Spot
    spot = record { run = c.args.i; x = c.lo-lo.result + c.loop-b.b * 64 }

    is : c.push.new.self.items ≡ c.loop-b.spots.items ++ spot ∷ []
    is = c.in_ok-push.ensures.items

    run : (q : ℕ) → (q < c.loop-b.b) ⊎ (c.loop-b.b ≤ q) → q < c.loop-b.b + 1
        → spot_at c.push.new.self.items (length c.args.spots.now.items + q)
        ≡ record { run = c.args.i; x = c.lo-lo.result + 64 * q }
    run q (inl less) lt =
        spot_kept c.loop-b.spots.items c.push.new.self.items spot (length c.args.spots.now.items + q) is
        (omega (arith, c.loop-b.invariant.more)) ∙ c.loop-b.invariant.run q less
    run q (inr more) lt =
        last_spot c.loop-b.spots.items c.push.new.self.items c.args.i c.lo-lo.result c.loop-b.b q
        (length c.args.spots.now.items) is c.loop-b.invariant.more more lt
