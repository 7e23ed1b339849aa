-- A run more, whose spots stand after those of the runs before it.
use Rattle.std.proofs.Common.{◌≡◌, ◌+◌, ◌<◌, ◌≤◌, ◌⊎◌, inl, inr, ℕ, suc, length, ◌++◌, ◌∷◌, [], sym, subst, ap, ◌∙◌, arith}
use Rattle.std.proofs.lemmas.Bool.{cases_lt}
use Rattle.std.proofs.lemmas.List.{length-append}
use Rattle.walk_marks.specs.RunPlaces.{run_at}
use Rattle.walk_marks.specs.Marks.{start_of, last_word}
use Rattle.walk_marks.specs.Spots.{HasSpots, IsSpot, spot_at}
use Rattle.walk_marks.specs.declared.spots.Spot.{Spot}
use Rattle.walk_marks.proofs.ByThreads.{run_spots, spots_kept}
use Rattle.walk_marks.proofs.Windows.{start_next}
use Rattle.walk_marks.proofs.PushedWords.{start_below, starts_pushed}
use Rattle.walk_marks.proofs.spots.spots.Goals as goal

pub loop-i-preserved : goal.loop-i-preserved
loop-i-preserved g c = record {
  one_each = ap length is ∙ (length-append c.loop-i.first.items (c.len-in-loop-i.result ∷ [])
      ∙ omega (arith, c.loop-i.invariant.one_each));
  starts = starts_pushed c.args.level.now.runs c.loop-i.first.items c.push.new.self.items c.len-in-loop-i.result
      c.loop-i.i is c.loop-i.invariant.one_each first c.loop-i.invariant.starts;
  ends = c.in_ok-push_spots.ensures.more ∙ (rw up (omega (arith, c.loop-i.invariant.ends, next)));
  spots_of = λ k le. spots_of k (cases_lt k c.loop-i.i) le;
  each = λ j less. each j (cases_lt j (length c.loop-i.spots.items)) less;
}
  where
    lt : c.loop-i.i < length c.args.level.now.runs
    lt = omega (arith, c.loop-i-test.true, c.len-i-end.ensures)

    is : c.push.new.self.items ≡ c.loop-i.first.items ++ c.len-in-loop-i.result ∷ []
    is = c.in_ok-push.ensures.items

    first : c.len-in-loop-i.result ≡ start_of c.args.level.now.runs c.loop-i.i
    first = omega (arith, c.loop-i.spots.ok, c.len-in-loop-i.ensures, c.loop-i.invariant.ends)

    next : start_of c.args.level.now.runs (suc c.loop-i.i) ≡ start_of c.args.level.now.runs c.loop-i.i
        + suc (last_word (run_at c.args.level.now.runs c.loop-i.i))
    next = start_next c.args.level.now.runs c.loop-i.i lt

    up : c.loop-i.i + 1 ≡ suc c.loop-i.i
    up = omega arith

    spots_of : (k : ℕ) → (k < c.loop-i.i) ⊎ (c.loop-i.i ≤ k) → k < c.loop-i.i + 1
        → HasSpots c.args.level.now.runs k c.push_spots.new.spots.items (start_of c.args.level.now.runs k)
    spots_of k (inl less) le =
        let room : start_of c.args.level.now.runs k + suc (last_word (run_at c.args.level.now.runs k))
        ≤ start_of c.args.level.now.runs c.loop-i.i =
        start_below c.args.level.now.runs k c.loop-i.i less (omega (arith, lt)) in
        spots_kept c.args.level.now.runs k c.loop-i.spots.items c.push_spots.new.spots.items
        (start_of c.args.level.now.runs k) (omega (arith, c.loop-i.invariant.ends)) c.in_ok-push_spots.ensures.others
        (c.loop-i.invariant.spots_of k less)
    spots_of k (inr more) le =
        let e : c.loop-i.i ≡ k = omega arith in
        subst (λ (n : ℕ). HasSpots c.args.level.now.runs n c.push_spots.new.spots.items
        (start_of c.args.level.now.runs n)) e
        (subst (λ (n : ℕ). HasSpots c.args.level.now.runs c.loop-i.i c.push_spots.new.spots.items n)
        c.loop-i.invariant.ends c.in_ok-push_spots.ensures.run)

    each : (j : ℕ) → (j < length c.loop-i.spots.items) ⊎ (length c.loop-i.spots.items ≤ j)
        → j < length c.push_spots.new.spots.items
        → IsSpot c.args.level.now.runs (spot_at c.push_spots.new.spots.items j)
    each j (inl less) below =
        subst (λ (s : Spot). IsSpot c.args.level.now.runs s) (sym (c.in_ok-push_spots.ensures.others j less))
        (c.loop-i.invariant.each j less)
    each j (inr more) below =
        run_spots c.args.level.now.runs c.loop-i.i c.push_spots.new.spots.items (length c.loop-i.spots.items) lt
        (c.requires c.loop-i.i lt) c.in_ok-push_spots.ensures.run j more
        (omega (arith, below, c.in_ok-push_spots.ensures.more))
