-- One more cut is marked.
use Rattle.std.proofs.Common.{◌≡◌, ◌<◌, ◌++◌, Bool, [], ◌∷◌, length, get_or, map, take, ap, arith}
use Rattle.std.proofs.lemmas.List.{take_more, map-append}
use Rattle.std.proofs.lemmas.Option.{slice_get-get_or}
use Rattle.walk_back.specs.CompiledTests.{meaning_of}
use Rattle.walk_back.proofs.by_tables.marks_in_turn.Goals as goal

pub loop-i-preserved : goal.loop-i-preserved
loop-i-preserved c =
    let lt : c.loop-i.i < length c.args.level.now.cuts = omega (arith, c.loop-i-test.true, c.len-i-end.ensures) in
    let here : c.holds_there.result ≡ meaning_of c.args.test.now (get_or c.args.level.now.cuts c.loop-i.i []) =
    rw (slice_get-get_or c.args.level.now.cuts c.loop-i.i [] lt) at c.holds_there.ensures in
    rw (
      c.in_ok-push.ensures.items,
      c.loop-i.invariant,
      take_more c.args.level.now.cuts c.loop-i.i [] lt,
      map-append (meaning_of c.args.test.now) (take c.loop-i.i c.args.level.now.cuts)
          (get_or c.args.level.now.cuts c.loop-i.i [] ∷ []),
    )
    (ap (λ (b : Bool). map (meaning_of c.args.test.now) (take c.loop-i.i c.args.level.now.cuts) ++ b ∷ []) here)
