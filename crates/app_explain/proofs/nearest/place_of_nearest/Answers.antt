-- A name that is looked at is nearer than those before it, or it isn't.
use Rattle.std.proofs.Common.{◌<◌, ◌≤◌, ℕ, List, [], length, map, sym, ap, ◌∙◌, arith, Bor}
use Rattle.std.proofs.lemmas.List.{get_or-map, length-map}
use Rattle.app_explain.specs.Nearest.{distance}
use Rattle.app_explain.proofs.NearestSteps.{all_looked_at, nearer, not_nearer}
use Rattle.app_explain.proofs.nearest.place_of_nearest.Goals as goal
use Rattle.app_explain.proofs.nearest.place_of_nearest.Goals.{then-edits-least, else-edits-least}

pub loop-place-preserved : goal.loop-place-preserved
loop-place-preserved c =
    let names = c.args.names.now in
    let text = λ (name : Bor (List ℕ)). name.now in
    let place = c.loop-place.place in
    let below : place < length names = c.loop-place-test.true in
    let inside : place < length (map text names) = omega (arith, below, length-map names text) in
    let here = sym (get_or-map text names place _ [] below) in
    let is = c.in_ok-edits.ensures ∙ ap (distance c.args.given.now) here in
    elim c.if-edits-least.branch [
      | then-edits-least w ↦
          rw (w.least-is, w.found-is) (nearer c.args.given.now (map text names) place c.loop-place.least
          c.in_ok-edits.edits c.loop-place.found c.loop-place.invariant inside is w.if-edits-least.true)
      | else-edits-least w ↦
          rw (w.least-is, w.found-is) (not_nearer c.args.given.now (map text names) place c.loop-place.least
          c.in_ok-edits.edits c.loop-place.found c.loop-place.invariant inside is w.if-edits-least.false)
    ]

pub returns : goal.returns
returns c =
    let names = c.args.names.now in
    let text = λ (name : Bor (List ℕ)). name.now in
    let whole : length (map text names) ≤ c.loop-place.place =
    omega (arith, c.loop-place-test.false, length-map names text) in
    all_looked_at c.args.given.now (map text names) c.loop-place.place c.loop-place.least c.loop-place.found
    c.loop-place.invariant whole
