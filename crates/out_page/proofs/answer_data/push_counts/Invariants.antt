-- The others so far.
use Rattle.std.proofs.Common.{◌≡◌, ◌∷◌, ◌++◌, take}
use Rattle.std.specs.Prelude.{flat_map}
use Rattle.std.specs.Prelude.{decimal}
use Rattle.out_page.proofs.answer_data.push_counts.Given as goal

abbrev pub invariant-loop-count : goal.invariant-loop-count
invariant-loop-count l =
    l.out.items ≡ l.initial.out.items ++ flat_map (λ x. 44 ∷ decimal x) (take l.count-index l.others)
