-- What the loop of `push_places` keeps.
use Rattle.std.proofs.Common.{◌≡◌, ◌∷◌, ◌++◌, take}
use Rattle.std.specs.Prelude.{decimal, codes, string_bytes}
use Rattle.std.specs.List.{flat_map}
use Rattle.judge_draw.proofs.refused.push_places.Given as goal

abbrev pub invariant-loop-name : goal.invariant-loop-name
invariant-loop-name l =
    string_bytes l.text ≡ string_bytes l.initial.text ++ flat_map (λ place.
    44 ∷ (string_bytes place.0 ++ (codes "#" ++ decimal place.1))) (take l.name-index l.others)
