-- What the loops of `push_places` keep.
use Rattle.std.proofs.Common.{◌≡◌, ◌∷◌, ◌++◌, take}
use Rattle.std.specs.Prelude.{decimal, codes, string_bytes}
use Rattle.std.specs.List.{flat_map}
use Rattle.pd_report.proofs.fields.push_places.Given as goal

abbrev pub invariant-loop-name : goal.invariant-loop-name
invariant-loop-name l =
    l.out.items ≡ l.initial.out.items ++ flat_map (λ place.
    44 ∷ (string_bytes place.0 ++ (codes "#" ++ decimal place.1))) (take l.name-index l.others)
