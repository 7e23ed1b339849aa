-- The others so far.
use Rattle.std.proofs.Common.{◌≡◌, ◌∷◌, ◌++◌, take}
use Rattle.std.specs.Prelude.{flat_map}
use Rattle.std.specs.Prelude.{string_bytes}
use Rattle.out_page.specs.JsonTexts.{quoted}
use Rattle.out_page.proofs.json_texts.push_names.Given as goal

abbrev pub invariant-loop-name : goal.invariant-loop-name
invariant-loop-name l =
    l.out.items ≡ l.initial.out.items ++ flat_map (λ x. 44 ∷ quoted (string_bytes x)) (take l.name-index l.others)
