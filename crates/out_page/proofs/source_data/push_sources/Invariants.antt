-- The others so far.
use Rattle.std.proofs.Common.{◌≡◌, ◌∷◌, ◌++◌, take}
use Rattle.std.specs.Prelude.{flat_map}
use Rattle.out_page.specs.SourceData.{source_text}
use Rattle.out_page.specs.Views.{source_view}
use Rattle.out_page.proofs.source_data.push_sources.Given as goal

abbrev pub invariant-loop-source : goal.invariant-loop-source
invariant-loop-source l =
    l.out.items
    ≡ l.initial.out.items ++ flat_map (λ x. 44 ∷ source_text (source_view x)) (take l.source-index l.others)
