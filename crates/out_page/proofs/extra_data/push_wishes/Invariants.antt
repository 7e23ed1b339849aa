-- The others so far.
use Rattle.std.proofs.Common.{◌≡◌, ◌∷◌, ◌++◌, map, take}
use Rattle.std.specs.Prelude.{flat_map}
use Rattle.out_page.specs.ExtraData.{wish_text}
use Rattle.out_page.specs.Views.{wish_view}
use Rattle.pd_spec.specs.Named.{named_view}
use Rattle.out_page.proofs.extra_data.push_wishes.Given as goal

abbrev pub invariant-loop-wish : goal.invariant-loop-wish
invariant-loop-wish l =
    l.out.items
    ≡ l.initial.out.items
    ++ flat_map (λ x. 44 ∷ wish_text (map named_view l.predicates) (wish_view x)) (take l.wish-index l.others)
