-- The others so far.
use Rattle.std.proofs.Common.{◌≡◌, ◌∷◌, ◌++◌, take}
use Rattle.std.specs.Prelude.{flat_map}
use Rattle.out_page.specs.Written.{named_text}
use Rattle.pd_spec.specs.Named.{named_view}
use Rattle.out_page.proofs.page_data.push_predicates.Given as goal

abbrev pub invariant-loop-named : goal.invariant-loop-named
invariant-loop-named l =
    l.out.items ≡ l.initial.out.items ++ flat_map (λ x. 44 ∷ named_text (named_view x)) (take l.named-index l.others)
