-- The others so far.
use Rattle.std.proofs.Common.{◌≡◌, ◌∷◌, ◌++◌, take}
use Rattle.std.specs.Prelude.{flat_map}
use Rattle.out_page.specs.AnswerData.{named_place_text}
use Rattle.pd_report.specs.Views.{named_place_view}
use Rattle.out_page.proofs.answer_data.push_named_places.Given as goal

abbrev pub invariant-loop-place : goal.invariant-loop-place
invariant-loop-place l =
    l.out.items
    ≡ l.initial.out.items ++ flat_map (λ x. 44 ∷ named_place_text l.names (named_place_view x))
    (take l.place-index l.others)
