-- A predicate's place among the predicates is that among what they stand for.
use Rattle.std.proofs.Common.{◌∙◌, Option, ℕ, ap, sym}
use Rattle.std.specs.Prelude.{unwrap_or}
use Rattle.std.specs.Str.{bytes_eq}
use Rattle.def_format.specs.Documents.{NamedPredicate}
use Rattle.pd_pred.proofs.Positions.{position-map}
use Rattle.pd_spec.specs.Named.{named_view}
use Rattle.out_page.proofs.extra_data.predicate_number.Goals as goal

pub returns : goal.returns
returns c =
    c.unwrap_or.ensures
    ∙ ap (λ (place : Option ℕ). unwrap_or place 0) (c.place_of.ensures
    ∙ sym (position-map (λ (predicate : NamedPredicate). bytes_eq predicate.name c.args.name.now) named_view
    c.args.predicates.now))
