-- A predicate of the name is found among the predicates if there is one.
use Rattle.std.proofs.Common.{rules, tests, map, sym, ◌∙◌}
use Rattle.std.specs.Prelude.{string_bytes}
use Rattle.std.specs.Str.{bytes_eq}
use Rattle.std.proofs.lemmas.Iterator.{YieldsList-from_slice}
use Rattle.std.proofs.lemmas.Iterator.Search.{any_from_yields_List}
use Rattle.def_format.specs.Documents.{NamedPredicate}
use Rattle.def_format.proofs.ListTests.{list_any-map}
use Rattle.pd_spec.specs.Named.{named_view}
use Rattle.judge_runs.proofs.wish.has_name.Goals as goal

pub returns : goal.returns
returns c =
    any_from_yields_List (λ x. bytes_eq c.args.name.now (string_bytes x.name)) _ _ _ c.any.ensures.ran
    (YieldsList-from_slice c.args.predicates.now c.iter.ensures.rest) (λ x b q k. search (rules, tests))
    ∙ sym (list_any-map (λ other. bytes_eq c.args.name.now other) (λ (p : NamedPredicate). p.name)
    (map named_view c.args.predicates.now)
    ∙ list_any-map (λ (p : NamedPredicate). bytes_eq c.args.name.now p.name) named_view c.args.predicates.now)
