-- That `of_outline` meets its contract.
use Rattle.std.proofs.Common.{◌≡◌, List, ℕ, None, option_map, map, string_bytes, sym, ap, ◌∙◌}
use Rattle.serde_json.specs.View.{view}
use Rattle.def_format.specs.Documents.{version_of}
use Rattle.pd_spec.specs.Outlines.{outline_view, predicate_outline_view}
use Rattle.pd_spec.specs.declared.named.NamedPred.{NamedPred}
use Rattle.pd_spec.proofs.Faultless.{sound_of, parsed_names}
use Rattle.def_format.specs.Versions.{version_view}
use Rattle.pd_spec.specs.Named.{named_view}
use Rattle.pd_spec.proofs.PredicateFaults.{all_spelled}
use Rattle.pd_spec.proofs.spec.Spec.of_outline.Goals as goal

pub invariant_of-result : goal.invariant_of-result
invariant_of-result c =
    let names : map (λ (predicate : NamedPred). string_bytes predicate.name) c.in_ok-predicates.predicates.items
    ≡ map (λ (written : List ℕ × List ℕ). written.0)
    (map predicate_outline_view c.args.outline.now.predicates.items) =
    parsed_names c.in_ok-names.names (map predicate_outline_view c.deref.result.now) c.in_ok-predicates.predicates.items
    c.in_ok-predicates.ensures.ok
    ∙ ap (λ predicates. map (λ (written : List ℕ × List ℕ). written.0) (map predicate_outline_view predicates))
    c.deref.ensures.value in
    record {
      sound =
          rw (c.in_ok-names.ensures, c.in_ok-initial.ensures, names, c.width_of.ensures)
          (sound_of c.requires.0 (outline_view c.args.outline.now) c.requires.1);
    }

pub returns-in_default-clause-err : goal.returns-in_default-clause-err
returns-in_default-clause-err c =
    let none : version_of (option_map (λ value. view value.now) c.args.outline.now.version) ≡ None =
    sym c.version_of.ensures ∙ ap (option_map version_view) c.in_default.is in (
      all_spelled (outline_view c.args.outline.now) c.in_ok-names.names (map predicate_outline_view c.deref.result.now)
          (map named_view c.in_ok-predicates.predicates.items) c.in_ok-names.ensures
          (ap (map predicate_outline_view) c.deref.ensures.value) c.in_ok-predicates.ensures.ok,
      none,
    )
