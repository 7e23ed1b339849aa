-- The predicate of a name among those of a document.
use Rattle.std.proofs.Common.{◌≡◌, ◌∙◌, ℕ, List, Bor, Option, Some, None, ap, map, sym}
use Rattle.std.specs.Prelude.{option_and_then, option_map, position, slice_get, string_bytes}
use Rattle.std.specs.Str.{bytes_eq}
use Rattle.def_format.specs.Documents.{NamedPredicate}
use Rattle.pd_pred.proofs.Positions.{position-map}
use Rattle.pd_spec.specs.Named.{named_view}
use Rattle.pd_spec.specs.declared.named.NamedPred.{NamedPred}
use Rattle.judge_explore.specs.Known.{predicate_named}

module _ (predicates : List NamedPred) (name : List ℕ) where
  place_in : position (λ (predicate : NamedPredicate). bytes_eq predicate.name name) (map named_view predicates)
      ≡ position (λ (predicate : NamedPred). bytes_eq (string_bytes predicate.name) name) predicates
  place_in = position-map (λ (predicate : NamedPredicate). bytes_eq predicate.name name) named_view predicates

  pub named_found : (found : Option (Bor NamedPred)) (place : ℕ)
      → position (λ (predicate : NamedPred). bytes_eq (string_bytes predicate.name) name) predicates ≡ Some place
      → option_map (λ (one : Bor NamedPred). named_view one.now) found ≡ slice_get (map named_view predicates) place
      → option_map (λ (one : Bor NamedPred). named_view one.now) found
      ≡ predicate_named (map named_view predicates) name
  named_found found place at is =
      is ∙ sym (ap (option_and_then (slice_get (map named_view predicates))) (place_in ∙ at))

  pub none_found : position (λ (predicate : NamedPred). bytes_eq (string_bytes predicate.name) name) predicates ≡ None
      → None ≡ predicate_named (map named_view predicates) name
  none_found none = sym (ap (option_and_then (slice_get (map named_view predicates))) (place_in ∙ none))
