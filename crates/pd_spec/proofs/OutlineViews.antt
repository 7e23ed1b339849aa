-- What is tested of the program's outline is what is tested of the outline that it stands for.
use Rattle.std.proofs.Common.{◌≡◌, ℕ, List, [], ◌∷◌, map, String, Global, string_bytes, refl, ap}
use Rattle.std.specs.Prelude.{◌&&◌}
use Rattle.std.specs.List.{list_all}
use Rattle.std.specs.Map.{keys_of}
use Rattle.serde_json.specs.Data.{Members}
use Rattle.serde_json.specs.View.{members_view}
use Rattle.serde_json.specs.declared.value.Value.{Value}
use Rattle.def_format.specs.Documents.{vars_fit}
use Rattle.def_format.specs.Names.{is_name}
use Rattle.def_format.specs.Records.{keys}
use Rattle.pd_spec.specs.Outlines.{process_view, predicate_outline_view, outline_view, has_names}
use Rattle.pd_spec.specs.declared.outline.ProcessOutline.{ProcessOutline}
use Rattle.pd_spec.specs.declared.outline.PredicateOutline.{PredicateOutline}
use Rattle.pd_spec.specs.declared.outline.Outline.{Outline as Parts}
use Rattle.std.proofs.lemmas.List.Folds.{list_all-map}
use Rattle.pd_spec.proofs.TwiceLemmas.{texts_of}

pub texts_of-processes : (processes : List ProcessOutline)
    → texts_of (map (λ (process : ProcessOutline). process.name) processes)
    ≡ map (λ (process : List ℕ × Members). process.0) (map process_view processes)
texts_of-processes [] = refl
texts_of-processes (process ∷ processes) = ap (λ others. process.name.now ∷ others) (texts_of-processes processes)

pub texts_of-predicates : (predicates : List PredicateOutline)
    → texts_of (map (λ (predicate : PredicateOutline). predicate.name) predicates)
    ≡ map (λ (predicate : List ℕ × List ℕ). predicate.0) (map predicate_outline_view predicates)
texts_of-predicates [] = refl
texts_of-predicates (predicate ∷ predicates) =
    ap (λ others. predicate.name.now ∷ others) (texts_of-predicates predicates)

processes_named : (processes : List ProcessOutline)
    → list_all is_name (map (λ (process : List ℕ × Members). process.0) (map process_view processes))
    ≡ list_all (λ (process : ProcessOutline). is_name process.name.now) processes
processes_named [] = refl
processes_named (process ∷ processes) = ap (λ b. is_name process.name.now && b) (processes_named processes)

predicates_named : (predicates : List PredicateOutline)
    → list_all is_name (map (λ (predicate : List ℕ × List ℕ). predicate.0) (map predicate_outline_view predicates))
    ≡ list_all (λ (predicate : PredicateOutline). is_name predicate.name.now) predicates
predicates_named [] = refl
predicates_named (predicate ∷ predicates) = ap (λ b. is_name predicate.name.now && b) (predicates_named predicates)

vars_named_of : (entries : List (String Global × Value)) → list_all is_name (keys (members_view entries))
    ≡ list_all (λ (key : String Global). is_name (string_bytes key)) (keys_of entries)
vars_named_of [] = refl
vars_named_of (entry ∷ entries) = ap (λ b. is_name (string_bytes entry.0) && b) (vars_named_of entries)

vars_named : (processes : List ProcessOutline)
    → list_all (λ (process : List ℕ × Members). list_all is_name (keys process.1)) (map process_view processes)
    ≡ list_all (λ (process : ProcessOutline). list_all (λ (key : String Global). is_name (string_bytes key))
    (keys_of process.vars.now.entries)) processes
vars_named [] = refl
vars_named (process ∷ processes) =
    rw (vars_named_of process.vars.now.entries)
    (ap (λ b. list_all (λ (key : String Global). is_name (string_bytes key)) (keys_of process.vars.now.entries)
    && b) (vars_named processes))

pub has_names-parts : (outline : Parts)
    → has_names (outline_view outline)
    ≡ (list_all (λ (process : ProcessOutline). is_name process.name.now) outline.processes.items
    && list_all (λ (process : ProcessOutline). list_all (λ (key : String Global). is_name (string_bytes key))
    (keys_of process.vars.now.entries)) outline.processes.items
    && list_all (λ (predicate : PredicateOutline). is_name predicate.name.now) outline.predicates.items)
has_names-parts outline =
    rw (
      processes_named outline.processes.items,
      vars_named outline.processes.items,
      predicates_named outline.predicates.items,
    ) refl

pub vars_fit-processes : (processes : List ProcessOutline) → list_all vars_fit (map process_view processes)
    ≡ list_all (λ (process : ProcessOutline). vars_fit (process_view process)) processes
vars_fit-processes processes = list_all-map vars_fit process_view processes
