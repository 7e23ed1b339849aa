-- What the program's outline of a document stands for.
use Rattle.std.specs.Prelude.{◌≢◌, ℕ, ℤ, pos, Bool, ◌&&◌, List, All, AllPairs, map, codes, option_map, Option, unwrap_or}
use Rattle.std.specs.List.{list_all}
use Rattle.def_format.specs.Names.{is_name, ProcessNames}
use Rattle.def_format.specs.Records.{keys, values, whole_number}
use Rattle.serde_json.specs.Data.{Data, Members}
use Rattle.serde_json.specs.Find.{as_str, as_object}
use Rattle.serde_json.specs.View.{view, members_view}
use Rattle.def_format.specs.Documents.{Outline, named_object, process_names, predicate_names}
use Rattle.pd_spec.specs.declared.outline.ProcessOutline.{ProcessOutline}
use Rattle.pd_spec.specs.declared.outline.PredicateOutline.{PredicateOutline}
use Rattle.pd_spec.specs.declared.outline.Outline.{Outline as Parts}

-- a process with its variables, as a value has it
abbrev pub process_in : Data → Option (List ℕ × Members)
process_in = named_object (codes "vars") as_object

-- a predicate with its text, as a value has it
abbrev pub predicate_in : Data → Option (List ℕ × List ℕ)
predicate_in = named_object (codes "text") as_str

abbrev pub process_view : ProcessOutline → List ℕ × Members
process_view process = (process.name.now, members_view process.vars.now.entries)

abbrev pub predicate_outline_view : PredicateOutline → List ℕ × List ℕ
predicate_outline_view predicate = (predicate.name.now, predicate.text.now)

abbrev pub outline_view : Parts → Outline
outline_view outline = record {
  processes = map process_view outline.processes.items;
  predicates =
      map predicate_outline_view outline.predicates.items;
  width = option_map (λ value. view value.now) outline.width;
  version = option_map (λ value. view value.now) outline.version;
}

-- each process, each variable and each predicate has a name that is one
abbrev pub has_names : Outline → Bool
has_names outline =
    list_all is_name (process_names outline)
    && list_all (λ (process : List ℕ × Members). list_all is_name (keys process.1)) outline.processes
    && list_all is_name (predicate_names outline)

-- ---- the names and the initial values

abbrev pub entry_in : List ℕ × Members → ProcessNames
entry_in process = record { name = process.0; vars = keys process.1 }

abbrev pub initial_value : Data → ℤ
initial_value value = unwrap_or (whole_number value) (pos 0)

abbrev pub row_in : List ℕ × Members → List ℤ
row_in process = map initial_value (values process.1)

abbrev pub AreDistinctTexts : List (List ℕ) → Type 0
AreDistinctTexts texts = AllPairs (λ (x y : List ℕ). x ≢ y) texts

abbrev pub HasDistinctVars : ProcessNames → Type 0
HasDistinctVars process = AreDistinctTexts process.vars

abbrev pub AllHaveDistinctVars : List ProcessNames → Type 0
AllHaveDistinctVars names = All (λ (process : ProcessNames). AllPairs (λ (x y : List ℕ). x ≢ y) process.vars) names
