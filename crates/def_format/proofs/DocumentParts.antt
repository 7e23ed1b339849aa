-- A document has few processes and predicates, and their names are names.
use Rattle.std.proofs.Common.{◌≡◌, ℕ, zero, suc, ◌<◌, ◌≤◌, true, List, [], ◌∷◌, length, map, refl, sym, ap, subst, ◌∙◌, arith}
use Rattle.std.specs.Prelude.{◌&&◌, nat_le}
use Rattle.std.specs.List.{list_all, AllByRecursion, AllZip}
use Rattle.std.proofs.lemmas.Bool.{leb-true, and_parts}
use Rattle.std.proofs.lemmas.List.{length-map}
use Rattle.serde_json.specs.Data.{Members}
use Rattle.def_format.specs.Documents.{Document, Inquiry, NamedPredicate, IsNamedPredicate, IsDocument, is_within, process_names, predicate_names, names_of_outline}
use Rattle.def_format.specs.Limits.{process_limit, predicate_limit}
use Rattle.def_format.specs.Names.{ProcessNames, is_name, name_of_process}
use Rattle.def_format.specs.Records.{keys}
use Rattle.def_format.specs.Reports.{IsName}
use Rattle.def_format.proofs.DocumentNames.{sound_is_faultless}
use Rattle.def_format.proofs.Faultless.{IsFaultless, faultless}

abbrev pub HasName : ProcessNames → Type 0
HasName process = IsName process.name

abbrev pub AsksByName : NamedPredicate → Type 0
AsksByName predicate = IsName predicate.name

pub record HasLawfulParts (document : Document) : Type 0 where
  pub some_process : 1 ≤ length document.names
  pub few_processes : length document.names ≤ process_limit
  pub named : AllByRecursion HasName document.names
  pub some_predicate : 1 ≤ length document.predicates
  pub few_predicates : length document.predicates ≤ predicate_limit
  pub asked : AllByRecursion AsksByName document.predicates

pub within : (low high n : ℕ) → is_within low high n ≡ true → (low ≤ n) × (n ≤ high)
within low high n e = let parts = and_parts (nat_le low n) (nat_le n high) e in
    (leb-true low n parts.0, leb-true n high parts.1)

all_named : (processes : List (List ℕ × Members))
    → list_all is_name (map (λ (process : List ℕ × Members). process.0) processes) ≡ true
    → AllByRecursion HasName
    (map (λ (process : List ℕ × Members). record { name = process.0; vars = keys process.1 }) processes)
all_named [] e = tt
all_named (process ∷ processes) e =
    let parts = and_parts (is_name process.0)
    (list_all is_name (map (λ (process : List ℕ × Members). process.0) processes)) e in
    (parts.0, all_named processes parts.1)

all_asked : (names : List ProcessNames) (written : List (List ℕ × List ℕ)) (predicates : List NamedPredicate)
    → AllZip (IsNamedPredicate names) written predicates
    → list_all is_name (map (λ (predicate : List ℕ × List ℕ). predicate.0) written) ≡ true
    → (length predicates ≡ length written) × AllByRecursion AsksByName predicates
all_asked names [] [] zipped e = (refl, tt)
all_asked names [] (predicate ∷ predicates) zipped e = absurd zipped
all_asked names (one ∷ written) [] zipped e = absurd zipped
all_asked names (one ∷ written) (predicate ∷ predicates) zipped e =
    let parts = and_parts (is_name one.0)
    (list_all is_name (map (λ (predicate : List ℕ × List ℕ). predicate.0) written)) e in
    let rest = all_asked names written predicates zipped.1 parts.1 in
    (ap suc rest.0, (subst IsName (sym zipped.0.0) parts.0, rest.1))

pub lawful_parts : (inquiry : Inquiry) (document : Document) → IsDocument inquiry document → HasLawfulParts document
lawful_parts inquiry document is =
    let clear : IsFaultless process_limit is.outline =
    faultless process_limit is.outline (sound_is_faultless process_limit inquiry is.outline is.sound) in
    let processes = within 1 process_limit (length is.outline.processes) clear.processes in
    let predicates = within 1 predicate_limit (length is.outline.predicates) clear.predicates in
    let names = and_parts (list_all is_name (process_names is.outline)
    && list_all (λ (process : List ℕ × Members). list_all is_name (keys process.1)) is.outline.processes)
    (list_all is_name (predicate_names is.outline)) clear.names in
    let first = and_parts (list_all is_name (process_names is.outline))
    (list_all (λ (process : List ℕ × Members). list_all is_name (keys process.1)) is.outline.processes) names.0 in
    let asked =
    all_asked (names_of_outline is.outline) is.outline.predicates document.predicates is.predicates names.1 in
    let same : length document.names ≡ length is.outline.processes =
    ap length is.names ∙ length-map is.outline.processes _ in
    record {
      some_process = subst (λ n. 1 ≤ n) (sym same) processes.0;
      few_processes = subst (λ n. n ≤ process_limit) (sym same) processes.1;
      named = subst (AllByRecursion HasName) (sym is.names) (all_named is.outline.processes first.0);
      some_predicate = subst (λ n. 1 ≤ n) (sym asked.0) predicates.0;
      few_predicates = subst (λ n. n ≤ predicate_limit) (sym asked.0) predicates.1;
      asked = asked.1;
    }

-- the name of a process that is there is a name
pub process_is_named : (names : List ProcessNames) (p : ℕ) → AllByRecursion HasName names → p < length names
    → IsName (name_of_process names p)
process_is_named [] p all lt = absurd (omega arith)
process_is_named (first ∷ names) zero all lt = all.0
process_is_named (first ∷ names) (suc p) all lt = process_is_named names p all.1 (omega arith)
