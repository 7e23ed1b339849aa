-- What holds of an outline with no fault.
use Rattle.std.proofs.Common.{◌≡◌, ℕ, suc, ◌≤◌, List, [], ◌∷◌, true, false, ℤ, pos, negsuc, Option, None, Some, length, map, string_bytes, refl, sym, ap, ◌∙◌, true≢false, arith}
use Rattle.std.specs.Prelude.{◌&&◌, nat_le, is_some, option_map, unwrap_or}
use Rattle.std.specs.List.{list_all, AllZip}
use Rattle.std.proofs.lemmas.Bool.{leb-true, and_parts}
use Rattle.std.proofs.lemmas.List.{length-map}
use Rattle.serde_json.specs.Data.{Data, Members, no_members, member}
use Rattle.def_format.specs.Documents.{Outline, IsNamedPredicate, outline_fault, is_within, predicate_names, vars_fit, width_fits, is_width, natural, names_of_outline, initial_of, width_of}
use Rattle.def_format.specs.Limits.{default_width, predicate_limit, var_limit, width_limit}
use Rattle.def_format.specs.Names.{ProcessNames, is_name}
use Rattle.def_format.specs.Records.{keys, values, whole_number}
use Rattle.def_format.proofs.Faultless.{faultless}
use Rattle.pd_spec.specs.Named.{named_view}
use Rattle.pd_spec.specs.Outlines.{entry_in, row_in}
use Rattle.pd_spec.specs.Sound.{IsSound, lengths, vars_of_each}
use Rattle.pd_spec.specs.declared.named.NamedPred.{NamedPred}

within : (low high n : ℕ) → is_within low high n ≡ true → (low ≤ n) × (n ≤ high)
within low high n e = let parts = and_parts (nat_le low n) (nat_le n high) e in
    (leb-true low n parts.0, leb-true n high parts.1)

few_vars : (processes : List (List ℕ × Members)) → list_all vars_fit processes ≡ true
    → list_all (λ (process : ProcessNames). nat_le (length process.vars) var_limit) (map entry_in processes) ≡ true
few_vars [] e = refl
few_vars (process ∷ processes) e =
    let parts = and_parts (vars_fit process) (list_all vars_fit processes) e in
    let few =
    and_parts (nat_le (length (keys process.1)) var_limit)
    (list_all (λ value. is_some (whole_number value)) (values process.1)) parts.0 in
    rw (few.0, few_vars processes parts.1) refl

as_many : (members : Members) → length (values members) ≡ length (keys members)
as_many no_members = refl
as_many (member key value others) = ap (λ n. suc n) (as_many others)

same_lengths : (processes : List (List ℕ × Members))
    → lengths (map row_in processes) ≡ lengths (vars_of_each (map entry_in processes))
same_lengths [] = refl
same_lengths (process ∷ processes) =
    rw (
      length-map (values process.1) (λ value. unwrap_or (whole_number value) (pos 0)),
      as_many process.1,
      same_lengths processes,
    ) refl

named_processes : (processes : List (List ℕ × Members))
    → list_all is_name (map (λ (process : List ℕ × Members). process.0) processes)
    ≡ list_all (λ (process : ProcessNames). is_name process.name) (map entry_in processes)
named_processes [] = refl
named_processes (process ∷ processes) = ap (λ b. is_name process.0 && b) (named_processes processes)

named_vars : (processes : List (List ℕ × Members))
    → list_all (λ (process : List ℕ × Members). list_all is_name (keys process.1)) processes
    ≡ list_all (λ (process : ProcessNames). list_all is_name process.vars) (map entry_in processes)
named_vars [] = refl
named_vars (process ∷ processes) = ap (λ b. list_all is_name (keys process.1) && b) (named_vars processes)

width_within : (width : Option Data) → width_fits width ≡ true → (1 ≤ width_of width) × (width_of width ≤ width_limit)
width_within None e = (omega arith, omega arith)
width_within (Some value) e = go (whole_number value) e
  where
    go : (whole : Option ℤ) → unwrap_or (option_map is_width whole) false ≡ true
        → (1 ≤ unwrap_or (option_map natural whole) default_width)
        × (unwrap_or (option_map natural whole) default_width ≤ width_limit)
    go None fits = absurd (true≢false (sym fits))
    go (Some (pos n)) fits = within 1 width_limit n fits
    go (Some (negsuc n)) fits = absurd (true≢false (sym fits))

-- the parts of its document are sound
pub sound_of : (limit : ℕ) (outline : Outline) → outline_fault limit outline ≡ None
    → IsSound (names_of_outline outline) (initial_of outline) (predicate_names outline) (width_of outline.width)
sound_of limit outline e =
    let clear = faultless limit outline e in
    let processes = within 1 limit (length outline.processes) clear.processes in
    let predicates = within 1 predicate_limit (length outline.predicates) clear.predicates in
    let width = width_within outline.width clear.width in
    let names = and_parts _ _ clear.names in
    let first = and_parts _ _ names.0 in
    record {
      some_process = rw (length-map outline.processes entry_in) processes.0;
      few_vars = (few_vars outline.processes clear.vars);
      rows = same_lengths outline.processes;
      some_predicate = rw (length-map outline.predicates (λ (predicate : List ℕ × List ℕ). predicate.0)) predicates.0;
      few_predicates = rw (length-map outline.predicates (λ (predicate : List ℕ × List ℕ). predicate.0)) predicates.1;
      process_names = (sym (named_processes outline.processes) ∙ first.0);
      var_names = (sym (named_vars outline.processes) ∙ first.1);
      predicate_names = names.1;
      some_width = width.0;
      small_width = width.1;
    }

-- the parsed predicates have the names that are written
pub parsed_names : (names : List ProcessNames) (written : List (List ℕ × List ℕ)) (parsed : List NamedPred)
    → AllZip (IsNamedPredicate names) written (map named_view parsed)
    → map (λ (predicate : NamedPred). string_bytes predicate.name) parsed
    ≡ map (λ (predicate : List ℕ × List ℕ). predicate.0) written
parsed_names names [] [] all = refl
parsed_names names [] (predicate ∷ parsed) all = absurd all
parsed_names names (one ∷ written) [] all = absurd all
parsed_names names (one ∷ written) (predicate ∷ parsed) all = rw (all.0.0, parsed_names names written parsed all.1) refl
