-- A document's outline with no fault passes each test of the table of faults.
use Rattle.std.proofs.Common.{◌≡◌, ℕ, List, Bool, true, false, Option, None, Some, length, refl}
use Rattle.std.specs.Prelude.{◌&&◌, ◌||◌, if◌then◌else◌}
use Rattle.std.specs.List.{list_all}
use Rattle.std.proofs.lemmas.Bool.{not-false}
use Rattle.serde_json.specs.Data.{Members}
use Rattle.def_format.specs.Documents.{Outline, DocumentFault, outline_fault, is_within, has_twice, process_names, predicate_names, vars_fit, width_fits}
use Rattle.def_format.specs.Limits.{predicate_limit}
use Rattle.def_format.specs.Names.{is_name}
use Rattle.def_format.specs.Records.{keys}

-- the first of two faults applies no more than the others
none_applies : (b : Bool) (fault : DocumentFault) (rest : Option DocumentFault) → (if b then Some fault else rest)
    ≡ None → (b ≡ false) × (rest ≡ None)
none_applies true fault rest e = cc
none_applies false fault rest e = (refl, e)

-- each test of the table of faults is passed, if there may be this many processes
pub record IsFaultless (limit : ℕ) (outline : Outline) : Type 0 where
  pub processes : is_within 1 limit (length outline.processes) ≡ true
  pub names : (list_all is_name (process_names outline)
      && list_all (λ (process : List ℕ × Members). list_all is_name (keys process.1)) outline.processes
      && list_all is_name (predicate_names outline)) ≡ true
  pub once : (has_twice (process_names outline) || has_twice (predicate_names outline)) ≡ false
  pub vars : list_all vars_fit outline.processes ≡ true
  pub predicates : is_within 1 predicate_limit (length outline.predicates) ≡ true
  pub width : width_fits outline.width ≡ true

pub faultless : (limit : ℕ) (outline : Outline) → outline_fault limit outline ≡ None → IsFaultless limit outline
faultless limit outline e =
    let processes = none_applies _ _ _ e in
    let names = none_applies _ _ _ processes.1 in
    let once = none_applies _ _ _ names.1 in
    let vars = none_applies _ _ _ once.1 in
    let predicates = none_applies _ _ _ vars.1 in
    let width = none_applies _ _ _ predicates.1 in
    record {
      processes = not-false _ processes.0;
      names = not-false _ names.0;
      once = once.0;
      vars = not-false _ vars.0;
      predicates = not-false _ predicates.0;
      width = not-false _ width.0;
    }
