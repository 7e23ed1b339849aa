-- The record of a line, from its value.
use Rattle.std.proofs.Common.{◌≡◌, ℕ, suc, List, [], ◌∷◌, refl, sym, ◌∙◌, ap}
use Rattle.std.specs.Prelude.{Option, Some, None, Ok, Err, String}
use Rattle.std.specs.Borrow.{Bor}
use Rattle.std.specs.declared.alloc.Global.{Global}
use Rattle.std.specs.BTreeMap.{BTreeMap}
use Rattle.serde_json.specs.declared.value.Value.{Value}
use Rattle.serde_json.specs.Data.{Data, no_members}
use Rattle.def_format.specs.Names.{ProcessNames}
use Rattle.def_format.specs.Records.{json_value, statement_of, sets_from, record_of_shape, record_of_value, record_of, Json}
use Rattle.def_format.specs.Records as records
use Rattle.pd_events.specs.Parts.{sets_due}
use Rattle.pd_events.specs.Statements.{settings_view}

pub no_sets : (v : ℕ) (vars : List (List ℕ)) → sets_from v vars no_members ≡ []
no_sets v [] = refl
no_sets v (var ∷ others) = no_sets (suc v) others

-- bytes that are no value
pub no_value : (names : List ProcessNames) (joined : Option ℕ) (bytes : List ℕ) → json_value bytes ≡ None
    → record_of names joined bytes ≡ Err Json
unfolding record_of
no_value names joined bytes e = ap (λ v. record_of_value names joined v) e

pub record_of_its_value : (names : List ProcessNames) (joined : Option ℕ) (bytes : List ℕ) (value : Data)
    (statement : Option records.Statement) → json_value bytes ≡ Some value → statement ≡ statement_of value
    → record_of names joined bytes ≡ record_of_shape names joined statement
unfolding record_of
record_of_its_value names joined bytes value statement e f = ap (λ v. record_of_value names joined v) e
    ∙ ap (λ s. record_of_shape names joined s) (sym f)

-- a line that says no settings sets nothing
pub nothing_set : (vars : List (List ℕ)) (settings : Option (Bor (BTreeMap (String Global) Value))) → settings ≡ None
    → sets_due vars (settings_view settings) ≡ Ok []
nothing_set vars None e = ap (λ sets. Ok sets) (no_sets 0 vars)
nothing_set vars (Some settings) e = absurd (cc)
